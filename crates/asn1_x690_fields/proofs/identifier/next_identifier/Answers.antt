use Rattle.std.proofs.Common.{◌%◌, arith, refl}
use Rattle.asn1_bits.specs.Bits.{bits}
use Rattle.asn1_x690.specs.Elements.{identifier_of}
use Rattle.asn1_x690_fields.specs.Outcomes.{rest}
use Rattle.asn1_x690_fields.proofs.HeaderSteps.{short_identifier, long_identifier}
use Rattle.asn1_x690_fields.proofs.identifier.next_identifier.Goals as goal

pub returns-then-first-lt31-clause-read : goal.returns-then-first-lt31-clause-read
returns-then-first-lt31-clause-read c =
    let first = c.in_ok-first.first in (
      identifier_of first (first % 32),
      c.short_identifier.ensures,
      short_identifier c.args.node first (rest (bits c.args.octets.now) c.args.state.now)
          (rest (bits c.args.octets.now) c.next_octet.new.state) c.in_ok-first.ensures.read c.if-first-lt31.true,
    )

pub returns-clause-read : goal.returns-clause-read
returns-clause-read c =
    let first = c.in_ok-first.first in
    let r = c.in_ok-number.ensures.read in (
      identifier_of first r.0,
      record { class = c.class_of.ensures; form = c.is_constructed_by.ensures; number = r.1 },
      long_identifier c.args.node first (rest (bits c.args.octets.now) c.args.state.now)
          (rest (bits c.args.octets.now) c.next_octet.new.state) c.in_ok-first.ensures.read r.0
          (rest (bits c.args.octets.now) c.next_long_number.new.state) (omega (arith, c.if-first-lt31.false)) r.2,
    )
