use Rattle.std.proofs.Common.{◌+◌, ◌*◌, ◌≤◌, ◌<◌, ◌%◌, take, drop, length, arith}
use Rattle.asn1_bits.specs.Bits.{bits}
use Rattle.asn1_bits.specs.Laws.DigitLaws.{length-bits}
use Rattle.asn1_x690.specs.Elements.{identifier_of}
use Rattle.asn1_x690_fields.specs.Outcomes.{rest}
use Rattle.asn1_x690_fields.specs.Steps.{number_starts}
use Rattle.asn1_x690_fields.proofs.HeaderSteps.{short_identifier}
use Rattle.asn1_x690_fields.proofs.identifier.short_identifier_at.Goals as goal

pub read_bits-first-requires-clause-within : goal.read_bits-first-requires-clause-within
read_bits-first-requires-clause-within c =
    let w = c.requires.within in
    omega (arith, w.inside, w.ends, c.if-state-lt8.false, length-bits c.args.octets.now)

pub returns : goal.returns
returns c = λ node.
    let list = bits c.args.octets.now in
    let s = c.args.state.now in
    let first = c.read_bits-first.result in
    let w = c.requires.within in (
      identifier_of first (first % 32),
      c.short_identifier.ensures,
      short_identifier node first (rest list s) (drop (s.at + 8) (take s.end list))
          (number_starts list s 8 node (omega (arith, w.ends, c.if-state-lt8.false)) w.inside first c.read_bits-first.ensures.number)
          (omega (arith, c.if-first-eq31.false)),
    )
