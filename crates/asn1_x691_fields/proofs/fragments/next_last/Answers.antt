use Rattle.std.proofs.Common.{ℕ, ◌*◌, ◌≤◌, ◌++◌, arith}
use Rattle.std.proofs.Math.Nat.{mul-mod_right}
use Rattle.asn1_bits.specs.Bits.{bits}
use Rattle.asn1_bits.specs.Laws.DigitLaws.{length-bits}
use Rattle.asn1_schema.specs.declared.part.Span.{Span}
use Rattle.asn1_schema.specs.PiecesOfParts.{bits_at, bits_of}
use Rattle.asn1_x691.specs.declared.fault.FaultKind.TheVariants.{NotMinimal}
use Rattle.asn1_x691.specs.Fragments.{last_units, bits_of_units}
use Rattle.asn1_x691_fields.specs.Outcomes.{fault_of}
use Rattle.asn1_x691_fields.specs.Steps.{fault_at}
use Rattle.asn1_x691_fields.specs.StringSteps.{none_read}
use Rattle.asn1_x691_fields.specs.FragmentSteps.{as_many, last_start, last_fault, last_too_large}
use Rattle.asn1_x691_fields.proofs.fragments.next_last.Goals as goal

pub returns-then-count-ge16384-clause-read : goal.returns-then-count-ge16384-clause-read
returns-then-count-ge16384-clause-read c =
    let list = bits c.args.octets.now in
    let mid = c.next_number_of_units.new.state in
    let s = c.in_ok-count.ensures in
    last_too_large c.args.unit c.args.is_aligned c.args.node list c.args.state.now mid c.requires.within s.onward c.in_ok-count.count s.read
    (fault_of c.fail.new.state) c.if-count-ge16384.true
    (fault_at list mid c.fail.new.state c.args.node NotMinimal s.onward.inside
    c.fail.ensures.at c.fail.ensures.end c.fail.ensures.node c.fail.ensures.kind)

pub returns-in_err-at-clause-read : goal.returns-in_err-at-clause-read
returns-in_err-at-clause-read c =
    let list = bits c.args.octets.now in
    let s = c.in_ok-count.ensures in
    none_read (last_units (bits_of_units c.args.unit c.args.node) (λ a b. a ++ b) c.args.is_aligned c.args.node)
    (λ (p : ℕ × Span). (p.0, bits_of list p.1)) list c.args.state.now c.next_bits.new.state c.from_residual-in_err-at.result
    c.from_residual-in_err-at.ensures
    (last_fault c.args.unit c.args.is_aligned c.args.node list c.args.state.now c.next_number_of_units.new.state c.requires.within s.onward
    c.in_ok-count.count s.read (fault_of c.next_bits.new.state) (omega (arith, c.if-count-ge16384.false)) c.in_err-at.ensures.read)

pub returns-clause-read : goal.returns-clause-read
returns-clause-read c =
    let list = bits c.args.octets.now in
    let s = c.in_ok-count.ensures in
    last_start c.args.unit c.args.is_aligned c.args.node list c.args.state.now c.next_number_of_units.new.state c.requires.within s.onward
    c.in_ok-count.count s.read c.next_bits.new.state (bits_at list c.in_ok-at.at (c.args.unit * c.in_ok-count.count))
    (omega (arith, c.if-count-ge16384.false)) c.next_bits.ensures.onward c.in_ok-at.ensures.read

pub returns-clause-moved : goal.returns-clause-moved
returns-clause-moved c =
    let more : c.in_ok-count.count ≤ c.args.unit * c.in_ok-count.count = as_many c.args.unit c.in_ok-count.count (c.requires.unit.0) in
    omega (arith, c.in_ok-count.ensures.onward.on, c.in_ok-at.ensures.at, more)

pub returns-clause-inside : goal.returns-clause-inside
returns-clause-inside c = record {
  inside = omega (arith, c.in_ok-at.ensures.inside, length-bits c.args.octets.now);
  units = mul-mod_right c.args.unit c.in_ok-count.count;
}
