use Rattle.std.proofs.Common.{◌*◌, ◌≤◌, ◌++◌, arith}
use Rattle.std.proofs.Math.Nat.{mul-mod_right}
use Rattle.asn1_bits.specs.Bits.{bits}
use Rattle.asn1_bits.specs.Laws.DigitLaws.{length-bits}
use Rattle.asn1_schema.specs.PiecesOfParts.{bits_at, bits_of}
use Rattle.asn1_x691_fields.specs.declared.fragments.Tail.{Tail}
use Rattle.asn1_x691_fields.specs.Outcomes.{rest, fault_of}
use Rattle.asn1_x691_fields.specs.StringSteps.{none_read}
use Rattle.asn1_x691_fields.specs.FragmentSteps.{as_many, zero_units, after_number, middle_starts, middle_fault}
use Rattle.asn1_x691_fields.proofs.fragments.next_tail.Goals as goal

pub returns-in_err-more-clause-read : goal.returns-in_err-more-clause-read
returns-in_err-more-clause-read c more =
    let list = bits c.args.octets.now in
    let count = c.args.count in
    none_read (after_number c.args.unit c.args.is_aligned c.args.node more count) (λ (t : Tail). (t.count, bits_of list t.middle ++ bits_of list t.last))
    list c.args.state.now c.next_last.new.state c.from_residual-in_err-more.result c.from_residual-in_err-more.ensures
    (middle_fault c.args.unit c.args.is_aligned c.args.node list c.args.state.now c.next_bits.new.state c.requires.within c.in_ok-at.ensures.onward
    count more (bits_at list c.in_ok-at.at (c.args.unit * count)) (fault_of c.next_last.new.state) (omega (arith, c.if-count-lt16384.false))
    c.requires.few c.in_ok-at.ensures.read c.in_err-more.ensures.read)

pub returns-clause-read : goal.returns-clause-read
returns-clause-read c more =
    let list = bits c.args.octets.now in
    let count = c.args.count in
    middle_starts c.args.unit c.args.is_aligned c.args.node list c.args.state.now c.next_bits.new.state c.requires.within c.in_ok-at.ensures.onward
    count more (bits_at list c.in_ok-at.at (c.args.unit * count)) (rest list c.next_last.new.state)
    (c.in_ok-more.more, bits_of list c.in_ok-more.last) (omega (arith, c.if-count-lt16384.false)) c.requires.few
    c.in_ok-at.ensures.read c.in_ok-more.ensures.read

pub returns-then-count-lt16384-clause-moved : goal.returns-then-count-lt16384-clause-moved
returns-then-count-lt16384-clause-moved c =
    let more : c.args.count ≤ c.args.unit * c.args.count = as_many c.args.unit c.args.count (c.requires.unit.0) in
    omega (arith, c.in_ok-at.ensures.at, more)

pub returns-clause-moved : goal.returns-clause-moved
returns-clause-moved c =
    let more : c.args.count ≤ c.args.unit * c.args.count = as_many c.args.unit c.args.count (c.requires.unit.0) in
    omega (arith, c.in_ok-at.ensures.at, c.in_ok-more.ensures.moved, more)

pub returns-then-count-lt16384-clause-inside : goal.returns-then-count-lt16384-clause-inside
returns-then-count-lt16384-clause-inside c = (
  record { inside = omega (arith, c.in_ok-at.ensures.inside, length-bits c.args.octets.now); units = zero_units c.args.unit },
  record { inside = omega (arith, c.in_ok-at.ensures.inside, length-bits c.args.octets.now); units = mul-mod_right c.args.unit c.args.count },
)

pub returns-clause-inside : goal.returns-clause-inside
returns-clause-inside c = (
  record { inside = omega (arith, c.in_ok-at.ensures.inside, length-bits c.args.octets.now); units = mul-mod_right c.args.unit c.args.count },
  c.in_ok-more.ensures.inside,
)
