use Rattle.std.proofs.Common.{rules, arith, ◌<◌, ◌≤◌, length, subst, ◌∙◌, pos}
use Rattle.asn1_number.specs.Octets.{unsigned}
use Rattle.asn1_number.specs.Readings.{UnsignedOf, counted_length}
use Rattle.asn1_number.specs.Laws.OctetLaws.{octets_from_places}
use Rattle.asn1_integer.proofs.ReadingLemmas.{reading_empty, unsigned_below_zero_at, unsigned_too_long_at, unsigned_is_read_at, counted_in_range}
use Rattle.asn1_integer.proofs.readings.read_unsigned_type.Goals as goal

pub returns-then-is_empty : goal.returns-then-is_empty
returns-then-is_empty c = reading_empty (UnsignedOf c.args.size) c.args.octets.now (search rules)

pub returns-then-octets-ge128 : goal.returns-then-octets-ge128
returns-then-octets-ge128 c = unsigned_below_zero_at c.args.size c.args.octets.now (search rules) c.if-octets-ge128.true

pub returns-then-number-size : goal.returns-then-number-size
returns-then-number-size c =
    let l : c.args.size < counted_length c.args.octets.now =
    subst (λ k. c.args.size < k) c.without_zero_first-number.ensures.counted c.if-number-size.true in
    unsigned_too_long_at c.args.size c.args.octets.now (search rules) c.if-octets-ge128.false l

pub returns : goal.returns
returns c =
    let some : 0 < length c.args.octets.now = search rules in
    let l : counted_length c.args.octets.now ≤ c.args.size =
    subst (λ k. k ≤ c.args.size) c.without_zero_first-number.ensures.counted c.if-number-size.false in (
      pos (unsigned c.args.octets.now),
      unsigned_is_read_at c.args.size c.args.octets.now some c.if-octets-ge128.false l,
      c.unsigned_value.ensures ∙ c.without_zero_first-number.ensures.value,
      counted_in_range c.args.size c.args.octets.now
          (octets_from_places c.args.octets.now (λ i. omega (arith, c.type_inv.octets i))) l,
    )
