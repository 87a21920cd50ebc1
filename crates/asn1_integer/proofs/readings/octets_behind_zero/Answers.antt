use Rattle.std.proofs.Common.{rules, arith, ◌≡◌, ◌<◌, ◌≤◌, ◌^◌, ℕ, List, [], ◌∷◌, length, get_or, pos, sym, ap, subst, ◌∙◌, append-nil, inl, inr}
use Rattle.std.proofs.lemmas.Bool.{cases_lt}
use Rattle.std.specs.Int.{bytes_high_first}
use Rattle.asn1_number.specs.Octets.{IsOctets, IsShortest, unsigned}
use Rattle.asn1_number.specs.Laws.OctetLaws.{low_parts, signed_range}
use Rattle.asn1_number.specs.Laws.WidthLaws.{length-bytes, octets_of_bytes, unsigned-bytes}
use Rattle.asn1_number.specs.Laws.ReadingLaws.{zero_in_front}
use Rattle.asn1_integer.proofs.readings.octets_behind_zero.Goals as goal

-- the first of sixteen octets of a number from 2^127 on is 128 or more
first_is_high : (o : List ℕ) → IsOctets o → length o ≡ 16 → 2 ^ 127 ≤ unsigned o → 128 ≤ get_or o 0 0
first_is_high [] h long large = absurd (omega arith)
first_is_high (b ∷ bs) h long large = elim (cases_lt b 128) [
  | inl lt ↦
      (let few : length bs ≡ 15 = omega arith in
      let below = rw few at (signed_range b bs h).0 in
      let same = (low_parts b bs lt).0 in
      absurd (omega arith))
  | inr ge ↦ ge
]

pub returns : goal.returns
returns c =
    let bits : ℕ = c.args.bits in
    let bytes : c.copy_from_slice.new.self ≡ bytes_high_first 16 bits = c.copy_from_slice.ensures.after
    ∙ c.to_be_bytes.ensures in
    let small : bits < 2 ^ 128 = search rules in
    let value : unsigned (bytes_high_first 16 bits) ≡ bits = unsigned-bytes 16 bits small in
    let octets : IsOctets (bytes_high_first 16 bits) = octets_of_bytes 16 bits in
    let long : length (bytes_high_first 16 bits) ≡ 16 = length-bytes 16 bits in
    let first =
    first_is_high (bytes_high_first 16 bits) octets long (let large : 2 ^ 127 ≤ bits = c.requires in omega arith) in
    let shortest =
    zero_in_front (bytes_high_first 16 bits) octets (omega arith) first in
    subst (IsShortest (pos bits))
    (ap (λ o. 0 ∷ o) (sym bytes ∙ sym (append-nil c.copy_from_slice.new.self)) ∙ sym c.from_octets.ensures)
    (subst (λ (n : ℕ). IsShortest (pos n) (0 ∷ bytes_high_first 16 bits)) value shortest)
