use Rattle.std.proofs.Common.{◌≡◌, ℕ, ◌-◌, ◌/◌, ◌%◌, ◌^◌, ◌∙◌, ◌∷◌, [], Bool, false, take, ap, sym, refl, arith}
use Rattle.std.specs.Prelude.{slice_index_or, bit_and}
use Rattle.std.proofs.lemmas.Nat.Bits.{shr_and_one}
use Rattle.std.proofs.lemmas.List.{drop_more}
use Rattle.asn1_bits.specs.Bits.{bits, digits, number, is_odd}
use Rattle.asn1_bits.specs.Laws.DigitLaws.{get_or-bits_at, length-bits}
use Rattle.asn1_bits.specs.Laws.NumberLaws.{number-digits}
use Rattle.asn1_x691_fields.proofs.bits.bit_number.Goals as goal

one_digit : (n : ℕ) → digits n 1 ≡ is_odd n ∷ []
unfolding digits
one_digit n = refl

pub returns : goal.returns
returns c =
    let at = c.args.at in
    let list = bits c.args.octets.now in
    let n = slice_index_or c.args.octets.now (at / 8) 0 / 2 ^ (7 - at % 8) in
    ap (λ (x : ℕ). bit_and (x / 2 ^ (7 - at % 8)) 1) c.from.ensures
    ∙ shr_and_one (slice_index_or c.args.octets.now (at / 8) 0) (7 - at % 8)
    ∙ sym (number-digits n 1)
    ∙ ap number (one_digit n
    ∙ sym (ap (λ (b : Bool). b ∷ []) (get_or-bits_at c.args.octets.now at (at / 8) (at % 8) (7 - at % 8) (omega arith) (omega arith)))
    ∙ sym (ap (take 1) (drop_more list at false (omega (arith, length-bits c.args.octets.now, c.requires)))))
