-- What follows of windows and of the characters in them; no contract cites it.
use Rattle.std.proofs.Common.{◌≡◌, ℕ, zero, suc, ◌+◌, ◌-◌, ◌*◌, ◌%◌, ◌^◌, ◌<◌, ◌≤◌, ◌⊎◌, inl, inr, refl, sym, subst, arith}
use Rattle.std.proofs.Math.Nat.{mod-lt}
use Rattle.std.proofs.Math.Pow.{shr_lt}
use Rattle.std.proofs.lemmas.Bool.{cases_lt}
use Rattle.std.proofs.lemmas.Nat.{pow_pos}
use Rattle.asn1_x691.specs.Characters.{IsInlineText, IsOnOctetText}
use Rattle.asn1_x691_fields.specs.Windows.{field_of_word}

-- the number of `width` bits of a word
pub field_below : (word skipped width : ℕ) → width ≤ 64 → field_of_word word skipped width < 2 ^ width
field_below word skipped width h =
    let e : width + (64 - width) ≡ 64 = omega (arith, h) in
    let below : word * 2 ^ skipped % 2 ^ 64 < 2 ^ 64 = mod-lt (word * 2 ^ skipped) (pow_pos 64) in
    shr_lt width (64 - width) (subst (λ (n : ℕ). word * 2 ^ skipped % 2 ^ 64 < 2 ^ n) (sym e) below)

-- each number of characters begins where it is, or at an octet
pub is_inline_or_on_octet : (w least range n : ℕ) → IsInlineText w least range n ⊎ IsOnOctetText w least range n
is_inline_or_on_octet w least range zero = inl (inl refl)
is_inline_or_on_octet w least zero (suc n) = fixed (cases_lt 16 (w * least)) where
  fixed : (16 < w * least) ⊎ (w * least ≤ 16) → IsInlineText w least 0 (suc n) ⊎ IsOnOctetText w least 0 (suc n)
  fixed (inl many) = inr (omega arith, inl (refl, many))
  fixed (inr few) = inl (inr (inl (refl, few)))
is_inline_or_on_octet w least (suc range) (suc n) = free (cases_lt (w * (least + suc range)) 16) where
  free : (w * (least + suc range) < 16) ⊎ (16 ≤ w * (least + suc range))
      → IsInlineText w least (suc range) (suc n) ⊎ IsOnOctetText w least (suc range) (suc n)
  free (inl few) = inl (inr (inr (omega arith, few)))
  free (inr many) = inr (omega arith, inr (omega arith, many))
