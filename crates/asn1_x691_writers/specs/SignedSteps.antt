-- What follows of octets of two's complement that were written.
use Rattle.std.proofs.Common.{◌≡◌, ℕ, suc, ℤ, pos, negsuc, ◌-◌, ◌*◌, ◌^◌, ◌<◌, ◌≤◌, List, [], Bool, refl, sym, ap, ◌∙◌, subst, inl, inr, arith}
use Rattle.std.specs.Prelude.{◌⊎◌}
use Rattle.std.proofs.Math.Nat.{pow-suc}
use Rattle.asn1_schema.specs.Encodings.{number, anywhere}
use Rattle.asn1_x691.specs.declared.fault.FaultKind.TheVariants.{Short}
use Rattle.asn1_x691.specs.Fields.{signed_of, signed_octets, below_minus_one}
use Rattle.asn1_x691_fields.specs.Numbers.{distance}
use Rattle.asn1_x691_writers.specs.Written.{IsWritten}
use Rattle.asn1_x691_writers.specs.FieldSteps.{then_constant}

-- the digits of two's complement are those of the value
signed_in : (count node d : ℕ) (z : ℤ) → 0 < count → distance z < 2 ^ (8 * count - 1)
    → (count ≤ 1) ⊎ (2 ^ (8 * count - 9) ≤ distance z)
    → ((u : ℕ) → z ≡ pos u → d ≡ u) → ((u : ℕ) → z ≡ negsuc u → d ≡ 2 ^ (8 * count) - 1 - u)
    → (signed_of count node d).encodes z []
signed_in count node d (pos u) some below few p n =
    let e : d ≡ u = p u refl in
    inl (omega (arith, e, below), inl (subst (λ (k : ℕ). (count ≤ 1) ⊎ (2 ^ (8 * count - 9) ≤ k)) (sym e) few, (ap pos (sym e), refl)))
signed_in count node d (negsuc u) some below few p n =
    let e : d ≡ 2 ^ (8 * count) - 1 - u = n u refl in
    let f : 8 * count ≡ suc (8 * count - 1) = omega (arith, some) in
    let double : 2 ^ (8 * count) ≡ 2 ^ (8 * count - 1) * 2 = ap (λ (k : ℕ). 2 ^ k) f ∙ pow-suc 2 (8 * count - 1) in
    let same : u ≡ below_minus_one count d = omega (arith, e, double, below) in
    inr (
      omega (arith, e, double, below),
      inl (subst (λ (k : ℕ). (count ≤ 1) ⊎ (2 ^ (8 * count - 9) ≤ k)) same few, (ap negsuc same, refl)),
    )

pub signed_written : (aligned : Bool) (count node d : ℕ) (z : ℤ) (was now : List ℕ) (old new : ℕ) → 0 < count
    → distance z < 2 ^ (8 * count - 1) → (count ≤ 1) ⊎ (2 ^ (8 * count - 9) ≤ distance z)
    → ((u : ℕ) → z ≡ pos u → d ≡ u) → ((u : ℕ) → z ≡ negsuc u → d ≡ 2 ^ (8 * count) - 1 - u)
    → IsWritten aligned (anywhere (number (8 * count) Short node)) d was old now new
    → IsWritten aligned (anywhere (signed_octets count node)) z was old now new
signed_written aligned count node d z was now old new some below few p n a =
    then_constant aligned was now old new (number (8 * count) Short node) (λ d z. z) (λ d. signed_of count node d) d z a
    (signed_in count node d z some below few p n)
