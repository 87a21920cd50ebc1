-- What follows of numbers whose digits were copied.
use Rattle.std.proofs.Common.{◌≡◌, ℕ, ℤ, zero, suc, pos, negsuc, ◌+◌, ◌-◌, ◌*◌, ◌/◌, ◌^◌, ◌<◌, ◌≤◌, List, [], ◌∷◌, ◌++◌, Bool, true, length, replicate, refl, sym, ap, ◌∙◌, subst, inl, inr, arith}
use Rattle.std.specs.Prelude.{◌⊎◌}
use Rattle.std.proofs.Math.Nat.{div-eq_of_lt, pow-suc}
use Rattle.std.proofs.lemmas.List.{length-append, length-replicate}
use Rattle.std.proofs.Math.Pow.{pow_mono}
use Rattle.asn1_bits.specs.Bits.{digits, number}
use Rattle.asn1_bits.specs.Laws.NumberLaws.{digits-append, digits_of-number, number-lt, number-cons, number-nil}
use Rattle.asn1_schema.specs.Encodings.{Encoding, anywhere, cases, constant, invalid, number as number_in}
use Rattle.asn1_x691.specs.declared.fault.FaultKind.{FaultKind}
use Rattle.asn1_x691.specs.declared.fault.FaultKind.TheVariants.{Short, NotMinimal}
use Rattle.asn1_x691.specs.Fields.{minimal_octets, below_minus_one, signed_of, signed_octets}
use Rattle.asn1_schema.specs.PiecesOfParts.{signed_number}
use Rattle.asn1_x691_fields.specs.FirstBits.{by_sign}
use Rattle.asn1_x691_fields.specs.Numbers.{distance}
use Rattle.asn1_x691_writers.specs.DigitSteps.{same_sign}
use Rattle.asn1_x691_writers.specs.Written.{IsGrown, IsWritten}
use Rattle.asn1_x691_writers.specs.FieldSteps.{then_constant}

-- digits after zeros
pub after_zeros : (list : List Bool) (pad width : ℕ) → width ≡ pad + length list → digits 0 pad ++ list ≡ digits (number list) width
after_zeros list pad width e =
    let n = number list in
    let none : n / 2 ^ length list ≡ 0 = div-eq_of_lt (number-lt list) in
    sym
    (ap (λ (k : ℕ). digits n k) e
    ∙ digits-append n pad (length list)
    ∙ ap (λ (k : ℕ). digits k pad ++ digits n (length list)) none
    ∙ ap (λ (l : List Bool). digits 0 pad ++ l) (digits_of-number list (length list) refl))

pub minimal_span : (aligned : Bool) (node count pad : ℕ) (list : List Bool) (was now : List ℕ) (old new : ℕ)
    → 8 * count ≡ pad + length list → pad < 8 → 0 < length list → 2 ^ (length list - 1) ≤ number list
    → IsGrown was old now new (digits 0 pad ++ list)
    → IsWritten aligned (anywhere (minimal_octets count node)) (number list) was old now new
minimal_span aligned node count pad list was now old new e few some first g =
    let n = number list in
    let size : length list ≤ 8 * count = omega (arith, e) in
    let up : 2 ^ length list ≤ 2 ^ (8 * count) = pow_mono size in
    let low = number-lt list in
    let less : 8 * (count - 1) ≤ length list - 1 = omega (arith, e, few, some) in
    let down : 2 ^ (8 * (count - 1)) ≤ 2 ^ (length list - 1) = pow_mono less in
    let tested : ℕ → Encoding FaultKind ℕ = λ d.
    cases ((count ≤ 1) ⊎ (2 ^ (8 * (count - 1)) ≤ d)) (constant d) ((1 < count) × (d < 2 ^ (8 * (count - 1)))) (invalid NotMinimal node) in
    then_constant aligned was now old new (number_in (8 * count) Short node) (λ d m. m) tested n n
    (record {
      list = digits 0 pad ++ list;
      encodes = λ at h. (omega (arith, low, up), after_zeros list pad (8 * count) e);
      grown = g;
    })
    (inl (inr (omega (arith, down, first)), (refl, refl)))

-- ---- two's complement

-- digits that are all the sign
ones_number : (p : ℕ) → number (replicate p true) + 1 ≡ 2 ^ p
ones_number zero = let e = number-nil in omega (arith, e)
ones_number (suc p) =
    let e : number (true ∷ replicate p true) ≡ 1 * 2 ^ length (replicate p true) + number (replicate p true) = number-cons true (replicate p true) in
    let f : 2 ^ length (replicate p true) ≡ 2 ^ p = ap (λ (k : ℕ). 2 ^ k) (length-replicate p true) in
    let double : 2 ^ suc p ≡ 2 ^ p * 2 = pow-suc 2 p in
    let h = ones_number p in
    omega (arith, e, f, double, h)

pub ones_digits : (n p : ℕ) → n + 1 ≡ 2 ^ p → digits n p ≡ replicate p true
ones_digits n p e =
    let h = ones_number p in
    let f : n ≡ number (replicate p true) = omega (arith, e, h) in
    ap (λ (k : ℕ). digits k p) f ∙ digits_of-number (replicate p true) p (length-replicate p true)

-- the sign before the digits changes nothing
pub sign_extended : (b : Bool) (k : ℕ) (l : List Bool) → signed_number (replicate k b ++ b ∷ l) ≡ signed_number (b ∷ l)
sign_extended b zero l = refl
sign_extended b (suc zero) l = same_sign b l
sign_extended b (suc (suc k)) l = same_sign b (replicate k b ++ b ∷ l) ∙ sign_extended b (suc k) l

signed_positive : (count node : ℕ) (list : List Bool) → number list < 2 ^ (8 * count - 1) → signed_number list ≡ pos (number list)
    → (count ≤ 1) ⊎ (2 ^ (8 * count - 9) ≤ distance (signed_number list)) → (signed_of count node (number list)).encodes (signed_number list) []
signed_positive count node list low same few =
    inl (low, inl (subst (λ (z : ℤ). (count ≤ 1) ⊎ (2 ^ (8 * count - 9) ≤ distance z)) same few, (same, refl)))

signed_negative : (count node : ℕ) (list : List Bool) → 2 ^ (8 * count - 1) ≤ number list
    → signed_number list ≡ negsuc (below_minus_one count (number list))
    → (count ≤ 1) ⊎ (2 ^ (8 * count - 9) ≤ distance (signed_number list)) → (signed_of count node (number list)).encodes (signed_number list) []
signed_negative count node list high same few =
    inr (high, inl (subst (λ (z : ℤ). (count ≤ 1) ⊎ (2 ^ (8 * count - 9) ≤ distance z)) same few, (same, refl)))

signed_of_list : (count node : ℕ) (list : List Bool) → 0 < count → length list ≡ 8 * count
    → (count ≤ 1) ⊎ (2 ^ (8 * count - 9) ≤ distance (signed_number list)) → (signed_of count node (number list)).encodes (signed_number list) []
signed_of_list count node list some size few =
    let w : length list ≡ suc (8 * count - 1) = omega (arith, size, some) in
    let e : suc (8 * count - 1) ≡ 8 * count = omega (arith, some) in
    elim (by_sign list (8 * count - 1) w) [
      | inl p ↦ signed_positive count node list p.low p.same few
      | inr p ↦
          signed_negative count node list p.high
          (p.below ∙ ap (λ (k : ℕ). negsuc (2 ^ k - 1 - number list)) e) few
    ]

pub signed_span : (aligned : Bool) (node count pad : ℕ) (b : Bool) (l : List Bool) (was now : List ℕ) (old new : ℕ)
    → 8 * count ≡ pad + length (b ∷ l) → pad < 8 → 1 < length (b ∷ l)
    → 2 ^ (length (b ∷ l) - 2) ≤ distance (signed_number (b ∷ l)) → IsGrown was old now new (replicate pad b ++ b ∷ l)
    → IsWritten aligned (anywhere (signed_octets count node)) (signed_number (b ∷ l)) was old now new
signed_span aligned node count pad b l was now old new e few some first g =
    let list = replicate pad b ++ b ∷ l in
    let same = sign_extended b pad l in
    let size : length (replicate pad b ++ b ∷ l) ≡ 8 * count =
    length-append (replicate pad b) (b ∷ l) ∙ ap (λ (k : ℕ). k + length (b ∷ l)) (length-replicate pad b) ∙ sym e in
    let less : 8 * count - 9 ≤ length (b ∷ l) - 2 = omega (arith, e, few, some) in
    let down : 2 ^ (8 * count - 9) ≤ 2 ^ (length (b ∷ l) - 2) = pow_mono less in
    let far : 2 ^ (8 * count - 9) ≤ distance (signed_number (b ∷ l)) = omega (arith, down, first) in
    let whole : (count ≤ 1) ⊎ (2 ^ (8 * count - 9) ≤ distance (signed_number (replicate pad b ++ b ∷ l))) =
    inr (subst (λ (z : ℤ). 2 ^ (8 * count - 9) ≤ distance z) (sym same) far) in
    let n = number-lt (replicate pad b ++ b ∷ l) in
    let below : number (replicate pad b ++ b ∷ l) < 2 ^ (8 * count) = subst (λ (k : ℕ). number (replicate pad b ++ b ∷ l) < 2 ^ k) size n in
    subst (λ (z : ℤ). IsWritten aligned (anywhere (signed_octets count node)) z was old now new) same
    (then_constant aligned was now old new (number_in (8 * count) Short node) (λ d z. z) (λ d. signed_of count node d)
    (number list) (signed_number list)
    (record {
      list = list;
      encodes = λ at h. (below, sym (digits_of-number list (8 * count) size));
      grown = g;
    })
    (signed_of_list count node list (omega (arith, e, some)) size whole))
