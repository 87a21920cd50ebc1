-- What the first bits of a span tell of its number.
use Rattle.std.proofs.Common.{◌≡◌, ℕ, suc, pos, negsuc, ◌+◌, ◌-◌, ◌*◌, ◌^◌, ◌<◌, ◌≤◌, List, [], ◌∷◌, ◌++◌, Bool, true, false, length, take, drop, refl, sym, ap, ◌∙◌, subst, arith}
use Rattle.std.proofs.Math.Nat.{pow-suc}
use Rattle.std.proofs.Math.Seq.{take-add}
use Rattle.std.proofs.lemmas.List.{drop-drop}
use Rattle.asn1_bits.specs.Bits.{number}
use Rattle.asn1_bits.specs.Laws.NumberLaws.{number-cons, number-lt}
use Rattle.asn1_schema.specs.PiecesOfParts.{bits_at, signed_number}
use Rattle.asn1_x691_fields.specs.Numbers.{distance}
use Rattle.asn1_x691_fields.specs.Steps.{front_length}

-- a span by its first bit
pub by_first : (list : List Bool) (at count : ℕ) (b : Bool) → 0 < count → bits_at list at 1 ≡ b ∷ []
    → bits_at list at count ≡ b ∷ bits_at list (at + 1) (count - 1)
by_first list at count b some is =
    let e : count ≡ 1 + (count - 1) = omega (arith, some) in
    ap (λ (k : ℕ). bits_at list at k) e
    ∙ take-add 1 (count - 1) (drop at list)
    ∙ ap (λ (l : List Bool). l ++ take (count - 1) (drop 1 (drop at list))) is
    ∙ ap (λ (l : List Bool). b ∷ take (count - 1) l) (drop-drop 1 at list ∙ ap (λ (k : ℕ). drop k list) (omega arith))

-- ---- a number from 0 on

pub zero_first : (list : List Bool) (at count : ℕ) → 0 < count → bits_at list at 1 ≡ false ∷ []
    → number (bits_at list (at + 1) (count - 1)) ≡ number (bits_at list at count)
zero_first list at count some is =
    let l = bits_at list (at + 1) (count - 1) in
    let e : number (false ∷ l) ≡ 0 * 2 ^ length l + number l = number-cons false l in
    let f : number (bits_at list at count) ≡ number (false ∷ l) = ap number (by_first list at count false some is) in
    omega (arith, e, f)

pub one_first : (list : List Bool) (at count : ℕ) → 0 < count → at + count ≤ length list → bits_at list at 1 ≡ true ∷ []
    → 2 ^ (count - 1) ≤ number (bits_at list at count)
one_first list at count some inside is =
    let l = bits_at list (at + 1) (count - 1) in
    let e : number (true ∷ l) ≡ 1 * 2 ^ length l + number l = number-cons true l in
    let f : number (bits_at list at count) ≡ number (true ∷ l) = ap number (by_first list at count true some is) in
    let size : length l ≡ count - 1 = front_length list (at + 1) (count - 1) (omega (arith, some, inside)) in
    let g : 2 ^ length l ≡ 2 ^ (count - 1) = ap (λ (k : ℕ). 2 ^ k) size in
    omega (arith, e, f, g)

-- ---- two's complement

pub same_sign : (b : Bool) (l : List Bool) → signed_number (b ∷ b ∷ l) ≡ signed_number (b ∷ l)
same_sign false l =
    let e : number (false ∷ l) ≡ 0 * 2 ^ length l + number l = number-cons false l in
    ap pos (omega (arith, e))
same_sign true l =
    let e : number (true ∷ l) ≡ 1 * 2 ^ length l + number l = number-cons true l in
    let double : 2 ^ suc (length l) ≡ 2 ^ length l * 2 = pow-suc 2 (length l) in
    ap negsuc (omega (arith, e, double))

pub repeated_sign : (list : List Bool) (at count : ℕ) (b : Bool) → 1 < count → bits_at list at 1 ≡ b ∷ [] → bits_at list (at + 1) 1 ≡ b ∷ []
    → signed_number (bits_at list (at + 1) (count - 1)) ≡ signed_number (bits_at list at count)
repeated_sign list at count b more is next =
    let l = bits_at list (at + 1 + 1) (count - 1 - 1) in
    let second : bits_at list (at + 1) (count - 1) ≡ b ∷ l = by_first list (at + 1) (count - 1) b (omega (arith, more)) next in
    let first : bits_at list at count ≡ b ∷ b ∷ l =
    by_first list at count b (omega (arith, more)) is ∙ ap (λ (m : List Bool). b ∷ m) second in
    ap signed_number second ∙ sym (same_sign b l) ∙ sym (ap signed_number first)

far_positive : (l : List Bool) → 2 ^ length l ≤ distance (signed_number (false ∷ true ∷ l))
far_positive l =
    let e : number (true ∷ l) ≡ 1 * 2 ^ length l + number l = number-cons true l in
    omega (arith, e)

far_negative : (l : List Bool) → 2 ^ length l ≤ distance (signed_number (true ∷ false ∷ l))
far_negative l =
    let e : number (false ∷ l) ≡ 0 * 2 ^ length l + number l = number-cons false l in
    let double : 2 ^ suc (length l) ≡ 2 ^ length l * 2 = pow-suc 2 (length l) in
    let few = number-lt l in
    omega (arith, e, double, few)

other_sign : (a b : Bool) (l : List Bool) → (a ≡ b → ⊥) → 2 ^ length l ≤ distance (signed_number (a ∷ b ∷ l))
other_sign false false l ne = absurd (ne refl)
other_sign false true l ne = far_positive l
other_sign true false l ne = far_negative l
other_sign true true l ne = absurd (ne refl)

pub signs_differ : (list : List Bool) (at count : ℕ) (a b : Bool) → 1 < count → at + count ≤ length list → bits_at list at 1 ≡ a ∷ []
    → bits_at list (at + 1) 1 ≡ b ∷ [] → (a ≡ b → ⊥) → 2 ^ (count - 2) ≤ distance (signed_number (bits_at list at count))
signs_differ list at count a b more inside is next ne =
    let l = bits_at list (at + 1 + 1) (count - 1 - 1) in
    let second : bits_at list (at + 1) (count - 1) ≡ b ∷ l = by_first list (at + 1) (count - 1) b (omega (arith, more)) next in
    let first : bits_at list at count ≡ a ∷ b ∷ l =
    by_first list at count a (omega (arith, more)) is ∙ ap (λ (m : List Bool). a ∷ m) second in
    let size : length l ≡ count - 2 =
    front_length list (at + 1 + 1) (count - 1 - 1) (omega (arith, more, inside)) ∙ omega (arith, more) in
    subst (λ (k : ℕ). 2 ^ k ≤ distance (signed_number (bits_at list at count))) size
    (subst (λ (m : List Bool). 2 ^ length l ≤ distance (signed_number m)) (sym first) (other_sign a b l ne))
