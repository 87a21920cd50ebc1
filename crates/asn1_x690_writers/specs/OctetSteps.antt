-- What follows of octets that were written.
use Rattle.std.proofs.Common.{◌≡◌, ℕ, ◌+◌, ◌*◌, ◌^◌, ◌<◌, List, [], ◌∷◌, ◌++◌, Bool, length, take, drop, set, refl, sym, ◌∙◌, ap, subst, arith}
use Rattle.std.proofs.lemmas.List.{append-nil, take_more_set, set_split, length-set}
use Rattle.asn1_bits.specs.Bits.{bits, digits, overwritten}
use Rattle.asn1_bits.specs.Laws.DigitLaws.{length-bits, length-digits, bits-append, bits-take, bits-drop}
use Rattle.asn1_x691_writers.specs.GrownSteps.{grown_stored}
use Rattle.asn1_x691_writers.specs.Written.{IsGrown}

bits_of_one : (octet : ℕ) (octets : List ℕ) → bits (octet ∷ octets) ≡ digits octet 8 ++ bits octets
unfolding bits
bits_of_one octet octets = refl

no_bits : bits [] ≡ []
unfolding bits
no_bits = refl

octet_bits : (octet : ℕ) → bits (octet ∷ []) ≡ digits octet 8
octet_bits octet = bits_of_one octet [] ∙ ap (λ (l : List Bool). digits octet 8 ++ l) no_bits ∙ append-nil (digits octet 8)

-- octets after those before an index
pub octets_grown : (was now own : List ℕ) (at first : ℕ) → 8 * length was < 2 ^ 64 → at ≡ 8 * first → length now ≡ length was
    → take (first + length own) now ≡ take first was ++ own → IsGrown was at now (at + 8 * length own) (bits own)
octets_grown was now own at first size e same stored =
    let n = length-bits own in
    let to : at + length (bits own) ≡ 8 * (first + length own) = omega (arith, e, n) in
    let is : take (at + length (bits own)) (bits now) ≡ take at (bits was) ++ bits own =
    ap (λ (k : ℕ). take k (bits now)) to
    ∙ sym (bits-take (first + length own) now)
    ∙ ap bits stored
    ∙ bits-append (take first was) own
    ∙ ap (λ (l : List Bool). l ++ bits own) (bits-take first was)
    ∙ ap (λ (k : ℕ). take k (bits was) ++ bits own) (sym e) in
    subst (λ (k : ℕ). IsGrown was at now (at + k) (bits own)) n (grown_stored was now at (bits own) size same is)

-- one octet
pub octet_grown : (was : List ℕ) (at first octet : ℕ) → 8 * length was < 2 ^ 64 → at ≡ 8 * first → first < length was
    → IsGrown was at (set was first octet) (at + 8) (digits octet 8)
octet_grown was at first octet size e inside =
    subst (λ (l : List Bool). IsGrown was at (set was first octet) (at + 8) l) (octet_bits octet)
    (octets_grown was (set was first octet) (octet ∷ []) at first size e (length-set was first octet) (take_more_set was first octet inside))

-- the first octet
pub first_octet : (old : List ℕ) (octet : ℕ) → 0 < length old → bits (set old 0 octet) ≡ overwritten (bits old) 0 (digits octet 8)
unfolding overwritten
first_octet old octet some =
    let size : 8 ≡ 0 + length (digits octet 8) = omega (arith, length-digits octet 8) in
    ap bits (set_split old 0 octet some)
    ∙ bits_of_one octet (drop 1 old)
    ∙ ap (λ (l : List Bool). digits octet 8 ++ l) (bits-drop 1 old)
    ∙ ap (λ (n : ℕ). digits octet 8 ++ drop n (bits old)) size
