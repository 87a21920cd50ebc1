-- Octets that are taken from the back.
use Rattle.std.proofs.Common.{◌≡◌, ℕ, zero, suc, ◌+◌, ◌-◌, ◌*◌, ◌/◌, ◌%◌, ◌^◌, ◌<◌, List, [], ◌∷◌, ◌++◌, Option, None, Some, length, refl, sym, ap, ◌∙◌, append_assoc, append-nil, arith}
use Rattle.std.specs.List.{flat_map}
use Rattle.std.specs.Iterator.{YieldsFirst, YieldsLast, MakesProgress, item_count}
use Rattle.std.specs.Prelude.{⊤}
use Rattle.std.proofs.lemmas.List.{length-append}
use Rattle.std.proofs.lemmas.Nat.{pow-add}
use Rattle.std.proofs.lemmas.Grind.{flat_map-append}
use Rattle.std.proofs.Math.Nat.{div-div-eq-div-mul, pow-succ'}
use Rattle.asn1_oid.specs.Writing.{last_octets, low_octets, HasDigits, digit_count, subidentifier_octets, word_left, both_left}
use Rattle.asn1_oid.specs.Laws.WritingLaws.{digits_of, same_digits}

-- ---- a word

pub low_octets-zero : (word k : ℕ) → k ≡ 0 → low_octets word k ≡ []
unfolding low_octets
low_octets-zero word k e = ap (λ (j : ℕ). low_octets word j) e

-- the last octet of a word
pub low_octets-last : (word k : ℕ) → low_octets word (suc k) ≡ low_octets word k ++ (word / 256 ^ k % 256) ∷ []
unfolding low_octets
low_octets-last word zero =
    let e : word ≡ word / 256 ^ 0 = omega arith in
    ap (λ (w : ℕ). w % 256 ∷ []) e
low_octets-last word (suc k) =
    ap (λ (l : List ℕ). word % 256 ∷ l) (low_octets-last (word / 256) k)
    ∙ ap (λ (w : ℕ). word % 256 ∷ (low_octets (word / 256) k ++ (w % 256) ∷ []))
    (div-div-eq-div-mul word 256 (256 ^ k) ∙ ap (λ (p : ℕ). word / p) (sym (pow-succ' 256 k)))

-- two to the power of the bits of `k` octets
octet_power : (k : ℕ) → 2 ^ (8 * k) ≡ 256 ^ k
octet_power zero = refl
octet_power (suc k) =
    let more : 8 * suc k ≡ 8 + 8 * k = omega arith in
    ap (λ (j : ℕ). 2 ^ j) more ∙ pow-add 2 8 (8 * k) ∙ ap (λ (p : ℕ). 256 * p) (octet_power k)
    ∙ sym (pow-succ' 256 k)

pub takes_last : (word k : ℕ) → 0 < k
    → low_octets word k ≡ low_octets word (k - 1) ++ (word / 2 ^ (8 * (k - 1)) % 256) ∷ []
takes_last word zero some = absurd (omega arith)
takes_last word (suc k) some =
    let e : k ≡ suc k - 1 = omega arith in
    low_octets-last word k
    ∙ ap (λ (p : ℕ). low_octets word k ++ (word / p % 256) ∷ []) (sym (octet_power k))
    ∙ ap (λ (j : ℕ). low_octets word j ++ (word / 2 ^ (8 * j) % 256) ∷ []) e

-- ---- both ends

-- what is left before is held otherwise
pub both_left-same : (word k next j : ℕ) (arcs others : List ℕ) (back n : ℕ)
    → word_left word k arcs ≡ word_left next j others → both_left word k arcs back n ≡ both_left next j others back n
unfolding both_left
both_left-same word k next j arcs others back n e = ap (λ (l : List ℕ). l ++ low_octets back n) e

-- or its first octet is given
pub both_left-first : (word k next j octet : ℕ) (arcs others : List ℕ) (back n : ℕ)
    → word_left word k arcs ≡ octet ∷ word_left next j others
    → both_left word k arcs back n ≡ octet ∷ both_left next j others back n
unfolding both_left
both_left-first word k next j octet arcs others back n e = ap (λ (l : List ℕ). l ++ low_octets back n) e

-- where no arc is left, and no octet of the first word
pub only_back : (word : ℕ) (arcs : List ℕ) (back n : ℕ) → length arcs ≡ 0
    → both_left word 0 arcs back n ≡ low_octets back n
unfolding both_left word_left low_octets
only_back word [] back n e = refl
only_back word (arc ∷ arcs) back n e = absurd (omega arith)

-- and no octet of the second
pub only_front : (word k : ℕ) (arcs : List ℕ) (back n : ℕ) → length arcs ≡ 0 → n ≡ 0
    → both_left word k arcs back n ≡ low_octets word k
unfolding both_left word_left
only_front word k [] back n e none =
    ap (λ (l : List ℕ). low_octets word k ++ [] ++ l) (low_octets-zero back n none)
    ∙ append-nil (low_octets word k ++ [])
    ∙ append-nil (low_octets word k)
only_front word k (arc ∷ arcs) back n e none = absurd (omega arith)

-- the last arc is begun from the back
pub last_arc : (word k back n now arc count : ℕ) (arcs others : List ℕ) → n ≡ 0 → arcs ≡ others ++ arc ∷ []
    → HasDigits arc count → low_octets now count ≡ last_octets arc count
    → both_left word k arcs back n ≡ both_left word k others now count
unfolding both_left word_left subidentifier_octets
last_arc word k back n now arc count arcs others none e h is =
    let low : List ℕ = low_octets word k in
    let first : List ℕ = flat_map subidentifier_octets others in
    let last : flat_map subidentifier_octets (arc ∷ []) ≡ low_octets now count =
    append-nil (last_octets arc (digit_count arc))
    ∙ ap (λ (j : ℕ). last_octets arc j) (same_digits arc (digit_count arc) count (digits_of arc) h)
    ∙ sym is in
    ap (λ (l : List ℕ). low ++ flat_map subidentifier_octets arcs ++ l) (low_octets-zero back n none)
    ∙ append-nil (low ++ flat_map subidentifier_octets arcs)
    ∙ ap (λ (l : List ℕ). low ++ flat_map subidentifier_octets l) e
    ∙ ap (λ (l : List ℕ). low ++ l) (flat_map-append subidentifier_octets others (arc ∷ []))
    ∙ ap (λ (l : List ℕ). low ++ (first ++ l)) last
    ∙ sym (append_assoc low first (low_octets now count))

-- the last octet of the second word
pub both_left-last : (word k : ℕ) (arcs : List ℕ) (back m n octet : ℕ)
    → low_octets back m ≡ low_octets back n ++ octet ∷ []
    → both_left word k arcs back m ≡ both_left word k arcs back n ++ octet ∷ []
unfolding both_left
both_left-last word k arcs back m n octet e =
    ap (λ (l : List ℕ). word_left word k arcs ++ l) e
    ∙ sym (append_assoc (word_left word k arcs) (low_octets back n) (octet ∷ []))

-- ---- a call of either end

pub first_of_equal : (s t u v : List ℕ) (r : Option ℕ) → u ≡ s → v ≡ t
    → YieldsFirst (λ (l : List ℕ). l) s r t → YieldsFirst (λ (l : List ℕ). l) u r v
first_of_equal s t u v None from to h = (from ∙ h.0, to ∙ h.1)
first_of_equal s t u v (Some x) from to h = from ∙ h ∙ ap (λ (l : List ℕ). x ∷ l) (sym to)

pub last_of_equal : (s t u v : List ℕ) (r : Option ℕ) → u ≡ s → v ≡ t
    → YieldsLast (λ (l : List ℕ). l) s r t → YieldsLast (λ (l : List ℕ). l) u r v
last_of_equal s t u v None from to h = (from ∙ h.0, to ∙ h.1)
last_of_equal s t u v (Some x) from to h = from ∙ h ∙ ap (λ (l : List ℕ). l ++ x ∷ []) (sym to)

-- octets of the second word are taken out of all
pub last_of_both : (word k : ℕ) (arcs : List ℕ) (back m n : ℕ) (r : Option ℕ) → 0 < m
    → YieldsLast (λ (l : List ℕ). l) (low_octets back m) r (low_octets back n)
    → YieldsLast (λ (l : List ℕ). l) (both_left word k arcs back m) r (both_left word k arcs back n)
unfolding low_octets
last_of_both word k arcs back zero n None some h = absurd (omega arith)
last_of_both word k arcs back (suc m) n None some h = absurd (let long = ap length h.0 in omega arith)
last_of_both word k arcs back m n (Some x) some h = both_left-last word k arcs back m n x h

pub first_goes : (s t : List ℕ) (r : Option ℕ) → YieldsFirst (λ (l : List ℕ). l) s r t
    → MakesProgress (λ _. ⊤) (item_count (λ (l : List ℕ). l)) s r t
first_goes s t None h = record { on = λ finite. tt; keeps = tt; rests = λ finite. tt }
first_goes s t (Some x) h =
    let shorter = ap length h in
    record { on = λ finite. (tt, tt, omega arith); keeps = tt; rests = λ finite. tt }

pub last_goes : (s t : List ℕ) (r : Option ℕ) → YieldsLast (λ (l : List ℕ). l) s r t
    → MakesProgress (λ _. ⊤) (item_count (λ (l : List ℕ). l)) s r t
last_goes s t None h = record { on = λ finite. tt; keeps = tt; rests = λ finite. tt }
last_goes s t (Some x) h =
    let shorter = ap length h ∙ length-append t (x ∷ []) in
    record { on = λ finite. (tt, tt, omega arith); keeps = tt; rests = λ finite. tt }
