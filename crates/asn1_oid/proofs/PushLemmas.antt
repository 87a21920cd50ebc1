-- Octets appended to a vector's octets.
use Rattle.std.proofs.Common.{◌≡◌, ℕ, zero, suc, ◌+◌, ◌-◌, ◌*◌, ◌/◌, ◌%◌, ◌^◌, ◌<◌, ◌≤◌, List, [], ◌∷◌, ◌++◌, length, take, get_or, refl, sym, ap, ◌∙◌, append_assoc, append-nil, arith}
use Rattle.std.specs.List.{flat_map}
use Rattle.std.proofs.Math.Seq.{take-length}
use Rattle.std.proofs.lemmas.List.{length-append, take_more, flat_map_more}
use Rattle.asn1_oid.specs.Writing.{last_octets, low_octets, HasDigits, digit_count, subidentifier_octets, word_left, both_left}
use Rattle.asn1_oid.specs.Laws.WritingLaws.{digits_of, same_digits, length-last_octets, last_octet, octet_before}
use Rattle.asn1_oid.proofs.WritingLemmas.{length-both_left}

-- ---- the octets of a subidentifier

pub one_pushed : (old new : List ℕ) (n : ℕ) → new ≡ old ++ (n % 128) ∷ [] → new ≡ old ++ last_octets n 1
one_pushed old new n e = e ∙ ap (λ (l : List ℕ). old ++ l) (sym (last_octet n))

-- one octet, and those after it
pub more_pushed : (old between new : List ℕ) (n octet k : ℕ) → between ≡ old ++ octet ∷ []
    → new ≡ between ++ last_octets n (suc k) → octet ≡ 128 + n / 128 ^ suc k % 128
    → new ≡ old ++ last_octets n (suc (suc k))
more_pushed old between new n octet k first others is =
    others ∙ ap (λ (l : List ℕ). l ++ last_octets n (suc k)) first
    ∙ append_assoc old (octet ∷ []) (last_octets n (suc k))
    ∙ ap (λ (o : ℕ). old ++ (o ∷ last_octets n (suc k))) is
    ∙ ap (λ (l : List ℕ). old ++ l) (sym (octet_before n k))

-- where they are as many as the number has digits, they are all
pub all_pushed : (old new : List ℕ) (n k : ℕ) → HasDigits n k → new ≡ old ++ last_octets n k
    → new ≡ old ++ subidentifier_octets n
unfolding subidentifier_octets
all_pushed old new n k h e =
    e ∙ ap (λ (j : ℕ). old ++ last_octets n j) (same_digits n k (digit_count n) h (digits_of n))

pub small_pushed : (old new : List ℕ) (n : ℕ) → n < 128 → new ≡ old ++ n ∷ [] → new ≡ old ++ subidentifier_octets n
small_pushed old new n lt e =
    let one : HasDigits n 1 =
    record { some = omega arith; enough = omega arith; fewest = λ more. absurd (omega arith) } in
    let octet : n ≡ n % 128 = omega arith in
    all_pushed old new n 1 one (one_pushed old new n (e ∙ ap (λ (o : ℕ). old ++ o ∷ []) octet))

-- ---- the octets of a word

pub lowest_first : (word k : ℕ) → 0 < k → low_octets word k ≡ word % 256 ∷ low_octets (word / 256) (k - 1)
unfolding low_octets
lowest_first word zero some = absurd (omega arith)
lowest_first word (suc k) some =
    let e : k ≡ suc k - 1 = omega arith in ap (λ (j : ℕ). word % 256 ∷ low_octets (word / 256) j) e

-- where i of them were appended, and one more
pub lowest_pushed : (old new all : List ℕ) (word count i : ℕ) → i < count → old ++ low_octets word (count - i) ≡ all
    → new ≡ old ++ (word % 256) ∷ [] → new ++ low_octets (word / 256) (count - (i + 1)) ≡ all
lowest_pushed old new all word count i lt so_far pushed =
    let less : count - (i + 1) ≡ count - i - 1 = omega arith in
    let some : 0 < count - i = omega arith in
    ap (λ (j : ℕ). new ++ low_octets (word / 256) j) less
    ∙ ap (λ (l : List ℕ). l ++ low_octets (word / 256) (count - i - 1)) pushed
    ∙ append_assoc old (word % 256 ∷ []) (low_octets (word / 256) (count - i - 1))
    ∙ ap (λ (l : List ℕ). old ++ l) (sym (lowest_first word (count - i) some))
    ∙ so_far

-- and where all were
pub all_lowest_pushed : (new all : List ℕ) (word count i : ℕ) → count ≡ i → new ++ low_octets word (count - i) ≡ all
    → new ≡ all
unfolding low_octets
all_lowest_pushed new all word count i done so_far =
    let none : 0 ≡ count - i = omega arith in
    sym (append-nil new) ∙ ap (λ (j : ℕ). new ++ low_octets word j) none ∙ so_far

-- ---- what is left

-- the octets of the word, before any arc
pub word_pushed : (old new : List ℕ) (word k : ℕ) → new ≡ old ++ low_octets word k → new ≡ old ++ word_left word k []
unfolding word_left
word_pushed old new word k e = e ∙ ap (λ (l : List ℕ). old ++ l) (sym (append-nil (low_octets word k)))

-- and those of one arc more
pub arc_pushed : (old between new arcs : List ℕ) (word k i arc : ℕ) → i < length arcs → arc ≡ get_or arcs i 0
    → between ≡ old ++ word_left word k (take i arcs) → new ≡ between ++ subidentifier_octets arc
    → new ≡ old ++ word_left word k (take (i + 1) arcs)
unfolding word_left
arc_pushed old between new arcs word k i arc lt is so_far pushed =
    let low : List ℕ = low_octets word k in
    let behind : List ℕ = flat_map subidentifier_octets (take i arcs) in
    let one : List ℕ = subidentifier_octets arc in
    let more : take (i + 1) arcs ≡ take i arcs ++ arc ∷ [] = take_more arcs i 0 lt
    ∙ ap (λ (x : ℕ). take i arcs ++ x ∷ []) (sym is) in
    let whole : flat_map subidentifier_octets (take (i + 1) arcs) ≡ behind ++ one =
    ap (λ (l : List ℕ). flat_map subidentifier_octets l) more
    ∙ sym (flat_map_more subidentifier_octets [] (take i arcs) arc) in
    pushed ∙ ap (λ (l : List ℕ). l ++ one) so_far ∙ append_assoc old (low ++ behind) one
    ∙ ap (λ (l : List ℕ). old ++ l) (append_assoc low behind one)
    ∙ ap (λ (l : List ℕ). old ++ (low ++ l)) (sym whole)

-- each arc has an octet
arcs_have_octets : (arcs : List ℕ) → length arcs ≤ length (flat_map subidentifier_octets arcs)
unfolding subidentifier_octets
arcs_have_octets [] = omega arith
arcs_have_octets (arc ∷ arcs) =
    let others : List ℕ = flat_map subidentifier_octets arcs in
    let parts = length-append (subidentifier_octets arc) others in
    let one = length-last_octets arc (digit_count arc) in
    let digits = digits_of arc in
    let some = digits.some in
    let more = arcs_have_octets arcs in
    omega arith

-- the room that is asked for is at most five times the octets that are left
pub room_is_within : (word k : ℕ) (arcs : List ℕ) (back n : ℕ)
    → 5 * length arcs + k + n ≤ 5 * length (both_left word k arcs back n)
room_is_within word k arcs back n =
    let sum = length-both_left word k (length (flat_map subidentifier_octets arcs)) arcs back n refl in
    let some = arcs_have_octets arcs in
    omega arith

-- and at last the octets of the second word
pub back_pushed : (old between new : List ℕ) (word k : ℕ) (arcs : List ℕ) (back n i : ℕ) → length arcs ≡ i
    → between ≡ old ++ word_left word k (take i arcs) → new ≡ between ++ low_octets back n
    → new ≡ old ++ both_left word k arcs back n
unfolding both_left
back_pushed old between new word k arcs back n i done so_far pushed =
    let all : take i arcs ≡ arcs = ap (λ (j : ℕ). take j arcs) (sym done) ∙ take-length arcs in
    pushed ∙ ap (λ (l : List ℕ). l ++ low_octets back n) so_far
    ∙ append_assoc old (word_left word k (take i arcs)) (low_octets back n)
    ∙ ap (λ (l : List ℕ). old ++ (word_left word k l ++ low_octets back n)) all
