-- The octets that are given one after another, and their number.
use Rattle.std.proofs.Common.{◌≡◌, ℕ, zero, suc, ◌+◌, ◌-◌, ◌*◌, ◌/◌, ◌%◌, ◌^◌, ◌<◌, List, [], ◌∷◌, ◌++◌, length, take, get_or, refl, sym, ap, subst, ◌∙◌, append-nil, arith}
use Rattle.std.specs.List.{flat_map}
use Rattle.std.proofs.lemmas.List.{length-append, take_more, flat_map_more}
use Rattle.asn1_oid.specs.Arcs.{IsValidArcs}
use Rattle.asn1_oid.specs.Contents.{AreSubidentifiers, subidentifiers, IsContents}
use Rattle.asn1_oid.specs.Writing.{last_octets, low_octets, HasDigits, digit_count, subidentifier_octets, octets_left, word_left, both_left}
use Rattle.asn1_oid.specs.Laws.WritingLaws.{digits_of, same_digits, length-last_octets, last_octet, octet_before, left_are}

-- ---- what is left, and how many octets there are

pub contents_are : (arcs rest octets : List ℕ) (n : ℕ) → IsValidArcs arcs → subidentifiers arcs ≡ n ∷ rest
    → length arcs ≡ 2 + length rest
    → ((k : ℕ) → HasDigits n k → octets ≡ octets_left n k rest) → IsContents arcs octets
contents_are arcs rest octets n valid numbers two left = record {
  valid = valid;
  two = omega arith;
  spelled =
      let k : ℕ = digit_count n in
      let are : AreSubidentifiers (n ∷ rest) (octets_left n k rest) = left_are n k rest (digits_of n) in
      subst (λ (l : List ℕ). AreSubidentifiers l octets) (sym numbers)
      (subst (λ (o : List ℕ). AreSubidentifiers (n ∷ rest) o) (sym (left k (digits_of n))) are);
}

-- the subidentifier of one arc more
pub octets_more : (arcs : List ℕ) (i arc len k : ℕ) → i < length arcs → arc ≡ get_or arcs i 0
    → len ≡ length (flat_map subidentifier_octets (take i arcs)) → HasDigits arc k
    → len + k ≡ length (flat_map subidentifier_octets (take (i + 1) arcs))
unfolding subidentifier_octets
octets_more arcs i arc len k lt is e h =
    let old : List ℕ = flat_map subidentifier_octets (take i arcs) in
    let more : take (i + 1) arcs ≡ take i arcs ++ arc ∷ [] = take_more arcs i 0 lt
    ∙ ap (λ (x : ℕ). take i arcs ++ x ∷ []) (sym is) in
    let whole : flat_map subidentifier_octets (take (i + 1) arcs) ≡ old ++ subidentifier_octets arc =
    ap (λ (l : List ℕ). flat_map subidentifier_octets l) more
    ∙ sym (flat_map_more subidentifier_octets [] (take i arcs) arc) in
    let long : length (subidentifier_octets arc) ≡ k = length-last_octets arc (digit_count arc)
    ∙ same_digits arc (digit_count arc) k (digits_of arc) h in
    let sum = ap length whole ∙ length-append old (subidentifier_octets arc) in
    omega arith

-- k octets of a subidentifier, and those of further arcs
pub length-octets_left : (n k more : ℕ) (arcs : List ℕ) → more ≡ length (flat_map subidentifier_octets arcs)
    → k + more ≡ length (octets_left n k arcs)
unfolding octets_left
length-octets_left n k more arcs e =
    let sum = length-append (last_octets n k) (flat_map subidentifier_octets arcs) in
    let first = length-last_octets n k in
    omega arith

pub contents_counted : (arcs rest : List ℕ) (n k more : ℕ) → IsValidArcs arcs → subidentifiers arcs ≡ n ∷ rest
    → length arcs ≡ 2 + length rest → HasDigits n k → more ≡ length (flat_map subidentifier_octets rest)
    → (octets : List ℕ) × IsContents arcs octets × (k + more ≡ length octets)
contents_counted arcs rest n k more valid numbers two h e = (
  octets_left n k rest,
  contents_are arcs rest (octets_left n k rest) n valid numbers two
      (λ j g. ap (λ (x : ℕ). octets_left n x rest) (same_digits n k j h g)),
  length-octets_left n k more rest e,
)

-- ---- octets in a word

-- one octet more, before the others
low_more : (word octet k : ℕ) → octet < 256 → low_octets (256 * word + octet) (suc k) ≡ octet ∷ low_octets word k
unfolding low_octets
low_more word octet k lt =
    let low : (256 * word + octet) % 256 ≡ octet = omega arith in
    let high : (256 * word + octet) / 256 ≡ word = omega arith in
    ap (λ (x : ℕ). x ∷ low_octets ((256 * word + octet) / 256) k) low
    ∙ ap (λ (w : ℕ). octet ∷ low_octets w k) high

pub one_in_word : (n : ℕ) → low_octets (n % 128) 1 ≡ last_octets n 1
unfolding low_octets
one_in_word n =
    let e : n % 128 % 256 ≡ n % 128 = omega arith in
    ap (λ (x : ℕ). x ∷ []) e ∙ sym (last_octet n)

pub more_in_word : (n word digit k : ℕ) → low_octets word (suc k) ≡ last_octets n (suc k)
    → digit ≡ n / 128 ^ suc k % 128
    → low_octets (256 * word + 128 + digit) (suc (suc k)) ≡ last_octets n (suc (suc k))
more_in_word n word digit k e is =
    let small : 128 + digit < 256 = omega arith in
    let sum : 256 * word + 128 + digit ≡ 256 * word + (128 + digit) = omega arith in
    ap (λ (w : ℕ). low_octets w (suc (suc k))) sum
    ∙ low_more word (128 + digit) (suc k) small
    ∙ ap (λ (l : List ℕ). (128 + digit) ∷ l) e
    ∙ ap (λ (d : ℕ). (128 + d) ∷ last_octets n (suc k)) is
    ∙ sym (octet_before n k)

length-low_octets : (word k : ℕ) → length (low_octets word k) ≡ k
unfolding low_octets
length-low_octets word zero = refl
length-low_octets word (suc k) = ap suc (length-low_octets (word / 256) k)

pub length-both_left : (word k more : ℕ) (arcs : List ℕ) (back n : ℕ)
    → more ≡ length (flat_map subidentifier_octets arcs) → k + more + n ≡ length (both_left word k arcs back n)
unfolding word_left both_left
length-both_left word k more arcs back n e =
    let low : List ℕ = low_octets word k in
    let front : List ℕ = low ++ flat_map subidentifier_octets arcs in
    let all = length-append front (low_octets back n) in
    let sum = length-append low (flat_map subidentifier_octets arcs) in
    let first = length-low_octets word k in
    let last = length-low_octets back n in
    omega arith

-- with nothing from the back
pub both_left-zero : (word k : ℕ) (arcs : List ℕ) → both_left word k arcs 0 0 ≡ word_left word k arcs
unfolding both_left low_octets
both_left-zero word k arcs = append-nil (word_left word k arcs)

-- ---- one octet after another

-- the first subidentifier, and those of further arcs
pub word_is : (n word k left : ℕ) (arcs : List ℕ) → HasDigits n left → HasDigits n k
    → low_octets word left ≡ last_octets n left → word_left word left arcs ≡ octets_left n k arcs
unfolding word_left octets_left
word_is n word k left arcs g h e =
    ap (λ (l : List ℕ). l ++ flat_map subidentifier_octets arcs) e
    ∙ ap (λ (j : ℕ). last_octets n j ++ flat_map subidentifier_octets arcs) (same_digits n left k g h)

-- where no octets are left in the word, the next arc is begun
pub next_arc : (word now arc k : ℕ) (arcs others : List ℕ) → arcs ≡ arc ∷ others → HasDigits arc k
    → low_octets now k ≡ last_octets arc k → word_left word 0 arcs ≡ word_left now k others
unfolding word_left subidentifier_octets low_octets
next_arc word now arc k arcs others e h is =
    ap (λ (l : List ℕ). flat_map subidentifier_octets l) e
    ∙ ap (λ (j : ℕ). last_octets arc j ++ flat_map subidentifier_octets others)
    (same_digits arc (digit_count arc) k (digits_of arc) h)
    ∙ ap (λ (l : List ℕ). l ++ flat_map subidentifier_octets others) (sym is)

-- or it is given whole
pub small_arc : (word arc : ℕ) (arcs others : List ℕ) → arcs ≡ arc ∷ others → arc < 128
    → word_left word 0 arcs ≡ arc ∷ word_left word 0 others
unfolding word_left subidentifier_octets low_octets
small_arc word arc arcs others e lt =
    let one : HasDigits arc 1 =
    record { some = omega arith; enough = omega arith; fewest = λ more. absurd (omega arith) } in
    let octet : arc % 128 ≡ arc = omega arith in
    ap (λ (l : List ℕ). flat_map subidentifier_octets l) e
    ∙ ap (λ (j : ℕ). last_octets arc j ++ flat_map subidentifier_octets others)
    (same_digits arc (digit_count arc) 1 (digits_of arc) one)
    ∙ ap (λ (l : List ℕ). l ++ flat_map subidentifier_octets others) (last_octet arc)
    ∙ ap (λ (x : ℕ). x ∷ flat_map subidentifier_octets others) octet

pub none_left : (word : ℕ) (arcs : List ℕ) → length arcs ≡ 0 → word_left word 0 arcs ≡ []
unfolding word_left low_octets
none_left word [] e = refl
none_left word (arc ∷ arcs) e = absurd (omega arith)

-- the lowest octet of the word
pub gives_octet : (word left : ℕ) (arcs : List ℕ) → 0 < left
    → word_left word left arcs ≡ word % 256 ∷ word_left (word / 256) (left - 1) arcs
unfolding word_left low_octets
gives_octet word zero arcs some = absurd (omega arith)
gives_octet word (suc k) arcs some =
    let e : k ≡ suc k - 1 = omega arith in
    ap (λ (j : ℕ). word % 256 ∷ (low_octets (word / 256) j ++ flat_map subidentifier_octets arcs)) e
