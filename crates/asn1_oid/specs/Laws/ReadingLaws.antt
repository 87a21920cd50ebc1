-- Contents read from left to right are contents by the definition, and the other way round.
use Rattle.std.proofs.Common.{◌≡◌, ◌≢◌, ℕ, suc, ◌+◌, ◌-◌, ◌*◌, ◌/◌, ◌%◌, ◌^◌, ◌<◌, ◌≤◌, Bool, true, false, not, cond, eqb, ltb, leb, min, List, [], ◌∷◌, ◌++◌, length, Option, Some, None, Result, Ok, Err, refl, sym, ap, subst, ◌∙◌, arith, inl, inr, ◌⊎◌}
use Rattle.std.specs.Prelude.{◌&&◌, All, slice_index}
use Rattle.std.proofs.Math.Nat.{add-mul, mul_assoc, mul_comm, pow-succ'}
use Rattle.std.proofs.lemmas.Bool.{ltb-true, ltb-false, leb-true, lt-ltb, le-ltb, le-leb, eqb-false, ne_eqb, cases_lt, and_parts}
use Rattle.std.proofs.lemmas.List.Elements.{All-head, All-tail}
use Rattle.std.specs.List.{list_all}
use Rattle.std.proofs.lemmas.List.Elements.{All-nil, All-cons}
use Rattle.asn1_oid.specs.Arcs.{IsValidArcs}
use Rattle.asn1_oid.specs.Contents.{IsSeries, base_128, IsSubidentifier, AreSubidentifiers, subidentifiers, IsContents, FitU32, ContentsAreOfOneList}
use Rattle.asn1_oid.specs.declared.contents.ContentsError.{ContentsError}
use Rattle.asn1_oid.specs.declared.contents.ContentsError.TheVariants.{Malformed, ArcTooLarge, Memory}
use Rattle.asn1_oid.specs.Reading.{with_front, numbers_from, numbers_of, first_arc, second_arc, largest_first, largest_other, other_fits, arcs_of_numbers, contents_reading}

-- ---- one octet

pub ends : (begun : Bool) (n octet : ℕ) (rest : List ℕ) → octet < 128
    → numbers_from begun n (octet ∷ rest) ≡ with_front ((128 * n + octet % 128) ∷ []) (numbers_of rest)
unfolding numbers_from
ends true n octet rest lt = rw (lt-ltb _ _ lt) refl
ends false n octet rest lt = rw (ne_eqb octet 128 (λ e. omega arith), lt-ltb _ _ lt) refl

pub goes_on : (begun : Bool) (n octet : ℕ) (rest : List ℕ) → 128 ≤ octet → (begun ≡ false → octet ≢ 128)
    → numbers_from begun n (octet ∷ rest) ≡ numbers_from true (128 * n + octet % 128) rest
unfolding numbers_from
goes_on true n octet rest ge first = rw (le-ltb _ _ ge) refl
goes_on false n octet rest ge first = rw (ne_eqb octet 128 (first refl), le-ltb _ _ ge) refl

-- ---- from left to right, the value grows by one octet

-- what came before, one octet, and the octets after it
grown : (n x p b : ℕ) → (128 * n + x) * p + b ≡ n * (128 * p) + (x * p + b)
grown n x p b =
    let a : (128 * n + x) * p ≡ 128 * n * p + x * p = add-mul (128 * n) x p in
    let m : 128 * n * p ≡ n * (128 * p) = ap (λ (k : ℕ). k * p) (mul_comm 128 n) ∙ mul_assoc n 128 p in
    omega arith

power : (k : ℕ) → 128 * 128 ^ k ≡ 128 ^ suc k
power k = sym (pow-succ' 128 k)

-- ---- what is read are subidentifiers

-- the first subidentifier goes on with octets of these, and others follow
record GoesOn (n : ℕ) (numbers octets : List ℕ) : Type 0 where
  number : ℕ
  others : List ℕ
  front : List ℕ
  rest : List ℕ
  series : IsSeries front
  value : number ≡ n * 128 ^ length front + base_128 front
  of_rest : AreSubidentifiers others rest
  these : numbers ≡ number ∷ others
  parts : octets ≡ front ++ rest

Walked : Bool → ℕ → List ℕ → List ℕ → Type 0
Walked true n numbers octets = GoesOn n numbers octets
Walked false n numbers octets = n ≡ 0 → AreSubidentifiers numbers octets

none_is_no_some : (ns : List ℕ) → ◌≡◌ {A = Option (List ℕ)} None (Some ns) → ⊥
none_is_no_some ns e = cc

same_numbers : (ms ns : List ℕ) → ◌≡◌ {A = Option (List ℕ)} (Some ms) (Some ns) → ms ≡ ns
same_numbers ms ns e = cc

front_some : (n : ℕ) (r : Option (List ℕ)) (ns : List ℕ) → with_front (n ∷ []) r ≡ Some ns → (ms : List ℕ) × (r ≡ Some ms)
    × (n ∷ ms ≡ ns)
front_some n (Some ms) ns e = (ms, refl, same_numbers _ _ e)
front_some n None ns e = absurd (none_is_no_some _ e)

abbrev Numbers : Type 0
Numbers = Option (List ℕ)

picked : (b : Bool) (x y z : Numbers) → cond b x y ≡ z → ((b ≡ true) × (x ≡ z)) ⊎ ((b ≡ false) × (y ≡ z))
picked true x y z e = inl (refl, e)
picked false x y z e = inr (refl, e)

no_numbers : Numbers
no_numbers = None

not_80 : (begun : Bool) (octet : ℕ) → (not begun && eqb octet 128) ≡ false → begun ≡ false → octet ≢ 128
not_80 true octet e f = absurd cc
not_80 false octet e f = eqb-false octet 128 e

-- an octet that ends a subidentifier
ended : (begun : Bool) (n octet : ℕ) (octets ms ns : List ℕ) → octet < 128 → AreSubidentifiers ms octets
    → (128 * n + octet % 128) ∷ ms ≡ ns
    → (begun ≡ false → octet ≢ 128) → Walked begun n ns (octet ∷ octets)
unfolding Walked base_128
ended true n octet octets ms ns lt rest these first = record {
  number = 128 * n + octet % 128;
  others = ms;
  front = octet ∷ [];
  rest = octets;
  series = inl (lt, refl);
  value = omega arith;
  of_rest = rest;
  these = sym these;
  parts = refl;
}
ended false n octet octets ms ns lt rest these first = λ z.
    let one : IsSubidentifier (128 * n + octet % 128) (octet ∷ []) =
    record { series = inl (lt, refl); value = omega arith; fewest = first refl } in
    subst (λ (l : List ℕ). AreSubidentifiers l (octet ∷ octets)) these (octet ∷ [], octets, one, rest, refl)

-- an octet before others of its subidentifier
continued : (begun : Bool) (n octet : ℕ) (octets ns : List ℕ) → 128 ≤ octet → octet < 256
    → (begun ≡ false → octet ≢ 128)
    → GoesOn (128 * n + octet % 128) ns octets → Walked begun n ns (octet ∷ octets)
unfolding Walked base_128
continued true n octet octets ns ge lt first g = record {
  number = g.number;
  others = g.others;
  front = octet ∷ g.front;
  rest = g.rest;
  series = inr (ge, lt, g.series);
  value = g.value ∙ grown n (octet % 128) (128 ^ length g.front) (base_128 g.front)
      ∙ ap (λ (k : ℕ). n * k + (octet % 128 * 128 ^ length g.front + base_128 g.front)) (power (length g.front));
  of_rest = g.of_rest;
  these = g.these;
  parts = ap (λ (l : List ℕ). octet ∷ l) g.parts;
}
continued false n octet octets ns ge lt first g = λ z.
    let none : 128 * n + octet % 128 ≡ octet % 128 = omega arith in
    let value : base_128 (octet ∷ g.front) ≡ g.number =
    sym (g.value ∙ ap (λ (k : ℕ). k * 128 ^ length g.front + base_128 g.front) none) in
    let one : IsSubidentifier g.number (octet ∷ g.front) =
    record { series = inr (ge, lt, g.series); value = value; fewest = first refl } in
    subst (λ (l : List ℕ). AreSubidentifiers l (octet ∷ octets)) (sym g.these)
    (octet ∷ g.front, g.rest, one, g.of_rest, ap (λ (l : List ℕ). octet ∷ l) g.parts)

walked : (begun : Bool) (n : ℕ) (octets ns : List ℕ) → All (λ octet. octet < 256) octets
    → numbers_from begun n octets ≡ Some ns → Walked begun n ns octets
unfolding numbers_from Walked no_numbers
walked true n [] ns are e = absurd (none_is_no_some ns e)
walked false n [] ns are e = λ z. subst (λ (l : List ℕ). AreSubidentifiers l []) (same_numbers [] ns e) refl
walked begun n (octet ∷ octets) ns are e =
    let small : octet < 256 = All-head (λ octet. octet < 256) octet octets are in
    let others : All (λ octet. octet < 256) octets = All-tail (λ octet. octet < 256) octet octets are in
    let m : ℕ = 128 * n + octet % 128 in
    elim (picked (not begun && eqb octet 128) no_numbers
    (cond (ltb octet 128) (with_front (m ∷ []) (numbers_from false 0 octets)) (numbers_from true m octets)) (Some ns) e) [
      | inl h ↦ absurd (none_is_no_some ns h.1)
      | inr h ↦
          let first : begun ≡ false → octet ≢ 128 = not_80 begun octet h.0 in
          elim (picked (ltb octet 128) (with_front (m ∷ []) (numbers_from false 0 octets)) (numbers_from true m octets)
          (Some ns) h.1) [
            | inl g ↦
                let b = front_some m (numbers_from false 0 octets) ns g.1 in
                ended begun n octet octets b.0 ns (ltb-true _ _ g.0) (walked false 0 octets b.0 others b.1 refl) b.2
                first
            | inr g ↦ continued begun n octet octets ns (ltb-false _ _ g.0) small first
                (walked true m octets ns others g.1)
          ]
    ]

pub subidentifiers_read : (octets ns : List ℕ) → All (λ octet. octet < 256) octets → numbers_of octets ≡ Some ns
    → AreSubidentifiers ns octets
unfolding Walked
subidentifiers_read octets ns are e = walked false 0 octets ns are e refl

-- ---- subidentifiers are read

one_read : (begun : Bool) (n : ℕ) (front rest : List ℕ) → IsSeries front → (begun ≡ false → slice_index front 0 ≢ 128)
    → numbers_from begun n (front ++ rest) ≡ with_front ((n * 128 ^ length front + base_128 front) ∷ []) (numbers_of rest)
unfolding base_128
one_read begun n [] rest series first = absurd series
one_read begun n (octet ∷ []) rest (inl p) first =
    let value : 128 * n + octet % 128 ≡ n * 128 ^ 1 + (octet % 128 * 128 ^ 0 + 0) = omega arith in
    ends begun n octet rest p.0 ∙ ap (λ (k : ℕ). with_front (k ∷ []) (numbers_of rest)) value
one_read begun n (octet ∷ next ∷ octets) rest (inl p) first = absurd cc
one_read begun n (octet ∷ octets) rest (inr p) first =
    let m : ℕ = 128 * n + octet % 128 in
    let value : m * 128 ^ length octets + base_128 octets ≡ n * 128 ^ suc (length octets) +
    (octet % 128 * 128 ^ length octets + base_128 octets) =
    grown n (octet % 128) (128 ^ length octets) (base_128 octets)
    ∙ ap (λ (k : ℕ). n * k + (octet % 128 * 128 ^ length octets + base_128 octets)) (power (length octets)) in
    goes_on begun n octet (octets ++ rest) p.0 first
    ∙ one_read true m octets rest p.2 (λ e. absurd cc)
    ∙ ap (λ (k : ℕ). with_front (k ∷ []) (numbers_of rest)) value

pub subidentifiers_are_read : (ns octets : List ℕ) → AreSubidentifiers ns octets → numbers_of octets ≡ Some ns
unfolding numbers_from
subidentifiers_are_read [] octets e = ap numbers_of e
subidentifiers_are_read (n ∷ ns) octets s =
    let front : List ℕ = s.0 in
    let rest : List ℕ = s.1 in
    let v = s.2.value in
    let value : 0 * 128 ^ length front + base_128 front ≡ n = omega arith in
    ap numbers_of s.4 ∙ one_read false 0 front rest s.2.series (λ e. s.2.fewest)
    ∙ ap (λ (k : ℕ). with_front (k ∷ []) (numbers_of rest)) value
    ∙ ap (with_front (n ∷ [])) (subidentifiers_are_read ns rest s.3)

-- ---- arcs of numbers, and numbers of arcs

pub numbers_back : (n : ℕ) (ns : List ℕ) → subidentifiers (first_arc n ∷ second_arc n ∷ ns) ≡ n ∷ ns
numbers_back n ns =
    ap (λ (k : ℕ). k ∷ ns) (let e : 40 * min (n / 40) 2 + (n - 40 * min (n / 40) 2) ≡ n = omega arith in e)

pub valid_back : (n : ℕ) (ns : List ℕ) → IsValidArcs (first_arc n ∷ second_arc n ∷ ns)
valid_back n ns = record { some = omega arith; first = omega arith; second = λ lt more. omega arith }

first_back : (x y : ℕ) → x ≤ 2 → (x < 2 → y ≤ 39) → min ((40 * x + y) / 40) 2 ≡ x
first_back x y le small = elim (cases_lt x 2) [
  | inl lt ↦ let s = small lt in omega arith
  | inr ge ↦ omega arith
]

pub arcs_back : (x y : ℕ) (arcs : List ℕ) → IsValidArcs (x ∷ y ∷ arcs)
    → first_arc (40 * x + y) ∷ second_arc (40 * x + y) ∷ arcs ≡ x ∷ y ∷ arcs
arcs_back x y arcs v =
    let le : x ≤ 2 = v.first in
    let small : x < 2 → y ≤ 39 = λ lt. v.second lt (omega arith) in
    let first : first_arc (40 * x + y) ≡ x = first_back x y le small in
    let second : second_arc (40 * x + y) ≡ y = omega arith in
    ap (λ (k : ℕ). k ∷ second_arc (40 * x + y) ∷ arcs) first ∙ ap (λ (k : ℕ). x ∷ k ∷ arcs) second

-- ---- what fits

others_fit : (ns : List ℕ) → list_all other_fits ns ≡ true → FitU32 ns
others_fit [] e = All-nil (λ arc. arc < 2 ^ 32)
others_fit (n ∷ ns) e =
    let p = and_parts (other_fits n) (list_all other_fits ns) e in
    let le = leb-true n largest_other p.0 in
    All-cons (λ arc. arc < 2 ^ 32) n ns (omega arith) (others_fit ns p.1)

others_test : (ns : List ℕ) → FitU32 ns → list_all other_fits ns ≡ true
others_test [] fit = refl
others_test (n ∷ ns) fit =
    let lt : n < 2 ^ 32 = All-head (λ arc. arc < 2 ^ 32) n ns fit in
    rw (le-leb n largest_other (omega arith)) (others_test ns (All-tail (λ arc. arc < 2 ^ 32) n ns fit))

fits_from_test : (n : ℕ) (ns : List ℕ) → (leb n largest_first && list_all other_fits ns) ≡ true
    → FitU32 (first_arc n ∷ second_arc n ∷ ns)
fits_from_test n ns e =
    let p = and_parts (leb n largest_first) (list_all other_fits ns) e in
    let le = leb-true n largest_first p.0 in
    All-cons (λ arc. arc < 2 ^ 32) (first_arc n) (second_arc n ∷ ns) (omega arith)
    (All-cons (λ arc. arc < 2 ^ 32) (second_arc n) ns (omega arith) (others_fit ns p.1))

test_from_fits : (n : ℕ) (ns : List ℕ) → FitU32 (first_arc n ∷ second_arc n ∷ ns)
    → (leb n largest_first && list_all other_fits ns) ≡ true
test_from_fits n ns fit =
    let behind_first = All-tail (λ arc. arc < 2 ^ 32) (first_arc n) (second_arc n ∷ ns) fit in
    let lt : second_arc n < 2 ^ 32 = All-head (λ arc. arc < 2 ^ 32) (second_arc n) ns behind_first in
    rw (le-leb n largest_first (omega arith))
    (others_test ns (All-tail (λ arc. arc < 2 ^ 32) (second_arc n) ns behind_first))

-- ---- the reading, and contents

-- the numbers of contents are read
pub numbers_of_contents : (arcs octets : List ℕ) → IsContents arcs octets
    → numbers_of octets ≡ Some (subidentifiers arcs)
numbers_of_contents arcs octets c = subidentifiers_are_read (subidentifiers arcs) octets c.spelled

-- arcs by their numbers
arcs_by_numbers : (arcs octets : List ℕ) → IsContents arcs octets → (n : ℕ) × (ns : List ℕ)
    × (subidentifiers arcs ≡ n ∷ ns) × (arcs ≡ first_arc n ∷ second_arc n ∷ ns)
arcs_by_numbers [] octets c = absurd (let two = c.two in omega arith)
arcs_by_numbers (x ∷ []) octets c = absurd (let two = c.two in omega arith)
arcs_by_numbers (x ∷ y ∷ arcs) octets c = (40 * x + y, arcs, refl, sym (arcs_back x y arcs c.valid))

-- octets are the contents of one list of arcs
pub one_list_of_arcs : ContentsAreOfOneList
one_list_of_arcs xs ys octets c d =
    let p = arcs_by_numbers xs octets c in
    let q = arcs_by_numbers ys octets d in
    let same : (p.0 ∷ p.1) ≡ (q.0 ∷ q.1) = sym p.2
    ∙ same_numbers _ _ (sym (numbers_of_contents xs octets c) ∙ numbers_of_contents ys octets d) ∙ q.2 in
    let n : p.0 ≡ q.0 = cc in
    let ns : p.1 ≡ q.1 = cc in
    p.3 ∙ ap (λ (k : ℕ). first_arc k ∷ second_arc k ∷ p.1) n
    ∙ ap (λ (l : List ℕ). first_arc q.0 ∷ second_arc q.0 ∷ l) ns ∙ sym q.3

-- what a reading says of the octets
pub Told : List ℕ → Result (List ℕ) ContentsError → Type 0
Told octets (Ok arcs) = IsContents arcs octets × FitU32 arcs
Told octets (Err Malformed) = (arcs : List ℕ) → ¬ (IsContents arcs octets)
Told octets (Err ArcTooLarge) = (arcs : List ℕ) × IsContents arcs octets × ¬ (FitU32 arcs)
Told octets (Err Memory) = ⊥

told_of : (octets : List ℕ) (r : Numbers) → All (λ octet. octet < 256) octets → numbers_of octets ≡ r
    → Told octets (arcs_of_numbers r)
unfolding Told
told_of octets None are e = λ arcs c. none_is_no_some _ (sym e ∙ numbers_of_contents arcs octets c)
told_of octets (Some []) are e = λ arcs c.
    let p = arcs_by_numbers arcs octets c in
    let no : ◌≡◌ {A = List ℕ} [] (p.0 ∷ p.1) = same_numbers _ _ (sym e ∙ numbers_of_contents arcs octets c) ∙ p.2 in
    absurd cc
told_of octets (Some (n ∷ ns)) are e =
    by_test (leb n largest_first && list_all other_fits ns) refl
  where
    contents : IsContents (first_arc n ∷ second_arc n ∷ ns) octets
    contents = record {
      valid = valid_back n ns;
      two = omega arith;
      spelled =
          subst (λ (l : List ℕ). AreSubidentifiers l octets) (sym (numbers_back n ns))
          (subidentifiers_read octets (n ∷ ns) are e);
    }

    by_test : (b : Bool) → (leb n largest_first && list_all other_fits ns) ≡ b
        → Told octets (cond b (Ok (first_arc n ∷ second_arc n ∷ ns)) (Err ArcTooLarge))
    by_test true t = (contents, fits_from_test n ns t)
    by_test false t = (
      first_arc n ∷ second_arc n ∷ ns,
      contents,
      λ fit. absurd (let no : true ≡ false = sym (test_from_fits n ns fit) ∙ t in cc),
    )

pub told : (octets : List ℕ) → All (λ octet. octet < 256) octets → Told octets (contents_reading octets)
unfolding contents_reading
told octets are = told_of octets (numbers_of octets) are refl

-- ---- and what contents say of a reading

abbrev Reading : Type 0
Reading = Result (List ℕ) ContentsError

pub contents_read : (arcs octets : List ℕ) → All (λ octet. octet < 256) octets → IsContents arcs octets → FitU32 arcs
    → contents_reading octets ≡ Ok arcs
unfolding Told
contents_read arcs octets are c fit = by_reading (contents_reading octets) refl (told octets are)
  where
    by_reading : (r : Reading) → contents_reading octets ≡ r → Told octets r → contents_reading octets ≡ Ok arcs
    by_reading (Ok xs) e t = e ∙ ap (λ (l : List ℕ). Ok l) (one_list_of_arcs xs arcs octets t.0 c)
    by_reading (Err Malformed) e t = absurd (t arcs c)
    by_reading (Err ArcTooLarge) e t = absurd (t.2 (subst FitU32 (one_list_of_arcs arcs t.0 octets c t.1) fit))
    by_reading (Err Memory) e t = absurd t

pub large_read : (arcs octets : List ℕ) → All (λ octet. octet < 256) octets → IsContents arcs octets → ¬ (FitU32 arcs)
    → contents_reading octets ≡ Err ArcTooLarge
unfolding Told
large_read arcs octets are c large = by_reading (contents_reading octets) refl (told octets are)
  where
    by_reading : (r : Reading) → contents_reading octets ≡ r → Told octets r → contents_reading octets ≡ Err ArcTooLarge
    by_reading (Ok xs) e t = absurd (large (subst FitU32 (one_list_of_arcs xs arcs octets t.0 c) t.1))
    by_reading (Err Malformed) e t = absurd (t arcs c)
    by_reading (Err ArcTooLarge) e t = e
    by_reading (Err Memory) e t = absurd t

pub none_read : (octets : List ℕ) → All (λ octet. octet < 256) octets → ((arcs : List ℕ) → ¬ (IsContents arcs octets))
    → contents_reading octets ≡ Err Malformed
unfolding Told
none_read octets are none = by_reading (contents_reading octets) refl (told octets are)
  where
    by_reading : (r : Reading) → contents_reading octets ≡ r → Told octets r → contents_reading octets ≡ Err Malformed
    by_reading (Ok xs) e t = absurd (none xs t.0)
    by_reading (Err Malformed) e t = e
    by_reading (Err ArcTooLarge) e t = absurd (none t.0 t.1)
    by_reading (Err Memory) e t = absurd t

-- the other way round, by the error
pub arcs_from_reading : (arcs octets : List ℕ) → All (λ octet. octet < 256) octets → contents_reading octets ≡ Ok arcs
    → IsContents arcs octets × FitU32 arcs
unfolding Told
arcs_from_reading arcs octets are e = subst (λ (r : Reading). Told octets r) e (told octets are)

pub large_from_reading : (octets : List ℕ) → All (λ octet. octet < 256) octets
    → contents_reading octets ≡ Err ArcTooLarge → (arcs : List ℕ) × IsContents arcs octets × ¬ (FitU32 arcs)
unfolding Told
large_from_reading octets are e = subst (λ (r : Reading). Told octets r) e (told octets are)

pub none_from_reading : (octets : List ℕ) → All (λ octet. octet < 256) octets → contents_reading octets ≡ Err Malformed
    → (arcs : List ℕ) → ¬ (IsContents arcs octets)
unfolding Told
none_from_reading octets are e = subst (λ (r : Reading). Told octets r) e (told octets are)

pub no_want_of_memory : (octets : List ℕ) → All (λ octet. octet < 256) octets → contents_reading octets ≡ Err Memory → ⊥
unfolding Told
no_want_of_memory octets are e = subst (λ (r : Reading). Told octets r) e (told octets are)
