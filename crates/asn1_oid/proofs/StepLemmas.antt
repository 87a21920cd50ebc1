-- The steps of reading contents.
use Rattle.std.proofs.Common.{◌≡◌, ◌≢◌, ℕ, ◌+◌, ◌*◌, ◌%◌, ◌<◌, ◌≤◌, Bool, true, false, ltb, leb, List, [], ◌∷◌, ◌++◌, length, drop, get_or, min, Option, Some, None, Ok, Err, refl, sym, ap, subst, ◌∙◌, append_assoc, arith}
use Rattle.std.specs.Prelude.{◌&&◌, is_ok}
use Rattle.std.specs.List.{list_all}
use Rattle.std.proofs.lemmas.Bool.{ltb-false, lt-ltb, le-ltb, le-leb, leb-true, leb-false, and_parts}
use Rattle.std.proofs.lemmas.List.{append-nil, drop_more, drop_all}
use Rattle.std.proofs.lemmas.List.Folds.{list_all-append}
use Rattle.asn1_oid.specs.declared.contents.ContentsError.TheVariants.{Malformed, ArcTooLarge}
use Rattle.asn1_oid.specs.Reading.{with_front, numbers_from, numbers_of, first_arc, second_arc, largest_first, other_fits, contents_reading, Stands}
use Rattle.asn1_oid.specs.Laws.ReadingLaws.{ends, goes_on}

-- ---- one octet

-- the octets from an index on, and those from the next index on
next_octet : (octets : List ℕ) (i octet : ℕ) → i < length octets → octet ≡ get_or octets i 0
    → drop i octets ≡ octet ∷ drop (i + 1) octets
next_octet octets i octet lt is = drop_more octets i 0 lt ∙ ap (λ (k : ℕ). k ∷ drop (i + 1) octets) (sym is)

begins_with_80 : (n : ℕ) (rest : List ℕ) → numbers_from false n (128 ∷ rest) ≡ None
unfolding numbers_from
begins_with_80 n rest = refl

unended : (n : ℕ) → numbers_from true n [] ≡ None
unfolding numbers_from
unended n = refl

-- ---- one subidentifier

-- from an index on, octets of a subidentifier were gathered up to another
pub record Gathers (octets : List ℕ) (place i told cap : ℕ) : Type 0 where
  pub number : ℕ
  pub as_told : told ≡ min number cap
  pub since : place ≤ i
  pub read : numbers_of (drop place octets) ≡ numbers_from (ltb place i) number (drop i octets)

-- nothing is gathered where the first octet is
gathers_none : (octets : List ℕ) (place cap : ℕ) → Gathers octets place place 0 cap
gathers_none octets place cap = record {
  number = 0;
  as_told = omega arith;
  since = omega arith;
  read =
      let begun : ltb place place ≡ false = le-ltb place place (omega arith) in
      ap (λ (b : Bool). numbers_from b 0 (drop place octets)) (sym begun);
}

pub gathers_more : (octets : List ℕ) (place i told octet cap : ℕ) → 1 ≤ cap → Gathers octets place i told cap
    → i < length octets → octet ≡ get_or octets i 0 → 128 ≤ octet
    → (i ≡ place → octet ≢ 128) → Gathers octets place (i + 1) (min (128 * told + octet % 128) cap) cap
gathers_more octets place i told octet cap some g lt is ge first = record {
  number = 128 * g.number + octet % 128;
  as_told = let t = g.as_told in omega arith;
  since = let h = g.since in omega arith;
  read =
      let m : ℕ = 128 * g.number + octet % 128 in
      let h = g.since in
      let begun : ltb place (i + 1) ≡ true = lt-ltb place (i + 1) (omega arith) in
      let here : ltb place i ≡ false → octet ≢ 128 = λ f. (let le = ltb-false place i f in first (omega arith)) in
      g.read ∙ ap (numbers_from (ltb place i) g.number) (next_octet octets i octet lt is)
      ∙ goes_on (ltb place i) g.number octet (drop (i + 1) octets) ge here
      ∙ ap (λ (b : Bool). numbers_from b m (drop (i + 1) octets)) (sym begun);
}

pub stands : (octets : List ℕ) (place i told octet cap : ℕ) → 1 ≤ cap → Gathers octets place i told cap
    → i < length octets → octet ≡ get_or octets i 0 → octet < 128
    → Stands octets place (min (128 * told + octet % 128) cap) (i + 1) cap
stands octets place i told octet cap some g lt is small = record {
  number = 128 * g.number + octet % 128;
  as_told = let t = g.as_told in omega arith;
  later = let h = g.since in omega arith;
  within = omega arith;
  read = g.read ∙ ap (numbers_from (ltb place i) g.number) (next_octet octets i octet lt is)
      ∙ ends (ltb place i) g.number octet (drop (i + 1) octets) small;
}

-- the first octet, which is the last, or precedes others
pub one_stands : (octets : List ℕ) (place octet : ℕ) → place < length octets → octet ≡ get_or octets place 0
    → octet < 128 → Stands octets place octet (place + 1) 4294967376
one_stands octets place octet lt is small =
    let same : min (128 * 0 + octet % 128) 4294967376 ≡ octet = omega arith in
    subst (λ (told : ℕ). Stands octets place told (place + 1) 4294967376) same
    (stands octets place place 0 octet 4294967376 (omega arith) (gathers_none octets place 4294967376) lt is small)

pub one_gathered : (octets : List ℕ) (place octet : ℕ) → place < length octets → octet ≡ get_or octets place 0
    → 128 ≤ octet → octet ≢ 128 → Gathers octets place (place + 1) (octet % 128) 4294967376
one_gathered octets place octet lt is ge other =
    let same : min (128 * 0 + octet % 128) 4294967376 ≡ octet % 128 = omega arith in
    subst (λ (told : ℕ). Gathers octets place (place + 1) told 4294967376) same
    (gathers_more octets place place 0 octet 4294967376 (omega arith) (gathers_none octets place 4294967376) lt is ge
    (λ _. other))

-- nothing is read where the first octet is 80
pub none_from_80 : (octets : List ℕ) (place octet : ℕ) → place < length octets → octet ≡ get_or octets place 0
    → octet ≡ 128 → numbers_of (drop place octets) ≡ None
none_from_80 octets place octet lt is e =
    ap (numbers_from false 0) (next_octet octets place octet lt is ∙ ap (λ (k : ℕ). k ∷ drop (place + 1) octets) e)
    ∙ begins_with_80 0 (drop (place + 1) octets)

-- nor where the octets end first
pub none_from_end : (octets : List ℕ) (place i told cap : ℕ) → Gathers octets place i told cap → place < length octets
    → length octets ≤ i → numbers_of (drop place octets) ≡ None
none_from_end octets place i told cap g lt le =
    let begun : ltb place i ≡ true = lt-ltb place i (omega arith) in
    g.read ∙ ap (λ (b : Bool). numbers_from b g.number (drop i octets)) begun
    ∙ ap (numbers_from true g.number) (drop_all i octets le) ∙ unended g.number

-- ---- subidentifiers one after another

front_more : (front : List ℕ) (n : ℕ) (r : Option (List ℕ))
    → with_front front (with_front (n ∷ []) r) ≡ with_front (front ++ n ∷ []) r
front_more front n (Some ns) = ap (λ (l : List ℕ). Some l) (sym (append_assoc front (n ∷ []) ns))
front_more front n None = refl

same_test : (a b m : ℕ) → (a ≤ m → b ≤ m) → (b ≤ m → a ≤ m) → leb a m ≡ leb b m
same_test a b m to from = by_cases (leb a m) (leb b m) refl refl
  where
    by_cases : (x y : Bool) → leb a m ≡ x → leb b m ≡ y → leb a m ≡ leb b m
    by_cases true true e f = e ∙ sym f
    by_cases false false e f = e ∙ sym f
    by_cases true false e f = absurd (let le = to (leb-true a m e) in let lt = leb-false b m f in omega arith)
    by_cases false true e f = absurd (let le = from (leb-true b m f) in let lt = leb-false a m e in omega arith)

three : (a b c : Bool) → ((a && b) && c) ≡ (a && (b && (c && true)))
three true true true = refl
three true true false = refl
three true false c = refl
three false b c = refl

-- the numbers up to an index, and whether they all fit
pub record Walks (octets : List ℕ) (place : ℕ) (fit : Bool) : Type 0 where
  pub first : ℕ
  pub others : List ℕ
  pub tested : fit ≡ (leb first largest_first && list_all other_fits others)
  pub within : place ≤ length octets
  pub read : numbers_of octets ≡ with_front (first ∷ others) (numbers_of (drop place octets))

pub walks_more : (octets : List ℕ) (place told next : ℕ) (fit : Bool) → Walks octets place fit
    → Stands octets place told next 4294967376 → Walks octets next (fit && leb told 4294967295)
walks_more octets place told next fit w s = record {
  first = w.first;
  others = w.others ++ s.number ∷ [];
  tested =
      let last : leb told 4294967295 ≡ other_fits s.number =
      same_test told s.number 4294967295 (let t = s.as_told in λ le. omega arith)
      (let t = s.as_told in λ le. omega arith) in
      ap (λ (b : Bool). b && leb told 4294967295) w.tested
      ∙ ap (λ (b : Bool). (leb w.first largest_first && list_all other_fits w.others) && b) last
      ∙ three (leb w.first largest_first) (list_all other_fits w.others) (other_fits s.number)
      ∙ ap (λ (b : Bool). leb w.first largest_first && b) (sym (list_all-append other_fits w.others (s.number ∷ [])));
  within = s.within;
  read = w.read ∙ ap (with_front (w.first ∷ w.others)) s.read
      ∙ front_more (w.first ∷ w.others) s.number (numbers_of (drop next octets));
}

-- no octets are left
numbers_at_end : (octets : List ℕ) (place first : ℕ) (others : List ℕ)
    → numbers_of octets ≡ with_front (first ∷ others) (numbers_of (drop place octets)) → length octets ≤ place
    → numbers_of octets ≡ Some (first ∷ others)
unfolding numbers_from
numbers_at_end octets place first others read le =
    read ∙ ap (λ (l : List ℕ). with_front (first ∷ others) (numbers_of l)) (drop_all place octets le)
    ∙ ap (λ (l : List ℕ). Some l) (append-nil (first ∷ others))

pub reads_all : (octets : List ℕ) (place : ℕ) → Walks octets place true → length octets ≤ place
    → is_ok (contents_reading octets) ≡ true
unfolding contents_reading
reads_all octets place w le = rw (numbers_at_end octets place w.first w.others w.read le, sym w.tested) refl

pub reads_large : (octets : List ℕ) (place : ℕ) → Walks octets place false → length octets ≤ place
    → contents_reading octets ≡ Err ArcTooLarge
unfolding contents_reading
reads_large octets place w le = rw (numbers_at_end octets place w.first w.others w.read le, sym w.tested) refl

pub reads_none : (octets : List ℕ) → numbers_of octets ≡ None → contents_reading octets ≡ Err Malformed
unfolding contents_reading
reads_none octets e = rw e refl

pub reads_empty : (octets : List ℕ) → octets ≡ [] → contents_reading octets ≡ Err Malformed
unfolding contents_reading numbers_from
reads_empty octets e = rw e refl

pub stops : (octets : List ℕ) (place : ℕ) (fit : Bool) → Walks octets place fit → numbers_of (drop place octets) ≡ None
    → contents_reading octets ≡ Err Malformed
stops octets place fit w e = reads_none octets (w.read ∙ ap (with_front (w.first ∷ w.others)) e)

-- ---- arcs that are gathered

-- the arcs up to an index, which all fit
pub record Gathered (octets : List ℕ) (place : ℕ) (items : List ℕ) : Type 0 where
  pub first : ℕ
  pub others : List ℕ
  pub arcs : items ≡ first_arc first ∷ second_arc first ∷ others
  pub tested : (leb first largest_first && list_all other_fits others) ≡ true
  pub within : place ≤ length octets
  pub read : numbers_of octets ≡ with_front (first ∷ others) (numbers_of (drop place octets))

pub gathered_first : (octets : List ℕ) (told next : ℕ) (items : List ℕ) → Stands octets 0 told next 4294967376
    → told ≤ 4294967375 → items ≡ first_arc told ∷ second_arc told ∷ [] → Gathered octets next items
gathered_first octets told next items s le is =
    let same : told ≡ s.number = let t = s.as_told in omega arith in
    record {
      first = s.number;
      others = [];
      arcs = is ∙ ap (λ (k : ℕ). first_arc k ∷ second_arc k ∷ []) same;
      tested = rw (le-leb s.number largest_first (omega arith)) refl;
      within = s.within;
      read = s.read;
    }

pub gathered_more : (octets : List ℕ) (place told next : ℕ) (items more : List ℕ) → Gathered octets place items
    → Stands octets place told next 4294967376 → told ≤ 4294967295 → more ≡ items ++ told ∷ []
    → Gathered octets next more
gathered_more octets place told next items more w s le is =
    let same : told ≡ s.number = let t = s.as_told in omega arith in
    let p = and_parts (leb w.first largest_first) (list_all other_fits w.others) w.tested in
    record {
      first = w.first;
      others = w.others ++ s.number ∷ [];
      arcs = is ∙ ap (λ (l : List ℕ). l ++ told ∷ []) w.arcs
          ∙ ap (λ (k : ℕ). first_arc w.first ∷ second_arc w.first ∷ (w.others ++ k ∷ [])) same;
      tested =
          rw (p.0, list_all-append other_fits w.others (s.number ∷ []), p.1, le-leb s.number 4294967295 (omega arith))
          refl;
      within = s.within;
      read = w.read ∙ ap (with_front (w.first ∷ w.others)) s.read
          ∙ front_more (w.first ∷ w.others) s.number (numbers_of (drop next octets));
    }

pub gathers_all : (octets : List ℕ) (place : ℕ) (items : List ℕ) → Gathered octets place items
    → length octets ≤ place → contents_reading octets ≡ Ok items
unfolding contents_reading
gathers_all octets place items w le =
    let read : contents_reading octets ≡ Ok (first_arc w.first ∷ second_arc w.first ∷ w.others) =
    rw (numbers_at_end octets place w.first w.others w.read le, w.tested) refl in
    read ∙ ap (λ (l : List ℕ). Ok l) (sym w.arcs)
