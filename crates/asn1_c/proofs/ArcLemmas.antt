-- The arcs of contents, read octet by octet.
use Rattle.std.proofs.Common.{◌≡◌, ◌≢◌, ℕ, zero, suc, ◌+◌, ◌*◌, ◌%◌, ◌^◌, ◌<◌, ◌≤◌, Bool, true, false, cond, leb, List, [], ◌∷◌, ◌++◌, length, take, drop, get_or, min, Option, Some, None, Result, Ok, Err, refl, sym, ap, subst, ◌∙◌, append_assoc, arith}
use Rattle.std.specs.Prelude.{◌&&◌}
use Rattle.std.specs.List.{list_all}
use Rattle.std.proofs.lemmas.Bool.{leb-true, and_parts}
use Rattle.std.proofs.Math.ListN.{set}
use Rattle.std.proofs.lemmas.List.{append-nil, drop_more, drop_all, length-append, length-take}
use Rattle.std.proofs.lemmas.List.Folds.{list_all-append}
use Rattle.asn1_oid.specs.declared.contents.ContentsError.{ContentsError}
use Rattle.asn1_oid.specs.declared.contents.ContentsError.TheVariants.{ArcTooLarge}
use Rattle.asn1_oid.specs.Reading.{with_front as behind, numbers_from, numbers_of, first_arc, second_arc, largest_first, other_fits, arcs_of_numbers, contents_reading}
use Rattle.asn1_oid.specs.Laws.ReadingLaws.{ends, goes_on}
use Rattle.asn1_c.specs.Arcs.{more_arcs}

-- the arcs of all numbers
pub arcs_from : List ℕ → List ℕ
arcs_from [] = []
arcs_from (n ∷ ns) = first_arc n ∷ second_arc n ∷ ns

pub arcs_from-push : (ns : List ℕ) (n : ℕ) → arcs_from (ns ++ n ∷ []) ≡ more_arcs (arcs_from ns) n
unfolding arcs_from
arcs_from-push [] n = refl
arcs_from-push (x ∷ xs) n = refl

length-arcs_from-append : (ns ms : List ℕ) → length (arcs_from ns) ≤ length (arcs_from (ns ++ ms))
unfolding arcs_from
length-arcs_from-append [] ms = omega arith
length-arcs_from-append (x ∷ xs) ms = omega (arith, length-append xs ms)

-- all numbers are present, and fit
pub record AllFit (octets : List ℕ) (arcs : List ℕ) : Type 0 where
  pub first : ℕ
  pub others : List ℕ
  pub read : numbers_of octets ≡ Some (first ∷ others)
  pub tested : (leb first largest_first && list_all other_fits others) ≡ true
  pub arcs_are : arcs_from (first ∷ others) ≡ arcs

all_fit_of : (octets : List ℕ) (arcs : List ℕ) (r : Option (List ℕ)) → numbers_of octets ≡ r
    → arcs_of_numbers r ≡ Ok arcs → AllFit octets arcs
unfolding arcs_from
all_fit_of octets arcs None e h = absurd cc
all_fit_of octets arcs (Some []) e h = absurd cc
all_fit_of octets arcs (Some (n ∷ ns)) e h = by_test (leb n largest_first && list_all other_fits ns) refl h
  where
    these : List ℕ
    these = first_arc n ∷ second_arc n ∷ ns

    by_test : (b : Bool) → (leb n largest_first && list_all other_fits ns) ≡ b
        → cond b (Ok these) (Err ArcTooLarge) ≡ Ok arcs → AllFit octets arcs
    by_test true t g = record { first = n; others = ns; read = e; tested = t; arcs_are = ok_is g }
      where
        ok_is : ◌≡◌ {A = Result (List ℕ) ContentsError} (Ok these) (Ok arcs) → these ≡ arcs
        ok_is i = cc
    by_test false t g = absurd cc

pub all_fit : (octets arcs : List ℕ) → contents_reading octets ≡ Ok arcs → AllFit octets arcs
unfolding contents_reading
all_fit octets arcs e = all_fit_of octets arcs (numbers_of octets) refl e

-- up to index i of the octets, numbers are done, and one may have begun, whose number is told as far as it can fit
pub record Reads (octets : List ℕ) (i told : ℕ) (arcs : List ℕ) : Type 0 where
  pub begun : Bool
  pub n : ℕ
  pub done : List ℕ
  pub as_told : told ≡ min n 4294967376
  pub read : numbers_of octets ≡ behind done (numbers_from begun n (drop i octets))
  pub arcs_are : arcs ≡ arcs_from done

pub reads_none : (octets : List ℕ) → Reads octets 0 0 []
unfolding arcs_from
reads_none octets =
    record { begun = false; n = 0; done = []; as_told = omega arith; read = front (numbers_of octets); arcs_are = refl }
  where
    front : (r : Option (List ℕ)) → r ≡ behind [] r
    front (Some ns) = refl
    front None = refl

next_octet : (octets : List ℕ) (i : ℕ) → i < length octets → drop i octets ≡ get_or octets i 0 ∷ drop (i + 1) octets
next_octet octets i lt = drop_more octets i 0 lt

some_is_no_none : (ns : List ℕ) → ◌≡◌ {A = Option (List ℕ)} (Some ns) None → ⊥
some_is_no_none ns e = cc

behind_none : (done : List ℕ) (r : Option (List ℕ)) → r ≡ None → behind done r ≡ None
behind_none done r e = ap (behind done) e

begins_with_80 : (n : ℕ) (rest : List ℕ) → numbers_from false n (128 ∷ rest) ≡ None
unfolding numbers_from
begins_with_80 n rest = refl

-- an octet that does not end its subidentifier
pub reads_on : (octets : List ℕ) (i told : ℕ) (arcs all : List ℕ) → AllFit octets all → Reads octets i told arcs
    → i < length octets → 128 ≤ get_or octets i 0
    → Reads octets (i + 1) (min (128 * told + get_or octets i 0 % 128) 4294967376) arcs
reads_on octets i told arcs all a r lt ge = record {
  begun = true;
  n = 128 * r.n + octet % 128;
  done = r.done;
  as_told = let t = r.as_told in omega arith;
  read = here ∙ ap (behind r.done) (goes_on r.begun r.n octet rest ge first);
  arcs_are = r.arcs_are;
}
  where
    octet : ℕ
    octet = get_or octets i 0

    rest : List ℕ
    rest = drop (i + 1) octets

    here : numbers_of octets ≡ behind r.done (numbers_from r.begun r.n (octet ∷ rest))
    here = r.read ∙ ap (λ (l : List ℕ). behind r.done (numbers_from r.begun r.n l)) (next_octet octets i lt)

    none : r.begun ≡ false → octet ≡ 128 → numbers_from r.begun r.n (octet ∷ rest) ≡ None
    none b e = ap (λ (x : Bool). numbers_from x r.n (octet ∷ rest)) b
        ∙ ap (λ (k : ℕ). numbers_from false r.n (k ∷ rest)) e ∙ begins_with_80 r.n rest

    first : r.begun ≡ false → octet ≢ 128
    first b e = some_is_no_none _ (sym a.read ∙ here ∙ behind_none r.done _ (none b e))

behind_more : (front : List ℕ) (n : ℕ) (r : Option (List ℕ))
    → behind front (behind (n ∷ []) r) ≡ behind (front ++ n ∷ []) r
behind_more front n (Some ns) = ap (λ (l : List ℕ). Some l) (sym (append_assoc front (n ∷ []) ns))
behind_more front n None = refl

-- one number more, and those after it
record Splits (all done : List ℕ) (n : ℕ) : Type 0 where
  rest : List ℕ
  parts : all ≡ (done ++ n ∷ []) ++ rest

splits : (all done : List ℕ) (n : ℕ) (r : Option (List ℕ)) → Some all ≡ behind (done ++ n ∷ []) r → Splits all done n
splits all done n (Some ns) e = record { rest = ns; parts = some_is _ _ e }
  where
    some_is : (a b : List ℕ) → ◌≡◌ {A = Option (List ℕ)} (Some a) (Some b) → a ≡ b
    some_is a b i = cc
splits all done n None e = absurd (some_is_no_none _ e)

-- what follows from an octet that ends a subidentifier
pub record Ends (octets : List ℕ) (i told : ℕ) (arcs all : List ℕ) : Type 0 where
  pub first : arcs ≡ [] → told ≤ 4294967375
  pub other : arcs ≢ [] → told < 2 ^ 32
  pub next : Reads octets (i + 1) 0 (more_arcs arcs told)
  pub few : length (more_arcs arcs told) ≤ length all

fits_first : (first : ℕ) (others done rest : List ℕ) (n : ℕ)
    → (leb first largest_first && list_all other_fits others) ≡ true
    → first ∷ others ≡ (done ++ n ∷ []) ++ rest → (done ≡ [] → n ≤ 4294967375) × (done ≢ [] → n < 2 ^ 32)
fits_first first others [] rest n t e =
    let same : first ≡ n = cc in
    let le = leb-true first largest_first (and_parts _ _ t).0 in
    (λ z. omega arith, λ ne. absurd (ne refl))
fits_first first others (x ∷ xs) rest n t e =
    let tail : others ≡ (xs ++ n ∷ []) ++ rest = cc in
    let all : list_all other_fits ((xs ++ n ∷ []) ++ rest) ≡ true = sym (ap (list_all other_fits) tail)
    ∙ (and_parts (leb first largest_first) (list_all other_fits others) t).1 in
    let front =
    and_parts (list_all other_fits (xs ++ n ∷ [])) (list_all other_fits rest)
    (sym (list_all-append other_fits (xs ++ n ∷ []) rest) ∙ all) in
    let last =
    and_parts (list_all other_fits xs) (list_all other_fits (n ∷ []))
    (sym (list_all-append other_fits xs (n ∷ [])) ∙ front.0) in
    let le = leb-true n 4294967295 (and_parts (other_fits n) true last.1).0 in
    (λ z. absurd cc, λ ne. omega arith)

empty_arcs : (ns : List ℕ) → arcs_from ns ≡ [] → ns ≡ []
unfolding arcs_from
empty_arcs [] e = refl
empty_arcs (x ∷ xs) e = absurd cc

no_arcs : (ns : List ℕ) → ns ≡ [] → arcs_from ns ≡ []
unfolding arcs_from
no_arcs ns e = ap arcs_from e

pub reads_end : (octets : List ℕ) (i told : ℕ) (arcs all : List ℕ) → AllFit octets all → Reads octets i told arcs
    → i < length octets → get_or octets i 0 < 128
    → Ends octets i (min (128 * told + get_or octets i 0 % 128) 4294967376) arcs all
reads_end octets i told arcs all a r lt small = record {
  first = λ e. (let le = fit.0 (empty_arcs r.done (sym r.arcs_are ∙ e)) in omega arith);
  other = λ ne. (let le = fit.1 (λ e. ne (r.arcs_are ∙ no_arcs r.done e)) in omega arith);
  next = record {
    begun = false;
    n = 0;
    done = r.done ++ m ∷ [];
    as_told = omega arith;
    read = whole;
    arcs_are = more;
  };
  few =
      omega (
        arith,
        ap length more,
        ap length a.arcs_are,
        ap (λ (l : List ℕ). length (arcs_from l)) split.parts,
        length-arcs_from-append (r.done ++ m ∷ []) split.rest,
      );
}
  where
    octet : ℕ
    octet = get_or octets i 0

    rest : List ℕ
    rest = drop (i + 1) octets

    m : ℕ
    m = 128 * r.n + octet % 128

    whole : numbers_of octets ≡ behind (r.done ++ m ∷ []) (numbers_of rest)
    whole =
        r.read ∙ ap (λ (l : List ℕ). behind r.done (numbers_from r.begun r.n l)) (next_octet octets i lt)
        ∙ ap (behind r.done) (ends r.begun r.n octet rest small) ∙ behind_more r.done m (numbers_of rest)

    split : Splits (a.first ∷ a.others) r.done m
    split = splits (a.first ∷ a.others) r.done m (numbers_of rest) (sym a.read ∙ whole)

    fit : (r.done ≡ [] → m ≤ 4294967375) × (r.done ≢ [] → m < 2 ^ 32)
    fit = fits_first a.first a.others r.done split.rest m a.tested split.parts

    below : m ≤ 4294967375
    below = by_done r.done fit
      where
        by_done : (d : List ℕ) → (d ≡ [] → m ≤ 4294967375) × (d ≢ [] → m < 2 ^ 32) → m ≤ 4294967375
        by_done [] f = f.0 refl
        by_done (x ∷ xs) f = let lt = f.1 (λ e. absurd cc) in omega arith

    told_is : min (128 * told + octet % 128) 4294967376 ≡ m
    told_is = let t = r.as_told in let le = below in omega arith

    more : more_arcs arcs (min (128 * told + octet % 128) 4294967376) ≡ arcs_from (r.done ++ m ∷ [])
    more = ap (more_arcs arcs) told_is ∙ ap (λ (l : List ℕ). more_arcs l m) r.arcs_are ∙ sym (arcs_from-push r.done m)

-- at the end
pub reads_all : (octets : List ℕ) (i told : ℕ) (arcs all : List ℕ) → AllFit octets all → Reads octets i told arcs
    → length octets ≤ i → arcs ≡ all
unfolding numbers_from
reads_all octets i told arcs all a r le = by_begun r.begun refl
  where
    end : (b : Bool) → r.begun ≡ b → numbers_of octets ≡ behind r.done (numbers_from b r.n [])
    end b e = r.read ∙ ap (λ (l : List ℕ). behind r.done (numbers_from r.begun r.n l)) (drop_all i octets le)
        ∙ ap (λ (x : Bool). behind r.done (numbers_from x r.n [])) e

    some_is : (x y : List ℕ) → ◌≡◌ {A = Option (List ℕ)} (Some x) (Some y) → x ≡ y
    some_is x y h = cc

    by_begun : (b : Bool) → r.begun ≡ b → arcs ≡ all
    by_begun true e = absurd (some_is_no_none _ (sym a.read ∙ end true e))
    by_begun false e =
        let same : a.first ∷ a.others ≡ r.done =
        some_is _ _ (sym a.read ∙ end false e ∙ ap (λ (l : List ℕ). Some l) (append-nil r.done)) in
        r.arcs_are ∙ ap arcs_from (sym same) ∙ a.arcs_are

-- ---- the steps, by the code's numbers

number_is : (told number x d : ℕ) → number ≡ min (128 * told + x) 4294967376 → x ≡ d % 128
    → min (128 * told + d % 128) 4294967376 ≡ number
number_is told number x d e f = omega arith

pub ended : (octets : List ℕ) (i told number x : ℕ) (arcs all : List ℕ) → contents_reading octets ≡ Ok all
    → Reads octets i told arcs → i < length octets → get_or octets i 0 < 128
    → number ≡ min (128 * told + x) 4294967376 → x ≡ get_or octets i 0 % 128 → Ends octets i number arcs all
ended octets i told number x arcs all a r lt small e f =
    subst (λ (k : ℕ). Ends octets i k arcs all) (number_is told number x (get_or octets i 0) e f)
    (reads_end octets i told arcs all (all_fit octets all a) r lt small)

pub continued : (octets : List ℕ) (i told number x : ℕ) (arcs all : List ℕ) → contents_reading octets ≡ Ok all
    → Reads octets i told arcs → i < length octets → 128 ≤ get_or octets i 0
    → number ≡ min (128 * told + x) 4294967376 → x ≡ get_or octets i 0 % 128 → Reads octets (i + 1) number arcs
continued octets i told number x arcs all a r lt ge e f =
    subst (λ (k : ℕ). Reads octets (i + 1) k arcs) (number_is told number x (get_or octets i 0) e f)
    (reads_on octets i told arcs all (all_fit octets all a) r lt ge)

pub written : (octets : List ℕ) (i told : ℕ) (arcs all : List ℕ) → contents_reading octets ≡ Ok all
    → Reads octets i told arcs → length octets ≤ i → contents_reading octets ≡ Ok arcs
written octets i told arcs all a r le = a
    ∙ ap (λ (l : List ℕ). Ok l) (sym (reads_all octets i told arcs all (all_fit octets all a) r le))

pub two_written : (room : List ℕ) (x y : ℕ) → 2 ≤ length room → take 2 (set (set room 0 x) 1 y) ≡ x ∷ y ∷ []
two_written [] x y le = absurd (omega arith)
two_written (a ∷ []) x y le = absurd (omega arith)
two_written (a ∷ b ∷ rest) x y le = refl

pub none_before : (room : List ℕ) (count : ℕ) → count ≡ 0 → take count room ≡ []
none_before room count e = ap (λ (k : ℕ). take k room) e

pub some_before : (room : List ℕ) (count : ℕ) → count ≤ length room → count ≢ 0 → take count room ≢ []
some_before room count le ne e = let n : length (take count room) ≡ 0 =
    ap length e in absurd (ne (omega (arith, length-take count room)))

-- ---- arcs that are counted

-- up to index `i` of the octets `count` arcs are done
pub record Counted (octets : List ℕ) (i count : ℕ) : Type 0 where
  pub told : ℕ
  pub arcs : List ℕ
  pub reads : Reads octets i told arcs
  pub count_is : count ≡ length arcs

pub counted_none : (octets : List ℕ) → Counted octets 0 0
counted_none octets = record { told = 0; arcs = []; reads = reads_none octets; count_is = refl }

pub counted_on : (octets : List ℕ) (i count : ℕ) (all : List ℕ) → contents_reading octets ≡ Ok all
    → Counted octets i count → i < length octets → 128 ≤ get_or octets i 0 → Counted octets (i + 1) count
counted_on octets i count all a c lt ge = record {
  told = _;
  arcs = c.arcs;
  reads = reads_on octets i c.told c.arcs all (all_fit octets all a) c.reads lt ge;
  count_is = c.count_is;
}

length-more_arcs : (arcs : List ℕ) (n count new : ℕ) → count ≡ length arcs → (count ≡ 0 → new ≡ 2)
    → (count ≢ 0 → new ≡ count + 1) → new ≡ length (more_arcs arcs n)
length-more_arcs [] n count new e first other = first e
length-more_arcs (x ∷ xs) n count new e first other =
    other (λ z. omega arith) ∙ omega (arith, length-append (x ∷ xs) (n ∷ []))

pub counted_end : (octets : List ℕ) (i count new : ℕ) (all : List ℕ) → contents_reading octets ≡ Ok all
    → Counted octets i count → i < length octets → get_or octets i 0 < 128
    → (count ≡ 0 → new ≡ 2) → (count ≢ 0 → new ≡ count + 1) → Counted octets (i + 1) new
counted_end octets i count new all a c lt small first other =
    let e = reads_end octets i c.told c.arcs all (all_fit octets all a) c.reads lt small in
    record {
      told = 0;
      arcs = _;
      reads = e.next;
      count_is = length-more_arcs c.arcs _ count new c.count_is first other;
    }

pub counted_all : (octets : List ℕ) (i count : ℕ) (all : List ℕ) → contents_reading octets ≡ Ok all
    → Counted octets i count → length octets ≤ i → count ≡ length all
counted_all octets i count all a c le =
    c.count_is ∙ ap length (reads_all octets i c.told c.arcs all (all_fit octets all a) c.reads le)

-- there are no more than one arc more than octets
pub most_next : (count new i : ℕ) → count ≤ i + 1 → (count ≡ 0 → new ≡ 2) → (count ≢ 0 → new ≡ count + 1)
    → new ≤ i + 1 + 1
most_next zero new i le first other = let e = first refl in omega arith
most_next (suc k) new i le first other = let e = other (λ z. omega arith) in omega arith
