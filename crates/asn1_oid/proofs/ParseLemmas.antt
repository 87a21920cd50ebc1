-- The arcs of a dotted text, part by part.
use Rattle.std.proofs.Common.{◌≡◌, ◌≢◌, ℕ, ◌+◌, ◌*◌, ◌^◌, ◌<◌, ◌≤◌, eqb, min, Option, Some, None, List, [], ◌∷◌, ◌++◌, length, map, get_or, take, drop, sym, ap, subst, ◌∙◌, arith, append-nil, append_assoc}
use Rattle.std.specs.Prelude.{All, IfSome, IfNone}
use Rattle.std.specs.Borrow.{Bor}
use Rattle.std.specs.Option.{option_map_or}
use Rattle.std.specs.List.{slice_split}
use Rattle.std.specs.Fmt.{decimal}
use Rattle.std.proofs.lemmas.Fmt.{decimal_nonempty}
use Rattle.std.proofs.Math.ListN.{set}
use Rattle.std.proofs.Math.Seq.{take-append_seam, set-append_seam}
use Rattle.std.proofs.lemmas.List.{length-set, length-append, drop_more, drop_all, set_past, map-append}
use Rattle.std.proofs.lemmas.List.Elements.{All-nil, All-cons, All-append, All-head, All-tail}
use Rattle.asn1_oid.specs.Arcs.{IsValidArcs}
use Rattle.asn1_oid.specs.DottedText.{IsDottedText}
use Rattle.asn1_oid.specs.Laws.DottedLaws.{dotted_of_split, parts_are, same_arcs}

-- the parts of what is left, and how many octets it may have
abbrev pub parts_left : Option (Bor (List ℕ)) → List (List ℕ)
parts_left left = option_map_or (λ here. slice_split (λ b. eqb b 46) here.now) left []

abbrev pub octets_left : Option (Bor (List ℕ)) → ℕ
octets_left left = option_map_or (λ here. length here.now + 1) left 0

-- arcs were read, and their numbers stored wherever the room has an entry
pub record Reads (text : List ℕ) (left : Option (Bor (List ℕ))) (count : ℕ) (front room initial : List ℕ) : Type 0 where
  pub done : List ℕ
  pub parts : slice_split (λ b. eqb b 46) text ≡ map decimal done ++ parts_left left
  pub fit : All (λ n. n < 2 ^ 32) done
  pub counted : count ≡ length done
  pub front_two : length front ≡ 2
  pub firsts : take (min count 2) front ≡ take 2 done
  pub written : count ≤ length initial → room ≡ done ++ drop count initial
  pub kept : length room ≡ length initial
  pub few : 2 * count + octets_left left ≤ length text + 1

firsts_more : (front done : List ℕ) (count n : ℕ) → count ≡ length done → length front ≡ 2
    → take (min count 2) front ≡ take 2 done
    → take (min (count + 1) 2) (set front count n) ≡ take 2 (done ++ n ∷ [])
firsts_more [] done count n e l f = absurd (omega arith)
firsts_more (a ∷ []) done count n e l f = absurd (omega arith)
firsts_more (a ∷ b ∷ c ∷ more) done count n e l f = absurd (omega arith)
firsts_more (a ∷ b ∷ []) [] count n e l f = ap (λ k. take (min (k + 1) 2) (set (a ∷ b ∷ []) k n)) e
firsts_more (a ∷ b ∷ []) (x ∷ []) count n e l f =
    let is : count ≡ 1 = omega arith in
    let same : a ≡ x = one (ap (λ k. take (min k 2) (a ∷ b ∷ [])) (sym is) ∙ f) in
    ap (λ k. take (min (k + 1) 2) (set (a ∷ b ∷ []) k n)) is ∙ ap (λ y. y ∷ n ∷ []) same
  where
    one : a ∷ [] ≡ x ∷ [] → a ≡ x
    one h = cc
firsts_more (a ∷ b ∷ []) (x ∷ y ∷ more) count n e l f =
    let two : min (count + 1) 2 ≡ 2 = omega arith in
    let was : min count 2 ≡ 2 = omega arith in
    ap (λ k. take k (set (a ∷ b ∷ []) count n)) two ∙ ap (take 2) (set_past (a ∷ b ∷ []) count n (omega arith))
    ∙ ap (λ k. take k (a ∷ b ∷ [])) (sym was) ∙ f

room_more : (room initial done : List ℕ) (count n : ℕ) → count ≡ length done → count + 1 ≤ length initial
    → room ≡ done ++ drop count initial
    → set room count n ≡ (done ++ n ∷ []) ++ drop (count + 1) initial
room_more room initial done count n e le w =
    ap (λ r. set r count n) (w ∙ ap (λ t. done ++ t) (drop_more initial count 0 (omega arith)))
    ∙ ap (λ k. set (done ++ (get_or initial count 0 ∷ drop (count + 1) initial)) k n) e
    ∙ set-append_seam done (get_or initial count 0) (drop (count + 1) initial) n
    ∙ sym (append_assoc done (n ∷ []) (drop (count + 1) initial))

pub reads_more : (text : List ℕ) (here : Bor (List ℕ)) (behind : Option (Bor (List ℕ))) (part : List ℕ) (count n : ℕ)
    (front room initial : List ℕ)
    → Reads text (Some here) count front room initial → slice_split (λ b. eqb b 46) here.now ≡ part ∷ parts_left behind
    → decimal n ≡ part → n < 2 ^ 32
    → length part + octets_left behind ≤ length here.now
    → Reads text behind (count + 1) (set front count n) (set room count n) initial
reads_more text here behind part count n front room initial r parts is lt few = record {
  done = r.done ++ n ∷ [];
  parts = r.parts ∙ ap (λ l. map decimal r.done ++ l) (parts ∙ ap (λ p. p ∷ parts_left behind) (sym is))
      ∙ sym (append_assoc (map decimal r.done) (decimal n ∷ []) (parts_left behind))
      ∙ ap (λ l. l ++ parts_left behind) (sym (map-append decimal r.done (n ∷ [])));
  fit =
      All-append (λ m. m < 2 ^ 32) r.done (n ∷ []) r.fit
      (All-cons (λ m. m < 2 ^ 32) n [] lt (All-nil (λ m. m < 2 ^ 32)));
  counted = let c = r.counted in omega (arith, length-append r.done (n ∷ []));
  front_two = length-set front count n ∙ r.front_two;
  firsts = firsts_more front r.done count n r.counted r.front_two r.firsts;
  written = λ le. room_more room initial r.done count n r.counted le (r.written (omega arith));
  kept = length-set room count n ∙ r.kept;
  few = let f = r.few in let some = decimal_nonempty n (omega arith) in omega (arith, ap length is);
}

-- a part that is no decimal is in no dotted text
record Among (n : ℕ) (p : List ℕ) : Type 0 where
  fits : n < 2 ^ 32
  is : decimal n ≡ p

among : (arcs done : List ℕ) (p : List ℕ) (ps : List (List ℕ)) → All (λ n. n < 2 ^ 32) arcs
    → map decimal arcs ≡ map decimal done ++ (p ∷ ps) → (n : ℕ) × Among n p
among [] [] p ps fit e = absurd cc
among [] (y ∷ ys) p ps fit e = absurd cc
among (x ∷ xs) [] p ps fit e = let h : decimal x ≡ p =
    cc in (x, record { fits = All-head (λ n. n < 2 ^ 32) x xs fit; is = h })
among (x ∷ xs) (y ∷ ys) p ps fit e = let t : map decimal xs ≡ map decimal ys ++ (p ∷ ps) =
    cc in among xs ys p ps (All-tail (λ n. n < 2 ^ 32) x xs fit) t

pub no_number : (text : List ℕ) (here : Bor (List ℕ)) (behind : Option (Bor (List ℕ))) (part : List ℕ) (count : ℕ)
    (front room initial : List ℕ)
    → Reads text (Some here) count front room initial → slice_split (λ b. eqb b 46) here.now ≡ part ∷ parts_left behind
    → ((n : ℕ) → n < 2 ^ 32 → decimal n ≢ part)
    → (arcs : List ℕ) → IsDottedText arcs text → ⊥
no_number text here behind part count front room initial r parts none arcs d =
    let a =
    among arcs r.done part (parts_left behind) d.fit
    (sym (parts_are arcs text d) ∙ r.parts ∙ ap (λ l. map decimal r.done ++ l) parts) in
    none a.0 a.1.fits a.1.is

-- the first two arcs say whether all are valid
valid_front : (arcs : List ℕ) → IsValidArcs arcs → IsValidArcs (take 2 arcs)
valid_front [] v = v
valid_front (x ∷ []) v = v
valid_front (x ∷ y ∷ more) v =
    record { some = omega arith; first = v.first; second = λ lt two. v.second lt (omega arith) }

valid_all : (arcs : List ℕ) → IsValidArcs (take 2 arcs) → IsValidArcs arcs
valid_all [] v = v
valid_all (x ∷ []) v = v
valid_all (x ∷ y ∷ more) v =
    record { some = omega arith; first = v.first; second = λ lt two. v.second lt (omega arith) }

pub all_read : (text : List ℕ) (count : ℕ) (front room initial : List ℕ)
    → (r : Reads text None count front room initial) → IsValidArcs (take (min count 2) front) → IsDottedText r.done text
all_read text count front room initial r v = record {
  valid = valid_all r.done (subst IsValidArcs r.firsts v);
  fit = r.fit;
  spelled = dotted_of_split text r.done (r.parts ∙ append-nil (map decimal r.done));
}

pub none_valid : (text : List ℕ) (count : ℕ) (front room initial : List ℕ) → Reads text None count front room initial
    → ¬ (IsValidArcs (take (min count 2) front))
    → (arcs : List ℕ) → IsDottedText arcs text → ⊥
none_valid text count front room initial r wrong arcs d =
    let same =
    same_arcs arcs r.done d.fit r.fit (sym (parts_are arcs text d) ∙ r.parts ∙ append-nil (map decimal r.done)) in
    wrong (subst IsValidArcs (sym r.firsts) (valid_front r.done (subst IsValidArcs same d.valid)))

pub part_few : (part here : ℕ) (behind : Option (Bor (List ℕ))) → IfSome behind (λ b. part + 1 + length b.now ≡ here)
    → IfNone behind (part ≡ here) → part + octets_left behind ≤ here
part_few part here (Some b) some none = omega arith
part_few part here None some none = omega arith

-- room of as many places as there are arcs holds these
pub filled : (arcs room old items : List ℕ) (k len : ℕ) → k ≡ length arcs → length old ≡ k → len ≡ k
    → (k ≤ length old → room ≡ arcs ++ drop k old)
    → take len (room ++ drop (length room) items) ≡ arcs
filled arcs room old items k len is size all w =
    let none : drop k old ≡ [] = drop_all k old (omega (arith, size)) in
    let same : room ≡ arcs = w (omega (arith, size)) ∙ ap (λ t. arcs ++ t) none ∙ append-nil arcs in
    ap (λ n. take n (room ++ drop (length room) items)) (all ∙ is ∙ ap length (sym same))
    ∙ take-append_seam room (drop (length room) items) ∙ same
