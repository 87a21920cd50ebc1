-- Alphabets: the indices of their characters, and their widths.
use Rattle.std.proofs.Common.{◌≡◌, ℕ, zero, suc, ◌+◌, ◌-◌, ◌/◌, ◌^◌, min, max, ◌<◌, ◌≤◌, Bool, true, false, List, [], ◌∷◌, refl, sym, ◌∙◌, ap, subst, arith, inl, inr}
use Rattle.std.specs.Prelude.{◌⊎◌, nat_le, nat_lt}
use Rattle.std.proofs.Math.Pow.{pow_mono}
use Rattle.std.proofs.lemmas.Bool.{cases_lt, lt-ltb, le-ltb, ltb-false}
use Rattle.std.proofs.lemmas.Bool.Decides.{nat_tests}
use Rattle.std.proofs.lemmas.Nat.{pow_pos}
use Rattle.asn1_characters.specs.Widths.{IsLeastWidth, ceil_log2, align, width_for}
use Rattle.asn1_characters.specs.Laws.WidthLaws.{twice, ceil_log2_is_least}
use Rattle.asn1_schema.specs.declared.tables.Range.{Range}
use Rattle.asn1_schema.specs.CharactersOfParts.{characters_below, end_of, first_past, character_at}
use Rattle.asn1_schema.specs.Laws.CharacterLaws.{below_more, none_past, character_is}
use Rattle.asn1_x691.specs.Fields.{width_to}
use Rattle.asn1_x691_fields.specs.Characters.{AreAscending}
use Rattle.asn1_x691.specs.Alphabets.{IsIn, count_of, below, are_within, width_of}

-- ---- indices

pub below_same : (ranges : List Range) (c : ℕ) → below ranges c ≡ characters_below ranges c
below_same [] c = refl
below_same (r ∷ ranges) c = ap (λ (n : ℕ). ((c - r.first) - (c - (r.last + 1))) + n) (below_same ranges c)

one_more : (first last c : ℕ) → first ≤ c → c ≤ last
    → ((c - first) - (c - (last + 1))) < ((c + 1 - first) - (c + 1 - (last + 1)))
one_more first last c p q = omega (arith, p, q)

no_fewer : (first last c : ℕ) → ((c - first) - (c - (last + 1))) ≤ ((c + 1 - first) - (c + 1 - (last + 1)))
no_fewer first last c = omega arith

pub more_in : (ranges : List Range) (c : ℕ) → IsIn ranges c → characters_below ranges c < characters_below ranges (c + 1)
more_in [] c q = absurd q
more_in (r ∷ ranges) c (inl q) =
    let first = one_more r.first r.last c q.0 q.1 in
    let others = below_more ranges c (c + 1) (omega arith) in
    omega (arith, first, others)
more_in (r ∷ ranges) c (inr q) =
    let first = no_fewer r.first r.last c in
    let others = more_in ranges c q in
    omega (arith, first, others)

-- a character of the index is the one that is defined
pub index_in : (ranges : List Range) (i c : ℕ) → IsIn ranges c → characters_below ranges c ≡ i
    → IsIn ranges (character_at ranges i) × (characters_below ranges (character_at ranges i) ≡ i)
index_in ranges i c p q =
    let more = more_in ranges c p in
    let is = character_is ranges i c (omega (arith, q)) (omega (arith, q, more)) in
    subst (λ (d : ℕ). IsIn ranges d × (characters_below ranges d ≡ i)) (sym is) (p, q)

-- no other number is of the index
pub no_other : (ranges : List Range) (i c d : ℕ) → characters_below ranges c ≤ i
    → (c ≡ end_of ranges) ⊎ ((i < characters_below ranges (c + 1)) × (characters_below ranges (c + 1) < 2 ^ 128)) → IsIn ranges d
    → characters_below ranges d ≡ i → d ≡ c
no_other ranges i c d low (inl e) p q =
    let more = more_in ranges d p in
    elim (cases_lt d c) [
      | inl lt ↦ let many = below_more ranges (d + 1) c (omega (arith, lt)) in absurd (omega (arith, many, more, low, q))
      | inr le ↦ let none = none_past ranges d (d + 1) (omega (arith, e, le)) (omega arith) in absurd (omega (arith, more, none))
    ]
no_other ranges i c d low (inr high) p q =
    let more = more_in ranges d p in
    elim (cases_lt d c) [
      | inl lt ↦ let many = below_more ranges (d + 1) c (omega (arith, lt)) in absurd (omega (arith, many, more, low, q))
      | inr le ↦ elim (cases_lt c d) [
        | inl lt ↦ let many = below_more ranges (c + 1) d (omega (arith, lt)) in absurd (omega (arith, many, high.0, q))
        | inr ge ↦ omega (arith, le, ge)
      ]
    ]

-- ---- ranges that ascend

none_before : (ranges : List Range) (from c : ℕ) → AreAscending from ranges → c < from → characters_below ranges c ≡ 0
none_before [] from c a h = refl
none_before (r ∷ ranges) from c a h =
    let others = none_before ranges (r.last + 1) c a.2 (omega (arith, h, a.0, a.1)) in
    omega (arith, h, a.0, others)

record HasAt (ranges : List Range) (from i : ℕ) : Type 0 where
  character : ℕ
  later : from ≤ character
  within : IsIn ranges character
  index : characters_below ranges character ≡ i

-- each index below the count is of a character
each_index : (ranges : List Range) (from i : ℕ) → AreAscending from ranges → i < count_of ranges → HasAt ranges from i
each_index [] from i a h = absurd (omega (arith, h))
each_index (r ∷ ranges) from i a h = elim (cases_lt i (r.last + 1 - r.first)) [
  | inl lt ↦ let none = none_before ranges (r.last + 1) (r.first + i) a.2 (omega (arith, lt, a.1)) in
      record {
        character = r.first + i;
        later = omega (arith, a.0);
        within = inl (omega arith, omega (arith, lt));
        index = omega (arith, none, lt);
      }
  | inr le ↦ let g = each_index ranges (r.last + 1) (i - (r.last + 1 - r.first)) a.2 (omega (arith, h, le)) in
      record {
        character = g.character;
        later = omega (arith, a.0, a.1, g.later);
        within = inr g.within;
        index = omega (arith, a.1, g.later, g.index, le);
      }
]

-- A character of the ranges from some on, of an index among theirs, is a character of all ranges, of an index among them.
pub record LeadsOn (ranges rest : List Range) (left i : ℕ) : Type 0 where
  pub from : ℕ
  pub ascending : AreAscending from rest
  pub on : (c : ℕ) → from ≤ c → IsIn rest c → characters_below rest c ≡ left → IsIn ranges c × (characters_below ranges c ≡ i)

pub leads_first : (ranges : List Range) (i : ℕ) → AreAscending 0 ranges → LeadsOn ranges ranges i i
leads_first ranges i a = record { from = 0; ascending = a; on = λ c le p e. (p, e) }

module _ (ranges : List Range) (r : Range) (rest : List Range) (left i : ℕ) (g : LeadsOn ranges (r ∷ rest) left i) where
  pub leads_here : left < r.last + 1 - r.first → IsIn ranges (r.first + left) × (characters_below ranges (r.first + left) ≡ i)
  leads_here lt =
      let a = g.ascending in
      let none = none_before rest (r.last + 1) (r.first + left) a.2 (omega (arith, lt, a.1)) in
      g.on (r.first + left) (omega (arith, a.0)) (inl (omega arith, omega (arith, lt))) (omega (arith, none, lt))

  pub leads_past : r.last + 1 - r.first ≤ left → LeadsOn ranges rest (left - (r.last + 1 - r.first)) i
  leads_past le = record {
    from = r.last + 1;
    ascending = g.ascending.2;
    on = λ c later p e.
        let a = g.ascending in
        g.on c (omega (arith, later, a.0, a.1)) (inr p) (omega (arith, a.1, later, e, le));
  }

pub index_of_ascending : (ranges : List Range) (i : ℕ) → AreAscending 0 ranges → i < count_of ranges
    → IsIn ranges (character_at ranges i) × (characters_below ranges (character_at ranges i) ≡ i)
index_of_ascending ranges i a h = let g = each_index ranges 0 i a h in index_in ranges i g.character g.within g.index

not_more : (ranges : List Range) (c : ℕ) → characters_below ranges c ≤ count_of ranges
not_more [] c = omega arith
not_more (r ∷ ranges) c = let others = not_more ranges c in omega (arith, others)

pub no_index : (ranges : List Range) (i c : ℕ) → count_of ranges ≤ i → IsIn ranges c → characters_below ranges c ≡ i → ⊥
no_index ranges i c h p q =
    let more = more_in ranges c p in
    let few = not_more ranges (c + 1) in
    omega (arith, h, q, more, few)

-- ---- widths

pub width_of_many : (aligned : Bool) (count : ℕ) → 1 < count → width_for aligned count ≡ align aligned (ceil_log2 count)
width_of_many aligned count p =
    let e : nat_le count 1 ≡ false = grind (arith, nat_tests) in
    rw e refl

pub width_is_ceil : (count w : ℕ) → 1 < count → w ≡ width_to (count - 1) → w ≡ ceil_log2 count
unfolding width_to
width_is_ceil count w p e =
    let same : count - 1 + 1 ≡ count = omega (arith, p) in
    e ∙ ap ceil_log2 same

-- the next power of two
pub power_is_least : (w r x : ℕ) → r ≡ 2 ^ x → w ≤ r → r / 2 < max 1 w → IsLeastWidth w x
power_is_least w r x e enough half = record {
  enough = omega (arith, e, enough);
  least = λ v h. elim (cases_lt v x) [
    | inl lt ↦
        let next : v + 1 ≤ x = omega (arith, lt) in
        let up : 2 ^ (v + 1) ≤ 2 ^ x = pow_mono next in
        let some : 2 ^ 0 ≤ 2 ^ v = pow_mono (let z : 0 ≤ v = omega arith in z) in
        let double = twice v in
        absurd (omega (arith, e, half, up, some, double, h))
    | inr le ↦ le
  ];
}

pub few_bits : (w r x : ℕ) → r ≡ 2 ^ x → IsLeastWidth w x → w ≤ 128 → r ≤ 128
few_bits w r x e is few =
    let low = is.least 7 (omega (arith, few)) in
    let up : 2 ^ x ≤ 2 ^ 7 = pow_mono low in
    omega (arith, e, up)

few_width : (aligned : Bool) (count : ℕ) → count ≤ 1 → width_for aligned count ≡ 0
few_width aligned count p =
    let e : nat_le count 1 ≡ true = grind (arith, nat_tests) in
    rw e refl

align_enough : (aligned : Bool) (count w : ℕ) → count ≤ 2 ^ w → count ≤ 2 ^ align aligned w
align_enough false count w h = h
align_enough true count w h =
    let up : 2 ^ w ≤ 2 ^ (2 ^ ceil_log2 w) = pow_mono (ceil_log2_is_least w).enough in
    omega (arith, up, h)

-- `count` characters have codes of their own in their width
count_enough : (aligned : Bool) (count : ℕ) → count ≤ 2 ^ width_for aligned count
count_enough aligned count = elim (cases_lt 1 count) [
  | inl lt ↦ rw (width_of_many aligned count lt) (align_enough aligned count (ceil_log2 count) (ceil_log2_is_least count).enough)
  | inr le ↦ rw (few_width aligned count le) le
]

-- ---- codes of characters

pub index_below : (aligned : Bool) (ranges : List Range) (c : ℕ) → IsIn ranges c → characters_below ranges c < 2 ^ width_of aligned ranges
index_below aligned ranges c p =
    let more = more_in ranges c p in
    let few = not_more ranges (c + 1) in
    let enough = count_enough aligned (count_of ranges) in
    omega (arith, more, few, enough)

of_test : (b rest : Bool) → ◌≡◌ {A = Bool} (elim b as (λ x. Bool) [ true ↦ false | false ↦ rest ]) true → (b ≡ false) × (rest ≡ true)
of_test true rest e = absurd cc
of_test false rest e = (refl, e)

within_most : (ranges : List Range) (most c : ℕ) → are_within ranges most ≡ true → IsIn ranges c → c ≤ most
within_most [] most c e p = absurd p
within_most (r ∷ ranges) most c e (inl p) =
    let t = of_test (nat_lt most r.last) (are_within ranges most) e in
    let le : r.last ≤ most = ltb-false most r.last t.0 in
    omega (arith, le, p.1)
within_most (r ∷ ranges) most c e (inr p) =
    within_most ranges most c (of_test (nat_lt most r.last) (are_within ranges most) e).1 p

pub number_below : (ranges : List Range) (width c : ℕ) → are_within ranges (2 ^ width - 1) ≡ true → IsIn ranges c → c < 2 ^ width
number_below ranges width c e p =
    let few = within_most ranges (2 ^ width - 1) c e p in
    let some : 0 < 2 ^ width = pow_pos width in
    omega (arith, few, some)

-- ---- the character of an index, and of one that is past all

not_yet : (ranges : List Range) (i from : ℕ) → characters_below ranges (end_of ranges) ≤ i → from < end_of ranges
    → nat_lt i (characters_below ranges (from + 1)) ≡ false
not_yet ranges i from none p =
    let few = below_more ranges (from + 1) (end_of ranges) (omega (arith, p)) in
    le-ltb i (characters_below ranges (from + 1)) (omega (arith, few, none))

not_here : (b : Bool) (here next goal : ℕ) → b ≡ false → next ≡ goal
    → ◌≡◌ {A = ℕ} (elim b as (λ x. ℕ) [ true ↦ here | false ↦ next ]) goal
not_here true here next goal e f = absurd cc
not_here false here next goal e f = f

past_all : (ranges : List Range) (i count from : ℕ) → characters_below ranges (end_of ranges) ≤ i → from + count ≡ end_of ranges
    → first_past ranges i from count ≡ end_of ranges
past_all ranges i zero from none e = omega (arith, e)
past_all ranges i (suc count) from none e =
    not_here (nat_lt i (characters_below ranges (from + 1))) from (first_past ranges i (from + 1) count) (end_of ranges)
    (not_yet ranges i from none (omega (arith, e))) (past_all ranges i count (from + 1) none (omega (arith, e)))

character_past : (ranges : List Range) (i : ℕ) → characters_below ranges (end_of ranges) ≤ i → character_at ranges i ≡ end_of ranges
unfolding character_at
character_past ranges i none = past_all ranges i (end_of ranges) 0 none (omega arith)

pub found_at : (ranges : List Range) (index i c : ℕ) → characters_below ranges c ≤ index
    → (c ≡ end_of ranges) ⊎ ((index < characters_below ranges (c + 1)) × (characters_below ranges (c + 1) < 2 ^ 128))
    → index ≡ min i (2 ^ 128 - 1) → c ≡ character_at ranges i
found_at ranges index i c low (inl e) same =
    let few = ap (characters_below ranges) e in
    e ∙ sym (character_past ranges i (omega (arith, few, low, same)))
found_at ranges index i c low (inr p) same =
    sym (character_is ranges i c (omega (arith, low, same)) (omega (arith, p.0, p.1, same)))

-- ---- the greatest character

within_all : (ranges : List Range) (most : ℕ) → end_of ranges ≤ most + 1 → are_within ranges most ≡ true
within_all [] most h = refl
within_all (r ∷ ranges) most h = elim (cases_lt most r.last) [
  | inl lt ↦ absurd (omega (arith, h, lt))
  | inr le ↦ rw (are_within, le-ltb most r.last le) (within_all ranges most (omega (arith, h)))
]

within_not : (ranges : List Range) (most : ℕ) → most + 1 < end_of ranges → are_within ranges most ≡ false
within_not [] most h = absurd (omega (arith, h))
within_not (r ∷ ranges) most h = elim (cases_lt most r.last) [
  | inl lt ↦ rw (are_within, lt-ltb most r.last lt) refl
  | inr le ↦ rw (are_within, le-ltb most r.last le) (within_not ranges most (omega (arith, h, le)))
]

pub within_end : (ranges : List Range) (width end : ℕ) (b : Bool) → end ≡ end_of ranges → (b ≡ true → end ≤ 2 ^ width)
    → (b ≡ false → 2 ^ width < end) → b ≡ are_within ranges (2 ^ width - 1)
within_end ranges width end true is fitting past =
    let some : 0 < 2 ^ width = pow_pos width in
    let h = fitting refl in
    sym (within_all ranges (2 ^ width - 1) (omega (arith, some, h, is)))
within_end ranges width end false is fitting past =
    let some : 0 < 2 ^ width = pow_pos width in
    let h = past refl in
    sym (within_not ranges (2 ^ width - 1) (omega (arith, some, h, is)))
