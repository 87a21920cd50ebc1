-- Which characters have no encoding.
use Rattle.std.proofs.Common.{◌≡◌, ℕ, zero, suc, ◌+◌, ◌<◌, ◌≤◌, List, ◌++◌, Bool, length, sym, ◌∙◌, subst, inl, inr}
use Rattle.asn1_schema.specs.declared.tables.Range.{Range}
use Rattle.asn1_schema.specs.declared.tables.Length.{Length}
use Rattle.asn1_schema.specs.declared.tables.Length.TheVariants.{AtLeast, Between}
use Rattle.asn1_schema.specs.Encodings.{Encoding, CanEncode, anywhere, each, in_case, invalid}
use Rattle.asn1_schema.specs.Laws.OneEncodingLaws.{only_constant}
use Rattle.asn1_x691.specs.declared.fault.FaultKind.{FaultKind}
use Rattle.asn1_x691.specs.declared.fault.FaultKind.TheVariants.{BelowLeast, InRoot, NotMinimal, Unsupported}
use Rattle.asn1_x691.specs.Alphabets.{IsIn}
use Rattle.asn1_x691.specs.Characters.{character, characters, sized_characters, text_where, text_of, added_text}
use Rattle.asn1_x691.specs.Fragments.{units, units_then, units_below, last_units, all_units}
use Rattle.asn1_x691.specs.Strings.{IsOfRoot, IsAddedSize}
use Rattle.asn1_x691.specs.Laws.CharacterLaws.{text_of_size}
use Rattle.asn1_x691.specs.Laws.OneEncodingLaws.{inner}
use Rattle.asn1_x691.specs.Laws.StringLaws.{sizes_apart}
use Rattle.asn1_x691_writers.specs.Texts.{AreIn}
use Rattle.asn1_x691_writers.specs.TextSteps.{both_in}

module _ (aligned : Bool) (ranges : List Range) (node : ℕ) where
  abbrev A : Encoding FaultKind ℕ
  A = character aligned ranges node

  abbrev U : ℕ → ℕ → Encoding FaultKind (List ℕ)
  U n = characters aligned ranges node n

  abbrev J : List ℕ → List ℕ → List ℕ
  J a b = a ++ b

  character_in : (c : ℕ) (k : List Bool) → A.encodes c k → IsIn ranges c
  character_in c k p = subst (λ (d : ℕ). IsIn ranges d) (sym p.is) p.second.0.0

  each_in : (n : ℕ) (xs : List ℕ) (k : List Bool) → (each A n).encodes xs k → AreIn ranges xs
  each_in zero xs k p = subst (λ (l : List ℕ). AreIn ranges l) (sym p.0) tt
  each_in (suc n) xs k p =
      subst (λ (l : List ℕ). AreIn ranges l) (sym p.is) (character_in p.value p.front p.first, each_in n p.after p.rest p.second)

  sized_in : (least range n at : ℕ) (xs : List ℕ) (k : List Bool) → (sized_characters aligned ranges node least range n at).encodes xs k
      → AreIn ranges xs
  sized_in least range n at xs k (inl p) = each_in n xs k p.1
  sized_in least range n at xs k (inr p) = let q = inner aligned node at (each A n) xs k p.1 in each_in n xs q.0 q.1

  abbrev IsWithin : ℕ × List ℕ → Type 0
  IsWithin v = AreIn ranges v.1

  units_in : (n at : ℕ) (v : ℕ × List ℕ) (k : List Bool) → (units U J aligned node n at).encodes v k → IsWithin v
  units_in n at v k p = subst (λ (w : ℕ × List ℕ). IsWithin w) (sym p.is) (each_in n p.value p.front p.first)

  then_in : (n at : ℕ) (R : ℕ → Encoding FaultKind (ℕ × List ℕ))
      → ((to : ℕ) (w : ℕ × List ℕ) (l : List Bool) → (R to).encodes w l → IsWithin w) → (v : ℕ × List ℕ) (k : List Bool)
      → (units_then U J aligned node n R at).encodes v k → IsWithin v
  then_in n at R r v k p =
      subst (λ (w : ℕ × List ℕ). IsWithin w) (sym p.is)
      (both_in ranges p.value p.after.1 (each_in n p.value p.front p.first) (r (at + length p.front) p.after p.rest p.second))

  below_in : (kind : FaultKind) (at : ℕ) (v : ℕ × List ℕ) (k : List Bool) → (units_below U J aligned node kind at).encodes v k → IsWithin v
  below_in kind at v k p =
      subst (λ (w : ℕ × List ℕ). IsWithin w) (sym p.is) (each_of p.value (at + length p.front) p.after p.rest p.second)
    where
      each_of : (n to : ℕ) (w : ℕ × List ℕ) (l : List Bool)
          → (in_case (n < 16384) (units U J aligned node n) (16384 ≤ n) (anywhere (invalid kind node)) to).encodes w l → IsWithin w
      each_of n to w l (inl q) = units_in n to w l q.1
      each_of n to w l (inr q) = absurd q.1

  next_in : (more n to : ℕ) → ((at : ℕ) (v : ℕ × List ℕ) (k : List Bool) → (all_units U J aligned node more at).encodes v k → IsWithin v)
      → (w : ℕ × List ℕ) (l : List Bool)
      → (in_case (n < 16384) (units U J aligned node n) (16384 ≤ n)
      (in_case (n < 65536) (units_then U J aligned node n (last_units U J aligned node)) (65536 ≤ n)
      (units_then U J aligned node n (all_units U J aligned node more))) to).encodes w l → IsWithin w
  next_in more n to go w l (inl q) = units_in n to w l q.1
  next_in more n to go w l (inr (low, inl q)) = then_in n to (last_units U J aligned node) (below_in NotMinimal) w l q.1
  next_in more n to go w l (inr (low, inr q)) = then_in n to (all_units U J aligned node more) go w l q.1

  all_in : (most at : ℕ) (v : ℕ × List ℕ) (k : List Bool) → (all_units U J aligned node most at).encodes v k → IsWithin v
  all_in zero at v k p = below_in Unsupported at v k p
  all_in (suc more) at v k p =
      subst (λ (w : ℕ × List ℕ). IsWithin w) (sym p.is)
      (next_in more p.value (at + length p.front) (all_in more) p.after p.rest p.second)

  module _ (most : ℕ) where
    where_in : (Yes No : ℕ → Type 0) (kind : FaultKind) (at : ℕ) (xs : List ℕ) (k : List Bool)
        → (text_where most aligned ranges node Yes No kind at).encodes xs k → AreIn ranges xs
    where_in Yes No kind at xs k p =
        let g = only_constant _ _ p.value.1 p.after kind node p.rest p.second in
        subst (λ (l : List ℕ). AreIn ranges l) (sym (p.is ∙ g.1)) (all_in most at p.value p.front p.first)

    text_in : (size : Length) (at : ℕ) (xs : List ℕ) (k : List Bool) → (text_of most aligned ranges node size at).encodes xs k
        → AreIn ranges xs
    text_in (AtLeast least) at xs k p = where_in (λ n. least ≤ n) (λ n. n < least) BelowLeast at xs k p
    text_in (Between least range) at xs k p =
        subst (λ (l : List ℕ). AreIn ranges l) (sym p.is)
        (sized_in least range (least + p.value) (at + length p.front) p.after p.rest p.second)

    -- characters that are in no alphabet, and a size that is none of the root
    pub none_outside : (size : Length) (at : ℕ) (xs : List ℕ) → (AreIn ranges xs → ⊥)
        → CanEncode (text_of most aligned ranges node size at).encodes xs → ⊥
    none_outside size at xs none p = none (text_in size at xs p.list p.encoded)

    pub none_added : (size : Length) (n at : ℕ) (xs : List ℕ) → length xs ≡ n → IsAddedSize size n
        → CanEncode (text_of most aligned ranges node size at).encodes xs → ⊥
    none_added size n at xs e added p =
        sizes_apart size (length xs) (subst (λ (m : ℕ). IsAddedSize size m) (sym e) added)
        (text_of_size aligned ranges node most size at xs p.list p.encoded)

    pub none_added_outside : (size : Length) (at : ℕ) (xs : List ℕ) → (AreIn ranges xs → ⊥)
        → CanEncode (added_text most aligned ranges node size at).encodes xs → ⊥
    none_added_outside size at xs none p =
        none (where_in (IsAddedSize size) (IsOfRoot size) InRoot at xs p.list p.encoded)
