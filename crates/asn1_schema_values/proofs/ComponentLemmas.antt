-- A SEQUENCE has one root and one list of additions.
use Rattle.std.proofs.Common.{◌≡◌, ℕ, ◌+◌, inl, inr, Bool, true, false, not, List, Option, Some, None, refl, subst}
use Rattle.std.specs.Prelude.{MatchOption, slice_get}
use Rattle.asn1_schema.specs.declared.part.Part.TheVariants as part
use Rattle.asn1_schema.specs.declared.tables.Rows.{Rows}
use Rattle.asn1_schema_values.specs.declared.value.Value.{Value}
use Rattle.asn1_schema_values.specs.Extents.{HasValues}
use Rattle.asn1_schema_values.specs.Values.{IsMember, IsSequence, IsOfRoot, IsAddition, IsComponent}
use Rattle.asn1_schema_values.proofs.ExtentLemmas.{one_end}

module _ (v : Value) (name : List ℕ) (root additions : Rows) (count : ℕ) (is_extended : Bool)
    (sequence : IsSequence v root additions count is_extended) where
  same_root : (c : Value) (is : IsOfRoot v name c) → (is.root ≡ root) × (is.count ≡ count)
  same_root c is =
      let node = sequence.node_is in
      let first = sequence.part_is in
      let other_node = is.sequence.node_is in
      let other_first = is.sequence.part_is in
      (cc, cc)

  pub root_if : (found : Option Value) → MatchOption found ((c : Value) → IsMember v.message.now root (v.at + 1) count name c → ⊥)
      (λ c. IsMember v.message.now root (v.at + 1) count name c)
      → MatchOption found ((c : Value) → IsOfRoot v name c → ⊥) (λ c. IsOfRoot v name c)
  root_if None never = λ c is.
      let same = same_root c is in
      let P : Rows → Type 0 = λ r. IsMember v.message.now r (v.at + 1) is.count name c in
      let Q : ℕ → Type 0 = λ n. IsMember v.message.now root (v.at + 1) n name c in
      never c (subst Q same.1 (subst P same.0 is.member))
  root_if (Some c) is = record {
    root = root;
    additions = additions;
    count = count;
    is_extended = is_extended;
    sequence = sequence;
    member = is;
  }

module _ (v : Value) (name : List ℕ) (root additions : Rows) (count : ℕ) (sequence : IsSequence v root additions count true) where
  same_additions : (c : Value) (is : IsAddition v name c) → (is.additions ≡ additions) × (is.count ≡ count)
  same_additions c is =
      let node = sequence.node_is in
      let first = sequence.part_is in
      let other_node = is.sequence.node_is in
      let other_first = is.sequence.part_is in
      (cc, cc)

  module _ (place : ℕ) (ends : HasValues v.message.now.parts.now (v.at + 1) count place) where
    same_place : (c : Value) (is : IsAddition v name c) → is.place ≡ place
    same_place c is =
        let same = same_additions c is in
        let P : ℕ → Type 0 = λ n. HasValues v.message.now.parts.now (v.at + 1) n is.place in
        one_end v.message.now.parts.now (v.at + 1) count is.place place (subst P same.1 is.ends) ends

    -- no part of additions follows the root
    pub no_additions : ((added : ℕ) → slice_get v.message.now.parts.now place ≡ Some (part.Additions added) → ⊥) → (c : Value)
        → IsAddition v name c → ⊥
    no_additions never c is =
        let P : ℕ → Type 0 = λ i. slice_get v.message.now.parts.now i ≡ Some (part.Additions is.added) in
        never is.added (subst P (same_place c is) is.place_is)

    pub addition_if : (added : ℕ) → slice_get v.message.now.parts.now place ≡ Some (part.Additions added) → (found : Option Value)
        → MatchOption found ((c : Value) → IsMember v.message.now additions (place + 1) added name c → ⊥)
        (λ c. IsMember v.message.now additions (place + 1) added name c)
        → MatchOption found ((c : Value) → IsAddition v name c → ⊥) (λ c. IsAddition v name c)
    addition_if added place_is None never = λ c is.
        let same = same_additions c is in
        let here = same_place c is in
        let there = is.place_is in
        let same_added : is.added ≡ added = cc in
        let P : Rows → Type 0 = λ r. IsMember v.message.now r (is.place + 1) is.added name c in
        let Q : ℕ → Type 0 = λ i. IsMember v.message.now additions (i + 1) is.added name c in
        let R : ℕ → Type 0 = λ n. IsMember v.message.now additions (place + 1) n name c in
        never c (subst R same_added (subst Q here (subst P same.0 is.member)))
    addition_if added place_is (Some c) is = record {
      root = root;
      additions = additions;
      count = count;
      sequence = sequence;
      place = place;
      ends = ends;
      added = added;
      place_is = place_is;
      member = is;
    }

-- a value without a component of the root has the additions
pub component_if : (v : Value) (name : List ℕ) → ((c : Value) → IsOfRoot v name c → ⊥) → (found : Option Value)
    → MatchOption found ((c : Value) → IsAddition v name c → ⊥) (λ c. IsAddition v name c)
    → MatchOption found ((c : Value) → IsComponent v name c → ⊥) (λ c. IsComponent v name c)
component_if v name never None none = λ c is. elim is [ inl root ↦ never c root | inr addition ↦ none c addition ]
component_if v name never (Some c) is = inr is

pub is_true : (b : Bool) → not b ≡ false → b ≡ true
is_true true e = refl
is_true false e = cc
