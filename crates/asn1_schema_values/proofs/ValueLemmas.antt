-- One member has a name, and one value is its value.
use Rattle.std.proofs.Common.{◌≡◌, ℕ, ◌-◌, ◌≤◌, ◌<◌, List, Option, Some, None, sym, subst, arith}
use Rattle.std.specs.Prelude.{MatchOption}
use Rattle.asn1_schema.specs.declared.tables.Rows.{Rows}
use Rattle.asn1_schema_values.specs.declared.value.Message.{Message}
use Rattle.asn1_schema_values.specs.declared.value.Value.{Value}
use Rattle.asn1_schema_values.specs.declared.names.Names.{Names}
use Rattle.asn1_schema_values.specs.Extents.{HasValues}
use Rattle.asn1_schema_values.specs.Names.{IsFirstNamed}
use Rattle.asn1_schema_values.specs.Values.{IsPresent, IsMember}
use Rattle.asn1_schema_values.proofs.ExtentLemmas.{one_end}

-- one row is the first with a name
pub one_first : (names : Names) (rows : Rows) (name : List ℕ) (a b : ℕ) → IsFirstNamed names rows name a
    → IsFirstNamed names rows name b → a ≡ b
one_first names rows name a b one two =
    let not_below : a < b → ⊥ = λ below. two.first a one.from below one.named in
    let not_above : b < a → ⊥ = λ above. one.first b two.from above two.named in
    omega (arith, not_below, not_above)

module _ (m : Message) (rows : Rows) (from count : ℕ) (name : List ℕ) (row : ℕ) (named : IsFirstNamed m.names rows name row) where
  -- the index of the member is past the values
  pub none_past : count ≤ row - rows.from → (v : Value) → IsMember m rows from count name v → ⊥
  none_past past v is =
      let same = one_first m.names rows name row is.row named is.named in
      let below = is.below in
      omega arith

  -- the values before that of the member do not end
  pub none_ends_before : ((end : ℕ) → HasValues m.parts.now from (row - rows.from) end → ⊥) → (v : Value)
      → IsMember m rows from count name v → ⊥
  none_ends_before never v is =
      let same = one_first m.names rows name row is.row named is.named in
      let P : ℕ → Type 0 = λ r. HasValues m.parts.now from (r - rows.from) v.at in
      never v.at (subst P (sym same) is.begins)

  module _ (at : ℕ) (begins : HasValues m.parts.now from (row - rows.from) at) where
    -- the member has no value where it begins
    pub none_is_present : ((v : Value) → IsPresent m row at v → ⊥) → (v : Value) → IsMember m rows from count name v → ⊥
    none_is_present never v is =
        let same = one_first m.names rows name row is.row named is.named in
        let P : ℕ → Type 0 = λ r. HasValues m.parts.now from (r - rows.from) v.at in
        let at_same : v.at ≡ at = one_end m.parts.now from (row - rows.from) v.at at (subst P (sym same) is.begins) begins in
        let Q : ℕ → Type 0 = λ r. IsPresent m r v.at v in
        let R : ℕ → Type 0 = λ i. IsPresent m row i v in
        never v (subst R at_same (subst Q (sym same) is.is_present))

    -- the member's value
    pub member_is : (v : Value) → row - rows.from < count → IsPresent m row at v → IsMember m rows from count name v
    member_is v below is =
        let R : ℕ → Type 0 = λ i. IsPresent m row i v in
        let S : ℕ → Type 0 = λ i. HasValues m.parts.now from (row - rows.from) i in
        record {
          row = row;
          named = named;
          below = below;
          begins = subst S (sym is.is.at_is) begins;
          is_present = subst R (sym is.is.at_is) is;
        }

    -- the member has a value exactly where one begins
    pub member_if_present : (found : Option Value) → row - rows.from < count
        → MatchOption found ((v : Value) → IsPresent m row at v → ⊥) (λ v. IsPresent m row at v)
        → MatchOption found ((v : Value) → IsMember m rows from count name v → ⊥) (λ v. IsMember m rows from count name v)
    member_if_present None below is = none_is_present is
    member_if_present (Some v) below is = member_is v below is
