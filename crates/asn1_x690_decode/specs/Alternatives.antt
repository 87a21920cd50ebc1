-- Which alternative of a CHOICE an element is, by its identifier.
use Rattle.std.specs.Prelude.{◌≡◌, ℕ, ◌+◌, ◌<◌, ◌⊎◌, Some, None, slice_get}
use Rattle.asn1_schema.specs.declared.tables.Member.{Member}
use Rattle.asn1_x690.specs.declared.tables.Identifier.{Identifier}
use Rattle.asn1_x690.specs.declared.tables.FirstTags.{FirstTags}
use Rattle.asn1_x690.specs.Der.{HasTag}
use Rattle.asn1_x690_decode.specs.declared.context.Context.{Context}
use Rattle.asn1_x690_decode.specs.declared.choice.Alternative.{Alternative}
use Rattle.asn1_x690_decode.specs.declared.choice.Alternative.TheVariants.{Found, Missing, Other}

module _ (c : Context) (id : Identifier) where
  -- the tables have the alternative, of this type, and its values may begin with the tag
  pub record IsIt (i node : ℕ) : Type 0 where
    pub member : Member
    pub first : FirstTags
    pub is_member : slice_get c.tables.members.now i ≡ Some member
    pub is_first : slice_get c.tags.members.now i ≡ Some first
    pub has_tag : HasTag c.tags.tags.now first id
    pub type : member.node ≡ node

  -- the tables have the alternative, and its values do not begin with the tag
  pub record IsOther (i : ℕ) : Type 0 where
    pub member : Member
    pub first : FirstTags
    pub is_member : slice_get c.tables.members.now i ≡ Some member
    pub is_first : slice_get c.tags.members.now i ≡ Some first
    pub has_not : ¬ (HasTag c.tags.tags.now first id)

  -- `count` from an index on are others
  abbrev pub AreOthers : ℕ → ℕ → Type 0
  AreOthers from count = (i : ℕ) → i < count → IsOther (from + i)

  -- among `count` from an index on
  abbrev pub IsAlternative : ℕ → ℕ → Alternative → Type 0
  IsAlternative from count (Found index node) = (index < count) × AreOthers from index × IsIt (from + index) node
  IsAlternative from count Missing =
      (i : ℕ) × (i < count) × AreOthers from i
      × ((slice_get c.tables.members.now (from + i) ≡ None) ⊎ (slice_get c.tags.members.now (from + i) ≡ None))
  IsAlternative from count Other = AreOthers from count

-- the index of the alternative, if there is one, is below a number
abbrev pub IsBelow : ℕ → Alternative → Type 0
IsBelow most (Found index node) = index < most
IsBelow most Missing = Unit {0}
IsBelow most Other = Unit {0}
