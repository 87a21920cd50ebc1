-- What a decoder or an encoder leaves out of the definition. Where a value exceeds a limit, the fault is `Unsupported`, and the limits
-- are part of the definition, so that it is known exactly where that fault is. The definition itself has no fragments (X.691 11.9.3.8) of
-- two types: a SET OF of 16,384 items or more, and an INTEGER of as many octets, have no encoding in it.
use Rattle.std.specs.Prelude.{ℕ, Bool, true, false, ◌%◌, ◌≡◌, ◌≢◌, ◌<◌, ◌≤◌, ◌⊎◌, List, [], length}
use Rattle.asn1_x691.specs.declared.fault.FaultKind.{FaultKind}
use Rattle.asn1_x691.specs.declared.fault.FaultKind.TheVariants.{Unsupported}
use Rattle.asn1_x691.specs.Fragments.{most_fragments}

pub record Limits : Type 0 where
  -- in how many fragments the units of an OCTET STRING, of a UTF8String, or of a BIT STRING whose bits have no names, may be, before
  -- the last units (11.9.3.8)
  pub string_fragments : ℕ
  -- the same of all other strings, of open types and of unknown additions
  pub fragments : ℕ
  -- the same of the items of a SEQUENCE OF, and whether the items of a fragment must have bits: otherwise each octet of a message
  -- can tell of 65,536 items
  pub item_fragments : ℕ
  pub fragments_have_bits : Bool
  -- in the ALIGNED variant, whether the items of a SET OF must begin at octets
  pub sets_on_octets : Bool

-- without limits
abbrev pub no_limits : Limits
no_limits = record { string_fragments = most_fragments; fragments = most_fragments; item_fragments = most_fragments; fragments_have_bits = false; sets_on_octets = false }

-- in how many fragments the bits of a BIT STRING may be: one limit where they have names, another where they have none
abbrev pub by_names : Bool → ℕ → ℕ → ℕ
by_names true named unnamed = named
by_names false named unnamed = unnamed

abbrev pub bit_fragments : Limits → Bool → ℕ
bit_fragments limits has_names = by_names has_names limits.fragments limits.string_fragments

-- an item of a SET OF, or the one whose bits precede it, does not begin at an octet
abbrev pub IsOffOctet : Bool → Bool → List Bool → ℕ → Type 0
IsOffOctet false aligned before at = ⊥
IsOffOctet true false before at = ⊥
IsOffOctet true true before at = (0 < length before) × ((at % 8 ≢ 0) ⊎ (length before % 8 ≢ 0))

-- a fragment of items that have no bits
abbrev pub IsEmptyFragment : Bool → ℕ → List Bool → Type 0
IsEmptyFragment false n list = ⊥
IsEmptyFragment true n list = (16384 ≤ n) × (list ≡ [])

-- limits that the laws compare with X.691: there are no more fragments, and a SET OF is limited to octets
pub record AreWithin (limits : Limits) : Type 0 where
  pub string_fragments : limits.string_fragments ≤ most_fragments
  pub fragments : limits.fragments ≤ most_fragments
  pub item_fragments : limits.item_fragments ≤ most_fragments
  pub sets_on_octets : limits.sets_on_octets ≡ true

-- a fault that does not say that a limit was exceeded
abbrev pub IsNoLimit : FaultKind → Type 0
IsNoLimit kind = kind ≢ Unsupported
