-- What a call did that encodes an item of a SET OF.
use Rattle.std.specs.Prelude.{◌≡◌, ℕ, ◌⊎◌, Bool, true, false, List, [], length, Option, Some, None}
use Rattle.std.specs.declared.cmp.Ordering.TheVariants.{Less}
use Rattle.asn1_bits.specs.BitLists.{bits_cmp}
use Rattle.asn1_schema.specs.declared.misfit.MisfitKind.TheVariants as misfit
use Rattle.asn1_x691.specs.Limits.{IsOffOctet}
use Rattle.asn1_x691_writers.specs.declared.state.Writer.{Writer}
use Rattle.asn1_x691_writers.specs.declared.state.Rejection.TheVariants.{Misfit, Unsupported}
use Rattle.asn1_x691_encode.specs.declared.context.Context.{Context}
use Rattle.asn1_x691_encode.specs.declared.set.Place.{Place}
use Rattle.asn1_x691_encode.specs.Encoding.{types, IsEncoded, IsLeft}

-- an item that begins at an offset was encoded by these bits, up to where the state is
pub record IsPrevious (c : Context) (depth item : ℕ) (place : Place) (before : List Bool) (now : List ℕ) (new : Writer) : Type 0 where
  pub was : List ℕ
  pub begun : Writer
  pub at : begun.at ≡ place.at
  pub next : begun.next ≡ place.next
  pub size : length now ≡ length was
  pub encoded : IsEncoded c (types c depth item) was begun now new
  pub bits : encoded.written.list ≡ before

-- no item, or one
abbrev pub IsPreviousIn : Context → ℕ → ℕ → Option Place → List Bool → List ℕ → Writer → Type 0
IsPreviousIn c depth item None before now new = before ≡ []
IsPreviousIn c depth item (Some place) before now new = IsPrevious c depth item place before now new

-- why an item at a position, which follows one with the bits before it, is not in order
abbrev pub IsUnordered : Bool → List Bool → ℕ → List Bool → Writer → Type 0
IsUnordered aligned before at list new =
    ((new.reason ≡ Unsupported) × IsOffOctet true aligned before at)
    ⊎ ((new.reason ≡ Misfit misfit.NotAscending) × ¬ (IsOffOctet true aligned before at) × (bits_cmp list before ≡ Less))

-- the item is in order, or the state says why not
abbrev pub IsOrdered : Bool → ℕ → ℕ → List Bool → ℕ → List Bool → Writer → Bool → Type 0
IsOrdered aligned node first before at list new true = ¬ (IsOffOctet true aligned before at) × ¬ (bits_cmp list before ≡ Less)
IsOrdered aligned node first before at list new false =
    (new.node ≡ node) × (new.next ≡ first) × IsUnordered aligned before at list new

-- the same, or the items are left
abbrev pub IsOrderedOrLeft : Context → ℕ → ℕ → List Bool → ℕ → List Bool → Writer → Bool → Type 0
IsOrderedOrLeft c node first before at list new r =
    IsOrdered c.is_aligned node first before at list new r ⊎ ((r ≡ false) × IsLeft c new)
