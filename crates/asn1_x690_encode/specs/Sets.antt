-- What a call did that encodes an item of a SET OF.
use Rattle.std.specs.Prelude.{◌≡◌, ℕ, ◌⊎◌, Bool, true, false, List, [], length, Option, Some, None}
use Rattle.std.specs.declared.cmp.Ordering.TheVariants.{Less}
use Rattle.asn1_bits.specs.BitLists.{bits_cmp}
use Rattle.asn1_schema.specs.declared.misfit.MisfitKind.TheVariants.{NotAscending}
use Rattle.asn1_x691_writers.specs.declared.state.Writer.{Writer}
use Rattle.asn1_x691_writers.specs.declared.state.Rejection.TheVariants.{Misfit}
use Rattle.asn1_x690_encode.specs.declared.context.Context.{Context}
use Rattle.asn1_x690_encode.specs.declared.set.ItemStart.{ItemStart}
use Rattle.asn1_x690_encode.specs.Encoding.{element_in, IsFilled, IsLeft}

-- an item that begins here was encoded by these bits, up to where the state is
pub record IsPrevious (c : Context) (depth item : ℕ) (start : ItemStart) (before : List Bool) (now : List ℕ) (new : Writer) : Type 0 where
  pub was : List ℕ
  pub begun : Writer
  pub at : begun.at ≡ start.at
  pub next : begun.next ≡ start.next
  pub size : length now ≡ length was
  pub encoded : IsFilled c (element_in c depth item).encoding.encodes was begun now new
  pub bits : encoded.list ≡ before

-- no item, or one
abbrev pub IsPreviousIn : Context → ℕ → ℕ → Option ItemStart → List Bool → List ℕ → Writer → Type 0
IsPreviousIn c depth item None before now new = before ≡ []
IsPreviousIn c depth item (Some start) before now new = IsPrevious c depth item start before now new

-- the item is not before the one that it follows, or the state says that it is
abbrev pub IsOrdered : ℕ → ℕ → List Bool → List Bool → Writer → Bool → Type 0
IsOrdered node first before list new true = bits_cmp list before ≡ Less → ⊥
IsOrdered node first before list new false =
    (new.reason ≡ Misfit NotAscending) × (new.node ≡ node) × (new.next ≡ first) × (bits_cmp list before ≡ Less)

-- the same, or the items are left
abbrev pub IsOrderedOrLeft : Context → ℕ → ℕ → List Bool → List Bool → Writer → Bool → Type 0
IsOrderedOrLeft c node first before list new r = IsOrdered node first before list new r ⊎ ((r ≡ false) × IsLeft c new)
