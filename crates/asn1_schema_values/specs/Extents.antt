-- Values among parts: where a number of values ends.
use Rattle.std.specs.Prelude.{ℕ, suc, ◌+◌, ◌≤◌, true, false, List, [], ◌∷◌, ◌++◌, length, slice_range}
use Rattle.asn1_schema.specs.declared.part.Part.{Part}
use Rattle.asn1_schema.specs.declared.part.Part.TheVariants as part

-- how many values a part holds: they follow it, one after another. A component that is absent is one of them, and so are the
-- additions of a SEQUENCE together, whose part holds each of them.
abbrev pub held_by : Part → ℕ
held_by (part.Sequence count false) = count
held_by (part.Sequence count true) = count + 1
held_by (part.Additions count) = count
held_by (part.Count count) = count
held_by (part.Chosen i) = 1
held_by (part.UnknownChosen i) = 1
held_by _ = 0

-- The parts are this many values, one after another: a value is a part, and the values that it holds.
pub data AreValues : ℕ → List Part → Type 0 where
  none : AreValues 0 []
  more : {n : ℕ} (p : Part) {held others : List Part} → AreValues (held_by p) held → AreValues n others
      → AreValues (suc n) (p ∷ (held ++ others))

-- `n` values begin at index `at` of the parts, and the part at `end` is the first after them
pub record HasValues (parts : List Part) (at n end : ℕ) : Type 0 where
  pub ordered : at ≤ end
  pub within : end ≤ length parts
  pub values : AreValues n (slice_range parts at end)
