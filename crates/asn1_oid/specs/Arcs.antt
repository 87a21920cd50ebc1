-- The arcs of object identifiers (X.660).
use Rattle.std.specs.Prelude.{ℕ, ◌<◌, ◌≤◌, List, ◌∷◌, length, slice_index, map}
use Rattle.std.specs.List.{flat_map, join_with_byte}
use Rattle.std.specs.Fmt.{decimal}

-- There is a first arc, and it is 0, 1 or 2. Below 0 and 1 a second arc, if there is one, is at
-- most 39; below 2 it has no such bound.
pub record IsValidArcs (arcs : List ℕ) : Type 0 where
  pub some : 0 < length arcs
  pub first : slice_index arcs 0 ≤ 2
  pub second : slice_index arcs 0 < 2 → 1 < length arcs → slice_index arcs 1 ≤ 39

-- the octet of a full stop
abbrev pub full_stop : ℕ
full_stop = 46

-- the dotted text: the decimals of the arcs, joined by full stops
abbrev pub dotted : List ℕ → List ℕ
dotted arcs = join_with_byte full_stop (map decimal arcs)

-- the decimals of the arcs, each after a full stop
abbrev pub with_stops : List ℕ → List ℕ
with_stops arcs = flat_map (λ b. full_stop ∷ decimal b) arcs
