-- Values among pieces: each is a piece and the values that it holds.
use Rattle.std.specs.Prelude.{ℕ, suc, ◌+◌, Bool, true, false, List, [], ◌∷◌, ◌++◌}
use Rattle.asn1_schema.specs.Pieces.{Piece, Sequence, Additions, Count, Chosen, UnknownChosen, Parts}

-- how many values a piece holds: they follow it, one after another. A component that is absent is one of them, and so are the
-- additions of a SEQUENCE together, whose piece holds each of them.
abbrev pub held_by : Piece → ℕ
held_by (Sequence count false) = count
held_by (Sequence count true) = count + 1
held_by (Additions count) = count
held_by (Count count) = count
held_by (Chosen i) = 1
held_by (UnknownChosen i) = 1
held_by _ = 0

-- the pieces are this many values, one after another
pub data AreValues : ℕ → Parts → Type 0 where
  none : AreValues 0 []
  more : {n : ℕ} (p : Piece) {held others : Parts} → AreValues (held_by p) held → AreValues n others
      → AreValues (suc n) (p ∷ (held ++ others))
