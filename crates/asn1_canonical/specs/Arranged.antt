-- Parts in another order.
use Rattle.std.specs.Prelude.{◌≡◌, ℕ, suc, List, [], ◌∷◌, map}
use Rattle.std.specs.List.Sorted.{IsPermutation}
use Rattle.asn1_schema.specs.declared.part.Part.{Part}
use Rattle.asn1_canonical.specs.declared.arrange.Placed.{Placed}

-- parts with their indexes, from one on
abbrev pub indexed : ℕ → List Part → List Placed
indexed n [] = []
indexed n (p ∷ parts) = record { index = n; part = p } ∷ indexed (suc n) parts

abbrev pub index_of : Placed → ℕ
index_of x = x.index

abbrev pub part_of : Placed → Part
part_of x = x.part

-- The parts are those of before, each once, in an order: the indexes are those that they had.
pub record IsArranged (old new : List Part) (indexes : List ℕ) : Type 0 where
  pub placed : List Placed
  pub each : IsPermutation (indexed 0 old) placed
  pub parts : new ≡ map part_of placed
  pub are : indexes ≡ map index_of placed
