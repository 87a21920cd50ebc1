-- Tables that list a base set.
use Rattle.std.proofs.Common.{◌≡◌, ℕ, List, Some, sym, ◌∙◌}
use Rattle.std.specs.Option.{ForSome}

-- a table that is present lists the set
pub table_lists : (table set : List ℕ) → table ≡ set → ForSome (Some table) (λ t. t ≡ set)
table_lists table set same t is = let given : table ≡ t = cc in sym given ∙ same
