-- Octets that are written one part after another.
use Rattle.std.proofs.Common.{ℕ, List, ◌++◌, Option, Some, None, ap, ◌∙◌, append_assoc}
use Rattle.std.specs.Io.KnownBytes.{Appends}

pub appends_more : (old now new : Option (List ℕ)) (xs ys : List ℕ) → Appends old now xs → Appends now new ys
    → Appends old new (xs ++ ys)
appends_more None now new xs ys a b = tt
appends_more (Some os) None new xs ys a b = absurd a
appends_more (Some os) (Some ns) None xs ys a b = absurd b
appends_more (Some os) (Some ns) (Some zs) xs ys a b = b ∙ ap (λ (l : List ℕ). l ++ ys) a ∙ append_assoc os xs ys
