-- Bytes that are read one part after another.
use Rattle.std.proofs.Common.{ℕ, List, [], ◌++◌, Option, Some, None, refl, ap, ◌∙◌, sym, append_assoc}
use Rattle.std.specs.Io.KnownBytes.{Consumes}

pub consumes_none : (known : Option (List ℕ)) → Consumes known known []
consumes_none None = tt
consumes_none (Some xs) = refl

pub consumes_more : (old now new : Option (List ℕ)) (xs ys : List ℕ) → Consumes old now xs → Consumes now new ys
    → Consumes old new (xs ++ ys)
consumes_more None now new xs ys a b = tt
consumes_more (Some os) None new xs ys a b = absurd a
consumes_more (Some os) (Some ns) None xs ys a b = absurd b
consumes_more (Some os) (Some ns) (Some zs) xs ys a b = a ∙ ap (λ (l : List ℕ). xs ++ l) b ∙ sym (append_assoc xs ys zs)
