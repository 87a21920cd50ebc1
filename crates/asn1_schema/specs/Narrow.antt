-- Encodings of which one rejects more than another, as a codec within limits does.
use Rattle.std.specs.Prelude.{Bool, List}
use Rattle.asn1_schema.specs.Encodings.{Fault, Encoding}

-- What A decodes B decodes too. A first fault of A is the first fault of B, if `Free` holds of its kind: other kinds say that a limit
-- of A was exceeded.
pub record RejectsMore {K X : Type 0} (Free : K → Type 0) (A B : Encoding K X) : Type 0 where
  pub encodes : (x : X) (list : List Bool) → A.encodes x list → B.encodes x list
  pub fault : (list : List Bool) (e : Fault K) → Free e.kind → A.fault list e → B.fault list e
