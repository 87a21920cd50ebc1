-- What follows of a part that was rejected.
use Rattle.std.proofs.Common.{◌≡◌, ℕ, List, ◌∷◌, Bool, false, length, refl, sym, subst, inl}
use Rattle.asn1_schema.specs.declared.misfit.MisfitKind.{MisfitKind}
use Rattle.asn1_schema.specs.Pieces.{Piece, Parts}
use Rattle.asn1_schema.specs.TypeEncodings.{TypeEncoding}
use Rattle.asn1_x691.specs.declared.fault.FaultKind.{FaultKind}
use Rattle.asn1_x691_writers.specs.declared.state.Writer.{Writer}
use Rattle.asn1_x691_writers.specs.declared.state.Rejection.TheVariants.{Misfit}
use Rattle.asn1_x691_writers.specs.Put.{IsPut}

pub rejected : (aligned : Bool) (T : ℕ → TypeEncoding FaultKind) (p : Piece) (octets : List ℕ) (old new : Writer) (r : Bool) (node : ℕ)
    (kind : MisfitKind) → r ≡ false → new.at ≡ old.at → new.next ≡ old.next → new.node ≡ node → new.reason ≡ Misfit kind
    → ((at : ℕ) (rest : Parts) → (T at).misfit (p ∷ rest) (record { node = node; left = length (p ∷ rest); kind = kind }))
    → IsPut aligned T p octets old octets new r
rejected aligned T p octets old new r node kind e at next same reason m =
    subst (λ (b : Bool). IsPut aligned T p octets old octets new b) (sym e) (
      inl (record {
        kind = kind;
        reason = reason;
        first = λ n rest.
            subst (λ (k : ℕ). (T n).misfit (p ∷ rest) (record { node = k; left = length (p ∷ rest); kind = kind })) (sym same) (m n rest);
      }),
      record { octets = refl; at = at; next = next },
    )
