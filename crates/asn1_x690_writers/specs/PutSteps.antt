-- What follows of a part that was written or rejected.
use Rattle.std.proofs.Common.{◌≡◌, ℕ, ◌+◌, ◌*◌, ◌%◌, ◌≤◌, List, [], ◌∷◌, Bool, true, false, length, drop, refl, sym, ap, subst, inl, inr, arith}
use Rattle.std.proofs.lemmas.List.{length-drop, length-take-le}
use Rattle.asn1_bits.specs.Bits.{bits}
use Rattle.asn1_bits.specs.Laws.DigitLaws.{length-bits}
use Rattle.asn1_schema.specs.declared.part.Span.{Span}
use Rattle.asn1_schema.specs.PiecesOfParts.{bits_of}
use Rattle.asn1_schema.specs.declared.misfit.MisfitKind.{MisfitKind}
use Rattle.asn1_schema.specs.declared.misfit.MisfitKind.TheVariants.{OtherPart, NoEncoding}
use Rattle.asn1_schema.specs.Pieces.{Piece, Parts}
use Rattle.asn1_x690.specs.declared.fault.FaultKind.{FaultKind}
use Rattle.asn1_x690.specs.Leaves.{leaf_of}
use Rattle.asn1_x690.specs.TypeContents.{TypeContents}
use Rattle.asn1_x691_writers.specs.declared.state.Writer.{Writer}
use Rattle.asn1_x691_writers.specs.declared.state.Rejection.TheVariants.{Misfit, Unsupported}
use Rattle.asn1_x691_writers.specs.Written.{IsGrown}
use Rattle.asn1_x690_writers.specs.Put.{IsPutOne, IsPut}

-- what was called
pub rejected : (Left : Type 0) (F : TypeContents FaultKind) (p : Piece) (octets : List ℕ) (old new : Writer) (r : Bool) (node : ℕ)
    (kind : MisfitKind) → r ≡ false → new.at ≡ old.at → new.next ≡ old.next → new.node ≡ node → new.reason ≡ Misfit kind
    → ((rest : Parts) → F.misfit (p ∷ rest) (record { node = node; left = length (p ∷ rest); kind = kind }))
    → IsPut Left F p octets old octets new r
rejected Left F p octets old new r node kind e at next same reason m =
    subst (λ (b : Bool). IsPut Left F p octets old octets new b) (sym e) (
      inl (record {
        kind = kind;
        reason = reason;
        first = λ rest.
            subst (λ (k : ℕ). F.misfit (p ∷ rest) (record { node = k; left = length (p ∷ rest); kind = kind })) (sym same) (m rest);
      }),
      record { octets = refl; at = at; next = next },
    )

pub left_out : (Left : Type 0) (F : TypeContents FaultKind) (p : Piece) (octets : List ℕ) (old new : Writer) (r : Bool)
    → r ≡ false → new.at ≡ old.at → new.next ≡ old.next → new.reason ≡ Unsupported → Left → IsPut Left F p octets old octets new r
left_out Left F p octets old new r e at next reason l =
    subst (λ (b : Bool). IsPut Left F p octets old octets new b) (sym e)
    (inr (reason, l), record { octets = refl; at = at; next = next })

-- nothing is left
pub none_left : (M : Type 0) (F : TypeContents FaultKind) (p : Piece) (was : List ℕ) (old : Writer) (now : List ℕ) (new : Writer)
    (r : Bool) → IsPut (⊥) F p was old now new r → IsPut M F p was old now new r
none_left M F p was old now new true a = a
none_left M F p was old now new false (inl m, same) = (inl m, same)
none_left M F p was old now new false (inr m, same) = absurd m.1

module _ {X : Type 0} (P : X → List Bool → Type 0) (Permits : X → Type 0) (is : X → Piece) (node : ℕ) (p : Piece) where
  pub leaf_put : (x : X) (list : List Bool) (was : List ℕ) (old : Writer) (now : List ℕ) (at : ℕ) → p ≡ is x → P x list → Permits x
      → length list % 8 ≡ 0 → IsGrown was old.at now at list → IsPutOne (leaf_of P Permits is node) p was old now (record old { at = at })
  leaf_put x list was old now at e a permitted whole g = record {
    list = list;
    fills = (x, (a, permitted), ap (λ (q : Piece). q ∷ []) e);
    whole = whole;
    grown = g;
    next = refl;
  }

  pub leaf_other : ((x : X) → p ≡ is x → ⊥) → (rest : Parts)
      → (leaf_of P Permits is node).misfit (p ∷ rest) (record { node = node; left = length (p ∷ rest); kind = OtherPart })
  leaf_other f rest = inr (f, refl)

  pub leaf_none : (x : X) → p ≡ is x → ((list : List Bool) → P x list → Permits x → ⊥) → (rest : Parts)
      → (leaf_of P Permits is node).misfit (p ∷ rest) (record { node = node; left = length (p ∷ rest); kind = NoEncoding })
  leaf_none x e f rest = inl (x, e, (λ c. f c.0 c.1.0 c.1.1), refl)

-- bits of a source, as many as a span tells
pub span_length : (source : List ℕ) (s : Span) → s.at + s.count ≤ 8 * length source → length (bits_of (bits source) s) ≡ s.count
span_length source s h =
    length-take-le s.count (drop s.at (bits source)) (omega (arith, length-drop s.at (bits source), length-bits source))
