-- Steps over contents octets of types of one part.
use Rattle.std.proofs.Common.{◌≡◌, ℕ, ◌-◌, List, [], ◌∷◌, Bool, length, sym, ap, subst, arith, inl, inr, Ok, Err}
use Rattle.std.specs.Prelude.{Result}
use Rattle.asn1_bits.specs.Bits.{bits}
use Rattle.asn1_schema.specs.declared.part.Part.{Part}
use Rattle.asn1_schema.specs.declared.part.Span.{Span}
use Rattle.asn1_schema.specs.declared.tables.Node.{Node}
use Rattle.asn1_schema.specs.Pieces.{Piece}
use Rattle.asn1_schema.specs.PiecesOfParts.{bits_of}
use Rattle.asn1_x690.specs.declared.fault.FaultKind.{FaultKind}
use Rattle.asn1_x690.specs.declared.tables.TypeTags.{TypeTags}
use Rattle.asn1_x690.specs.Leaves.{leaf_of}
use Rattle.asn1_x690_leaves.specs.Told.{AreOctetsOf, IsTold}
use Rattle.asn1_x690_fields.specs.declared.state.State.{State}
use Rattle.asn1_x690_fields.specs.Outcomes.{rest}
use Rattle.asn1_x690_decode.specs.declared.context.Context.{Context}
use Rattle.asn1_x690_decode.specs.Decoding.{IsLeaf, IsLeafOf, AreContents, span_of}
use Rattle.asn1_x690_decode.proofs.ElementSteps.{inner_rest}

-- what contents octets tell of a value is what their type says
pub told_leaf : {X : Type 0} (P : X → List Bool → Type 0) (Yes : X → Type 0) (is : X → Piece) (c : Context) (node : ℕ) (contents : List Bool)
    (r : Result Part FaultKind) → IsTold P Yes is c.tables.ranges.now (bits c.octets.now) contents r
    → IsLeaf c (leaf_of P Yes is node) node contents r
told_leaf P Yes is c node contents (Ok p) t = (t.0, (t.1, t.2), ap (λ (q : Piece). q ∷ []) t.3)
told_leaf P Yes is c node contents (Err kind) (inl t) = inl (t.1, ap (λ (k : FaultKind). record { node = node; left = length contents; kind = k }) t.0)
told_leaf P Yes is c node contents (Err kind) (inr t) = inr (t.1, ap (λ (k : FaultKind). record { node = node; left = length contents; kind = k }) t.0)

-- the bits that are left are those of a span
pub span_rest : (list : List Bool) (s : State) → AreContents list s → bits_of list (record { at = s.at; count = s.end - s.at }) ≡ rest list s
span_rest list s h = sym (inner_rest list s.at s.end h.ends)

pub span_octets : (list : List Bool) (s : State) → AreContents list s → AreOctetsOf list (record { at = s.at; count = s.end - s.at })
span_octets list s h = record {
  inside = (let a = h.ends in let b = h.inside in omega (arith, a, b));
  whole = h.whole;
}

-- what is said of a span is said of the contents octets that it is
pub leaf_at : (c : Context) (node : ℕ) (tags : TypeTags) (n : Node) (s : State) (span : Span) (r : Result Part FaultKind) → span ≡ span_of s
    → IsLeafOf c node tags n span r → IsLeafOf c node tags n (span_of s) r
leaf_at c node tags n s span r e h = subst (λ (x : Span). IsLeafOf c node tags n x r) e h
