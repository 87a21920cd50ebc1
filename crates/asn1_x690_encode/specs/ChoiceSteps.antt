-- What follows of an alternative that was encoded.
use Rattle.std.proofs.Common.{◌≡◌, ℕ, zero, suc, ◌+◌, ◌-◌, ◌<◌, List, ◌∷◌, length, refl, sym, ap, ◌∙◌, subst, inl, inr, Some, Option, arith}
use Rattle.std.specs.Prelude.{slice_get}
use Rattle.asn1_schema.specs.declared.misfit.MisfitKind.TheVariants.{NoEncoding}
use Rattle.asn1_schema.specs.declared.tables.Member.{Member}
use Rattle.asn1_schema.specs.Pieces.{Piece, Parts}
use Rattle.asn1_schema.specs.TypeEncodings.{Misfit}
use Rattle.asn1_x690.specs.declared.fault.FaultKind.{FaultKind}
use Rattle.asn1_x690.specs.declared.tables.FirstTags.{FirstTags}
use Rattle.asn1_x690.specs.declared.tables.Identifier.{Identifier}
use Rattle.asn1_x690.specs.Der as der
use Rattle.asn1_x690.specs.TypeContents.{ByHeader, either}
use Rattle.asn1_x690_fields.specs.declared.identifier.FoundIdentifier.{FoundIdentifier}
use Rattle.asn1_x690_fields.specs.Outcomes.{IsIdentifier}
use Rattle.asn1_x691_writers.specs.declared.state.Writer.{Writer}
use Rattle.asn1_x691_writers.specs.declared.state.Rejection.TheVariants as rejection
use Rattle.asn1_x691_writers.specs.Written.{IsGrown}
use Rattle.asn1_x690_encode.specs.declared.context.Context.{Context}
use Rattle.asn1_x690_encode.specs.Encoding.{tape, tables_of, types, IsFilled, IsElementOf, IsStopped}
use Rattle.asn1_x690_encode.specs.Steps.{misfit_here}

module _ (c : Context) (P : Identifier → Type 0) (node : ℕ) (q : Piece) (A B : ByHeader FaultKind Identifier) (was : List ℕ) (old : Writer)
    (now : List ℕ) (new : Writer) (found : FoundIdentifier) where
  abbrev D : ByHeader FaultKind Identifier
  D = either P node q A B

  module _ (mid : Writer) (is : tape c old.next ≡ q ∷ tape c mid.next) (at : mid.at ≡ old.at) where
    pub chosen_done : (e : IsFilled c (IsElementOf A found) was mid now new) → ((id : Identifier) → IsIdentifier found id → P id)
        → IsFilled c (IsElementOf D found) was old now new
    chosen_done e f = record {
      parts = q ∷ e.parts;
      list = e.list;
      fills = record {
        id = e.fills.id;
        shown = e.fills.shown;
        contents = e.fills.contents;
        fills = inl (f e.fills.id e.fills.shown, (e.parts, e.fills.fills, refl));
        encodes = e.fills.encodes;
      };
      whole = e.whole;
      grown = subst (λ (i : ℕ). IsGrown was i now new.at e.list) at e.grown;
      taken = is ∙ ap (λ (l : Parts). q ∷ l) e.taken;
    }

    pub chosen_misfit : (e : Misfit) → A.misfit (tape c mid.next) e → D.misfit (tape c old.next) e
    chosen_misfit e w = subst (λ (l : Parts). D.misfit l e) (sym is) (inl (refl, inl w))

    pub chosen_clash : (e : IsFilled c (IsElementOf A found) was mid now new) → ((id : Identifier) → IsIdentifier found id → P id → ⊥) → (last : Writer)
        → last.next ≡ old.next → last.node ≡ node → last.reason ≡ rejection.Misfit NoEncoding → IsStopped c D.misfit old last
    chosen_clash e f last next same reason =
        inl (misfit_here c D.misfit old last node NoEncoding next same reason
        (subst (λ (l : Parts). D.misfit l (record { node = node; left = length l; kind = NoEncoding })) (sym is)
        (inl (
          refl,
          inr (
            (
              e.fills.id,
              record {
                parts = e.parts;
                list = e.fills.contents;
                rest = tape c new.next;
                encodes = e.fills.fills;
                are = e.taken;
                holds = f e.fills.id e.fills.shown;
              },
            ),
            refl,
          ),
        ))))

  module _ (p : Piece) (rest : Parts) (is : tape c old.next ≡ p ∷ rest) (other : p ≡ q → ⊥) where
    pub other_done : (e : IsFilled c (IsElementOf B found) was old now new) → ((id : Identifier) → IsIdentifier found id → P id → ⊥)
        → IsFilled c (IsElementOf D found) was old now new
    other_done e f = record {
      parts = e.parts;
      list = e.list;
      fills = record {
        id = e.fills.id;
        shown = e.fills.shown;
        contents = e.fills.contents;
        fills = inr (f e.fills.id e.fills.shown, e.fills.fills);
        encodes = e.fills.encodes;
      };
      whole = e.whole;
      grown = e.grown;
      taken = e.taken;
    }

    pub other_misfit : (e : Misfit) → B.misfit (tape c old.next) e → D.misfit (tape c old.next) e
    other_misfit e w = subst (λ (l : Parts). D.misfit l e) (sym is) (inr (other, inl (subst (λ (l : Parts). B.misfit l e) is w)))

    pub other_clash : (e : IsFilled c (IsElementOf B found) was old now new) → ((id : Identifier) → IsIdentifier found id → P id) → (last : Writer)
        → last.next ≡ old.next → last.node ≡ node → last.reason ≡ rejection.Misfit NoEncoding → IsStopped c D.misfit old last
    other_clash e f last next same reason =
        inl (misfit_here c D.misfit old last node NoEncoding next same reason
        (subst (λ (l : Parts). D.misfit l (record { node = node; left = length l; kind = NoEncoding })) (sym is)
        (inr (
          other,
          inr (
            (
              e.fills.id,
              record {
                parts = e.parts;
                list = e.fills.contents;
                rest = tape c new.next;
                encodes = e.fills.fills;
                are = sym is ∙ e.taken;
                holds = f e.fills.id e.fills.shown;
              },
            ),
            refl,
          ),
        ))))

-- ---- the tables

module _ (c : Context) (depth node index count from : ℕ) (B : ByHeader FaultKind Identifier) (m : Member) (first : FirstTags)
    (P : ByHeader FaultKind Identifier → Type 0) where
  pub at_alternative : 0 < count → slice_get c.tables.members.now from ≡ Some m → slice_get c.tags.members.now from ≡ Some first
      → P (der.alternative (types c depth) (tables_of c) node (Some m) (Some first) index
      (der.alternatives (types c depth) (tables_of c) node (count - 1) (index + 1) (from + 1) B))
      → P (der.alternatives (types c depth) (tables_of c) node count index from B)
  at_alternative = by count
    where
      by : (k : ℕ) → 0 < k → slice_get c.tables.members.now from ≡ Some m → slice_get c.tags.members.now from ≡ Some first
          → P (der.alternative (types c depth) (tables_of c) node (Some m) (Some first) index
          (der.alternatives (types c depth) (tables_of c) node (k - 1) (index + 1) (from + 1) B))
          → P (der.alternatives (types c depth) (tables_of c) node k index from B)
      by zero some e f p = absurd (omega (arith, some))
      by (suc k) some e f p =
          let same : suc k - 1 ≡ k = omega arith in
          subst
          (λ (x : Option Member). P (der.alternative (types c depth) (tables_of c) node x (slice_get c.tags.members.now from) index
          (der.alternatives (types c depth) (tables_of c) node k (index + 1) (from + 1) B))) (sym e)
          (subst
          (λ (x : Option FirstTags). P (der.alternative (types c depth) (tables_of c) node (Some m) x index
          (der.alternatives (types c depth) (tables_of c) node k (index + 1) (from + 1) B))) (sym f)
          (subst
          (λ (i : ℕ). P (der.alternative (types c depth) (tables_of c) node (Some m) (Some first) index
          (der.alternatives (types c depth) (tables_of c) node i (index + 1) (from + 1) B))) same p))
