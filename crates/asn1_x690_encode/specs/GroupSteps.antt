-- What follows of additions that are encoded one after another, and of addition groups.
use Rattle.std.proofs.Common.{◌≡◌, ℕ, zero, suc, ◌+◌, ◌-◌, ◌<◌, List, [], ◌∷◌, length, refl, sym, ap, ◌∙◌, subst, inl, inr, Option, Some, None, arith}
use Rattle.std.specs.Prelude.{slice_get}
use Rattle.asn1_schema.specs.declared.misfit.MisfitKind.TheVariants.{NoPart, OtherPart}
use Rattle.asn1_schema.specs.declared.tables.Member.{Member}
use Rattle.asn1_schema.specs.declared.tables.Rows.{Rows}
use Rattle.asn1_schema.specs.Pieces.{Piece, Parts}
use Rattle.asn1_x690.specs.declared.fault.FaultKind.{FaultKind}
use Rattle.asn1_x690.specs.declared.tables.FirstTags.{FirstTags}
use Rattle.asn1_x690.specs.Der as der
use Rattle.asn1_x690.specs.TypeContents.{ToldContents, prefixed}
use Rattle.asn1_x690_fields.specs.declared.identifier.FoundIdentifier.{FoundIdentifier}
use Rattle.asn1_x691_writers.specs.declared.state.Writer.{Writer}
use Rattle.asn1_x691_writers.specs.declared.state.Rejection.TheVariants as rejection
use Rattle.asn1_x691_writers.specs.Written.{IsGrown}
use Rattle.asn1_x690_encode.specs.declared.context.Context.{Context}
use Rattle.asn1_x690_encode.specs.Encoding.{tape, tables_of, types, unknown_in, value_in, IsStopped, ToldOutcome}
use Rattle.asn1_x690_encode.specs.Steps.{misfit_here, stopped_on}

-- ---- additions that are left

module _ (c : Context) (depth node known : ℕ) (P : ToldContents FaultKind ℕ → Type 0) where
  abbrev Added : ℕ → ℕ → ToldContents FaultKind ℕ
  Added count from = der.additions (types c depth) (tables_of c) node count from (unknown_in node known)

  pub none_known : (count from : ℕ) → count ≡ 0 → P (unknown_in node known) → P (Added count from)
  none_known count from e p = subst (λ (k : ℕ). P (Added k from)) (sym e) p

  pub no_addition : (count from : ℕ) → 0 < count → slice_get c.tables.members.now from ≡ None → P (der.no_member node) → P (Added count from)
  no_addition zero from some e p = absurd (omega (arith, some))
  no_addition (suc k) from some e p =
      subst
      (λ (x : Option Member). P (der.addition (types c depth) (tables_of c) node x (slice_get c.tags.members.now from) (Added k (from + 1))))
      (sym e) p

  module _ (m : Member) where
    abbrev V : ToldContents FaultKind ℕ → Option Rows → FirstTags → ToldContents FaultKind ℕ
    V F rows first = der.addition_by (types c depth) (tables_of c) node rows first (value_in c depth node m.presence m.node) F

    pub no_addition_tags : (count from : ℕ) → 0 < count → slice_get c.tables.members.now from ≡ Some m → slice_get c.tags.members.now from ≡ None
        → P (der.no_member node) → P (Added count from)
    no_addition_tags zero from some e f p = absurd (omega (arith, some))
    no_addition_tags (suc k) from some e f p =
        subst
        (λ (x : Option Member). P (der.addition (types c depth) (tables_of c) node x (slice_get c.tags.members.now from) (Added k (from + 1))))
        (sym e)
        (subst (λ (x : Option FirstTags). P (der.addition (types c depth) (tables_of c) node (Some m) x (Added k (from + 1)))) (sym f) p)

    pub first_addition : (count from : ℕ) (first : FirstTags) (rows : Option Rows) → 0 < count → slice_get c.tables.members.now from ≡ Some m
        → slice_get c.tags.members.now from ≡ Some first → first.group ≡ rows → P (V (Added (count - 1) (from + 1)) rows first)
        → P (Added count from)
    first_addition zero from first rows some e f g p = absurd (omega (arith, some))
    first_addition (suc k) from first rows some e f g p =
        let same : suc k - 1 ≡ k = omega arith in
        subst
        (λ (x : Option Member). P (der.addition (types c depth) (tables_of c) node x (slice_get c.tags.members.now from) (Added k (from + 1))))
        (sym e)
        (subst (λ (x : Option FirstTags). P (der.addition (types c depth) (tables_of c) node (Some m) x (Added k (from + 1)))) (sym f)
        (subst (λ (x : Option Rows). P (V (Added k (from + 1)) x first)) (sym g)
        (subst (λ (i : ℕ). P (V (Added i (from + 1)) rows first)) same p)))

-- ---- a part, and what follows it

module _ {X : Type 0} (c : Context) (q : Piece) (node : ℕ) (F : ToldContents FaultKind X) (x : X) (old : Writer) where
  abbrev D : ToldContents FaultKind X
  D = prefixed q node F

  pub prefixed_outcome : (was : List ℕ) (mid : Writer) (now : List ℕ) (new : Writer) (r : Option (Option FoundIdentifier))
      → tape c old.next ≡ q ∷ tape c mid.next → mid.at ≡ old.at → ToldOutcome c F x was mid now new r → ToldOutcome c D x was old now new r
  prefixed_outcome was mid now new (Some begins) e at f = record {
    parts = q ∷ f.parts;
    list = f.list;
    fills = (((x, f.parts), f.fills.0, refl), f.fills.1);
    whole = f.whole;
    grown = subst (λ (n : ℕ). IsGrown was n now new.at f.list) at f.grown;
    taken = e ∙ ap (λ (l : Parts). q ∷ l) f.taken;
  }
  prefixed_outcome was mid now new None e at s =
      stopped_on c (F.misfit x) (D.misfit x) old mid new
      (λ m w. subst (λ (l : Parts). D.misfit x l m) (sym e) (inl (refl, w))) s

  module _ (last : Writer) (next : last.next ≡ old.next) (same : last.node ≡ node) where
    pub no_prefix : tape c old.next ≡ [] → last.reason ≡ rejection.Misfit NoPart → IsStopped c (D.misfit x) old last
    no_prefix e reason =
        inl (misfit_here c (D.misfit x) old last node NoPart next same reason
        (subst (λ (l : Parts). D.misfit x l (record { node = node; left = length l; kind = NoPart })) (sym e) refl))

    pub other_prefix : (p : Piece) (rest : Parts) → tape c old.next ≡ p ∷ rest → (p ≡ q → ⊥) → last.reason ≡ rejection.Misfit OtherPart
        → IsStopped c (D.misfit x) old last
    other_prefix p rest e other reason =
        inl (misfit_here c (D.misfit x) old last node OtherPart next same reason
        (subst (λ (l : Parts). D.misfit x l (record { node = node; left = length l; kind = OtherPart })) (sym e) (inr (other, refl))))
