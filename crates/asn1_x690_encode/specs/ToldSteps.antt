-- What follows of components that were encoded one after another.
use Rattle.std.proofs.Common.{◌≡◌, ℕ, ◌%◌, List, ◌∷◌, ◌++◌, Bool, length, refl, sym, ap, ◌∙◌, subst, inl, inr, Option, Some, None, arith, append_assoc}
use Rattle.std.specs.Prelude.{is_some}
use Rattle.std.proofs.lemmas.List.{length-append}
use Rattle.asn1_schema.specs.declared.misfit.MisfitKind.TheVariants.{OtherPart, NoEncoding}
use Rattle.asn1_schema.specs.Pieces.{Piece, Absent, Parts}
use Rattle.asn1_schema.specs.TypeEncodings.{Misfit, TypeEncoding, IsAbsent}
use Rattle.asn1_x690.specs.declared.fault.FaultKind.{FaultKind}
use Rattle.asn1_x690.specs.declared.fault.FaultKind.TheVariants.{NotPermitted}
use Rattle.asn1_x690.specs.Der.{always}
use Rattle.asn1_x690.specs.TypeContents.{TypeContents, ToldContents, FillsWith, present, required, perhaps, told}
use Rattle.asn1_x690_fields.specs.declared.identifier.FoundIdentifier.{FoundIdentifier}
use Rattle.asn1_x691_writers.specs.declared.state.Writer.{Writer}
use Rattle.asn1_x691_writers.specs.declared.state.Rejection.TheVariants as rejection
use Rattle.asn1_x691_writers.specs.GrownSteps.{grown_both}
use Rattle.asn1_x691_writers.specs.Written.{IsGrown}
use Rattle.asn1_x690_encode.specs.declared.context.Context.{Context}
use Rattle.asn1_x690_encode.specs.Encoding.{tape, IsFilled, BeginFilled, IsStopped, ToldOutcome, ValueOutcome, ContentsOutcome}
use Rattle.asn1_x690_encode.specs.Steps.{begins_more, begins_some, stopped_on, misfit_here}

-- whole octets after whole octets
pub whole_both : (xs ys : List Bool) → length xs % 8 ≡ 0 → length ys % 8 ≡ 0 → length (xs ++ ys) % 8 ≡ 0
whole_both xs ys a b = omega (arith, a, b, length-append xs ys)

pub taken_both : (c : Context) (old mid new : ℕ) (xs ys : Parts) → tape c old ≡ xs ++ tape c mid → tape c mid ≡ ys ++ tape c new
    → tape c old ≡ (xs ++ ys) ++ tape c new
taken_both c old mid new xs ys a b = a ∙ ap (λ (l : Parts). xs ++ l) b ∙ sym (append_assoc xs ys (tape c new))

module _ {X : Type 0} (c : Context) (A : TypeEncoding FaultKind) (F : ToldContents FaultKind X) (x : X) (was : List ℕ) (old : Writer)
    (mid : List ℕ) (m : Writer) (found : FoundIdentifier) (a : ValueOutcome c A was old mid m (Some found)) where
  -- the misfit of what follows a value
  pub after_value : (e : Misfit) → F.misfit x (tape c m.next) e → (present A F).misfit x (tape c old.next) e
  after_value e w = inr (record { parts = a.parts; list = a.list; rest = tape c m.next; encodes = a.fills.0; are = a.taken; holds = w })

  module _ (now : List ℕ) (new : Writer) (begins : Option FoundIdentifier) (f : ToldOutcome c F x mid m now new (Some begins)) where
    pub present_done : IsFilled c (BeginFilled (FillsWith (present A F) x) (Some found)) was old now new
    present_done = record {
      parts = a.parts ++ f.parts;
      list = a.list ++ f.list;
      fills = (
        record {
          value = a.parts;
          after = (x, f.parts);
          front = a.list;
          rest = f.list;
          first = a.fills.0;
          second = f.fills.0;
          is = refl;
          parts = refl;
        },
        begins_more found a.list f.list a.fills.1,
      );
      whole = whole_both a.list f.list a.whole f.whole;
      grown = grown_both was mid now old.at m.at new.at a.list f.list a.grown f.grown;
      taken = taken_both c old.next m.next new.next a.parts f.parts a.taken f.taken;
    }

-- contents that are not empty
pub required_done : {X : Type 0} (c : Context) (miss : FaultKind) (node : ℕ) (F : ToldContents FaultKind X) (x : X) (was : List ℕ) (old : Writer)
    (now : List ℕ) (new : Writer) (found : FoundIdentifier) → ToldOutcome c F x was old now new (Some (Some found))
    → ToldOutcome c (required miss node F) x was old now new (Some (Some found))
required_done c miss node F x was old now new found f = record {
  parts = f.parts;
  list = f.list;
  fills = (inr (begins_some found f.list f.fills.1, f.fills.0), f.fills.1);
  whole = f.whole;
  grown = f.grown;
  taken = f.taken;
}

module _ {X : Type 0} (c : Context) (C : List Bool → Type 0) (node : ℕ) (G F : ToldContents FaultKind X) (x : X) (was : List ℕ) (old : Writer)
    (now : List ℕ) (new : Writer) where
  abbrev D : ToldContents FaultKind X
  D = perhaps C node G F

  module _ (mid : Writer) (absent : tape c old.next ≡ Absent ∷ tape c mid.next) (at : mid.at ≡ old.at) where
    pub absent_done : (begins : Option FoundIdentifier) (f : ToldOutcome c F x was mid now new (Some begins)) → (C f.list → ⊥)
        → ToldOutcome c D x was old now new (Some begins)
    absent_done begins f other = record {
      parts = Absent ∷ f.parts;
      list = f.list;
      fills = (inr (other, ((x, f.parts), f.fills.0, refl)), f.fills.1);
      whole = f.whole;
      grown = subst (λ (n : ℕ). IsGrown was n now new.at f.list) at f.grown;
      taken = absent ∙ ap (λ (l : Parts). Absent ∷ l) f.taken;
    }

    pub absent_misfit : (e : Misfit) → F.misfit x (tape c mid.next) e → D.misfit x (tape c old.next) e
    absent_misfit e w = inl (tape c mid.next, absent, inl w)

    pub absent_clash : (begins : Option FoundIdentifier) (f : ToldOutcome c F x was mid now new (Some begins)) → C f.list → (last : Writer)
        → last.next ≡ old.next → last.node ≡ node → last.reason ≡ rejection.Misfit NoEncoding → IsStopped c (D.misfit x) old last
    absent_clash begins f same_tag last next same reason =
        inl (misfit_here c (D.misfit x) old last node NoEncoding next same reason
        (inl (
          tape c mid.next,
          absent,
          inr (
            record { parts = f.parts; list = f.list; rest = tape c new.next; encodes = f.fills.0; are = f.taken; holds = same_tag },
            refl,
          ),
        )))

  module _ (there : IsAbsent (tape c old.next) → ⊥) where
    pub present_misfit : (e : Misfit) → G.misfit x (tape c old.next) e → D.misfit x (tape c old.next) e
    present_misfit e w = inr (there, inl w)

    pub perhaps_done : (begins : Option FoundIdentifier) (g : ToldOutcome c G x was old now new (Some begins)) → C g.list
        → ToldOutcome c D x was old now new (Some begins)
    perhaps_done begins g same_tag = record {
      parts = g.parts;
      list = g.list;
      fills = (inl (same_tag, g.fills.0), g.fills.1);
      whole = g.whole;
      grown = g.grown;
      taken = g.taken;
    }

    pub present_clash : (begins : Option FoundIdentifier) (g : ToldOutcome c G x was old now new (Some begins)) → (C g.list → ⊥) → (last : Writer)
        → last.next ≡ old.next → last.node ≡ node → last.reason ≡ rejection.Misfit NoEncoding → IsStopped c (D.misfit x) old last
    present_clash begins g other last next same reason =
        inl (misfit_here c (D.misfit x) old last node NoEncoding next same reason
        (inr (
          there,
          inr (
            record { parts = g.parts; list = g.list; rest = tape c new.next; encodes = g.fills.0; are = g.taken; holds = other },
            refl,
          ),
        )))

-- ---- a part that tells what contents tell

module _ {X : Type 0} (c : Context) (is : X → Piece) (node : ℕ) (F : ToldContents FaultKind X) (x : X) (was : List ℕ) (old : Writer)
    (now : List ℕ) (new : Writer) where
  abbrev T : TypeContents FaultKind
  T = told is always NotPermitted node F

  pub told_done : (mid : Writer) (r : Option (Option FoundIdentifier)) → tape c old.next ≡ is x ∷ tape c mid.next → mid.at ≡ old.at
      → ToldOutcome c F x was mid now new r → ContentsOutcome c T was old now new (is_some r)
  told_done mid (Some begins) e at f = record {
    parts = is x ∷ f.parts;
    list = f.list;
    fills = ((x, f.parts), (f.fills.0, tt), refl);
    whole = f.whole;
    grown = subst (λ (n : ℕ). IsGrown was n now new.at f.list) at f.grown;
    taken = e ∙ ap (λ (l : Parts). is x ∷ l) f.taken;
  }
  told_done mid None e at f =
      stopped_on c (F.misfit x) T.misfit old mid new
      (λ m w. subst (λ (l : Parts). T.misfit l m) (sym e) (inl (x, refl, inr (tt, w)))) f

  pub told_other : (p : Piece) (rest : Parts) → ((y : X) → p ≡ is y → ⊥)
      → T.misfit (p ∷ rest) (record { node = node; left = length (p ∷ rest); kind = OtherPart })
  told_other p rest f = inr (f, refl)

-- ---- a call that stopped

pub told_stopped : {X : Type 0} (c : Context) (F : ToldContents FaultKind X) (x : X) (was : List ℕ) (old : Writer) (now : List ℕ) (new : Writer)
    (r : Option (Option FoundIdentifier)) → r ≡ None → IsStopped c (F.misfit x) old new → ToldOutcome c F x was old now new r
told_stopped c F x was old now new r e s = subst (λ (y : Option (Option FoundIdentifier)). ToldOutcome c F x was old now new y) (sym e) s
