-- What follows of additions that were encoded.
use Rattle.std.proofs.Common.{◌≡◌, ℕ, suc, ◌+◌, ◌<◌, List, [], ◌∷◌, ◌++◌, Bool, true, false, refl, sym, ap, ◌∙◌, subst, inl, inr, Option, Some, None, arith}
use Rattle.std.specs.Prelude.{is_some, MatchOption}
use Rattle.asn1_schema.specs.declared.misfit.MisfitKind.TheVariants.{NoEncoding, NoAddition}
use Rattle.asn1_schema.specs.Pieces.{Parts, Additions, Unknown}
use Rattle.asn1_schema.specs.TypeEncodings.{TypeEncoding}
use Rattle.asn1_x690.specs.declared.fault.FaultKind.{FaultKind}
use Rattle.asn1_x690.specs.declared.fault.FaultKind.TheVariants.{Extra, NotPermitted}
use Rattle.asn1_x690.specs.declared.tables.Identifier.{Identifier}
use Rattle.asn1_x690.specs.Der as der
use Rattle.asn1_x690.specs.Laws.ElementLaws.{element_some}
use Rattle.asn1_x690.specs.TypeContents.{TypeContents, ToldContents, ByHeader, to_end, told, some_or_none}
use Rattle.asn1_x690_fields.specs.declared.identifier.FoundIdentifier.{FoundIdentifier}
use Rattle.asn1_x691_writers.specs.declared.state.Writer.{Writer}
use Rattle.asn1_x691_writers.specs.declared.state.Rejection.TheVariants as rejection
use Rattle.asn1_x691_writers.specs.Written.{IsGrown}
use Rattle.asn1_x690_encode.specs.declared.context.Context.{Context}
use Rattle.asn1_x690_encode.specs.Encoding.{tape, unknown_in, BeginsWith, IsStopped, ToldOutcome, ValueOutcome}
use Rattle.asn1_x690_encode.specs.ListSteps.{AreItems, TakesBits, items_none, items_more, items_stopped, items_done}
use Rattle.asn1_x690_encode.specs.OtherSteps.{value_filled}
use Rattle.asn1_x690_encode.specs.Steps.{begins_more, begins_some, misfit_here, stopped_on}

-- ---- additions after their number

module _ (c : Context) (node : ℕ) (G : ToldContents FaultKind ℕ) (n : ℕ) (was : List ℕ) (old : Writer) (now : List ℕ) (new : Writer) where
  abbrev T : TypeContents FaultKind
  T = told Additions der.always NotPermitted node G

  abbrev pub Extension : ToldContents FaultKind Bool
  Extension = some_or_none Extra node T

  module _ (mid : Writer) (is : tape c old.next ≡ Additions n ∷ tape c mid.next) (at : mid.at ≡ old.at) where
    pub added_fails : IsStopped c (G.misfit n) mid new → IsStopped c (Extension.misfit true) old new
    added_fails =
        stopped_on c (G.misfit n) (Extension.misfit true) old mid new
        (λ m w. inl (subst (λ (l : Parts). T.misfit l m) (sym is) (inl (n, refl, inr (tt, w)))))

    added_done : (found : FoundIdentifier) → ToldOutcome c G n was mid now new (Some (Some found))
        → ToldOutcome c Extension true was old now new (Some (Some found))
    added_done found f = record {
      parts = Additions n ∷ f.parts;
      list = f.list;
      fills = (
        inr (
          begins_some found f.list f.fills.1,
          (Additions n ∷ f.parts, ((n, f.parts), (f.fills.0, tt), refl), refl),
        ),
        f.fills.1,
      );
      whole = f.whole;
      grown = subst (λ (i : ℕ). IsGrown was i now new.at f.list) at f.grown;
      taken = is ∙ ap (λ (l : Parts). Additions n ∷ l) f.taken;
    }

    pub added_by : (begins : Option FoundIdentifier) → is_some begins ≡ true → ToldOutcome c G n was mid now new (Some begins)
        → ToldOutcome c Extension true was old now new (Some begins)
    added_by None e f = absurd cc
    added_by (Some found) e f = added_done found f

    -- none is present
    added_none : ToldOutcome c G n was mid now new (Some None) → (last : Writer) → last.next ≡ old.next → last.node ≡ node
        → last.reason ≡ rejection.Misfit NoAddition → IsStopped c (Extension.misfit true) old last
    added_none f last next same reason =
        inl (misfit_here c (Extension.misfit true) old last node NoAddition next same reason
        (inr (
          record {
            parts = Additions n ∷ f.parts;
            list = f.list;
            rest = tape c new.next;
            encodes = ((n, f.parts), (f.fills.0, tt), refl);
            are = is ∙ ap (λ (l : Parts). Additions n ∷ l) f.taken;
            holds = f.fills.1;
          },
          refl,
        )))

    pub none_added : (begins : Option FoundIdentifier) → is_some begins ≡ false → ToldOutcome c G n was mid now new (Some begins) → (last : Writer)
        → last.next ≡ old.next → last.node ≡ node → last.reason ≡ rejection.Misfit NoAddition → IsStopped c (Extension.misfit true) old last
    none_added None e f last next same reason = added_none f last next same reason
    none_added (Some found) e f last next same reason = absurd cc

-- no additions
pub no_additions : (c : Context) (node : ℕ) (T : TypeContents FaultKind) (was : List ℕ) (state : Writer) → IsGrown was state.at was state.at []
    → ToldOutcome c (some_or_none Extra node T) false was state was state (Some None)
no_additions c node T was state g = record {
  parts = [];
  list = [];
  fills = (inl (refl, (refl, refl)), refl);
  whole = refl;
  grown = g;
  taken = refl;
}

-- ---- unknown additions

module _ (node : ℕ) where
  abbrev pub Kept : ByHeader FaultKind Identifier
  Kept = der.any_value Unknown node

  abbrev pub kept_in : List Bool → TypeEncoding FaultKind
  kept_in before = der.element node Kept

  kept_takes : (before : List Bool) → TakesBits (kept_in before)
  kept_takes before xs l p = let h = element_some node p.0 l p.1 in omega (arith, h)

  -- the unknown additions that are left follow those that were encoded, which begin with an identifier
  pub record AreKept (c : Context) (n left : ℕ) (begins : Option FoundIdentifier) (was : List ℕ) (old : Writer) (now : List ℕ) (new : Writer)
      : Type 0 where
    pub items : AreItems kept_in c n left was old now new
    pub first : BeginsWith begins items.list

  first_of : (begins : Option FoundIdentifier) (found first : FoundIdentifier) (list more : List Bool)
      → MatchOption begins (first ≡ found) (λ x. first ≡ x) → BeginsWith begins list → BeginsWith (Some found) more
      → BeginsWith (Some first) (list ++ more)
  first_of None found first list more e none b =
      subst (λ (l : List Bool). BeginsWith (Some first) (l ++ more)) (sym none) (subst (λ (x : FoundIdentifier). BeginsWith (Some x) more) (sym e) b)
  first_of (Some x) found first list more e a b =
      begins_more first list more (subst (λ (y : FoundIdentifier). BeginsWith (Some y) list) (sym e) a)

  module _ (c : Context) (n : ℕ) (was : List ℕ) (old : Writer) where
    pub kept_begun : AreKept c n n None was old was old
    unfolding items_none
    kept_begun = record { items = items_none kept_in c n was old; first = refl }

    module _ (left rest : ℕ) (begins : Option FoundIdentifier) (mid : List ℕ) (m : Writer) (k : AreKept c n left begins was old mid m)
        (one : left ≡ suc rest) where
      pub kept_more : (found first : FoundIdentifier) (now : List ℕ) (new : Writer) → MatchOption begins (first ≡ found) (λ x. first ≡ x)
          → (a : ValueOutcome c (der.element node Kept) mid m now new (Some found)) → AreKept c n rest (Some first) was old now new
      unfolding items_more value_filled
      kept_more found first now new e a = record {
        items = items_more kept_in c n was old left rest mid m k.items one now new (value_filled c (der.element node Kept) mid now m new found a);
        first = first_of begins found first k.items.list a.list e k.first a.fills.1;
      }

      pub kept_fails : (known count : ℕ) (new : Writer) → count ≡ known + n → IsStopped c (der.element node Kept).misfit m new
          → IsStopped c ((unknown_in node known).misfit count) old new
      kept_fails known count new e s =
          renamed_fails known count new e (items_stopped kept_in c n was old left rest mid m k.items one new s)
        where
          renamed_fails : (known count : ℕ) (new : Writer) → count ≡ known + n
              → IsStopped c ((to_end Extra node kept_in).misfit n) old new → IsStopped c ((unknown_in node known).misfit count) old new
          renamed_fails known count new e (inl w) = inl (record { kind = w.kind; reason = w.reason; first = inl (n, e, w.first) })
          renamed_fails known count new e (inr u) = inr u

    pub kept_done : (known count left : ℕ) (begins : Option FoundIdentifier) (now : List ℕ) (new : Writer) → count ≡ known + n → left ≡ 0
        → AreKept c n left begins was old now new → ToldOutcome c (unknown_in node known) count was old now new (Some begins)
    unfolding items_done
    kept_done known count left begins now new e none k =
        let f = items_done kept_in c n was old node left kept_takes now new k.items none in
        record {
          parts = f.parts;
          list = f.list;
          fills = (((n, f.parts), f.fills, ap (λ (i : ℕ). (i, f.parts)) e), k.first);
          whole = f.whole;
          grown = f.grown;
          taken = f.taken;
        }

-- too few additions
pub few_additions : (c : Context) (node known count : ℕ) (old new : Writer) → count < known → new.next ≡ old.next → new.node ≡ node
    → new.reason ≡ rejection.Misfit NoEncoding → IsStopped c ((unknown_in node known).misfit count) old new
few_additions c node known count old new few next same reason =
    inl (misfit_here c ((unknown_in node known).misfit count) old new node NoEncoding next same reason
    (inr ((λ x e. omega (arith, few, e)), refl)))
