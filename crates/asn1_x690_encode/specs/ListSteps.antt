-- What follows of items that were encoded one after another.
use Rattle.std.proofs.Common.{◌≡◌, ℕ, zero, suc, ◌+◌, ◌%◌, ◌<◌, ◌≤◌, List, [], ◌∷◌, ◌++◌, Bool, true, false, length, refl, sym, ap, ◌∙◌, subst, inl, inr, Option, Some, None, arith, append_assoc, append-nil}
use Rattle.std.proofs.lemmas.List.{length-append}
use Rattle.asn1_schema.specs.Encodings.{items}
use Rattle.asn1_schema.specs.Pieces.{Piece, Parts, Count}
use Rattle.asn1_schema.specs.declared.misfit.MisfitKind.TheVariants.{NoEncoding, OtherPart}
use Rattle.asn1_schema.specs.TypeEncodings.{Misfit, TypeEncoding, several_by_bits}
use Rattle.asn1_x690.specs.declared.fault.FaultKind.{FaultKind}
use Rattle.asn1_x690.specs.declared.fault.FaultKind.TheVariants.{Extra, NotPermitted}
use Rattle.asn1_x690.specs.Laws.ElementLaws.{element_some}
use Rattle.std.specs.Prelude.{is_some}
use Rattle.asn1_x690.specs.declared.tables.Identifier.{Identifier}
use Rattle.asn1_x690.specs.Der as der
use Rattle.asn1_x690_fields.specs.declared.identifier.FoundIdentifier.{FoundIdentifier}
use Rattle.asn1_x690.specs.TypeContents.{ByHeader, TypeContents, ToldContents, FillsWith, to_end, told}
use Rattle.asn1_x691_writers.specs.declared.state.Writer.{Writer}
use Rattle.asn1_x691_writers.specs.GrownSteps.{grown_both, grown_none}
use Rattle.asn1_x691_writers.specs.Written.{IsGrown}
use Rattle.asn1_x690_encode.specs.declared.context.Context.{Context}
use Rattle.asn1_x690_encode.specs.Encoding.{tape, element_in, IsFilled, IsStopped, Outcome, ContentsOutcome, ElementOutcome}
use Rattle.asn1_x690_encode.specs.Steps.{stopped_on}
use Rattle.asn1_x690_encode.specs.ToldSteps.{whole_both, taken_both}

-- each value takes bits
abbrev pub TakesBits : TypeEncoding FaultKind → Type 0
TakesBits A = (xs : Parts) (l : List Bool) → A.encoding.encodes xs l → 0 < length l

pub element_takes : (c : Context) (depth inner : ℕ) → TakesBits (element_in c depth inner)
element_takes c depth inner xs l p = let h = element_some inner p.0 l p.1 in omega (arith, h)

module _ (A : List Bool → TypeEncoding FaultKind) where
  abbrev pub Several : List Bool → ℕ → ℕ → TypeEncoding FaultKind
  Several before n at = several_by_bits (λ k i. A k) before n at

  -- `n` values fill contents to their end
  pub fill_end : (node : ℕ) → ((before : List Bool) → TakesBits (A before)) → (n most at : ℕ) (before : List Bool) (xs : Parts) (l : List Bool)
      → length l ≤ most → (Several before n at).encoding.encodes xs l
      → (items {Y = ℕ × Parts} Extra node (λ k. (A k).encoding) (0, []) (λ ts w. (suc w.0, ts ++ w.1)) before most).fills (n, xs) l
  fill_end node some zero zero at before xs l few m = (ap (λ (ys : Parts). (0, ys)) m.0, m.1)
  fill_end node some zero (suc most) at before xs l few m = inl (m.1, (ap (λ (ys : Parts). (0, ys)) m.0, m.1))
  fill_end node some (suc n) zero at before xs l few m =
      let s : 0 < length m.front = some before m.value.0 m.front m.first.0 in
      let w : length l ≡ length m.front + length m.rest = ap length m.parts ∙ length-append m.front m.rest in
      absurd (omega (arith, s, w, few))
  fill_end node some (suc n) (suc most) at before xs l few m =
      let s : 0 < length m.front = some before m.value.0 m.front m.first.0 in
      let w : length l ≡ length m.front + length m.rest = ap length m.parts ∙ length-append m.front m.rest in
      let there : l ≡ [] → ⊥ = λ e. let z : length l ≡ 0 = ap length e in omega (arith, s, w, z) in
      inr (
        there,
        record {
          value = m.value;
          after = (n, m.after);
          front = m.front;
          rest = m.rest;
          first = m.first;
          second = fill_end node some n most (at + length m.front) m.value.1 m.after m.rest (omega (arith, s, w, few)) m.second;
          is = ap (λ (ys : Parts). (suc n, ys)) m.is;
          parts = m.parts;
        },
      )

  -- `left` of the values are left, after the bits of one
  pub record AreItems (c : Context) (n left : ℕ) (was : List ℕ) (old : Writer) (now : List ℕ) (new : Writer) : Type 0 where
    pub before : List Bool
    pub at : ℕ
    pub parts : Parts
    pub list : List Bool
    pub whole : length list % 8 ≡ 0
    pub grown : IsGrown was old.at now new.at list
    pub taken : tape c old.next ≡ parts ++ tape c new.next
    pub encodes : (ts : Parts) (us : List Bool) → (Several before left at).encoding.encodes ts us
        → (Several [] n 0).encoding.encodes (parts ++ ts) (list ++ us)
    pub misfit : (e : Misfit) → (Several before left at).misfit (tape c new.next) e → (Several [] n 0).misfit (tape c old.next) e

  module _ (c : Context) (n : ℕ) (was : List ℕ) (old : Writer) where
    unfoldable pub items_none : AreItems c n n was old was old
    items_none = record {
      before = [];
      at = 0;
      parts = [];
      list = [];
      whole = refl;
      grown = grown_none was old.at;
      taken = refl;
      encodes = λ ts us p. p;
      misfit = λ e w. w;
    }

    module _ (left rest : ℕ) (mid : List ℕ) (m : Writer) (i : AreItems c n left was old mid m) (one : left ≡ suc rest) where
      items_left : AreItems c n (suc rest) was old mid m
      items_left = subst (λ (k : ℕ). AreItems c n k was old mid m) one i

      unfoldable pub items_more : (now : List ℕ) (new : Writer)
          (f : IsFilled c (A i.before).encoding.encodes mid m now new) → AreItems c n rest was old now new
      items_more now new f = record {
        before = f.list;
        at = i.at + length f.list;
        parts = i.parts ++ f.parts;
        list = i.list ++ f.list;
        whole = whole_both i.list f.list i.whole f.whole;
        grown = grown_both was mid now old.at m.at new.at i.list f.list i.grown f.grown;
        taken = taken_both c old.next m.next new.next i.parts f.parts i.taken f.taken;
        encodes = λ ts us p.
            subst (λ (xs : Parts). (Several [] n 0).encoding.encodes xs ((i.list ++ f.list) ++ us)) (sym (append_assoc i.parts f.parts ts))
            (subst (λ (l : List Bool). (Several [] n 0).encoding.encodes (i.parts ++ (f.parts ++ ts)) l) (sym (append_assoc i.list f.list us))
            (i.encodes (f.parts ++ ts) (f.list ++ us)
            (subst (λ (k : ℕ). (Several i.before k i.at).encoding.encodes (f.parts ++ ts) (f.list ++ us)) (sym one)
            (record {
              value = (f.parts, f.list);
              after = ts;
              front = f.list;
              rest = us;
              first = (f.fills, refl);
              second = p;
              is = refl;
              parts = refl;
            }))));
        misfit = λ e w.
            i.misfit e
            (subst (λ (k : ℕ). (Several i.before k i.at).misfit (tape c m.next) e) (sym one)
            (inr (record { parts = f.parts; list = f.list; rest = tape c new.next; encodes = f.fills; are = f.taken; holds = w })));
      }

      pub items_stopped : (new : Writer) → IsStopped c (A i.before).misfit m new → IsStopped c (Several [] n 0).misfit old new
      items_stopped new s =
          stopped_on c (A i.before).misfit (Several [] n 0).misfit old m new
          (λ e w. i.misfit e (subst (λ (k : ℕ). (Several i.before k i.at).misfit (tape c m.next) e) (sym one) (inl w))) s

    unfoldable pub items_done : (node left : ℕ) → ((before : List Bool) → TakesBits (A before)) → (now : List ℕ) (new : Writer)
        → AreItems c n left was old now new → left ≡ 0 → IsFilled c (FillsWith (to_end Extra node A) n) was old now new
    items_done node left some now new i none =
        let p = i.encodes [] []
        (subst (λ (k : ℕ). (Several i.before k i.at).encoding.encodes [] []) (sym none) (refl, refl)) in
        let q = subst (λ (l : List Bool). (Several [] n 0).encoding.encodes i.parts l) (append-nil i.list)
        (subst (λ (xs : Parts). (Several [] n 0).encoding.encodes xs (i.list ++ [])) (append-nil i.parts) p) in
        record {
          parts = i.parts;
          list = i.list;
          fills = fill_end node some n (length i.list) 0 [] i.parts i.list (omega arith) q;
          whole = i.whole;
          grown = i.grown;
          taken = i.taken;
        }

-- ---- the number of items

module _ (c : Context) (Permits : ℕ → Type 0) (node : ℕ) (F : ToldContents FaultKind ℕ) (n : ℕ) (was : List ℕ) (old : Writer) (now : List ℕ)
    (new : Writer) where
  abbrev T : TypeContents FaultKind
  T = told Count Permits NotPermitted node F

  pub counted : (mid : Writer) (r : Bool) → tape c old.next ≡ Count n ∷ tape c mid.next → mid.at ≡ old.at → Permits n
      → Outcome c (FillsWith F n) (F.misfit n) was mid now new r → ContentsOutcome c T was old now new r
  counted mid true e at p f = record {
    parts = Count n ∷ f.parts;
    list = f.list;
    fills = ((n, f.parts), (f.fills, p), refl);
    whole = f.whole;
    grown = subst (λ (i : ℕ). IsGrown was i now new.at f.list) at f.grown;
    taken = e ∙ ap (λ (l : Parts). Count n ∷ l) f.taken;
  }
  counted mid false e at p f =
      stopped_on c (F.misfit n) T.misfit old mid new
      (λ m w. subst (λ (l : Parts). T.misfit l m) (sym e) (inl (n, refl, inr (p, w)))) f

  pub not_permitted : (rest : Parts) → (Permits n → ⊥)
      → T.misfit (Count n ∷ rest) (record { node = node; left = length (Count n ∷ rest); kind = NoEncoding })
  not_permitted rest f = inl (n, refl, inl (f, refl))

  pub no_count : (p : Piece) (rest : Parts) → ((y : ℕ) → p ≡ Count y → ⊥)
      → T.misfit (p ∷ rest) (record { node = node; left = length (p ∷ rest); kind = OtherPart })
  no_count p rest f = inr (f, refl)

-- a call that returned no element, or one
pub none_stopped : (c : Context) (node : ℕ) (B : ByHeader FaultKind Identifier) (was : List ℕ) (old : Writer) (now : List ℕ) (new : Writer)
    (r : Option FoundIdentifier) → is_some r ≡ false → ElementOutcome c B was old now new r → IsStopped c (der.element node B).misfit old new
none_stopped c node B was old now new None e (inl m) = inl (record { kind = m.kind; reason = m.reason; first = inl m.first })
none_stopped c node B was old now new None e (inr u) = inr u
none_stopped c node B was old now new (Some found) e f = absurd cc

pub some_filled : (c : Context) (node : ℕ) (B : ByHeader FaultKind Identifier) (was : List ℕ) (old : Writer) (now : List ℕ) (new : Writer)
    (r : Option FoundIdentifier) → is_some r ≡ true → ElementOutcome c B was old now new r
    → IsFilled c (der.element node B).encoding.encodes was old now new
some_filled c node B was old now new None e f = absurd cc
some_filled c node B was old now new (Some found) e f = record {
  parts = f.parts;
  list = f.list;
  fills = ((f.fills.id, f.fills.contents), f.fills.encodes node, f.fills.fills);
  whole = f.whole;
  grown = f.grown;
  taken = f.taken;
}
