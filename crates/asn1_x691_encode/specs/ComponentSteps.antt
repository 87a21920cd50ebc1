-- What follows of components that were encoded one after another.
use Rattle.std.proofs.Common.{◌≡◌, ℕ, ◌+◌, ◌%◌, List, [], ◌∷◌, ◌++◌, Bool, true, false, length, refl, sym, ap, ◌∙◌, subst, inl, inr, arith, append_assoc}
use Rattle.std.proofs.lemmas.List.{length-append, append-nil}
use Rattle.asn1_bits.specs.Bits.{digits}
use Rattle.asn1_schema.specs.Pieces.{Absent, Parts}
use Rattle.asn1_schema.specs.TypeEncodings.{TypeEncoding, AfterHeader, IsAbsent, Misfit, mandatory, optional, end_of_components}
use Rattle.asn1_x691.specs.declared.fault.FaultKind.{FaultKind}
use Rattle.asn1_x691.specs.declared.fault.FaultKind.TheVariants.{NoNode}
use Rattle.asn1_x691_writers.specs.declared.state.Writer.{Writer}
use Rattle.asn1_x691_writers.specs.FieldSteps.{alike_after}
use Rattle.asn1_x691_writers.specs.GrownSteps.{grown_both}
use Rattle.asn1_x691_writers.specs.SetSteps.{zeros_apart}
use Rattle.asn1_x691_writers.specs.Written.{IsAlike, IsIndex, IsGrown}
use Rattle.asn1_x691_encode.specs.declared.context.Context.{Context}
use Rattle.asn1_x691_encode.specs.Encoding.{tape, IsEncoded, Outcome}
use Rattle.asn1_x691_encode.specs.Components.{IsSet, OptionalOutcome, IsPassedOver, IsIncluded, ArePassed, AreUnderway, AreMisfit}

one_zero : (k : ℕ) → digits 0 (1 + k) ≡ false ∷ digits 0 k
unfolding digits
one_zero k = zeros_apart 1 k

module _ (c : Context) where
  -- ---- which parts were passed

  abbrev pub Encodes : AfterHeader FaultKind (List Bool) → List Bool → Parts → List Bool → Type 0
  Encodes F bits ts us = (F.after bits).encodes ts us

  passed_none : (W : ℕ → AfterHeader FaultKind (List Bool)) (old : Writer) → ArePassed c W W [] [] old old
  passed_none W old = record {
    parts = [];
    taken = refl;
    alike = λ n h e. omega (arith, h e);
    encodes = λ n h more ts us p. let e : n + 0 ≡ n = omega arith in subst (λ (k : ℕ). Encodes (W k) more ts us) e p;
    misfit = λ n h f p. let e : n + 0 ≡ n = omega arith in subst (λ (k : ℕ). (W k).misfit (tape c old.next) f) e p;
  }

  module _ (W R F : ℕ → AfterHeader FaultKind (List Bool)) (xs ys list next : List Bool) (old mid new : Writer)
      (a : ArePassed c W R xs list old mid) (b : ArePassed c R F ys next mid new) where
    place : (n : ℕ) → n + length (list ++ next) ≡ n + length list + length next
    place n = omega (arith, length-append list next)

    passed_encodes : (n : ℕ) → IsAlike c.is_aligned n old.at → (more : List Bool) (ts : Parts) (us : List Bool)
        → Encodes (F (n + length (list ++ next))) more ts us → Encodes (W n) ((xs ++ ys) ++ more) ((a.parts ++ b.parts) ++ ts) ((list ++ next) ++ us)
    passed_encodes n h more ts us p =
        let p2 = subst (λ (k : ℕ). Encodes (F k) more ts us) (place n) p in
        let q = b.encodes (n + length list) (a.alike n h) more ts us p2 in
        let r = a.encodes n h (ys ++ more) (b.parts ++ ts) (next ++ us) q in
        subst (λ (l : List Bool). Encodes (W n) l ((a.parts ++ b.parts) ++ ts) ((list ++ next) ++ us)) (sym (append_assoc xs ys more))
        (subst (λ (l : Parts). Encodes (W n) (xs ++ (ys ++ more)) l ((list ++ next) ++ us)) (sym (append_assoc a.parts b.parts ts))
        (subst (λ (l : List Bool). Encodes (W n) (xs ++ (ys ++ more)) (a.parts ++ (b.parts ++ ts)) l) (sym (append_assoc list next us)) r))

    passed_on : ArePassed c W F (xs ++ ys) (list ++ next) old new
    passed_on = record {
      parts = a.parts ++ b.parts;
      taken = a.taken ∙ ap (λ (t : Parts). a.parts ++ t) b.taken ∙ sym (append_assoc a.parts b.parts (tape c new.next));
      alike = λ n h.
          subst (λ (k : ℕ). IsAlike c.is_aligned k new.at) (sym (place n)) (b.alike (n + length list) (a.alike n h));
      encodes = passed_encodes;
      misfit = λ n h e p.
          a.misfit n h e (b.misfit (n + length list) (a.alike n h) e
          (subst (λ (k : ℕ). (F k).misfit (tape c new.next) e) (place n) p));
    }

  module _ (A : ℕ → TypeEncoding FaultKind) (F : ℕ → AfterHeader FaultKind (List Bool)) (node : ℕ) (was now : List ℕ) (old new : Writer) where
    mandatory_passed : (a : IsEncoded c A was old now new) → ArePassed c (mandatory A F) F [] a.written.list old new
    mandatory_passed a = record {
      parts = a.parts;
      taken = a.taken;
      alike = λ n h. alike_after c.is_aligned was now old.at new.at n a.written.list a.written.grown h;
      encodes = λ n h more ts us p. record {
        value = a.parts;
        after = ts;
        front = a.written.list;
        rest = us;
        first = a.written.encodes n h;
        second = p;
        is = refl;
        parts = refl;
      };
      misfit = λ n h e p. inr (record {
        parts = a.parts;
        list = a.written.list;
        rest = tape c new.next;
        encodes = a.written.encodes n h;
        are = a.taken;
        holds = p;
      });
    }

    present_passed : (IsAbsent (tape c old.next) → ⊥) → (a : IsEncoded c A was old now new)
        → ArePassed c (optional NoNode node A F) F (true ∷ []) a.written.list old new
    present_passed some a = record {
      parts = a.parts;
      taken = a.taken;
      alike = λ n h. alike_after c.is_aligned was now old.at new.at n a.written.list a.written.grown h;
      encodes = λ n h more ts us p. record {
        value = a.parts;
        after = ts;
        front = a.written.list;
        rest = us;
        first = a.written.encodes n h;
        second = p;
        is = refl;
        parts = refl;
      };
      misfit = λ n h e p. inr (
        some,
        inr (record {
          parts = a.parts;
          list = a.written.list;
          rest = tape c new.next;
          encodes = a.written.encodes n h;
          are = a.taken;
          holds = p;
        }),
      );
    }

    absent_passed : tape c old.next ≡ Absent ∷ tape c new.next → new.at ≡ old.at
        → ArePassed c (optional NoNode node A F) F (false ∷ []) [] old new
    absent_passed taken same = record {
      parts = Absent ∷ [];
      taken = taken;
      alike = λ n h e. omega (arith, h e, ap (λ (k : ℕ). k % 8) same);
      encodes = λ n h more ts us p. record {
        value = Absent ∷ [];
        after = ts;
        front = [];
        rest = us;
        first = (refl, refl);
        second = p;
        is = refl;
        parts = refl;
      };
      misfit = λ n h e p.
          let k : n + 0 ≡ n = omega arith in
          inl (tape c new.next, taken, subst (λ (j : ℕ). (F j).misfit (tape c new.next) e) k p);
    }

  -- after all components
  pub all_passed : (W : ℕ → AfterHeader FaultKind (List Bool)) (node : ℕ) (bits list : List Bool) (old new : Writer)
      (p : ArePassed c W (end_of_components NoNode node) bits list old new) → (n : ℕ) → IsAlike c.is_aligned n old.at
      → Encodes (W n) bits p.parts list
  all_passed W node bits list old new p n h =
      subst (λ (l : List Bool). Encodes (W n) l p.parts list) (append-nil bits)
      (subst (λ (l : Parts). Encodes (W n) (bits ++ []) l list) (append-nil p.parts)
      (subst (λ (l : List Bool). Encodes (W n) (bits ++ []) (p.parts ++ []) l) (append-nil list)
      (p.encodes n h [] [] [] (refl, refl))))

  -- the bit of a component was set before its value was encoded
  pub included : (A : ℕ → TypeEncoding FaultKind) (head : ℕ) (was mid : List ℕ) (old : Writer) (now : List ℕ) (new : Writer) (r : Bool)
      → (IsAbsent (tape c old.next) → ⊥) → IsSet was head mid → Outcome c A mid old now new r → OptionalOutcome c A head was old now new r
  included A head was mid old now new true some set a = inr (record { mid = mid; present = some; set = set; encoded = a })
  included A head was mid old now new false some set a = (some, a)

  -- ---- components, with the bits before them

  module _ (W : ℕ → AfterHeader FaultKind (List Bool)) (width : ℕ) (first : List ℕ) (start : ℕ) (mid : Writer) where
    abbrev Underway : (ℕ → AfterHeader FaultKind (List Bool)) → ℕ → List ℕ → Writer → ℕ → Type 0
    Underway R left now new head = AreUnderway c W R width left first start mid now new head

    pub components_first : (now : List ℕ) → IsGrown first start now mid.at (digits 0 width) → Underway W width now mid start
    components_first now g = record {
      bits = [];
      list = [];
      passed = passed_none W mid;
      size = omega arith;
      grown = subst (λ (l : List Bool). IsGrown first start now mid.at l) (sym (append-nil (digits 0 width))) g;
      index = λ n h. subst (λ (k : ℕ). IsIndex start k) (omega arith) h;
    }

    pub first_bits : (now : List ℕ) (g : IsGrown first start now mid.at (digits 0 width)) → (components_first now g).bits ≡ []
    unfolding components_first
    first_bits now g = refl

    module _ (F : ℕ → AfterHeader FaultKind (List Bool)) (k : ℕ) (now next : List ℕ) (old new : Writer) (head last : ℕ) where
      on : (R : ℕ → AfterHeader FaultKind (List Bool)) (left : ℕ) (ys list : List Bool) → left ≡ length ys + k → (u : Underway R left now old head)
          → ArePassed c R F ys list old new
          → IsGrown first start next new.at ((u.bits ++ ys) ++ (digits 0 k ++ (u.list ++ list)))
          → ((n : ℕ) → IsIndex head n → IsIndex last (n + length ys)) → Underway F k next new last
      on R left ys list few u p g move = record {
        bits = u.bits ++ ys;
        list = u.list ++ list;
        passed = passed_on W R F u.bits ys u.list list mid old new u.passed p;
        size = omega (arith, u.size, few, length-append u.bits ys);
        grown = g;
        index = λ n h.
            let e : n + length u.bits + length ys ≡ n + length (u.bits ++ ys) = omega (arith, length-append u.bits ys) in
            subst (λ (j : ℕ). IsIndex last j) e (move (n + length u.bits) (u.index n h));
      }

      grown_on : (was : List ℕ) (xs zeros list item : List Bool) → IsGrown first start was old.at (xs ++ (zeros ++ list))
          → IsGrown was old.at next new.at item → IsGrown first start next new.at (xs ++ (zeros ++ (list ++ item)))
      grown_on was xs zeros list item g h =
          let e : (xs ++ (zeros ++ list)) ++ item ≡ xs ++ (zeros ++ (list ++ item)) =
          append_assoc xs (zeros ++ list) item ∙ ap (λ (l : List Bool). xs ++ l) (append_assoc zeros list item) in
          subst (λ (l : List Bool). IsGrown first start next new.at l) e
          (grown_both first was next start old.at new.at (xs ++ (zeros ++ list)) item g h)

      pub mandatory_on : (A : ℕ → TypeEncoding FaultKind) → Underway (mandatory A F) (0 + k) now old head → IsEncoded c A now old next new
          → ((n : ℕ) → IsIndex head n → IsIndex last (n + 0)) → Underway F k next new last
      mandatory_on A u a move =
          let item = a.written.list in
          let same : 0 + k ≡ k = omega arith in
          let zeros = subst (λ (n : ℕ). IsGrown first start now old.at (u.bits ++ (digits 0 n ++ u.list))) same u.grown in
          let g = grown_on now u.bits (digits 0 k) u.list item zeros a.written.grown in
          on (mandatory A F) (0 + k) [] item refl u (mandatory_passed A F 0 now next old new a)
          (subst (λ (l : List Bool). IsGrown first start next new.at (l ++ (digits 0 k ++ (u.list ++ item)))) (sym (append-nil u.bits)) g) move

      -- one zero more
      zero_before : (xs list : List Bool) → xs ++ (digits 0 (1 + k) ++ list) ≡ xs ++ (false ∷ (digits 0 k ++ list))
      zero_before xs list = ap (λ (l : List Bool). xs ++ (l ++ list)) (one_zero k)

      pub absent_on : (node : ℕ) (A : ℕ → TypeEncoding FaultKind) → Underway (optional NoNode node A F) (1 + k) now old head
          → IsPassedOver c now old next new → ((n : ℕ) → IsIndex head n → IsIndex last (n + 1)) → Underway F k next new last
      absent_on node A u a move =
          let e : u.bits ++ (digits 0 (1 + k) ++ u.list) ≡ (u.bits ++ (false ∷ [])) ++ (digits 0 k ++ (u.list ++ [])) =
          zero_before u.bits u.list ∙ sym (append_assoc u.bits (false ∷ []) (digits 0 k ++ u.list))
          ∙ ap (λ (l : List Bool). (u.bits ++ (false ∷ [])) ++ (digits 0 k ++ l)) (sym (append-nil u.list)) in
          let g = subst (λ (l : List Bool). IsGrown first start now old.at l) e u.grown in
          let h = subst (λ (o : List ℕ). IsGrown first start o old.at ((u.bits ++ (false ∷ [])) ++ (digits 0 k ++ (u.list ++ [])))) (sym a.octets) g in
          on (optional NoNode node A F) (1 + k) (false ∷ []) [] refl u (absent_passed A F node now next old new a.taken a.at)
          (subst (λ (n : ℕ). IsGrown first start next n ((u.bits ++ (false ∷ [])) ++ (digits 0 k ++ (u.list ++ [])))) (sym a.at) h) move

      pub present_on : (node : ℕ) (A : ℕ → TypeEncoding FaultKind) → Underway (optional NoNode node A F) (1 + k) now old head
          → IsIncluded c A head now old next new → ((n : ℕ) → IsIndex head n → IsIndex last (n + 1)) → Underway F k next new last
      present_on node A u a move =
          let item = a.encoded.written.list in
          let g = subst (λ (l : List Bool). IsGrown first start now old.at l) (zero_before u.bits u.list) u.grown in
          let h = a.set first start old.at u.bits (digits 0 k ++ u.list) false u.index g in
          let e : u.bits ++ (true ∷ (digits 0 k ++ u.list)) ≡ (u.bits ++ (true ∷ [])) ++ (digits 0 k ++ u.list) =
          sym (append_assoc u.bits (true ∷ []) (digits 0 k ++ u.list)) in
          on (optional NoNode node A F) (1 + k) (true ∷ []) item refl u (present_passed A F node a.mid next old new a.present a.encoded)
          (grown_on a.mid (u.bits ++ (true ∷ [])) (digits 0 k) u.list item
          (subst (λ (l : List Bool). IsGrown first start a.mid old.at l) e h) a.encoded.written.grown) move

      -- the bits that the last component adds
      pub absent_bits : (node : ℕ) (A : ℕ → TypeEncoding FaultKind) (u : Underway (optional NoNode node A F) (1 + k) now old head)
          (a : IsPassedOver c now old next new) (move : (n : ℕ) → IsIndex head n → IsIndex last (n + 1))
          → (absent_on node A u a move).bits ≡ u.bits ++ (false ∷ [])
      unfolding absent_on on
      absent_bits node A u a move = refl

      pub present_bits : (node : ℕ) (A : ℕ → TypeEncoding FaultKind) (u : Underway (optional NoNode node A F) (1 + k) now old head)
          (a : IsIncluded c A head now old next new) (move : (n : ℕ) → IsIndex head n → IsIndex last (n + 1))
          → (present_on node A u a move).bits ≡ u.bits ++ (true ∷ [])
      unfolding present_on on
      present_bits node A u a move = refl

    -- a misfit of the rest is one of the whole
    pub misfit_on : (R : ℕ → AfterHeader FaultKind (List Bool)) (left : ℕ) (now : List ℕ) (old new : Writer) (head : ℕ)
        → Underway R left now old head → AreMisfit c R old new → AreMisfit c W mid new
    misfit_on R left now old new head u m = record {
      kind = m.kind;
      reason = m.reason;
      first = λ n h.
          let e : Misfit = record { node = new.node; left = length (tape c new.next); kind = m.kind } in
          u.passed.misfit n h e (m.first (n + length u.list) (u.passed.alike n h));
    }
