-- What follows of the additions of a SEQUENCE.
use Rattle.std.proofs.Common.{Option, Some, None, ◌≡◌, ℕ, zero, suc, ◌+◌, ◌-◌, ◌<◌, ◌≤◌, List, [], ◌∷◌, ◌++◌, Bool, true, false, length, refl, sym, ap, ◌∙◌, subst, inl, inr, arith}
use Rattle.std.specs.Prelude.{◌||◌, slice_get}
use Rattle.asn1_bits.specs.Bits.{digits}
use Rattle.asn1_bits.specs.Laws.DigitLaws.{length-digits}
use Rattle.asn1_schema.specs.declared.misfit.MisfitKind.TheVariants as misfit
use Rattle.asn1_schema.specs.declared.tables.Member.{Member}
use Rattle.asn1_schema.specs.declared.tables.Rows.{Rows}
use Rattle.asn1_schema.specs.TypeEncodings.{TypeEncoding, AfterHeader, IsAbsent, Misfit}
use Rattle.asn1_x691.specs.declared.fault.FaultKind.{FaultKind}
use Rattle.asn1_x691.specs.Types.{any_true}
use Rattle.asn1_x691_writers.specs.declared.state.Writer.{Writer}
use Rattle.asn1_x691_writers.specs.declared.state.Rejection.TheVariants.{Misfit as RejectedAs}
use Rattle.asn1_x691_writers.specs.FieldSteps.{alike_after}
use Rattle.asn1_x691_writers.specs.Written.{IsAlike, IsIndex, IsGrown}
use Rattle.asn1_x691_encode.specs.declared.context.Context.{Context}
use Rattle.asn1_x691_encode.specs.Encoding.{tape, open_in, known_in, addition_in, additions_in, present_additions_in, IsEncoded, IsFirstMisfit, Outcome}
use Rattle.asn1_x691_encode.specs.Components.{IsSet, AreUnderway, AreMisfit}
use Rattle.asn1_x691_encode.specs.Additions.{AdditionStep}
use Rattle.asn1_x691_encode.specs.ComponentSteps.{components_first, first_bits, absent_on, absent_bits, present_on, present_bits, misfit_on, all_passed}

-- components with the bits before them, and whether one of these is 1
pub record HasAdditions (c : Context) (W R : ℕ → AfterHeader FaultKind (List Bool)) (width left : ℕ) (first : List ℕ) (start : ℕ) (mid : Writer)
    (now : List ℕ) (new : Writer) (head : ℕ) (has_one : Bool) : Type 0 where
  pub underway : AreUnderway c W R width left first start mid now new head
  pub has : any_true underway.bits ≡ has_one

or_false : (b : Bool) → b || false ≡ b
or_false true = refl
or_false false = refl

any_push : (xs : List Bool) (b : Bool) → any_true (xs ++ (b ∷ [])) ≡ (any_true xs || b)
any_push [] b = or_false b
any_push (true ∷ xs) b = refl
any_push (false ∷ xs) b = any_push xs b

-- ---- a known addition

module _ (c : Context) (depth node : ℕ) (was now : List ℕ) (old new : Writer) (r : Bool) where
  pub known_done : (at : ℕ) (m : Member) → slice_get c.tables.members.now at ≡ Some m
      → Outcome c (open_in c depth node m.presence m.node) was old now new r
      → Outcome c (known_in c depth node (slice_get c.tables.members.now at)) was old now new r
  known_done at m is o = subst (λ (x : Option Member). Outcome c (known_in c depth node x) was old now new r) (sym is) o

  pub known_none : (at : ℕ) → slice_get c.tables.members.now at ≡ None → r ≡ false → new.next ≡ old.next → new.node ≡ node
      → new.reason ≡ RejectedAs misfit.NoNode → Outcome c (known_in c depth node (slice_get c.tables.members.now at)) was old now new r
  known_none at none e next same reason =
      subst (λ (x : Option Member). Outcome c (known_in c depth node x) was old now new r) (sym none)
      (subst (λ (b : Bool). Outcome c (known_in c depth node None) was old now new b) (sym e)
      (inl (record {
        kind = misfit.NoNode;
        reason = reason;
        first = λ k h.
            ap (λ (j : ℕ). record { node = j; left = length (tape c new.next); kind = misfit.NoNode }) same
            ∙ ap (λ (i : ℕ). record { node = node; left = length (tape c i); kind = misfit.NoNode }) next;
      })))

-- ---- the addition of an index

module _ (c : Context) (depth node : ℕ) (known : Rows) (index : ℕ) (was now : List ℕ)
    (old new : Writer) (r : Bool) where
  -- what holds of the addition that `n` known ones begin with
  first_known : (n : ℕ) (P : (ℕ → TypeEncoding FaultKind) → Type 0) → 0 < n
      → P (known_in c depth node (slice_get c.tables.members.now (known.from + index)))
      → P (addition_in c depth node n (known.from + index))
  first_known zero P some p = absurd (omega (arith, some))
  first_known (suc n) P some p = p

  pub addition_known : index < known.count
      → Outcome c (known_in c depth node (slice_get c.tables.members.now (known.from + index))) was old now new r
      → Outcome c (addition_in c depth node (known.count - index) (known.from + index)) was old now new r
  addition_known few o =
      let P : (ℕ → TypeEncoding FaultKind) → Type 0 = λ A. Outcome c A was old now new r in
      first_known (known.count - index) P (omega (arith, few)) o

  pub addition_unknown : known.count ≤ index → Outcome c (addition_in c depth node 0 (known.from + index)) was old now new r
      → Outcome c (addition_in c depth node (known.count - index) (known.from + index)) was old now new r
  addition_unknown many o =
      let e : 0 ≡ known.count - index = omega (arith, many) in
      subst (λ (n : ℕ). Outcome c (addition_in c depth node n (known.from + index)) was old now new r) e o

-- ---- a number of additions

module _ (c : Context) (depth node : ℕ) (W : ℕ → AfterHeader FaultKind (List Bool)) (width : ℕ)
    (first : List ℕ) (start : ℕ) (mid : Writer) where
  abbrev run : ℕ → ℕ → ℕ → ℕ → AfterHeader FaultKind (List Bool)
  run n known from = additions_in c depth node n known from

  abbrev Has : (ℕ → AfterHeader FaultKind (List Bool)) → ℕ → List ℕ → Writer → ℕ → Bool → Type 0
  Has R left now new head b = HasAdditions c W R width left first start mid now new head b

  -- after one more
  on_step : (n known from : ℕ) (now next : List ℕ) (old new : Writer) (head last : ℕ) (here b : Bool)
      → AdditionStep c (addition_in c depth node known from) head here now old next new true
      → Has (run (suc n) known from) (1 + n) now old head b → ((k : ℕ) → IsIndex head k → IsIndex last (k + 1))
      → Has (run n (known - 1) (from + 1)) n next new last (b || here)
  on_step n known from now next old new head last false b a h move =
      let A = addition_in c depth node known from in
      let F = run n (known - 1) (from + 1) in record {
        underway = absent_on c W width first start mid F n now next old new head last node A h.underway a.1 move;
        has =
            ap any_true (absent_bits c W width first start mid F n now next old new head last node A h.underway a.1 move)
            ∙ any_push h.underway.bits false
            ∙ ap (λ (x : Bool). x || false) h.has;
      }
  on_step n known from now next old new head last true b a h move =
      let A = addition_in c depth node known from in
      let F = run n (known - 1) (from + 1) in record {
        underway = present_on c W width first start mid F n now next old new head last node A h.underway a move;
        has =
            ap any_true (present_bits c W width first start mid F n now next old new head last node A h.underway a move)
            ∙ any_push h.underway.bits true
            ∙ ap (λ (x : Bool). x || true) h.has;
      }

  pub additions_on : (left known from : ℕ) (now next : List ℕ) (old new : Writer) (head last : ℕ) (here b : Bool) → 0 < left
      → AdditionStep c (addition_in c depth node known from) head here now old next new true
      → Has (run left known from) left now old head b → ((k : ℕ) → IsIndex head k → IsIndex last (k + 1))
      → Has (run (left - 1) (known - 1) (from + 1)) (left - 1) next new last (b || here)
  additions_on zero known from now next old new head last here b some a h move = absurd (omega (arith, some))
  additions_on (suc n) known from now next old new head last here b some a h move =
      let e : 1 + n ≡ suc n = omega arith in
      let f : n ≡ suc n - 1 = omega arith in
      let g = subst (λ (k : ℕ). Has (run (suc n) known from) k now old head b) (sym e) h in
      subst (λ (k : ℕ). Has (run k (known - 1) (from + 1)) k next new last (b || here)) f
      (on_step n known from now next old new head last here b a g move)

  -- one that does not fit
  pub addition_misfit : (left known from : ℕ) (now next : List ℕ) (old new : Writer) (head : ℕ) (b : Bool) → 0 < left
      → (IsAbsent (tape c old.next) → ⊥)
      → IsFirstMisfit c (addition_in c depth node known from) old new
      → Has (run left known from) left now old head b → AreMisfit c W mid new
  addition_misfit zero known from now next old new head b some present m h = absurd (omega (arith, some))
  addition_misfit (suc n) known from now next old new head b some present m h =
      misfit_on c W width first start mid (run (suc n) known from) (suc n) now old new head h.underway
      (record { kind = m.kind; reason = m.reason; first = λ k q. inr (present, inl (m.first k q)) })

  pub additions_first : (now : List ℕ) → IsGrown first start now mid.at (digits 0 width) → Has W width now mid start false
  additions_first now g = record {
    underway = components_first c W width first start mid now g;
    has = ap any_true (first_bits c W width first start mid now g);
  }

-- an addition after its presence bit
pub addition_present : (c : Context) (A : ℕ → TypeEncoding FaultKind) (head : ℕ) (was mid : List ℕ) (old : Writer) (now : List ℕ) (new : Writer)
    (r : Bool) → (IsAbsent (tape c old.next) → ⊥) → IsSet was head mid → Outcome c A mid old now new r
    → AdditionStep c A head true was old now new r
addition_present c A head was mid old now new true some set a = record { mid = mid; present = some; set = set; encoded = a }
addition_present c A head was mid old now new false some set a = (some, a)

pub step_fails : (c : Context) (A : ℕ → TypeEncoding FaultKind) (head : ℕ) (was : List ℕ) (old : Writer) (now : List ℕ) (new : Writer)
    (here : Bool) → AdditionStep c A head here was old now new false → (IsAbsent (tape c old.next) → ⊥) × Outcome c A was old now new false
step_fails c A head was old now new true a = a
step_fails c A head was old now new false a = absurd (let e = a.0 in cc)

-- ---- additions after their presence bits

module _ (c : Context) (depth node : ℕ) (known : Rows) (count : ℕ) (was now : List ℕ)
    (old mid : Writer) (next : mid.next ≡ old.next) (g : IsGrown was old.at now mid.at (digits 0 count)) where
  abbrev all : ℕ → AfterHeader FaultKind (List Bool)
  all = additions_in c depth node count known.count known.from

  abbrev left_of : ℕ → ℕ → ℕ → ℕ → AfterHeader FaultKind (List Bool)
  left_of n k from = additions_in c depth node n k from

  alike_mid : (n : ℕ) → IsAlike c.is_aligned n old.at → IsAlike c.is_aligned (n + count) mid.at
  alike_mid n h =
      subst (λ (k : ℕ). IsAlike c.is_aligned (n + k) mid.at) (length-digits 0 count)
      (alike_after c.is_aligned was now old.at mid.at n (digits 0 count) g h)

  pub present_misfit : (new : Writer) → AreMisfit c all mid new → IsFirstMisfit c (present_additions_in c depth node known count) old new
  present_misfit new m = record {
    kind = m.kind;
    reason = m.reason;
    first = λ n h.
        let e : Misfit = record { node = new.node; left = length (tape c new.next); kind = m.kind } in
        inl (inl (subst (λ (i : ℕ). (all (n + count)).misfit (tape c i) e) next (m.first (n + count) (alike_mid n h))));
  }

  -- all additions were encoded
  pub present_done : (left k from : ℕ) (end : List ℕ) (new : Writer) (head : ℕ) → left ≡ 0
      → HasAdditions c all (left_of left k from) count left was old.at mid end new head true
      → IsEncoded c (present_additions_in c depth node known count) was old end new
  unfolding digits
  present_done zero k from end new head none h =
      let u = h.underway in
      let size : count ≡ length u.bits = omega (arith, u.size) in
      record {
        parts = u.passed.parts;
        written = record {
          list = u.bits ++ u.list;
          encodes = λ n q. record {
            value = u.bits;
            after = u.passed.parts;
            front = u.bits;
            rest = u.list;
            first = (sym size, refl);
            second = inl (
              h.has,
              all_passed c all node u.bits u.list mid new u.passed (n + length u.bits)
                  (subst (λ (i : ℕ). IsAlike c.is_aligned (n + i) mid.at) size (alike_mid n q)),
            );
            is = refl;
            parts = refl;
          };
          grown = u.grown;
        };
        taken = ap (λ (i : ℕ). tape c i) (sym next) ∙ u.passed.taken;
      }
  present_done (suc left) k from end new head none h = absurd (omega (arith, none))

  -- all are absent
  pub present_none : (left k from : ℕ) (end : List ℕ) (new last : Writer) (head : ℕ) → left ≡ 0
      → HasAdditions c all (left_of left k from) count left was old.at mid end new head false
      → last.next ≡ old.next → last.node ≡ node → last.reason ≡ RejectedAs misfit.NoAddition
      → IsFirstMisfit c (present_additions_in c depth node known count) old last
  present_none zero k from end new last head none h back same reason =
      let u = h.underway in record {
        kind = misfit.NoAddition;
        reason = reason;
        first = λ n q.
            inl (inr (
              record {
                value = u.bits;
                parts = u.passed.parts;
                list = u.list;
                rest = tape c new.next;
                encodes = all_passed c all node u.bits u.list mid new u.passed (n + count) (alike_mid n q);
                are = ap (λ (i : ℕ). tape c i) (sym next) ∙ u.passed.taken;
                fails = h.has;
              },
              ap (λ (j : ℕ). record { node = j; left = length (tape c last.next); kind = misfit.NoAddition }) same
                  ∙ ap (λ (i : ℕ). record { node = node; left = length (tape c i); kind = misfit.NoAddition }) back,
            ));
      }
  present_none (suc left) k from end new last head none h back same reason = absurd (omega (arith, none))
