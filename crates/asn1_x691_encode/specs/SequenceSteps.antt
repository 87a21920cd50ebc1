-- What follows of the components of a SEQUENCE.
use Rattle.std.proofs.Common.{Option, Some, None, ◌≡◌, ℕ, zero, suc, ◌+◌, ◌-◌, ◌<◌, ◌⊎◌, List, ◌++◌, Bool, true, false, length, refl, sym, ap, ◌∙◌, subst, inl, inr, arith}
use Rattle.std.specs.Prelude.{slice_get}
use Rattle.asn1_bits.specs.Bits.{digits}
use Rattle.asn1_bits.specs.Laws.DigitLaws.{length-digits}
use Rattle.asn1_schema.specs.declared.misfit.MisfitKind.TheVariants as misfit
use Rattle.asn1_schema.specs.declared.tables.Member.{Member}
use Rattle.asn1_schema.specs.declared.tables.Presence.{Presence}
use Rattle.asn1_schema.specs.declared.tables.Presence.TheVariants as presence
use Rattle.asn1_schema.specs.declared.tables.Rows.{Rows}
use Rattle.asn1_schema.specs.TypeEncodings.{TypeEncoding, AfterHeader, Misfit, optional}
use Rattle.asn1_x691.specs.declared.fault.FaultKind.{FaultKind}
use Rattle.asn1_x691.specs.declared.fault.FaultKind.TheVariants.{NoNode}
use Rattle.asn1_x691.specs.Types.{component, component_by, value_by, presence_bits, is_optional, optional_count}
use Rattle.asn1_x691.specs.Limits.{no_limits}
use Rattle.asn1_x691_writers.specs.declared.state.Writer.{Writer}
use Rattle.asn1_x691_writers.specs.declared.state.Rejection.TheVariants.{Misfit as RejectedAs}
use Rattle.asn1_x691_writers.specs.FieldSteps.{alike_after}
use Rattle.asn1_x691_writers.specs.Written.{IsAlike, IsIndex, IsGrown}
use Rattle.asn1_x691_encode.specs.Encoding.{tape, defaults_in, types, root_in, components_in, IsEncoded, IsFirstMisfit, IsLeft}
use Rattle.asn1_x691_encode.specs.Components.{OptionalOutcome, ComponentOutcome, AreUnderway, AreMisfit}
use Rattle.asn1_x691_encode.specs.declared.context.Context.{Context}
use Rattle.asn1_x691_encode.specs.ComponentSteps.{mandatory_on, absent_on, present_on, all_passed}

module _ (c : Context) where
  -- a component that may be absent
  pub optional_component : (B : ℕ → TypeEncoding FaultKind) (p : Presence) (head : ℕ) (was : List ℕ) (old : Writer) (now : List ℕ) (new : Writer)
      (r : Bool) → (p ≡ presence.Mandatory → ⊥) → OptionalOutcome c B head was old now new r → ComponentOutcome c B p head was old now new r
  optional_component B presence.Mandatory head was old now new r f o = absurd (f refl)
  optional_component B presence.Optional head was old now new r f o = o
  optional_component B (presence.Default value) head was old now new r f o = o

  module _ (depth node : ℕ) where
    abbrev V : Presence → (ℕ → TypeEncoding FaultKind) → ℕ → TypeEncoding FaultKind
    V p A = value_by no_limits c.is_aligned (types c depth) c.tables.members.now c.tables.ranges.now (defaults_in c) node p A

    abbrev by : Presence → (ℕ → TypeEncoding FaultKind) → (ℕ → AfterHeader FaultKind (List Bool)) → ℕ → AfterHeader FaultKind (List Bool)
    by p A F = component_by no_limits c.is_aligned (types c depth) c.tables.members.now c.tables.ranges.now (defaults_in c) node p (V p A) F

    abbrev of_member : Option Member → (ℕ → AfterHeader FaultKind (List Bool)) → ℕ → AfterHeader FaultKind (List Bool)
    of_member o F = component no_limits c.is_aligned (types c depth) c.tables.members.now c.tables.ranges.now (defaults_in c) node o F

    abbrev run : ℕ → ℕ → ℕ → AfterHeader FaultKind (List Bool)
    run n at = components_in c depth node n at

    abbrev bits_of : ℕ → ℕ → ℕ
    bits_of n at = optional_count c.tables.members.now n at

    module _ (W : ℕ → AfterHeader FaultKind (List Bool)) (width : ℕ) (first : List ℕ) (start : ℕ) (mid : Writer) (m : Member) (at : ℕ)
        (is : slice_get c.tables.members.now at ≡ Some m) (now : List ℕ) (old : Writer) (head : ℕ) where
      -- the first of `n` components
      pub component_first : (n : ℕ) → 0 < n → AreUnderway c W (run n at) width (bits_of n at) first start mid now old head
          → AreUnderway c W (by m.presence (types c depth m.node) (run (n - 1) (at + 1))) width
          (presence_bits m.presence + bits_of (n - 1) (at + 1)) first start mid now old head
      component_first zero some u = absurd (omega (arith, some))
      component_first (suc n) some u =
          let e : n ≡ suc n - 1 = omega arith in
          subst
          (λ (k : ℕ). AreUnderway c W (by m.presence (types c depth m.node) (run k (at + 1))) width
          (presence_bits m.presence + bits_of k (at + 1)) first start mid now old head) e
          (subst
          (λ (o : Option Member). AreUnderway c W (of_member o (run n (at + 1))) width (is_optional o + bits_of n (at + 1)) first start mid now
          old head) is u)

    module _ (W : ℕ → AfterHeader FaultKind (List Bool)) (width : ℕ) (first : List ℕ) (start : ℕ) (mid : Writer)
        (A : ℕ → TypeEncoding FaultKind) (F : ℕ → AfterHeader FaultKind (List Bool)) (k : ℕ) (now next : List ℕ) (old new : Writer)
        (head last : ℕ) where
      optional_on : (B : ℕ → TypeEncoding FaultKind) → AreUnderway c W (optional NoNode node B F) width (1 + k) first start mid now old head
          → OptionalOutcome c B head now old next new true → ((n : ℕ) → IsIndex head n → IsIndex last (n + 1))
          → AreUnderway c W F width k first start mid next new last
      optional_on B u (inl a) move = absent_on c W width first start mid F k now next old new head last node B u a move
      optional_on B u (inr a) move = present_on c W width first start mid F k now next old new head last node B u a move

      pub component_on : (p : Presence) → AreUnderway c W (by p A F) width (presence_bits p + k) first start mid now old head
          → ComponentOutcome c (V p A) p head now old next new true → ((n : ℕ) → IsIndex head n → IsIndex last (n + presence_bits p))
          → AreUnderway c W F width k first start mid next new last
      component_on presence.Mandatory u a move =
          mandatory_on c W width first start mid F k now next old new head last (V presence.Mandatory A) u a move
      component_on presence.Optional u a move = optional_on (V presence.Optional A) u a move
      component_on (presence.Default value) u a move = optional_on (V (presence.Default value) A) u a move

    -- why a component was not encoded
    optional_fails : (B : ℕ → TypeEncoding FaultKind) (F : ℕ → AfterHeader FaultKind (List Bool)) (now next : List ℕ) (old new : Writer)
        (head : ℕ) → OptionalOutcome c B head now old next new false → AreMisfit c (optional NoNode node B F) old new ⊎ IsLeft c new
    optional_fails B F now next old new head (some, inl m) =
        inl (record { kind = m.kind; reason = m.reason; first = λ n h. inr (some, inl (m.first n h)) })
    optional_fails B F now next old new head (some, inr u) = inr u

    pub component_fails : (A : ℕ → TypeEncoding FaultKind) (F : ℕ → AfterHeader FaultKind (List Bool)) (now next : List ℕ) (old new : Writer)
        (head : ℕ) (p : Presence) → ComponentOutcome c (V p A) p head now old next new false → AreMisfit c (by p A F) old new ⊎ IsLeft c new
    component_fails A F now next old new head presence.Mandatory (inl m) =
        inl (record { kind = m.kind; reason = m.reason; first = λ n h. inl (m.first n h) })
    component_fails A F now next old new head presence.Mandatory (inr u) = inr u
    component_fails A F now next old new head presence.Optional a = optional_fails (V presence.Optional A) F now next old new head a
    component_fails A F now next old new head (presence.Default value) a =
        optional_fails (V (presence.Default value) A) F now next old new head a

    module _ (m : Member) (at : ℕ) (is : slice_get c.tables.members.now at ≡ Some m) (old new : Writer) where
      pub misfit_first : (n : ℕ) → 0 < n → AreMisfit c (by m.presence (types c depth m.node) (run (n - 1) (at + 1))) old new
          → AreMisfit c (run n at) old new
      misfit_first zero some a = absurd (omega (arith, some))
      misfit_first (suc n) some a =
          let e : suc n - 1 ≡ n = omega arith in
          subst (λ (o : Option Member). AreMisfit c (of_member o (run n (at + 1))) old new) (sym is)
          (subst (λ (k : ℕ). AreMisfit c (by m.presence (types c depth m.node) (run k (at + 1))) old new) e a)

    -- no such member is in the table
    pub misfit_none : (at : ℕ) → slice_get c.tables.members.now at ≡ None → (old new : Writer) → new.next ≡ old.next → new.node ≡ node
        → new.reason ≡ RejectedAs misfit.NoNode → (n : ℕ) → 0 < n → AreMisfit c (run n at) old new
    misfit_none at none old new next same reason zero some = absurd (omega (arith, some))
    misfit_none at none old new next same reason (suc n) some =
        subst (λ (o : Option Member). AreMisfit c (of_member o (run n (at + 1))) old new) (sym none) (record {
          kind = misfit.NoNode;
          reason = reason;
          first = λ k h.
              ap (λ (j : ℕ). record { node = j; left = length (tape c new.next); kind = misfit.NoNode }) same
              ∙ ap (λ (i : ℕ). record { node = node; left = length (tape c i); kind = misfit.NoNode }) next;
        })

    -- ---- a root

    module _ (root : Rows) (was now : List ℕ) (old mid : Writer) (next : mid.next ≡ old.next)
        (g : IsGrown was old.at now mid.at (digits 0 (bits_of root.count root.from))) where
      abbrev width : ℕ
      width = bits_of root.count root.from

      alike_mid : (n : ℕ) → IsAlike c.is_aligned n old.at → IsAlike c.is_aligned (n + width) mid.at
      alike_mid n h =
          subst (λ (k : ℕ). IsAlike c.is_aligned (n + k) mid.at) (length-digits 0 width)
          (alike_after c.is_aligned was now old.at mid.at n (digits 0 width) g h)

      pub root_misfit : (new : Writer) → AreMisfit c (run root.count root.from) mid new
          → IsFirstMisfit c (root_in c depth node root) old new
      root_misfit new m = record {
        kind = m.kind;
        reason = m.reason;
        first = λ n h.
            let e : Misfit = record { node = new.node; left = length (tape c new.next); kind = m.kind } in
            inl (subst (λ (i : ℕ). (run root.count root.from (n + width)).misfit (tape c i) e) next (m.first (n + width) (alike_mid n h)));
      }

      -- all components were encoded
      pub root_encoded : (at left : ℕ) (end : List ℕ) (new : Writer) (head : ℕ) → left ≡ 0
          → AreUnderway c (run root.count root.from) (run left at) width (bits_of left at) was old.at mid end new head
          → IsEncoded c (root_in c depth node root) was old end new
      unfolding digits
      root_encoded at zero end new head none u =
          let parts = u.passed.parts in
          let size : width ≡ length u.bits = omega (arith, u.size) in
          record {
            parts = parts;
            written = record {
              list = u.bits ++ u.list;
              encodes = λ n h. record {
                value = u.bits;
                after = parts;
                front = u.bits;
                rest = u.list;
                first = (sym size, refl);
                second = all_passed c (run root.count root.from) node u.bits u.list mid new u.passed (n + length u.bits)
                    (subst (λ (k : ℕ). IsAlike c.is_aligned (n + k) mid.at) size (alike_mid n h));
                is = refl;
                parts = refl;
              };
              grown = u.grown;
            };
            taken = ap (λ (i : ℕ). tape c i) (sym next) ∙ u.passed.taken;
          }
      root_encoded at (suc left) end new head none u = absurd (omega (arith, none))
