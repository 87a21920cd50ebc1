-- What follows of a value that was compared with the default one.
use Rattle.std.proofs.Common.{◌≡◌, ℕ, ◌+◌, ◌%◌, ◌<◌, ◌≤◌, List, ◌++◌, Bool, true, false, length, refl, sym, ap, ◌∙◌, subst, inl, inr, arith, Some}
use Rattle.std.proofs.lemmas.Bool.{cases_lt}
use Rattle.asn1_schema.specs.declared.misfit.MisfitKind.TheVariants.{DefaultValue}
use Rattle.asn1_schema.specs.declared.tables.Presence.TheVariants as presence
use Rattle.asn1_schema.specs.Pieces.{Parts}
use Rattle.asn1_schema.specs.TypeEncodings.{TypeEncoding}
use Rattle.asn1_x691.specs.declared.fault.FaultKind.{FaultKind}
use Rattle.asn1_x691.specs.Fields.{phase}
use Rattle.asn1_x691.specs.Laws.TypeLaws.{type_at_type}
use Rattle.asn1_x691.specs.Limits.{no_limits}
use Rattle.asn1_x691_writers.specs.declared.state.Writer.{Writer}
use Rattle.asn1_x691_writers.specs.declared.state.Rejection.TheVariants.{Misfit}
use Rattle.asn1_x691_writers.specs.GrownSteps.{index_octet}
use Rattle.asn1_x691_writers.specs.Written.{IsAlike, IsIndex}
use Rattle.asn1_x691_encode.specs.declared.context.Context.{Context}
use Rattle.asn1_x691_encode.specs.Compared.{IsIn, IsDefaultAt, IsCompared}
use Rattle.asn1_x691_encode.specs.Encoding.{tape, types, value_in, defaults_in, IsEncoded, IsFirstMisfit, IsLeft, Outcome}

pub phase_alike : (aligned : Bool) (n at : ℕ) → IsAlike aligned n at → phase aligned n ≡ phase aligned at
phase_alike false n at h = refl
phase_alike true n at h = h refl

-- a position is alike to its bit of an octet
pub alike_bit : (aligned : Bool) (n at : ℕ) → IsAlike aligned n at → IsAlike aligned n (at % 8)
alike_bit aligned n at h e = omega (arith, h e)

module _ (c : Context) where
  pub same_default : (value n at : ℕ) (list : List Bool) → IsAlike c.is_aligned n at → IsDefaultAt c value at list → IsDefaultAt c value n list
  same_default value n at list h d =
      subst (λ (k : ℕ). defaults_in c value k ≡ Some list) (sym (phase_alike c.is_aligned n at h)) d

  pub other_default : (value n at : ℕ) (list : List Bool) → IsAlike c.is_aligned n at → IsDefaultAt c value n list → IsDefaultAt c value at list
  other_default value n at list h d =
      subst (λ (k : ℕ). defaults_in c value k ≡ Some list) (phase_alike c.is_aligned n at h) d

  -- what is left by one writer is left by another that stops where it does
  pub left_same : (other new : Writer) → new.next ≡ other.next → new.node ≡ other.node → new.reason ≡ other.reason → IsLeft c other → IsLeft c new
  left_same other new next node reason u =
      let at_reason = subst
      (λ (r : _). IsLeft c (record other { reason = r })) (sym reason) u in
      let at_node = subst (λ (n : ℕ). IsLeft c (record other { reason = new.reason; node = n })) (sym node) at_reason in
      subst (λ (n : ℕ). IsLeft c (record other { reason = new.reason; node = new.node; next = n })) (sym next) at_node

  -- ---- one value of the parts

  module _ (depth inner at : ℕ) where
    abbrev P : Parts → List Bool → Type 0
    P = (types c depth inner at).encoding.encodes

    -- parts begin with one value, which has one encoding
    pub one_value : (t xs ys rest other : Parts) (a b : List Bool) → P xs a → P ys b → t ≡ xs ++ rest → t ≡ ys ++ other
        → (xs ≡ ys) × (rest ≡ other) × (a ≡ b)
    one_value =
        ((type_at_type no_limits c.is_aligned c.tables.nodes.now c.tables.members.now c.tables.ranges.now (defaults_in c) depth inner).good
        at).encodes.one

    -- parts that begin with a value have no misfit
    pub no_misfit : (t xs rest : Parts) (a : List Bool) (e : _) → P xs a → t ≡ xs ++ rest → (types c depth inner at).misfit t e → ⊥
    no_misfit t xs rest a e p is m =
        ((type_at_type no_limits c.is_aligned c.tables.nodes.now c.tables.members.now c.tables.ranges.now (defaults_in c) depth inner).good
        at).encodes.excludes t e m xs rest a p is

  -- ---- a value that is encoded once more, in octets of its own

  module _ (depth inner at first start : ℕ) (parts rest : Parts) (list : List Bool) (was now : List ℕ) (begun copy : Writer)
      (begins : begun.at ≡ start) (begins_next : begun.next ≡ first) (h : IsAlike c.is_aligned at start)
      (p : (types c depth inner at).encoding.encodes parts list) (is : tape c first ≡ parts ++ rest) where
    here : tape c begun.next ≡ parts ++ rest
    here = ap (λ (n : ℕ). tape c n) begins_next ∙ is

    alike : IsAlike c.is_aligned at begun.at
    alike e = h e ∙ ap (λ (n : ℕ). n % 8) (sym begins)

    -- where it was not encoded, it is left
    pub again_left : Outcome c (types c depth inner) was begun now copy false → IsLeft c copy
    again_left (inl m) = absurd (no_misfit depth inner at (tape c begun.next) parts rest list _ p here (m.first at alike))
    again_left (inr u) = u

    -- it has the same bits, and the same parts follow it
    again_one : (a : IsEncoded c (types c depth inner) was begun now copy)
        → (a.parts ≡ parts) × (tape c copy.next ≡ rest) × (a.written.list ≡ list)
    again_one a =
        one_value depth inner at (tape c begun.next) a.parts parts (tape c copy.next) rest a.written.list list (a.written.encodes at alike) p
        a.taken here

    pub again_same : (a : IsEncoded c (types c depth inner) was begun now copy) → a.written.list ≡ list
    again_same a = (again_one a).2

    pub again_rest : (a : IsEncoded c (types c depth inner) was begun now copy) → tape c copy.next ≡ rest
    again_rest a = (again_one a).1

    -- what follows it begins at a position that is alike
    pub again_alike : (a : IsEncoded c (types c depth inner) was begun now copy) → (n : ℕ) → IsAlike c.is_aligned n (at + length list)
        → IsAlike c.is_aligned n copy.at
    again_alike a n k e =
        let size = ap (λ (l : List Bool). length l) (again_same a) in
        let x = index_octet copy.at (begun.at + length a.written.list) (a.written.grown.index begun.at (inl refl)) in
        omega (arith, x, size, alike e, k e)

    -- where they are not all there, there are more than 504
    pub again_wide : (a : IsEncoded c (types c depth inner) was begun now copy) → start < 8 → length now ≡ 64 → (IsIn now start copy.at → ⊥) → 504 < length list
    again_wide a low size out =
        elim (cases_lt 504 (length list)) [
          | inl lt ↦ lt
          | inr le ↦ absurd (out (inside le (a.written.grown.index begun.at (inl refl))))
        ]
      where
        inside : length list ≤ 504 → IsIndex copy.at (begun.at + length a.written.list) → IsIn now start copy.at
        inside le (inl e) =
            let same = ap (λ (l : List Bool). length l) (again_same a) in
            (omega (arith, e, begins), omega (arith, e, begins, same, le, low, size), omega (arith, e, begins, same, le, low))
        inside le (inr q) =
            let same = ap (λ (l : List Bool). length l) (again_same a) in
            absurd (omega (arith, q.0, q.1, begins, same, le, low))

  -- ---- a value with a default

  module _ (depth node value inner : ℕ) where
    abbrev A : ℕ → TypeEncoding FaultKind
    A = types c depth inner

    abbrev V : ℕ → TypeEncoding FaultKind
    V = value_in c depth node (presence.Default value) inner

    pub other_fails : (was now : List ℕ) (old new : Writer) → Outcome c A was old now new false → Outcome c V was old now new false
    other_fails was now old new (inl m) = inl (record { kind = m.kind; reason = m.reason; first = λ n h. inl (m.first n h) })
    other_fails was now old new (inr u) = inr u

    pub other_encoded : (was now : List ℕ) (old new : Writer) (a : IsEncoded c A was old now new)
        → (IsDefaultAt c value old.at a.written.list → ⊥) → IsEncoded c V was old now new
    other_encoded was now old new a f = record {
      parts = a.parts;
      written = record {
        list = a.written.list;
        encodes = λ n h. (a.written.encodes n h, λ d. f (other_default value n old.at a.written.list h d));
        grown = a.written.grown;
      };
      taken = a.taken;
    }

    pub other_misfit : (was now : List ℕ) (old mid new : Writer) (a : IsEncoded c A was old now mid)
        → IsDefaultAt c value old.at a.written.list → new.reason ≡ Misfit DefaultValue → new.node ≡ node → new.next ≡ old.next
        → IsFirstMisfit c V old new
    other_misfit was now old mid new a d reason same next = record {
      kind = DefaultValue;
      reason = reason;
      first = λ n h.
          inr (
            record {
              parts = a.parts;
              list = a.written.list;
              rest = tape c mid.next;
              encodes = a.written.encodes n h;
              are = a.taken;
              holds = same_default value n old.at a.written.list h d;
            },
            ap (λ (k : ℕ). record { node = k; left = length (tape c new.next); kind = DefaultValue }) same
                ∙ ap (λ (i : ℕ). record { node = node; left = length (tape c i); kind = DefaultValue }) next,
          );
    }

    -- it was compared in octets of its own
    pub compared : (was now : List ℕ) (old mid new : Writer) (a : IsEncoded c A was old now mid) (r : Bool)
        → (r ≡ true → new ≡ mid) → IsCompared c node value old.next old.at a.written.list new r → Outcome c V was old now new r
    compared was now old mid new a true kept d =
        subst (λ (s : Writer). IsEncoded c V was old now s) (sym (kept refl)) (other_encoded was now old mid a d)
    compared was now old mid new a false kept (inl d) = inl (other_misfit was now old mid new a d.3 d.0 d.1 d.2)
    compared was now old mid new a false kept (inr u) = inr u
