-- What follows of values that were encoded one after another.
use Rattle.std.proofs.Common.{◌≡◌, ℕ, zero, suc, ◌+◌, ◌-◌, ◌<◌, List, [], ◌∷◌, ◌++◌, Bool, true, false, length, refl, sym, ap, ◌∙◌, subst, inl, inr, arith, append_assoc}
use Rattle.asn1_schema.specs.declared.misfit.MisfitKind.TheVariants.{OtherPart}
use Rattle.asn1_schema.specs.declared.tables.Length.{Length}
use Rattle.asn1_schema.specs.declared.tables.Length.TheVariants.{AtLeast, Between}
use Rattle.asn1_schema.specs.Pieces.{Piece, Count, Parts}
use Rattle.asn1_schema.specs.Encodings.{Encoding}
use Rattle.asn1_schema.specs.TypeEncodings.{TypeEncoding, both, several, part}
use Rattle.asn1_x691.specs.declared.fault.FaultKind.{FaultKind}
use Rattle.asn1_x691_writers.specs.declared.state.Writer.{Writer}
use Rattle.asn1_x691_writers.specs.FieldSteps.{turn_written, alike_after}
use Rattle.asn1_x691_writers.specs.GrownSteps.{grown_none}
use Rattle.asn1_x691_writers.specs.Written.{IsWritten}
use Rattle.asn1_x691_encode.specs.declared.context.Context.{Context}
use Rattle.asn1_x691_encode.specs.Encoding.{tape, list_in, IsEncoded, IsFirstMisfit, Outcome}

-- what a call does with the rest from here on, it does with the whole
pub record IsUnderway (c : Context) (W R : ℕ → TypeEncoding FaultKind) (was : List ℕ) (old : Writer) (now : List ℕ) (mid : Writer)
    : Type 0 where
  pub onward : (end : List ℕ) (new : Writer) (r : Bool) → Outcome c R now mid end new r → Outcome c W was old end new r

module _ (c : Context) where
  pub underway_first : (W : ℕ → TypeEncoding FaultKind) (was : List ℕ) (old : Writer) → IsUnderway c W W was old was old
  underway_first W was old = record { onward = λ end new r o. o }

  pub underway_on : (W R Q : ℕ → TypeEncoding FaultKind) (was now next : List ℕ) (old mid new : Writer) → IsUnderway c W R was old now mid
      → IsUnderway c R Q now mid next new → IsUnderway c W Q was old next new
  underway_on W R Q was now next old mid new g k = record { onward = λ end last r o. g.onward end last r (k.onward end last r o) }

  -- ---- a value, then another

  module _ (A B : ℕ → TypeEncoding FaultKind) (was now : List ℕ) (old mid : Writer) (a : IsEncoded c A was old now mid) where
    both_encoded : (end : List ℕ) (new : Writer) → IsEncoded c B now mid end new → IsEncoded c (both A B) was old end new
    both_encoded end new b = record {
      parts = a.parts ++ b.parts;
      written = turn_written c.is_aligned (λ n. (A n).encoding) (λ ts us. ts ++ us) (λ ts n. (B n).encoding) a.parts b.parts was now end
          old.at mid.at new.at a.written b.written;
      taken = a.taken ∙ ap (λ (t : Parts). a.parts ++ t) b.taken ∙ sym (append_assoc a.parts b.parts (tape c new.next));
    }

    both_misfit : (new : Writer) → IsFirstMisfit c B mid new → IsFirstMisfit c (both A B) old new
    both_misfit new m = record {
      kind = m.kind;
      reason = m.reason;
      first = λ n h.
          inr (record {
            parts = a.parts;
            list = a.written.list;
            rest = tape c mid.next;
            encodes = a.written.encodes n h;
            are = a.taken;
            holds = m.first (n + length a.written.list)
                (alike_after c.is_aligned was now old.at mid.at n a.written.list a.written.grown h);
          });
    }

    both_on : (end : List ℕ) (new : Writer) (r : Bool) → Outcome c B now mid end new r → Outcome c (both A B) was old end new r
    both_on end new true b = both_encoded end new b
    both_on end new false (inl m) = inl (both_misfit new m)
    both_on end new false (inr u) = inr u

    pub both_step : IsUnderway c (both A B) B was old now mid
    both_step = record { onward = both_on }

  pub both_fails : (A B : ℕ → TypeEncoding FaultKind) (was end : List ℕ) (old new : Writer) → Outcome c A was old end new false
      → Outcome c (both A B) was old end new false
  both_fails A B was end old new (inl m) =
      inl (record { kind = m.kind; reason = m.reason; first = λ n h. inl (m.first n h) })
  both_fails A B was end old new (inr u) = inr u

  -- ---- a number of values

  module _ (W E : ℕ → TypeEncoding FaultKind) (was now : List ℕ) (old mid : Writer) where
    pub item_step : (left : ℕ) (next : List ℕ) (new : Writer) → 0 < left → IsUnderway c W (several E left) was old now mid
        → IsEncoded c E now mid next new → IsUnderway c W (several E (left - 1)) was old next new
    item_step zero next new some g a = absurd (omega (arith, some))
    item_step (suc left) next new some g a =
        let e : left ≡ suc left - 1 = omega arith in
        subst (λ (n : ℕ). IsUnderway c W (several E n) was old next new) e
        (underway_on W (several E (suc left)) (several E left) was now next old mid new g (both_step E (several E left) now next mid new a))

    pub item_fails : (left : ℕ) (end : List ℕ) (new : Writer) → 0 < left → IsUnderway c W (several E left) was old now mid
        → Outcome c E now mid end new false → Outcome c W was old end new false
    item_fails zero end new some g o = absurd (omega (arith, some))
    item_fails (suc left) end new some g o = g.onward end new false (both_fails E (several E left) now end mid new o)

    pub items_done : (left : ℕ) → left ≡ 0 → IsUnderway c W (several E left) was old now mid → Outcome c W was old now mid true
    items_done zero none g = g.onward now mid true (record {
      parts = [];
      written = record { list = []; encodes = λ at h. (refl, refl); grown = grown_none now mid.at };
      taken = refl;
    })
    items_done (suc left) none g = absurd (omega (arith, none))

  -- ---- a part, then what depends on it

  module _ {X : Type 0} (A : ℕ → Encoding FaultKind X) (is : X → Piece) (B : X → ℕ → TypeEncoding FaultKind) (node : ℕ) (x : X)
      (was now : List ℕ) (old mid : Writer) (a : IsWritten c.is_aligned A x was old.at now mid.at)
      (e : tape c old.next ≡ is x ∷ tape c mid.next) where
    part_encoded : (end : List ℕ) (new : Writer) → IsEncoded c (B x) now mid end new → IsEncoded c (part A is B node) was old end new
    part_encoded end new b = record {
      parts = is x ∷ b.parts;
      written = turn_written c.is_aligned A (λ y ts. is y ∷ ts) (λ y n. (B y n).encoding) x b.parts was now end old.at mid.at new.at a b.written;
      taken = e ∙ ap (λ (t : Parts). is x ∷ t) b.taken;
    }

    part_misfit : (new : Writer) → IsFirstMisfit c (B x) mid new → IsFirstMisfit c (part A is B node) old new
    part_misfit new m = record {
      kind = m.kind;
      reason = m.reason;
      first = λ n h.
          subst
          (λ (t : Parts). (part A is B node n).misfit t (record { node = new.node; left = length (tape c new.next); kind = m.kind })) (sym e)
          (inl (
            x,
            refl,
            inr (
              a.list,
              a.encodes n h,
              m.first (n + length a.list) (alike_after c.is_aligned was now old.at mid.at n a.list a.grown h),
            ),
          ));
    }

    part_on : (end : List ℕ) (new : Writer) (r : Bool) → Outcome c (B x) now mid end new r → Outcome c (part A is B node) was old end new r
    part_on end new true b = part_encoded end new b
    part_on end new false (inl m) = inl (part_misfit new m)
    part_on end new false (inr u) = inr u

    pub part_step : IsUnderway c (part A is B node) (B x) was old now mid
    part_step = record { onward = part_on }

-- a part that is no number of items
pub list_other : (c : Context) (depth node item : ℕ) (is_set : Bool) (size : Length) (p : Piece) → ((n : ℕ) → p ≡ Count n → ⊥)
    → (at : ℕ) (rest : Parts)
    → (list_in c depth node is_set size item at).misfit (p ∷ rest) (record { node = node; left = length (p ∷ rest); kind = OtherPart })
list_other c depth node item false (AtLeast least) p f at rest = inr (f, refl)
list_other c depth node item true (AtLeast least) p f at rest = inr (f, refl)
list_other c depth node item is_set (Between least range) p f at rest = inr (λ d e. f (least + d) e, refl)
