-- What follows of an extension bit, and of what was encoded after it.
use Rattle.std.proofs.Common.{◌≡◌, ℕ, ◌+◌, List, Bool, true, false, length, sym, subst, inl, inr, Some}
use Rattle.std.specs.Prelude.{slice_get}
use Rattle.asn1_schema.specs.declared.part.Part.{Part}
use Rattle.asn1_schema.specs.Pieces.{Piece, Parts}
use Rattle.asn1_schema.specs.Encodings.{anywhere}
use Rattle.asn1_schema.specs.TypeEncodings.{TypeEncoding, by_bit}
use Rattle.asn1_x691.specs.declared.fault.FaultKind.{FaultKind}
use Rattle.asn1_x691.specs.Leaves.{by_extension_bit}
use Rattle.asn1_x691.specs.Laws.StringLaws.{bit_size}
use Rattle.asn1_x691.specs.Strings.{bit}
use Rattle.asn1_x691_writers.specs.FieldSteps.{turn_written, alike_after}
use Rattle.asn1_x691_writers.specs.Put.{piece_in}
use Rattle.asn1_x691_writers.specs.Written.{IsAlike, IsWritten}
use Rattle.asn1_x691_writers.specs.declared.state.Writer.{Writer}
use Rattle.asn1_x691_encode.specs.declared.context.Context.{Context}
use Rattle.asn1_x691_encode.specs.Encoding.{tape, IsEncoded, IsFirstMisfit, Outcome}
use Rattle.asn1_x691_encode.specs.LeafSteps.{part_next}
use Rattle.asn1_x691_encode.specs.ListSteps.{IsUnderway}

module _ (c : Context) (node : ℕ) (Added : Piece → Type 0) (root extension : ℕ → TypeEncoding FaultKind) (part : Part) (was now : List ℕ)
    (old : Writer) (at : ℕ) (is : slice_get c.parts.now old.next ≡ Some part) where
  abbrev whole : ℕ → TypeEncoding FaultKind
  whole = by_extension_bit node Added root extension

  abbrev mid : Writer
  mid = record old { at = at }

  -- the bit was written: what follows it is at the next position
  abbrev IsBit : Bool → Type 0
  IsBit b = IsWritten c.is_aligned (anywhere (bit node)) b was old.at now at

  alike : (b : Bool) → IsBit b → (n : ℕ) → IsAlike c.is_aligned n old.at → IsAlike c.is_aligned (n + 1) at
  alike b w n h =
      subst (λ (k : ℕ). IsAlike c.is_aligned (n + k) at) (bit_size node b w.list (w.encodes n h))
      (alike_after c.is_aligned was now old.at at n w.list w.grown h)

  -- ---- the root after a bit 0

  root_encoded : IsBit false → (end : List ℕ) (new : Writer) → IsEncoded c root now mid end new → IsEncoded c whole was old end new
  root_encoded w end new b = record {
    parts = b.parts;
    written = turn_written c.is_aligned (λ n. bit node) (λ x ts. ts) (λ x n. by_bit (root n) (extension n) x) false b.parts was now end
        old.at at new.at w b.written;
    taken = b.taken;
  }

  root_misfit : IsBit false → (Added (piece_in c.tables.ranges.now c.source.now part) → ⊥) → (new : Writer) → IsFirstMisfit c root mid new
      → IsFirstMisfit c whole old new
  root_misfit w none new m =
      let e = part_next c old.next part is in
      record {
        kind = m.kind;
        reason = m.reason;
        first = λ n h.
            subst (λ (t : Parts). (whole n).misfit t (record { node = new.node; left = length (tape c new.next); kind = m.kind })) (sym e)
            (inl (inl (
              none,
              subst (λ (t : Parts). (root (n + 1)).misfit t (record { node = new.node; left = length (tape c new.next); kind = m.kind })) e
                  (m.first (n + 1) (alike false w n h)),
            )));
      }

  root_on : IsBit false → (Added (piece_in c.tables.ranges.now c.source.now part) → ⊥) → (end : List ℕ) (new : Writer) (r : Bool)
      → Outcome c root now mid end new r → Outcome c whole was old end new r
  root_on w none end new true b = root_encoded w end new b
  root_on w none end new false (inl m) = inl (root_misfit w none new m)
  root_on w none end new false (inr u) = inr u

  pub root_step : IsBit false → (Added (piece_in c.tables.ranges.now c.source.now part) → ⊥) → IsUnderway c whole root was old now mid
  root_step w none = record { onward = root_on w none }

  -- ---- an addition after a bit 1

  added_encoded : IsBit true → (end : List ℕ) (new : Writer) → IsEncoded c extension now mid end new → IsEncoded c whole was old end new
  added_encoded w end new b = record {
    parts = b.parts;
    written = turn_written c.is_aligned (λ n. bit node) (λ x ts. ts) (λ x n. by_bit (root n) (extension n) x) true b.parts was now end
        old.at at new.at w b.written;
    taken = b.taken;
  }

  added_misfit : IsBit true → Added (piece_in c.tables.ranges.now c.source.now part) → (new : Writer) → IsFirstMisfit c extension mid new
      → IsFirstMisfit c whole old new
  added_misfit w added new m =
      let e = part_next c old.next part is in
      record {
        kind = m.kind;
        reason = m.reason;
        first = λ n h.
            subst (λ (t : Parts). (whole n).misfit t (record { node = new.node; left = length (tape c new.next); kind = m.kind })) (sym e)
            (inl (inr (
              added,
              subst
                  (λ (t : Parts). (extension (n + 1)).misfit t (record { node = new.node; left = length (tape c new.next); kind = m.kind })) e
                  (m.first (n + 1) (alike true w n h)),
            )));
      }

  added_on : IsBit true → Added (piece_in c.tables.ranges.now c.source.now part) → (end : List ℕ) (new : Writer) (r : Bool)
      → Outcome c extension now mid end new r → Outcome c whole was old end new r
  added_on w added end new true b = added_encoded w end new b
  added_on w added end new false (inl m) = inl (added_misfit w added new m)
  added_on w added end new false (inr u) = inr u

  pub added_step : IsBit true → Added (piece_in c.tables.ranges.now c.source.now part) → IsUnderway c whole extension was old now mid
  added_step w added = record { onward = added_on w added }
