-- What follows of an open type that was encoded in the octets from that of its first bit on.
use Rattle.std.proofs.Common.{◌≡◌, ℕ, ◌+◌, ◌-◌, ◌*◌, ◌/◌, ◌%◌, ◌^◌, ◌<◌, List, ◌++◌, Bool, true, false, length, refl, sym, subst, inl, inr, arith, append_assoc}
use Rattle.std.specs.Prelude.{◌⊎◌}
use Rattle.std.proofs.lemmas.List.{length-append}
use Rattle.asn1_bits.specs.Bits.{digits}
use Rattle.asn1_bits.specs.Laws.DigitLaws.{length-digits}
use Rattle.asn1_schema.specs.declared.tables.Presence.{Presence}
use Rattle.asn1_x691.specs.Fields.{to_octet}
use Rattle.asn1_x691_writers.specs.declared.state.Writer.{Writer}
use Rattle.asn1_x691_writers.specs.Enclosed.{length_bits}
use Rattle.asn1_x691_writers.specs.GrownSteps.{grown_both, index_octet}
use Rattle.asn1_x691_writers.specs.OctetsSteps.{enclosing_encodes}
use Rattle.asn1_x691_writers.specs.TailSteps.{tail_grown}
use Rattle.asn1_x691_writers.specs.Written.{IsIndex, IsGrown, IsAlike, start_of}
use Rattle.asn1_x691_encode.specs.declared.context.Context.{Context}
use Rattle.asn1_x691_encode.specs.Encoding.{open_in, IsEncoded, Outcome}
use Rattle.asn1_x691_encode.specs.Enclosed.{IsEnclosed, EnclosedOutcome}

-- in the ALIGNED variant it begins at an octet
pub starts_on_octet : (aligned : Bool) (was mid : List ℕ) (at start : ℕ) → IsGrown was at mid start (start_of aligned at)
    → IsAlike aligned 0 (start % 8)
starts_on_octet false was mid at start g e = absurd cc
starts_on_octet true was mid at start g e =
    let zeros = digits 0 (to_octet at) in
    let h = index_octet start (at + length zeros) (g.index at (inl refl)) in
    omega (arith, h, length-digits 0 (to_octet at))

module _ (c : Context) (depth node : ℕ) (p : Presence) (inner : ℕ) (was : List ℕ) (old : Writer) where
  pub open_fails : (tail now end : List ℕ) (start : ℕ) (new : Writer)
      → EnclosedOutcome c depth node p inner tail (record old { at = start }) now new false
      → Outcome c (open_in c depth node p inner) was old end new false
  open_fails tail now end start new (inl m) = inl (record { kind = m.kind; reason = m.reason; first = λ n h. inl m.first })
  open_fails tail now end start new (inr u) = inr u

  module _ (front tail now : List ℕ) (start at : ℕ) (last : Writer) (few : 8 * length (front ++ tail) < 2 ^ 64)
      (same : length now ≡ length tail)
      (inside : (length front ≡ start / 8) ⊎ (length (front ++ tail) < start / 8))
      (zeros : IsGrown was old.at (front ++ tail) start (start_of c.is_aligned old.at))
      (e : IsEnclosed c depth node p inner tail (record old { at = start % 8 }) now last)
      (index : (n : ℕ) → IsIndex start n → IsIndex at (n + (last.at - start % 8))) where
    abbrev more : List Bool
    more = length_bits e.count ++ e.contents

    more_size : last.at - start % 8 ≡ length more
    more_size = omega (arith, e.end, e.size, length-append (length_bits e.count) e.contents)

    grown : IsGrown (front ++ tail) start (front ++ now) at more
    grown =
        tail_grown front tail now (start / 8) (start % 8) start last.at at more few same (omega arith) e.grown
        (λ n h. subst (λ (k : ℕ). IsIndex at (n + k)) more_size (index n h)) inside

    pub open_done : IsEncoded c (open_in c depth node p inner) was old (front ++ now) (record last { at = at })
    open_done = record {
      parts = e.parts;
      written = record {
        list = (start_of c.is_aligned old.at ++ length_bits e.count) ++ e.contents;
        encodes = λ n h.
            ((tt, e.contents), enclosing_encodes c.is_aligned node e.count old.at e.contents e.few e.size n h, e.fills);
        grown =
            subst (λ (l : List Bool). IsGrown was old.at (front ++ now) at l)
            (sym (append_assoc (start_of c.is_aligned old.at) (length_bits e.count) e.contents))
            (grown_both was (front ++ tail) (front ++ now) old.at start at (start_of c.is_aligned old.at) more zeros grown);
      };
      taken = e.taken;
    }
