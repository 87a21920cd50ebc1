-- What follows of a value that was encoded at the beginning of octets of its own, and of the zeros after it.
use Rattle.std.proofs.Common.{◌≡◌, ℕ, zero, suc, ◌+◌, ◌*◌, ◌%◌, ◌<◌, ◌≤◌, List, ◌++◌, Bool, false, length, refl, sym, ap, ◌∙◌, subst, inl, inr, arith}
use Rattle.std.specs.Prelude.{◌⊎◌}
use Rattle.std.proofs.lemmas.List.{length-append}
use Rattle.asn1_bits.specs.Bits.{digits}
use Rattle.asn1_bits.specs.Laws.DigitLaws.{length-digits}
use Rattle.asn1_schema.specs.declared.tables.Presence.{Presence}
use Rattle.asn1_schema.specs.Pieces.{Parts}
use Rattle.asn1_schema.specs.TypeEncodings.{TypeEncoding}
use Rattle.asn1_x691.specs.declared.fault.FaultKind.{FaultKind}
use Rattle.asn1_x691.specs.OpenTypes.{complete, padding_of}
use Rattle.asn1_x691_writers.specs.declared.state.Writer.{Writer}
use Rattle.asn1_x691_writers.specs.declared.state.Rejection.TheVariants.{Unsupported}
use Rattle.asn1_x691_writers.specs.Enclosed.{length_bits}
use Rattle.asn1_x691_writers.specs.GrownSteps.{grown_both}
use Rattle.asn1_x691_writers.specs.Written.{IsIndex, IsGrown, IsAlike}
use Rattle.asn1_x691_encode.specs.declared.context.Context.{Context}
use Rattle.asn1_x691_encode.specs.Encoding.{tape, value_in, IsEncoded, IsFirstMisfit, IsLeft}
use Rattle.asn1_x691_encode.specs.Enclosed.{IsEnclosed, EnclosedOutcome}
use Rattle.asn1_x691_encode.specs.Padding.{IsPadded}

-- the bits of a value, and the zeros after them
abbrev pub padded : List Bool → List Bool
padded list = list ++ digits 0 (padding_of (length list))

pub complete_fills : (node : ℕ) (A : ℕ → TypeEncoding FaultKind) (parts : Parts) (list : List Bool) → (A 0).encoding.encodes parts list
    → (complete node A).fills parts (padded list)
complete_fills node A parts list a =
    let zeros = digits 0 (padding_of (length list)) in
    let size : length zeros ≡ padding_of (length list) = length-digits 0 (padding_of (length list)) in record {
      value = (parts, list);
      after = tt;
      front = list;
      rest = zeros;
      first = (a, refl);
      second = (size, ap (λ (n : ℕ). digits 0 n) (sym size));
      is = refl;
      parts = refl;
    }

pub padded_whole : (n : ℕ) → (n + padding_of n) % 8 ≡ 0
padded_whole zero = refl
padded_whole (suc n) = omega arith

pub padded_size : (list : List Bool) → length (padded list) ≡ length list + padding_of (length list)
padded_size list =
    length-append list (digits 0 (padding_of (length list)))
    ∙ ap (λ (n : ℕ). length list + n) (length-digits 0 (padding_of (length list)))

-- ---- octets of an open type, from a bit of the first octet on

module _ (c : Context) (depth node : ℕ) (p : Presence) (inner : ℕ) (was mid now : List ℕ) (old begun new : Writer)
    (low : old.at < 8) (begins : IsAlike c.is_aligned 0 old.at) (next : begun.next ≡ old.next)
    (zeros : IsGrown was old.at mid begun.at (digits 0 8)) where
  eight : length (digits 0 8) ≡ 8
  eight = length-digits 0 8

  -- the index after the eight zeros
  pub begun_at : begun.at ≡ old.at + 8
  begun_at =
      let h : IsIndex begun.at (old.at + length (digits 0 8)) = zeros.index old.at (inl refl) in
      let e : old.at + length (digits 0 8) ≡ old.at + 8 = omega (arith, eight) in
      exact begun.at (subst (λ (n : ℕ). IsIndex begun.at n) e h)
    where
      exact : (at : ℕ) → IsIndex at (old.at + 8) → at ≡ old.at + 8
      exact at (inl e) = e
      exact at (inr h) = absurd (omega (arith, h.0, h.1, low))

  alike : IsAlike c.is_aligned 0 begun.at
  alike e = omega (arith, begun_at, begins e)

  pub octets_fail : IsFirstMisfit c (value_in c depth node p inner) begun new ⊎ IsLeft c new
      → EnclosedOutcome c depth node p inner was old now new false
  octets_fail (inl m) = inl (record {
    kind = m.kind;
    reason = m.reason;
    first =
        subst
        (λ (i : ℕ). (value_in c depth node p inner 0).misfit (tape c i) (record { node = new.node; left = length (tape c new.next); kind = m.kind }))
        next (m.first 0 alike);
  })
  octets_fail (inr u) = inr u

  module _ (a : IsEncoded c (value_in c depth node p inner) mid begun now new) where
    abbrev list : List Bool
    list = a.written.list

    taken : tape c old.next ≡ a.parts ++ tape c new.next
    taken = ap (λ (i : ℕ). tape c i) (sym next) ∙ a.taken

    fills : (complete node (value_in c depth node p inner)).fills a.parts (padded list)
    fills = complete_fills node (value_in c depth node p inner) a.parts list (a.written.encodes 0 alike)

    -- the index after the value
    pub value_index : IsIndex new.at (old.at + 8 + length list)
    value_index = subst (λ (n : ℕ). IsIndex new.at (n + length list)) begun_at (a.written.grown.index begun.at (inl refl))

    -- there are too many octets
    pub octets_long : (last : Writer) → last.next ≡ old.next → last.reason ≡ Unsupported
        → 131072 ≤ length list + padding_of (length list) → IsLeft c last
    octets_long last back reason many = inl (
      reason,
      inr (inr (inl (record {
        depth = depth;
        node = node;
        presence = p;
        inner = inner;
        parts = a.parts;
        list = padded list;
        rest = tape c new.next;
        encodes = complete_fills node (value_in c depth node p inner) a.parts list (a.written.encodes 0 alike);
        are = ap (λ (i : ℕ). tape c i) back ∙ taken;
        many = omega (arith, many, padded_size list);
      }))),
    )

    module _ (padded_octets last : List ℕ) (count end : ℕ) (q : IsPadded now (old.at + 8) new.at (length list) padded_octets count)
        (end_is : end ≡ old.at + length (length_bits count) + 8 * count)
        (before : (contents : List Bool) → length contents ≡ 8 * count
        → IsGrown was old.at padded_octets (old.at + 8 + 8 * count) (digits 0 8 ++ contents)
        → IsGrown was old.at last end (length_bits count ++ contents)) where
      size : length (padded list) ≡ 8 * count
      size = padded_size list ∙ q.size

      grown : IsGrown was old.at padded_octets (old.at + 8 + 8 * count) (digits 0 8 ++ padded list)
      grown =
          grown_both was mid padded_octets old.at begun.at (old.at + 8 + 8 * count) (digits 0 8) (padded list) zeros
          (grown_both mid now padded_octets begun.at new.at (old.at + 8 + 8 * count) list (digits 0 (padding_of (length list)))
          a.written.grown q.grown)

      pub octets_done : IsEnclosed c depth node p inner was old last (record new { at = end })
      octets_done = record {
        parts = a.parts;
        contents = padded list;
        count = count;
        few = q.few;
        size = size;
        fills = fills;
        grown = before (padded list) size grown;
        end = end_is;
        taken = taken;
      }
