-- What follows of a value that was encoded at the beginning of a message, and of the zeros after it.
use Rattle.std.proofs.Common.{◌≡◌, ℕ, ◌+◌, ◌*◌, ◌/◌, ◌%◌, List, [], ◌++◌, Bool, length, refl, sym, ap, ◌∙◌, subst, inl, inr, arith}
use Rattle.std.specs.Prelude.{◌⊎◌}
use Rattle.std.proofs.lemmas.List.{length-append}
use Rattle.asn1_bits.specs.Bits.{digits}
use Rattle.asn1_bits.specs.Laws.DigitLaws.{length-digits}
use Rattle.asn1_x691.specs.OpenTypes.{padding_of}
use Rattle.asn1_x691_writers.specs.declared.state.Writer.{Writer}
use Rattle.asn1_x691_writers.specs.Written.{IsIndex, Holds, IsGrown}
use Rattle.asn1_x691_encode.specs.declared.context.Context.{Context}
use Rattle.asn1_x691_encode.specs.Encoding.{tape, types, IsEncoded, IsFirstMisfit, IsLeft}
use Rattle.asn1_x691_encode.specs.Messages.{IsMessage, IsRejected}
use Rattle.asn1_x691_encode.specs.CompleteSteps.{padded_whole}

-- an index after whole octets
whole_octets : (end total : ℕ) → IsIndex end total → total % 8 ≡ 0 → IsIndex (8 * (end / 8)) total
whole_octets end total (inl e) z = inl (omega (arith, e, z))
whole_octets end total (inr p) z = inr (omega (arith, p.0, p.2, z), omega (arith, p.1), omega (arith, z))

module _ (c : Context) (depth node : ℕ) (was mid now : List ℕ) (old new : Writer) (end zeros : ℕ)
    (begins : old.at ≡ 0) (first : old.next ≡ 0) (a : IsEncoded c (types c depth node) was old mid new)
    (pad : (n : ℕ) → IsIndex new.at n → zeros ≡ padding_of n) (g : IsGrown mid new.at now end (digits 0 zeros)) where
  abbrev value : List Bool
  value = a.written.list

  nothing : Holds was old.at []
  nothing = record { index = inl begins; kept = λ le. refl }

  held : Holds mid new.at value
  held = a.written.grown.held [] nothing

  ended : Holds now end (value ++ digits 0 zeros)
  ended = g.held value held

  padding_is : zeros ≡ padding_of (length value)
  padding_is = pad (length value) held.index

  size : length (digits 0 zeros) ≡ zeros
  size = length-digits 0 zeros

  total : length (value ++ digits 0 zeros) % 8 ≡ 0
  total =
      ap (λ (n : ℕ). n % 8) (length-append value (digits 0 zeros) ∙ ap (λ (n : ℕ). length value + n) (size ∙ padding_is))
      ∙ padded_whole (length value)

  pub message_is : IsMessage c depth node now (record { octets = end / 8; parts = new.next })
  message_is = record {
    parts = a.parts;
    list = value ++ digits 0 zeros;
    encodes = record {
      value = (a.parts, value);
      after = tt;
      front = value;
      rest = digits 0 zeros;
      first = (a.written.encodes 0 (λ h. ap (λ (n : ℕ). n % 8) (sym begins)), refl);
      second = (size ∙ padding_is, ap (λ (n : ℕ). digits 0 n) (sym size));
      is = refl;
      parts = refl;
    };
    taken = ap (λ (n : ℕ). tape c n) (sym first) ∙ a.taken;
    size = whole_octets end (length (value ++ digits 0 zeros)) ended.index total;
    kept = ended.kept;
  }

-- the reason why nothing was encoded
pub rejected_is : (c : Context) (depth node : ℕ) (old new : Writer) → old.at ≡ 0 → old.next ≡ 0
    → IsFirstMisfit c (types c depth node) old new ⊎ IsLeft c new
    → IsRejected c depth node (record { node = new.node; part = new.next; reason = new.reason })
rejected_is c depth node old new begins first (inl m) = inl (record {
  kind = m.kind;
  reason = m.reason;
  first =
      subst
      (λ (i : ℕ). (types c depth node 0).misfit (tape c i) (record { node = new.node; left = length (tape c new.next); kind = m.kind }))
      first (m.first 0 (λ h. ap (λ (n : ℕ). n % 8) (sym begins)));
})
rejected_is c depth node old new begins first (inr u) = inr u
