-- The laws of bits as fields.
use Rattle.std.proofs.Common.{◌≡◌, ℕ, Bool, List, length, Ok, refl, ap, subst, ◌∙◌}
use Rattle.asn1_values.specs.Fields.{Field, IsSpelledBy, IsOfShape, Bits, OfBits}
use Rattle.asn1_values.specs.Walk.{bits_content, field_at}
use Rattle.asn1_values.proofs.ExactKinds.{IsExact, cut_exact, held_is, no_fault}

pub bits_exact : (len : ℕ) → IsExact (OfBits len) (field_at (OfBits len))
unfolding field_at
bits_exact len =
    cut_exact (OfBits len) len bits_content
    (record {
      taken = taken;
      again = again;
      reason = λ front rest fault n e. absurd (no_fault _ _ e);
      short =
          λ list k s. s;
    })
  where
    taken : (front : List Bool) (field : Field) → length front ≡ len → bits_content front ≡ Ok field
        → IsOfShape field (OfBits len) × IsSpelledBy field front
    taken front field n e =
        subst (λ (f : Field). IsOfShape f (OfBits len) × IsSpelledBy f front) (held_is _ _ e) (n, refl)

    again : (field : Field) (front : List Bool) → IsOfShape field (OfBits len) → IsSpelledBy field front
        → (length front ≡ len) × (bits_content front ≡ Ok field)
    again (Bits view) front shape spelled = (ap length spelled ∙ shape, ap (λ (l : List Bool). Ok (Bits l)) spelled)
    again field front shape spelled = absurd shape
