-- The laws of octets as fields.
use Rattle.std.proofs.Common.{◌≡◌, ℕ, ◌*◌, Bool, List, length, Ok, sym, ap, subst, ◌∙◌, arith}
use Rattle.asn1_bits.specs.Laws.DigitLaws.{length-bits}
use Rattle.asn1_values.specs.Fields.{Field, IsSpelledBy, IsOfShape, Octets, OfOctets}
use Rattle.asn1_values.specs.Walk.{octets_of, octets_content, field_at}
use Rattle.asn1_values.proofs.OctetLemmas.{length-octets_of, octets-octets_of, bits-octets_of, octets_of-bits}
use Rattle.asn1_values.proofs.ExactKinds.{IsExact, cut_exact, held_is, no_fault}

pub octets_exact : (count : ℕ) → IsExact (OfOctets count) (field_at (OfOctets count))
unfolding field_at
octets_exact count =
    cut_exact (OfOctets count) (8 * count) (octets_content count)
    (record {
      taken = taken;
      again = again;
      reason = λ front rest fault len e. absurd (no_fault _ _ e);
      short =
          λ list k s. s;
    })
  where
    taken : (front : List Bool) (field : Field) → length front ≡ 8 * count → octets_content count front ≡ Ok field
        → IsOfShape field (OfOctets count) × IsSpelledBy field front
    taken front field len e =
        subst (λ (f : Field). IsOfShape f (OfOctets count) × IsSpelledBy f front) (held_is _ _ e) (
          length-octets_of count front,
          (octets-octets_of count front (omega arith), sym (bits-octets_of count front len)),
        )

    again : (field : Field) (front : List Bool) → IsOfShape field (OfOctets count) → IsSpelledBy field front
        → (length front ≡ 8 * count) × (octets_content count front ≡ Ok field)
    again (Octets o) front shape spelled =
        let back : octets_of count front ≡ o = ap (λ (n : ℕ). octets_of n front) (sym shape)
        ∙ ap (octets_of (length o)) spelled.1 ∙ octets_of-bits o spelled.0 in
        (omega (arith, ap length spelled.1, length-bits o), ap (λ (os : List ℕ). Ok (Octets os)) back)
    again field front shape spelled = absurd shape
