-- The laws of numbers as fields.
use Rattle.std.proofs.Common.{◌≡◌, ℕ, ◌≤◌, Bool, ltb, List, ◌++◌, length, Ok, Err, refl, sym, ap, subst, ◌∙◌, arith, inl, inr}
use Rattle.std.proofs.lemmas.Bool.{ltb-true, ltb-false, le-ltb}
use Rattle.asn1_bits.specs.Bits.{number}
use Rattle.asn1_bits.specs.Laws.DigitLaws.{length-digits}
use Rattle.asn1_bits.specs.Laws.NumberLaws.{number_of-digits, digits_of-number, number-below}
use Rattle.asn1_values.specs.Fields.{Field, IsSpelledBy, IsOfShape, Number, OfNumber}
use Rattle.asn1_values.specs.Wrong.{Fault, NumberWidth, IsReason}
use Rattle.asn1_values.specs.Walk.{cut_at, number_content, field_at}
use Rattle.asn1_values.proofs.ExactKinds.{IsExact, HoldsExactly, Takes, cut_exact, chosen, err_is, err_is_no_ok, held_is, no_fault}

number_holds : (width : ℕ) → width ≤ 128 → HoldsExactly (OfNumber width) width (number_content width)
number_holds width le =
    record {
      taken = taken;
      again = again;
      reason = λ front rest fault len e. absurd (no_fault _ _ e);
      short =
          λ list k s. (le, s);
    }
  where
    taken : (front : List Bool) (field : Field) → length front ≡ width → number_content width front ≡ Ok field
        → IsOfShape field (OfNumber width) × IsSpelledBy field front
    taken front field len e =
        subst (λ (f : Field). IsOfShape f (OfNumber width) × IsSpelledBy f front) (held_is _ _ e)
        (refl, (le, number-below front width (omega (arith, len)), sym (digits_of-number front width len)))

    again : (field : Field) (front : List Bool) → IsOfShape field (OfNumber width) → IsSpelledBy field front
        → (length front ≡ width) × (number_content width front ≡ Ok field)
    again (Number value w) front shape spelled =
        let n : number front ≡ value = ap number spelled.2 ∙ number_of-digits value w spelled.1 in
        (ap length spelled.2 ∙ length-digits value w ∙ shape, rw (n, shape) refl)
    again field front shape spelled = absurd shape

pub number_exact : (width : ℕ) → IsExact (OfNumber width) (field_at (OfNumber width))
unfolding field_at
number_exact width = record { taken = taken; again = again; reason = reason }
  where
    width_le : (field : Field) (front : List Bool) → IsOfShape field (OfNumber width) → IsSpelledBy field front
        → width ≤ 128
    width_le (Number value w) front shape spelled = omega (arith, spelled.0)
    width_le field front shape spelled = absurd shape

    taken : (list : List Bool) (field : Field) (rest : List Bool) → field_at (OfNumber width) list ≡ Ok (field, rest)
        → Takes (OfNumber width) list field rest
    taken list field rest e =
        elim (chosen (ltb 128 width) (Err (NumberWidth width)) (cut_at width (number_content width) list)
        (Ok (field, rest)) e) [
          | inl h ↦ absurd (err_is_no_ok _ _ h.1)
          | inr h ↦ (cut_exact (OfNumber width) width (number_content width) (number_holds width (ltb-false _ _ h.0))).taken
              list field rest h.1
        ]

    again : (field : Field) (front rest : List Bool) → IsOfShape field (OfNumber width) → IsSpelledBy field front
        → field_at (OfNumber width) (front ++ rest) ≡ Ok (field, rest)
    again field front rest shape spelled =
        let le : width ≤ 128 = width_le field front shape spelled in
        rw (le-ltb 128 width le)
        ((cut_exact (OfNumber width) width (number_content width) (number_holds width le)).again field front rest
        shape spelled)

    reason : (list : List Bool) (fault : Fault) → field_at (OfNumber width) list ≡ Err fault
        → IsReason (OfNumber width) list fault
    reason list fault e =
        elim (chosen (ltb 128 width) (Err (NumberWidth width)) (cut_at width (number_content width) list) (Err fault) e) [
          | inl h ↦ subst (λ (f : Fault). IsReason (OfNumber width) list f) (err_is _ _ h.1) (refl, ltb-true _ _ h.0)
          | inr h ↦ (cut_exact (OfNumber width) width (number_content width)
              (number_holds width (ltb-false _ _ h.0))).reason list fault h.1
        ]
