-- Octets of a message.
use Rattle.std.proofs.Common.{◌≡◌, ℕ, ◌^◌, ◌<◌, Bool, true, false, List, length, take, drop, sym, ◌∙◌, ap, arith}
use Rattle.std.specs.Prelude.{All}
use Rattle.std.proofs.lemmas.List.{length-take-le, length-drop}
use Rattle.asn1_bits.specs.Bits.{bits, number, digits}
use Rattle.asn1_bits.specs.Laws.DigitLaws.{length-digits}
use Rattle.asn1_bits.specs.Laws.NumberLaws.{number_of-digits}
use Rattle.asn1_schema.specs.declared.part.Span.{Span}
use Rattle.asn1_schema.specs.PiecesOfParts.{bits_of}
use Rattle.asn1_x691_fields.specs.Octets.{octets_in}
use Rattle.asn1_x691_fields.specs.ContentSteps.{bits_of_span, same_span}
use Rattle.asn1_x690.specs.Leaves.{truth_octet}
use Rattle.asn1_x690_leaves.specs.Told.{AreOctetsOf}

pub span_size : (list : List Bool) (s : Span) → AreOctetsOf list s → length (bits_of list s) ≡ s.count
span_size list s h = length-take-le s.count (drop s.at list) (let i = h.inside in omega (arith, i, length-drop s.at list))

pub span_bits : (list : List Bool) (s : Span) → AreOctetsOf list s → bits_of list s ≡ bits (octets_in list s)
span_bits list s h = bits_of_span list s h.inside h.whole

-- the octets that the bits of a span are
pub own_octets : (list : List Bool) (s : Span) → AreOctetsOf list s → (own : List ℕ) → All (λ octet. octet < 256) own
    → bits own ≡ bits_of list s → octets_in list s ≡ own
own_octets list s h own below e = same_span list s h.inside h.whole own below (sym e)

-- ---- BOOLEAN

module _ (list : List Bool) (s : Span) (h : AreOctetsOf list s) where
  -- its one octet
  pub truth_size : (b : Bool) → bits_of list s ≡ digits (truth_octet b) 8 → s.count ≡ 8
  truth_size b p = sym (span_size list s h) ∙ ap length p ∙ length-digits (truth_octet b) 8

  pub truth_is : (b : Bool) → s.count ≡ 8 → bits_of list s ≡ digits (truth_octet b) 8 → number (take 8 (drop s.at list)) ≡ truth_octet b
  truth_is b e p = ap (λ (n : ℕ). number (take n (drop s.at list))) (sym e) ∙ ap number p ∙ number_of-digits (truth_octet b) 8 (below b)
    where
      below : (b : Bool) → truth_octet b < 2 ^ 8
      below false = omega arith
      below true = omega arith

pub no_truth : (b : Bool) (n : ℕ) → n ≡ truth_octet b → (n ≡ 0 → ⊥) → (n ≡ 255 → ⊥) → ⊥
no_truth false n e p q = p e
no_truth true n e p q = q e
