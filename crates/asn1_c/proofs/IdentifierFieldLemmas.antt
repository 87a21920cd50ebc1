-- Identifiers at an offset of the octets.
use Rattle.std.proofs.Common.{◌≡◌, ◌≢◌, ℕ, ◌+◌, ◌-◌, ◌*◌, ◌<◌, ◌≤◌, Bool, List, length, take, drop, refl, sym, ap, subst, ◌∙◌, arith, inl, inr}
use Rattle.std.proofs.lemmas.Bool.{cases_eq}
use Rattle.asn1_bits.specs.Bits.{bits}
use Rattle.asn1_oid.specs.Contents.{IsContents, FitU32}
use Rattle.asn1_oid.specs.Laws.WritingLaws.{contents_octets}
use Rattle.asn1_values.specs.Fields as plain
use Rattle.asn1_values.specs.Wrong.{NotIdentifier, ArcOver, Short}
use Rattle.asn1_c.specs.declared.fields.Field.{Field}
use Rattle.asn1_c.specs.declared.fields.Refusal.{Refusal}
use Rattle.asn1_c.specs.Fields.{IsSpelledAt, NamesReason, number_of_words}
use Rattle.asn1_c.specs.Octets.{octets_at}
use Rattle.asn1_c.proofs.FieldLemmas.{is_short}
use Rattle.asn1_c.proofs.OctetLemmas.{length-octets_of, length-left, bits-octets_at, octets_at_only}

module _ (octets : List ℕ) (at count : ℕ) (le : at + 8 * count ≤ 8 * length octets) where
  pub identifier_read : (f : Field) (arcs : List ℕ) → f.first ≡ at → f.length ≡ 8 * count → f.high ≡ 0 → f.low ≡ 0
      → IsContents arcs (octets_at octets at count) → FitU32 arcs
      → IsSpelledAt octets at (plain.OfIdentifier count) f
  identifier_read f arcs first len high low c fit = record {
    field = plain.Identifier arcs;
    of_shape = inl (octets_at octets at count, c, length-octets_of count (drop at (bits octets)));
    first = first;
    within = omega arith;
    spelled = (
      octets_at octets at count,
      c,
      fit,
      ap (λ (k : ℕ). take k (drop at (bits octets))) len ∙ sym (bits-octets_at octets at count le),
    );
    told = (high, low);
  }

  pub identifier_none : (r : Refusal) → r.code ≡ 6 → number_of_words r.high r.low ≡ 0
      → ((arcs : List ℕ) → ¬ (IsContents arcs (octets_at octets at count)))
      → NamesReason (plain.OfIdentifier count) (drop at (bits octets)) r
  identifier_none r code zero none = record {
    fault = NotIdentifier;
    names = (code, zero);
    reason = inr (
      omega (arith, length-left octets at),
      λ others arcs e c. none arcs
          (subst (IsContents arcs) (octets_at_only octets at count le others (contents_octets arcs others c) e) c),
    );
  }

  pub identifier_large : (r : Refusal) (arcs : List ℕ) → 0 < count → r.code ≡ 7 → number_of_words r.high r.low ≡ 0
      → IsContents arcs (octets_at octets at count) → ¬ (FitU32 arcs)
      → NamesReason (plain.OfIdentifier count) (drop at (bits octets)) r
  identifier_large r arcs some code zero c large = record {
    fault = ArcOver;
    names = (code, zero);
    reason = (
      some,
      omega (arith, length-left octets at),
      (octets_at octets at count, arcs, sym (bits-octets_at octets at count le), c, large),
    );
  }

  -- what is not the contents of an identifier, by its code
  pub identifier_refused : (r : Refusal) (code : ℕ) → 0 < count → r.code ≡ code → number_of_words r.high r.low ≡ 0
      → code ≢ 0 → (code ≢ 0 → code ≢ 7 → code ≡ 6)
      → (code ≡ 7 → (arcs : List ℕ) × IsContents arcs (octets_at octets at count) × ¬ (FitU32 arcs))
      → (code ≡ 6 → (arcs : List ℕ) → ¬ (IsContents arcs (octets_at octets at count)))
      → NamesReason (plain.OfIdentifier count) (drop at (bits octets)) r
  identifier_refused r code some is zero ne codes large none = elim (cases_eq code 7) [
    | inl e ↦ (let found = large e in identifier_large r found.0 some (is ∙ e) zero found.1 found.2)
    | inr other ↦ (let e = codes ne other in identifier_none r (is ∙ e) zero (none e))
  ]

pub identifier_empty : (left : List Bool) (count : ℕ) (r : Refusal) → count ≡ 0 → r.code ≡ 6
    → number_of_words r.high r.low ≡ 0 → NamesReason (plain.OfIdentifier count) left r
identifier_empty left count r none code zero =
    record { fault = NotIdentifier; names = (code, zero); reason = inl none }

pub identifier_short : (octets : List ℕ) (at count : ℕ) (r : Refusal) → 0 < count → at ≤ 8 * length octets
    → r.code ≡ 15 → 8 * length octets < at + 8 * count
    → number_of_words r.high r.low ≡ at + 8 * count - 8 * length octets
    → NamesReason (plain.OfIdentifier count) (drop at (bits octets)) r
identifier_short octets at count r some le code lt n = record {
  fault = Short _;
  names = (code, refl);
  reason = (some, is_short octets at (8 * count) _ le n (omega arith));
}
