-- Characters at an offset of the octets.
use Rattle.std.proofs.Common.{◌≡◌, ℕ, ◌+◌, ◌-◌, ◌*◌, ◌<◌, ◌≤◌, List, length, take, drop, refl, sym, ap, subst, ◌∙◌, arith}
use Rattle.asn1_bits.specs.Bits.{digits, number, bits}
use Rattle.asn1_alphabets.specs.Alphabet.{Alphabet, IsCode}
use Rattle.asn1_values.specs.Fields as plain
use Rattle.asn1_values.specs.Wrong.{NoCharacter, Short}
use Rattle.asn1_c.specs.declared.fields.Field.{Field}
use Rattle.asn1_c.specs.declared.fields.Refusal.{Refusal}
use Rattle.asn1_c.specs.Fields.{IsSpelledAt, NamesReason, number_of_words}
use Rattle.asn1_c.proofs.FieldLemmas.{is_short}
use Rattle.asn1_c.proofs.OctetLemmas.{length-left}

pub character_read : (octets : List ℕ) (at code width : ℕ) (a : Alphabet) (f : Field) → width ≡ a.width
    → at + width ≤ 8 * length octets → f.first ≡ at → f.length ≡ width → f.high ≡ code
    → digits code width ≡ take width (drop at (bits octets)) → IsCode a f.low code
    → IsSpelledAt octets at (plain.OfCharacter a) f
character_read octets at code width a f e le first len high is c = record {
  field = plain.Character a f.low;
  of_shape = refl;
  first = first;
  within = omega arith;
  spelled = (
    code,
    c,
    ap (λ (k : ℕ). take k (drop at (bits octets))) len ∙ sym is
        ∙ ap (λ (k : ℕ). digits code k) e,
  );
  told = (refl, subst (IsCode a f.low) (sym high) c);
}

pub character_wrong : (octets : List ℕ) (at code width : ℕ) (a : Alphabet) (r : Refusal) → width ≡ a.width
    → at + width ≤ 8 * length octets → r.code ≡ 14 → number_of_words r.high r.low ≡ code
    → code ≡ number (take width (drop at (bits octets)))
    → ((c : ℕ) → ¬ (IsCode a c code)) → NamesReason (plain.OfCharacter a) (drop at (bits octets)) r
character_wrong octets at code width a r e le says told is none = record {
  fault = NoCharacter code;
  names = (says, told);
  reason = (
    omega (arith, length-left octets at),
    is ∙ ap (λ (k : ℕ). number (take k (drop at (bits octets)))) e,
    none,
  );
}

pub character_short : (octets : List ℕ) (at width : ℕ) (a : Alphabet) (r : Refusal) → width ≡ a.width
    → at ≤ 8 * length octets → r.code ≡ 15
    → 8 * length octets < at + width → number_of_words r.high r.low ≡ at + width - 8 * length octets
    → NamesReason (plain.OfCharacter a) (drop at (bits octets)) r
character_short octets at width a r e le code lt n = record {
  fault = Short _;
  names = (code, refl);
  reason = is_short octets at a.width _ le (omega arith) (omega arith);
}
