-- Fields that are read at an offset of the octets.
use Rattle.std.proofs.Common.{◌≡◌, ℕ, ◌+◌, ◌-◌, ◌*◌, ◌<◌, ◌≤◌, Bool, List, [], ◌∷◌, ◌++◌, length, take, drop, get_or, ◌^◌, refl, sym, ap, subst, ◌∙◌, arith}
use Rattle.std.specs.Prelude.{IfOk, IfErr, OnOk, Result, Ok, Err}
use Rattle.std.proofs.lemmas.List.{take_more, take_more_set, drop-drop, drop-set-lt}
use Rattle.std.proofs.Math.ListN.{set}
use Rattle.asn1_bits.specs.Bits.{digits, bits}
use Rattle.asn1_values.specs.Fields as plain
use Rattle.asn1_values.specs.Wrong.{NumberWidth, Short, IsShortBy}
use Rattle.asn1_c.specs.declared.alphabets.Alphabet.{Alphabet}
use Rattle.asn1_c.specs.declared.fields.Shape.{Shape}
use Rattle.asn1_c.specs.declared.fields.Field.{Field}
use Rattle.asn1_c.specs.declared.fields.Refusal.{Refusal}
use Rattle.asn1_c.specs.Fields.{IsSpelledAt, NamesReason, IsReadAt, AreReadAt, end_of, number_of_words}
use Rattle.asn1_c.proofs.OctetLemmas.{length-left, length-cut, octets_spelled}

-- ---- what is left

pub is_short : (octets : List ℕ) (at need n : ℕ) → at ≤ 8 * length octets → n ≡ at + need - 8 * length octets → 0 < n
    → IsShortBy need (drop at (bits octets)) n
is_short octets at need n le e some = (some, omega (arith, length-left octets at))

-- ---- one field

pub bits_read : (octets : List ℕ) (at count : ℕ) (f : Field) → f.first ≡ at → f.length ≡ count → f.high ≡ 0 → f.low ≡ 0
    → at + count ≤ 8 * length octets → IsSpelledAt octets at (plain.OfBits count) f
bits_read octets at count f first len high low le = record {
  field = plain.Bits (take f.length (drop at (bits octets)));
  of_shape = ap (λ (k : ℕ). length (take k (drop at (bits octets)))) len ∙ length-cut octets at count le;
  first = first;
  within = omega arith;
  spelled = refl;
  told = (high, low);
}

pub octets_read : (octets : List ℕ) (at count : ℕ) (f : Field) → f.first ≡ at → f.length ≡ 8 * count → f.high ≡ 0
    → f.low ≡ 0
    → at + 8 * count ≤ 8 * length octets → IsSpelledAt octets at (plain.OfOctets count) f
octets_read octets at count f first len high low le =
    let n : length (take f.length (drop at (bits octets))) ≡ 8 * count =
    ap (λ (k : ℕ). length (take k (drop at (bits octets)))) len ∙ length-cut octets at (8 * count) le in
    let o = octets_spelled count (take f.length (drop at (bits octets))) n in
    record {
      field = plain.Octets o.0;
      of_shape = o.1;
      first = first;
      within = omega arith;
      spelled = o.2;
      told = (high, low);
    }

pub number_read : (octets : List ℕ) (at width n : ℕ) (f : Field) → f.first ≡ at → f.length ≡ width
    → number_of_words f.high f.low ≡ n
    → at + width ≤ 8 * length octets → width ≤ 128 → n < 2 ^ width → digits n width ≡ take width (drop at (bits octets))
    → IsSpelledAt octets at (plain.OfNumber width) f
number_read octets at width n f first len value le wide below is = record {
  field = plain.Number n width;
  of_shape = refl;
  first = first;
  within = omega arith;
  spelled = (wide, below, ap (λ (k : ℕ). take k (drop at (bits octets))) len ∙ sym is);
  told = value;
}

pub bits_short : (octets : List ℕ) (at count : ℕ) (r : Refusal) → at ≤ 8 * length octets → r.code ≡ 15
    → 8 * length octets < at + count
    → number_of_words r.high r.low ≡ at + count - 8 * length octets
    → NamesReason (plain.OfBits count) (drop at (bits octets)) r
bits_short octets at count r le code lt n =
    record { fault = Short _; names = (code, refl); reason = is_short octets at count _ le n (omega arith) }

pub octets_short : (octets : List ℕ) (at count : ℕ) (r : Refusal) → at ≤ 8 * length octets → r.code ≡ 15
    → 8 * length octets < at + 8 * count
    → number_of_words r.high r.low ≡ at + 8 * count - 8 * length octets
    → NamesReason (plain.OfOctets count) (drop at (bits octets)) r
octets_short octets at count r le code lt n =
    record { fault = Short _; names = (code, refl); reason = is_short octets at (8 * count) _ le n (omega arith) }

pub number_short : (octets : List ℕ) (at width : ℕ) (r : Refusal) → at ≤ 8 * length octets → r.code ≡ 15
    → 8 * length octets < at + width
    → number_of_words r.high r.low ≡ at + width - 8 * length octets → width ≤ 128
    → NamesReason (plain.OfNumber width) (drop at (bits octets)) r
number_short octets at width r le code lt n wide =
    record { fault = Short _; names = (code, refl); reason = (wide, is_short octets at width _ le n (omega arith)) }

pub number_wide : (left : List Bool) (width : ℕ) (r : Refusal) → r.code ≡ 2 → number_of_words r.high r.low ≡ width
    → 128 < width → NamesReason (plain.OfNumber width) left r
number_wide left width r code n wide =
    record { fault = NumberWidth width; names = (code, n); reason = (refl, wide) }

abbrev Taken : Type 0
Taken = Result Field Refusal

pub bits_taken : (octets : List ℕ) (at count : ℕ) (r : Taken) → IfOk r (λ f. (f.first ≡ at) × (f.length ≡ count))
    → IfOk r (λ f. (f.high ≡ 0) × (f.low ≡ 0))
    → OnOk r (at + count ≤ 8 * length octets) → IfOk r (IsSpelledAt octets at (plain.OfBits count))
bits_taken octets at count (Ok f) place none le = bits_read octets at count f place.0 place.1 none.0 none.1 le
bits_taken octets at count (Err e) place none le = tt

pub bits_refused : (octets : List ℕ) (at count i : ℕ) (r : Taken) → at ≤ 8 * length octets
    → IfErr r (λ e. (e.code ≡ 15) × (e.field ≡ i))
    → IfErr r (λ e. (8 * length octets < at + count) × (number_of_words e.high e.low ≡ at + count - 8 * length octets))
    → IfErr r (NamesReason (plain.OfBits count) (drop at (bits octets)))
bits_refused octets at count i (Ok f) within code short = tt
bits_refused octets at count i (Err e) within code short = bits_short octets at count e within code.0 short.0 short.1

pub octets_taken : (octets : List ℕ) (at count : ℕ) (r : Taken) → IfOk r (λ f. (f.first ≡ at) × (f.length ≡ 8 * count))
    → IfOk r (λ f. (f.high ≡ 0) × (f.low ≡ 0))
    → OnOk r (at + 8 * count ≤ 8 * length octets) → IfOk r (IsSpelledAt octets at (plain.OfOctets count))
octets_taken octets at count (Ok f) place none le = octets_read octets at count f place.0 place.1 none.0 none.1 le
octets_taken octets at count (Err e) place none le = tt

pub octets_refused : (octets : List ℕ) (at count i : ℕ) (r : Taken) → at ≤ 8 * length octets
    → IfErr r (λ e. (e.code ≡ 15) × (e.field ≡ i))
    → IfErr r (λ e. (8 * length octets < at + 8 * count)
    × (number_of_words e.high e.low ≡ at + 8 * count - 8 * length octets))
    → IfErr r (NamesReason (plain.OfOctets count) (drop at (bits octets)))
octets_refused octets at count i (Ok f) within code short = tt
octets_refused octets at count i (Err e) within code short =
    octets_short octets at count e within code.0 short.0 short.1

-- ---- fields one after another

pub read_more : (octets : List ℕ) (alphabets : List Alphabet) (from at : ℕ) (ss : List Shape) (fs : List Field) (s : Shape)
    (f : Field) → AreReadAt octets alphabets from ss fs at
    → IsReadAt octets alphabets at s f → AreReadAt octets alphabets from (ss ++ s ∷ []) (fs ++ f ∷ []) (end_of f)
read_more octets alphabets from at [] [] s f e h = (subst (λ (k : ℕ). IsReadAt octets alphabets k s f) (sym e) h, refl)
read_more octets alphabets from at (x ∷ ss) (y ∷ fs) s f p h = (p.0, read_more octets alphabets (end_of y) at ss fs s f p.1 h)
read_more octets alphabets from at [] (y ∷ fs) s f p h = absurd p
read_more octets alphabets from at (x ∷ ss) [] s f p h = absurd p

-- one field more, in the caller's lists
pub next_read : (octets : List ℕ) (alphabets : List Alphabet) (from at i : ℕ) (ss : List Shape) (fs : List Field) (d : Shape)
    (f : Field) → i < length ss → i < length fs
    → AreReadAt octets alphabets from (take i ss) (take i fs) at → IsReadAt octets alphabets at (get_or ss i d) f
    → AreReadAt octets alphabets from (take (i + 1) ss) (take (i + 1) (set fs i f)) (end_of f)
next_read octets alphabets from at i ss fs d f in_shapes in_fields p h =
    rw (take_more ss i d in_shapes, take_more_set fs i f in_fields)
    (read_more octets alphabets from at (take i ss) (take i fs) (get_or ss i d) f p h)

-- the fields after it are unchanged
pub next_kept : (fs old : List Field) (i : ℕ) (f : Field) → drop i fs ≡ drop i old
    → drop (i + 1) (set fs i f) ≡ drop (i + 1) old
next_kept fs old i f e =
    drop-set-lt (i + 1) fs i f (omega arith) ∙ sym (drop-drop 1 i fs) ∙ ap (drop 1) e ∙ drop-drop 1 i old
