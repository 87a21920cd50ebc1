-- Short strings of characters, each written as one number.
use Rattle.std.proofs.Common.{◌≡◌, ℕ, ◌+◌, ◌*◌, ◌%◌, ◌^◌, ◌<◌, ◌≤◌, inl, inr, List, ◌/◌, ◌∷◌, [], ◌++◌, Bool, false, refl, sym, ◌∙◌, ap, append-nil, arith}
use Rattle.std.proofs.Math.Logic.{⊎_elim}
use Rattle.std.proofs.Math.Nat.{mul-le-mul_right}
use Rattle.std.proofs.lemmas.Nat.{pow-add, shl_whole, shr_high}
use Rattle.asn1_bits.specs.Bits.{digits}
use Rattle.asn1_bits.specs.Laws.NumberLaws.{digits-append, digits-low}
use Rattle.asn1_schema.specs.declared.tables.Range.{Range}
use Rattle.asn1_schema.specs.Encodings.{each}
use Rattle.asn1_x691.specs.Alphabets.{width_of}
use Rattle.asn1_x691.specs.Characters.{character, sized_text}
use Rattle.asn1_x691.specs.Fields.{width_to}
use Rattle.asn1_x691_fields.specs.WindowSteps.{is_inline_or_on_octet}
use Rattle.asn1_x691_writers.proofs.WidthLemmas.{width_enough}

-- two numbers, one after the other
pub record AreJoined (more first codes size : ℕ) : Type 0 where
  pub whole : more * 2 ^ size % 2 ^ 64 ≡ more * 2 ^ size
  pub below : more * 2 ^ size + codes < 2 ^ (first + size)
  pub parts : digits (more * 2 ^ size + codes) (first + size) ≡ digits more first ++ digits codes size

pub joined : (more first codes size : ℕ) → more < 2 ^ first → codes < 2 ^ size → first + size ≤ 64 → AreJoined more first codes size
joined more first codes size few low fits =
    let n = more * 2 ^ size + codes in
    let power : 2 ^ (first + size) ≡ 2 ^ first * 2 ^ size = pow-add 2 first size in
    let le : (more + 1) * 2 ^ size ≤ 2 ^ first * 2 ^ size = mul-le-mul_right (2 ^ size) (omega (arith, few)) in
    record {
      whole = shl_whole more first size 64 few fits;
      below = omega (arith, le, power, low);
      parts = digits-append n first size
          ∙ ap (λ (m : ℕ). digits m first ++ digits n size) (shr_high more size codes low)
          ∙ ap (λ (l : List Bool). digits more first ++ l) (digits-low more codes size);
    }

-- the number of the characters and their codes are the encoding of a string in the UNALIGNED variant
pub sized_encodes : (ranges : List Range) (node least range more at : ℕ) (text : List ℕ) (codes : List Bool) → more ≤ range
    → (each (character false ranges node) (least + more)).encodes text codes
    → (sized_text false ranges node least range at).encodes text (digits more (width_to range) ++ codes)
sized_encodes ranges node least range more at text codes few all = record {
  value = more;
  after = text;
  front = digits more (width_to range);
  rest = codes;
  first = record {
    value = more;
    after = more;
    front = digits more (width_to range);
    rest = [];
    first = (width_enough more range few, refl);
    second = inl (few, (refl, refl));
    is = refl;
    parts = sym (append-nil (digits more (width_to range)));
  };
  second = ⊎_elim (λ i. inl (i, all)) (λ o. inr (o, all)) (is_inline_or_on_octet (width_of false ranges) least range (least + more));
  is = refl;
  parts = refl;
}

one_zero : digits 0 1 ≡ false ∷ []
unfolding digits
one_zero = refl

-- one bit more of a number is a zero before it
pub zero_before : (n width : ℕ) → n < 2 ^ width → digits n (width + 1) ≡ false ∷ digits n width
zero_before n width below =
    let e : width + 1 ≡ 1 + width = omega arith in
    let f : n ≡ 0 * 2 ^ width + n = omega arith in
    let none : n / 2 ^ width ≡ 0 = ap (λ (m : ℕ). m / 2 ^ width) f ∙ shr_high 0 width n below in
    ap (λ (w : ℕ). digits n w) e ∙ digits-append n 1 width ∙ ap (λ (m : ℕ). digits m 1 ++ digits n width) none
    ∙ ap (λ (l : List Bool). l ++ digits n width) one_zero
