-- How fields are written: what a plan writes, and that it encodes the field.
use Rattle.std.proofs.Common.{◌≡◌, ◌≢◌, ℕ, ◌+◌, ◌*◌, ◌^◌, ◌<◌, ◌≤◌, Bool, true, false, List, [], ◌++◌, length, take, drop, refl, sym, ap, subst, ◌∙◌, arith, append-nil, append_assoc}
use Rattle.std.specs.Prelude.{nat_le, IfOk, Result, Ok, Err}
use Rattle.std.specs.Int.{cast_signed, w128}
use Rattle.std.proofs.lemmas.Bool.{le-leb, lt-leb}
use Rattle.std.proofs.lemmas.List.{length-append}
use Rattle.asn1_bits.specs.Bits.{bits, digits, overwritten}
use Rattle.asn1_bits.specs.Laws.DigitLaws.{length-digits}
use Rattle.asn1_bits.specs.Laws.OverwrittenLaws.{overwritten-append}
use Rattle.asn1_bits.specs.View.{View, list_of}
use Rattle.asn1_number.specs.Octets.{IsShortest}
use Rattle.asn1_number.specs.Laws.LawsHold.{one_shortest_list}
use Rattle.asn1_alphabets.specs.Alphabet.{Alphabet, IsCode}
use Rattle.asn1_values.specs.Fields as plain
use Rattle.asn1_values.specs.Fields.{IsSpelledBy}
use Rattle.asn1_values.specs.Wrong.{WidthOver, NotInAlphabet}
use Rattle.asn1_c.specs.declared.fields.Field.{Field}
use Rattle.asn1_c.specs.declared.fields.Refusal.{Refusal}
use Rattle.asn1_c.specs.declared.plans.Plan.{Plan}
use Rattle.asn1_c.specs.Fields.{IsSpelledAt, number_of_words, signed_of_words}
use Rattle.asn1_c.specs.Writing.{by_number, IsNamedAs, LieIn, IsMiscounted, NamesMisfit, planned}
use Rattle.asn1_c.proofs.OctetLemmas.{length-cut, octets_spelled}

-- ---- the bits of a plan

pub length-planned : (source : List ℕ) (p : Plan) → p.first + p.length ≤ 8 * length source
    → length (planned source p) ≡ p.lead + p.width + p.length
length-planned source p le =
    let cut : List Bool = take p.length (drop p.first (bits source)) in
    omega (
      arith,
      length-append (digits p.octet p.lead) (digits p.number p.width ++ cut),
      length-append (digits p.number p.width) cut,
      length-digits p.octet p.lead,
      length-digits p.number p.width,
      length-cut source p.first p.length le,
    )

-- a plan without an octet, of a number alone, and of bits alone
digits_none : (n width : ℕ) → width ≡ 0 → digits n width ≡ []
unfolding digits
digits_none n width e = ap (digits n) e

pub planned_number : (source : List ℕ) (p : Plan) → p.length ≡ 0
    → planned source p ≡ digits p.octet p.lead ++ digits p.number p.width
planned_number source p none =
    let cut : take p.length (drop p.first (bits source)) ≡ [] =
    ap (λ (k : ℕ). take k (drop p.first (bits source))) none in
    ap (λ (l : List Bool). digits p.octet p.lead ++ (digits p.number p.width ++ l)) cut
    ∙ ap (λ (l : List Bool). digits p.octet p.lead ++ l) (append-nil (digits p.number p.width))

pub planned_number_alone : (source : List ℕ) (p : Plan) → p.lead ≡ 0 → p.length ≡ 0
    → planned source p ≡ digits p.number p.width
planned_number_alone source p no_octet none =
    planned_number source p none
    ∙ ap (λ (l : List Bool). l ++ digits p.number p.width) (digits_none p.octet p.lead no_octet)

pub planned_bits : (source : List ℕ) (p : Plan) → p.lead ≡ 0 → p.width ≡ 0
    → planned source p ≡ take p.length (drop p.first (bits source))
planned_bits source p no_octet no_number =
    let cut : List Bool = take p.length (drop p.first (bits source)) in
    ap (λ (l : List Bool). l ++ (digits p.number p.width ++ cut)) (digits_none p.octet p.lead no_octet)
    ∙ ap (λ (l : List Bool). l ++ cut) (digits_none p.number p.width no_number)

-- three writes, one after another
pub put_all : (source : List ℕ) (p : Plan) (at behind last : ℕ) (old one two three : List Bool)
    → at ≤ length old
    → behind ≡ at + p.lead → last ≡ behind + p.width
    → one ≡ overwritten old at (digits p.octet p.lead) → two ≡ overwritten one behind (digits p.number p.width)
    → three ≡ overwritten two last (take p.length (drop p.first (bits source)))
    → three ≡ overwritten old at (planned source p)
put_all source p at behind last old one two three le b l e1 e2 e3 =
    let octet : List Bool = digits p.octet p.lead in
    let number : List Bool = digits p.number p.width in
    let cut : List Bool = take p.length (drop p.first (bits source)) in
    let first : behind ≡ at + length octet = omega (arith, length-digits p.octet p.lead) in
    let both : two ≡ overwritten old at (octet ++ number) =
    e2 ∙ ap (λ (x : List Bool). overwritten x behind number) e1
    ∙ overwritten-append old at behind octet number first le in
    let second : last ≡ at + length (octet ++ number) =
    omega (arith, length-append octet number, length-digits p.octet p.lead, length-digits p.number p.width) in
    e3 ∙ ap (λ (x : List Bool). overwritten x last cut) both
    ∙ overwritten-append old at last (octet ++ number) cut second le
    ∙ ap (overwritten old at) (append_assoc octet number cut)

-- the view of the source's bits
pub view_cut : (v : View) (source : List ℕ) (first len : ℕ)
    → v ≡ record { storage = source; first = first; len = len } → list_of v ≡ take len (drop first (bits source))
unfolding list_of
view_cut v source first len e = ap list_of e

-- ---- what it encodes

no_true : (b : Bool) {P : Type 0} → b ≡ true → b ≡ false → P
no_true b t f = absurd cc

pub number_named : (source : List ℕ) (f : Field) (width : ℕ) (p : Plan) → p.lead ≡ 0 → p.length ≡ 0
    → p.number ≡ number_of_words f.high f.low → p.width ≡ width → width ≤ 128
    → number_of_words f.high f.low < 2 ^ width → IsNamedAs source (plain.OfNumber width) f (planned source p)
number_named source f width p no_octet no_bits number wide few below = record {
  field = plain.Number (number_of_words f.high f.low) width;
  of_shape = refl;
  spelled = (
    few,
    below,
    planned_number_alone source p no_octet no_bits ∙ ap (λ (k : ℕ). digits k p.width) number
        ∙ ap (digits (number_of_words f.high f.low)) wide,
  );
  numbered = λ e. refl;
  lies = λ e. absurd cc;
}

pub character_named : (source : List ℕ) (f : Field) (a : Alphabet) (code width : ℕ) (p : Plan) → p.lead ≡ 0
    → p.length ≡ 0
    → p.number ≡ code → p.width ≡ width → width ≡ a.width → IsCode a f.low code → f.low < 2 ^ 32
    → IsNamedAs source (plain.OfCharacter a) f (planned source p)
character_named source f a code width p no_octet no_bits number wide is c few = record {
  field = plain.Character a f.low;
  of_shape = refl;
  spelled = (
    code,
    c,
    planned_number_alone source p no_octet no_bits ∙ ap (λ (k : ℕ). digits k p.width) number
        ∙ ap (digits code) (wide ∙ is),
  );
  numbered = λ e. (refl, few);
  lies = λ e. absurd cc;
}

module _ (source : List ℕ) (f : Field) (p : Plan) (no_octet : p.lead ≡ 0) (no_number : p.width ≡ 0)
    (first : p.first ≡ f.first) (len : p.length ≡ f.length) (le : p.first + p.length ≤ 8 * length source) where
  cut_is : planned source p ≡ take f.length (drop f.first (bits source))
  cut_is =
      planned_bits source p no_octet no_number ∙ ap (λ (k : ℕ). take k (drop p.first (bits source))) len
      ∙ ap (λ (k : ℕ). take f.length (drop k (bits source))) first

  lies_there : LieIn source f (planned source p)
  lies_there = (omega arith, cut_is)

  length_there : length (planned source p) ≡ f.length
  length_there = ap length cut_is ∙ length-cut source f.first f.length (omega arith)

  pub octets_named : (count : ℕ) → p.length ≡ 8 * count
      → IsNamedAs source (plain.OfOctets count) f (planned source p)
  octets_named count n =
      let o = octets_spelled count (planned source p) (length_there ∙ sym len ∙ n) in
      record {
        field = plain.Octets o.0;
        of_shape = o.1;
        spelled = o.2;
        numbered = λ e. absurd cc;
        lies = λ e. lies_there;
      }

  pub bits_named : (count : ℕ) → p.length ≡ count → IsNamedAs source (plain.OfBits count) f (planned source p)
  bits_named count n = record {
    field = plain.Bits (planned source p);
    of_shape = length_there ∙ sym len ∙ n;
    spelled = refl;
    numbered = λ e. absurd cc;
    lies = λ e. lies_there;
  }

  -- what is read at the offset in the source, and as long as the field says
  pub read_named : (shape : plain.Shape) (g : Field) → IsSpelledAt source f.first shape g → g.length ≡ f.length
      → by_number shape f ≡ false → IsNamedAs source shape f (planned source p)
  read_named shape g s same far = record {
    field = s.field;
    of_shape = s.of_shape;
    spelled =
        subst (IsSpelledBy s.field)
        (ap (λ (k : ℕ). take k (drop f.first (bits source))) same ∙ sym cut_is) s.spelled;
    numbered = λ e. no_true (by_number shape f) e far;
    lies = λ e. lies_there;
  }

pub is_far : (n k : ℕ) → n < k → nat_le k n ≡ false
is_far n k lt = lt-leb k n lt

module _ (source : List ℕ) (f : Field) (word octets : ℕ) (p : Plan)
    (spells : (o : List ℕ) → IsShortest (signed_of_words f.high f.low) o → digits word (8 * octets) ≡ bits o)
    (counts : (o : List ℕ) → IsShortest (signed_of_words f.high f.low) o → octets ≡ length o)
    (no_bits : p.length ≡ 0) (number : p.number ≡ word) (wide : p.width ≡ 8 * octets) where
  abbrev one : (o : List ℕ) × IsShortest (signed_of_words f.high f.low) o
  one = (let s = one_shortest_list (signed_of_words f.high f.low) in (s.0, s.1))

  spells_word : digits p.number p.width ≡ bits one.0
  spells_word = ap (λ (k : ℕ). digits k p.width) number ∙ ap (digits word) wide ∙ spells one.0 one.1

  pub integer_named : (count : ℕ) → p.lead ≡ 0 → octets ≡ count → f.length ≤ 128
      → IsNamedAs source (plain.OfInteger count) f (planned source p)
  integer_named count no_octet e few = record {
    field = plain.Integer (signed_of_words f.high f.low);
    of_shape = (one.0, one.1, sym (counts one.0 one.1) ∙ e);
    spelled = (one.0, one.1, planned_number_alone source p no_octet no_bits ∙ spells_word);
    numbered = λ h. refl;
    lies = λ h. no_true (nat_le f.length 128) (le-leb f.length 128 few) h;
  }

  pub counted_named : p.lead ≡ 8 → p.octet ≡ octets → octets ≤ 16 → f.length ≤ 136
      → IsNamedAs source plain.OfCountedInteger f (planned source p)
  unfolding bits
  counted_named lead octet small few =
      let same : octets ≡ length one.0 = counts one.0 one.1 in
      record {
        field = plain.CountedInteger (signed_of_words f.high f.low);
        of_shape = tt;
        spelled = (
          one.0,
          one.1,
          omega arith,
          planned_number source p no_bits
              ∙ ap (λ (l : List Bool). digits p.octet p.lead ++ l) spells_word
              ∙ ap (λ (k : ℕ). digits p.octet k ++ bits one.0) lead
              ∙ ap (λ (k : ℕ). digits k 8 ++ bits one.0) (octet ∙ same),
        );
        numbered = λ h. refl;
        lies = λ h. no_true (nat_le f.length 136) (le-leb f.length 136 few) h;
      }

-- ---- integers by their numbers

module _ (source : List ℕ) (f : Field) (sum word octets : ℕ) (sum_is : sum ≡ number_of_words f.high f.low)
    (spells : (o : List ℕ) → IsShortest (cast_signed w128 sum) o → digits word (8 * octets) ≡ bits o)
    (counts : (o : List ℕ) → IsShortest (cast_signed w128 sum) o → octets ≡ length o) where
  along : (o : List ℕ) → IsShortest (signed_of_words f.high f.low) o → IsShortest (cast_signed w128 sum) o
  along o s = subst (λ (k : ℕ). IsShortest (cast_signed w128 k) o) (sym sum_is) s

  pub integer_planned : (p : Plan) (count : ℕ) → p.lead ≡ 0 → p.length ≡ 0 → p.number ≡ word → p.width ≡ 8 * octets
      → octets ≡ count → f.length ≤ 128 → IsNamedAs source (plain.OfInteger count) f (planned source p)
  integer_planned p count no_octet no_bits number wide e few =
      integer_named source f word octets p (λ o s. spells o (along o s)) (λ o s. counts o (along o s)) no_bits number
      wide count no_octet e few

  pub counted_planned : (p : Plan) → p.lead ≡ 8 → p.octet ≡ octets → p.length ≡ 0 → p.number ≡ word
      → p.width ≡ 8 * octets
      → octets ≤ 16 → f.length ≤ 136 → IsNamedAs source plain.OfCountedInteger f (planned source p)
  counted_planned p lead octet no_bits number wide small few =
      counted_named source f word octets p (λ o s. spells o (along o s)) (λ o s. counts o (along o s)) no_bits number
      wide lead octet small few

  pub integer_miscounted : (r : Refusal) (count : ℕ) → r.code ≡ 17 → number_of_words r.high r.low ≡ octets
      → octets ≢ count → IsMiscounted count f r
  integer_miscounted r count code n ne =
      let one = one_shortest_list (signed_of_words f.high f.low) in
      let len : octets ≡ length one.0 = counts one.0 (along one.0 one.1) in
      (one.0, one.1, (code, n ∙ len), λ e. ne (len ∙ e))

-- ---- what the steps answer

abbrev Placed : Type 0
Placed = Result Plan Refusal

abbrev IsAsField : Field → Plan → Type 0
IsAsField f p = (p.first ≡ f.first) × (p.length ≡ f.length) × (p.lead ≡ 0) × (p.width ≡ 0)

abbrev IsThere : List ℕ → ℕ → Plan → Type 0
IsThere source need p = (p.length ≡ need) × (p.first + p.length ≤ 8 * length source) × (p.length < 2 ^ 64)

pub octets_placed : (source : List ℕ) (f : Field) (count : ℕ) (r : Placed) → IfOk r (IsAsField f)
    → IfOk r (IsThere source (8 * count))
    → IfOk r (λ p. IsNamedAs source (plain.OfOctets count) f (planned source p))
octets_placed source f count (Ok p) b l = octets_named source f p b.2 b.3 b.0 b.1 l.1 count l.0
octets_placed source f count (Err e) b l = tt

pub bits_placed : (source : List ℕ) (f : Field) (count : ℕ) (r : Placed) → IfOk r (IsAsField f)
    → IfOk r (IsThere source count)
    → IfOk r (λ p. IsNamedAs source (plain.OfBits count) f (planned source p))
bits_placed source f count (Ok p) b l = bits_named source f p b.2 b.3 b.0 b.1 l.1 count l.0
bits_placed source f count (Err e) b l = tt

pub too_wide : (f : Field) (width : ℕ) (r : Refusal) → r.code ≡ 2 → number_of_words r.high r.low ≡ width → 128 < width
    → NamesMisfit (plain.Number (number_of_words f.high f.low) width) r
too_wide f width r code n lt = record { misfit = WidthOver width; says = (code, n); reason = (refl, lt) }

pub not_in_alphabet : (a : Alphabet) (f : Field) (r : Refusal) → r.code ≡ 12 → number_of_words r.high r.low ≡ f.low
    → ((k : ℕ) → ¬ (IsCode a f.low k)) → NamesMisfit (plain.Character a f.low) r
not_in_alphabet a f r code n none = record { misfit = NotInAlphabet f.low; says = (code, n); reason = (refl, none) }
