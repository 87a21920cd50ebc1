-- Integers at an offset of the octets.
use Rattle.std.proofs.Common.{◌≡◌, ℕ, ◌+◌, ◌-◌, ◌*◌, ◌^◌, ◌<◌, ◌≤◌, ℤ, Bool, List, [], ◌∷◌, ◌++◌, length, take, drop, get_or, refl, sym, ap, subst, ◌∙◌, arith, inl, inr, true, false, to_z-of_z}
use Rattle.std.specs.Prelude.{All, IsTrue, not}
use mir.Val.{SFits, to_z, of_z}
use Rattle.std.specs.Int.{to_be_bytes, w128}
use Rattle.std.proofs.lemmas.Bool.{cases_lt}
use Rattle.std.proofs.lemmas.Int.{of_z-to_z}
use Rattle.std.proofs.lemmas.List.{take_all, drop-drop, length-drop}
use Rattle.std.proofs.Math.Seq.{take-add}
use Rattle.asn1_bits.specs.Bits.{digits, number, bits}
use Rattle.asn1_bits.specs.Laws.ByteLaws.{bits-bytes}
use Rattle.asn1_bits.specs.Laws.DigitLaws.{length-digits, length-bits, bits-drop}
use Rattle.asn1_bits.specs.Laws.NumberLaws.{digits_of-number}
use Rattle.asn1_number.specs.Octets.{IsOctets, IsShortest, signed}
use Rattle.asn1_number.specs.Order.{NineBitsDiffer}
use Rattle.asn1_number.specs.Laws.OctetLaws.{RepeatsSign, shortest_from_nine_bits, nine_bits_from_shortest, nine_bits_by_places, octets-drop, shortest_once}
use Rattle.asn1_number.specs.Readings.{IsInRange, kind_i128}
use Rattle.asn1_number.specs.Laws.ReadingLaws.{past_sixteen}
use Rattle.asn1_number.specs.Laws.WidthLaws.{octets_of_bytes, sixteen_fit}
use Rattle.asn1_values.specs.Fields as plain
use Rattle.asn1_values.specs.Wrong.{NotInteger, Short, NoLength, IsCount, first_octet}
use Rattle.asn1_values.specs.IntegerOctets.{IsNoInteger}
use Rattle.asn1_c.specs.declared.fields.Field.{Field}
use Rattle.asn1_c.specs.declared.fields.Refusal.{Refusal}
use Rattle.asn1_c.specs.Fields.{IsSpelledAt, NamesReason, TellsNone, number_of_words, signed_of_words}
use Rattle.asn1_c.specs.Octets.{octets_at}
use Rattle.asn1_c.proofs.BitLemmas.{last_digits}
use Rattle.asn1_c.proofs.FieldLemmas.{is_short}
use Rattle.asn1_c.proofs.OctetLemmas.{length-octets_of, IsOctets_from_All, All_from_IsOctets, length-left, length-cut, are_octets_at, bits-octets_at, octets_at_only, octet_of_place}

pub true_not : (b : Bool) → IsTrue (not b) → IsTrue b → ⊥
true_not true t u = absurd cc
true_not false t u = absurd cc

pub not_false : (b : Bool) → not b ≡ false → IsTrue b
not_false true e = refl
not_false false e = absurd cc

repeats_not : (o : List ℕ) → 2 ≤ length o → RepeatsSign (get_or o 0 0) (get_or o 1 0) → NineBitsDiffer o → ⊥
repeats_not [] two r d = omega arith
repeats_not (b ∷ []) two r d = omega arith
repeats_not (b ∷ c ∷ bs) two (inl z) d = let le = d.0 z.0 in let lt = z.1 in omega arith
repeats_not (b ∷ c ∷ bs) two (inr z) d = let lt = d.1 z.0 in let le = z.1 in omega arith

module _ (octets : List ℕ) (at count : ℕ) (some : 0 < count) (le : at + 8 * count ≤ 8 * length octets) where
  octets_here : IsOctets (octets_at octets at count)
  octets_here = IsOctets_from_All (octets_at octets at count) (are_octets_at octets at count le)

  count_here : length (octets_at octets at count) ≡ count
  count_here = length-octets_of count (drop at (bits octets))

  first_here : get_or (octets_at octets at count) 0 0 ≡ number (take 8 (drop at (bits octets)))
  first_here =
      let e : at + 8 * 0 ≡ at = omega arith in
      octet_of_place octets at count le 0 some ∙ ap (λ (k : ℕ). number (take 8 (drop k (bits octets)))) e

  second_here : 1 < count → get_or (octets_at octets at count) 1 0 ≡ number (take 8 (drop (at + 8) (bits octets)))
  second_here lt = octet_of_place octets at count le 1 lt

  shortest_here : NineBitsDiffer (octets_at octets at count)
      → IsShortest (signed (octets_at octets at count)) (octets_at octets at count)
  shortest_here d = shortest_from_nine_bits (octets_at octets at count) octets_here d

  pub shortest_one : count ≡ 1 → IsShortest (signed (octets_at octets at count)) (octets_at octets at count)
  shortest_one one =
      let n = count_here in
      shortest_here
      (nine_bits_by_places (octets_at octets at count) (omega arith) (λ two r. omega arith))

  pub shortest_more : (a b : ℕ) → a ≡ number (take 8 (drop at (bits octets)))
      → b ≡ number (take 8 (drop (at + 8) (bits octets))) → ¬ (RepeatsSign a b)
      → IsShortest (signed (octets_at octets at count)) (octets_at octets at count)
  shortest_more a b is_a is_b none =
      let n = count_here in
      let needs : 2 ≤ length (octets_at octets at count) →
      RepeatsSign (get_or (octets_at octets at count) 0 0) (get_or (octets_at octets at count) 1 0) → ⊥ = λ two r.
      none (subst (λ (x : ℕ). RepeatsSign x b) (first_here ∙ sym is_a)
      (subst (λ (y : ℕ). RepeatsSign (get_or (octets_at octets at count) 0 0) y)
      (second_here (omega arith) ∙ sym is_b) r)) in
      shortest_here (nine_bits_by_places (octets_at octets at count) (omega arith) needs)

  pub not_shortest : (a b : ℕ) → 1 < count → a ≡ number (take 8 (drop at (bits octets)))
      → b ≡ number (take 8 (drop (at + 8) (bits octets))) → RepeatsSign a b
      → (n : ℤ) → ¬ (IsShortest n (octets_at octets at count))
  not_shortest a b two is_a is_b r n s =
      let m = count_here in
      repeats_not (octets_at octets at count) (omega arith)
      (subst (λ (x : ℕ). RepeatsSign x (get_or (octets_at octets at count) 1 0)) (is_a ∙ sym first_here)
      (subst (λ (y : ℕ). RepeatsSign a y) (is_b ∙ sym (second_here two)) r))
      (nine_bits_from_shortest n (octets_at octets at count) s)

  -- the last octets of the number that was read are those at the offset
  pub octets_of_word : (n : ℕ) (word : List ℕ) → count ≤ 16 → digits n (8 * count) ≡ take (8 * count) (drop at (bits octets))
      → word ≡ to_be_bytes w128 n → drop (16 - count) word ≡ octets_at octets at count
  octets_of_word n word few is w =
      let last : List ℕ = drop (16 - count) (to_be_bytes w128 n) in
      let are : All (λ octet. octet < 256) last =
      All_from_IsOctets last (octets-drop (16 - count) (to_be_bytes w128 n) (octets_of_bytes 16 n)) in
      let place : 8 * (16 - count) ≡ 128 - 8 * count = omega arith in
      let long : length (drop (128 - 8 * count) (digits n 128)) ≤ 8 * count =
      omega (arith, length-drop (128 - 8 * count) (digits n 128), length-digits n 128) in
      let spelled : bits last ≡ digits n (8 * count) =
      bits-drop (16 - count) (to_be_bytes w128 n) ∙ ap (drop (8 * (16 - count))) (bits-bytes 16 n)
      ∙ ap (λ (k : ℕ). drop k (digits n 128)) place
      ∙ sym (take_all (8 * count) (drop (128 - 8 * count) (digits n 128)) long)
      ∙ last_digits n (8 * count) (omega arith) in
      ap (drop (16 - count)) w ∙ octets_at_only octets at count le last are (sym is ∙ sym spelled)

  -- and their number, as the code reads it
  pub value_of_word : (n : ℕ) (word : List ℕ) (v : ℤ) → count ≤ 16
      → digits n (8 * count) ≡ take (8 * count) (drop at (bits octets)) → word ≡ to_be_bytes w128 n
      → v ≡ signed (take (16 - (16 - count)) (drop (16 - count) word))
      → to_z w128 (of_z w128 v) ≡ signed (octets_at octets at count)
  value_of_word n word v few is w e =
      let last : drop (16 - count) word ≡ octets_at octets at count = octets_of_word n word few is w in
      let m = count_here in
      let long : length (drop (16 - count) word) ≤ 16 - (16 - count) = omega (arith, ap length last) in
      let v_is : v ≡ signed (octets_at octets at count) =
      e ∙ ap signed (take_all (16 - (16 - count)) (drop (16 - count) word) long ∙ last) in
      let fits : SFits w128 v =
      subst (SFits w128) (sym v_is) (sixteen_fit (octets_at octets at count) octets_here (omega arith) (omega arith)) in
      to_z-of_z fits ∙ v_is

  -- no other octets with these bits are shortest
  none_here : ((n : ℤ) → ¬ (IsShortest n (octets_at octets at count)))
      → IsNoInteger (take (8 * count) (drop at (bits octets)))
  none_here none others n e s =
      none n (subst (IsShortest n) (octets_at_only octets at count le others (All_from_IsOctets others s.octets) e) s)

  pub integer_read : (f : Field) → f.first ≡ at → f.length ≡ 8 * count
      → IsShortest (signed (octets_at octets at count)) (octets_at octets at count)
      → (count ≤ 16 → signed_of_words f.high f.low ≡ signed (octets_at octets at count)) → (16 < count → TellsNone f)
      → IsSpelledAt octets at (plain.OfInteger count) f
  integer_read f first len s short long = record {
    field = plain.Integer (signed (octets_at octets at count));
    of_shape = (octets_at octets at count, s, count_here);
    first = first;
    within = omega arith;
    spelled = (
      octets_at octets at count,
      s,
      ap (λ (k : ℕ). take k (drop at (bits octets))) len
          ∙ sym (bits-octets_at octets at count le),
    );
    told = (λ few. short (omega arith), λ many. long (omega arith));
  }

  pub integer_wrong : (r : Refusal) → r.code ≡ 19 → number_of_words r.high r.low ≡ 0
      → ((n : ℤ) → ¬ (IsShortest n (octets_at octets at count)))
      → NamesReason (plain.OfInteger count) (drop at (bits octets)) r
  integer_wrong r code zero none = record {
    fault = NotInteger;
    names = (code, zero);
    reason = inr (omega (arith, length-left octets at), none_here none);
  }

pub integer_empty : (left : List Bool) (count : ℕ) (r : Refusal) → count ≡ 0 → r.code ≡ 19
    → number_of_words r.high r.low ≡ 0 → NamesReason (plain.OfInteger count) left r
integer_empty left count r none code zero = record { fault = NotInteger; names = (code, zero); reason = inl none }

pub integer_short : (octets : List ℕ) (at count : ℕ) (r : Refusal) → 0 < count → at ≤ 8 * length octets → r.code ≡ 15
    → 8 * length octets < at + 8 * count
    → number_of_words r.high r.low ≡ at + 8 * count - 8 * length octets
    → NamesReason (plain.OfInteger count) (drop at (bits octets)) r
integer_short octets at count r some le code lt n = record {
  fault = Short _;
  names = (code, refl);
  reason = (some, is_short octets at (8 * count) _ le n (omega arith));
}

-- ---- counted integers

module _ (octets : List ℕ) (at count : ℕ) (le : at ≤ 8 * length octets)
    (is : count ≡ number (take 8 (drop at (bits octets)))) where
  behind : drop 8 (drop at (bits octets)) ≡ drop (at + 8) (bits octets)
  behind = drop-drop 8 at (bits octets)

  pub counted_read : (f : Field) → IsCount count → at + (8 + 8 * count) ≤ 8 * length octets
      → f.first ≡ at → f.length ≡ 8 + 8 * count
      → IsShortest (signed (octets_at octets (at + 8) count)) (octets_at octets (at + 8) count)
      → (count ≤ 16 → signed_of_words f.high f.low ≡ signed (octets_at octets (at + 8) count))
      → (16 < count → TellsNone f) → IsSpelledAt octets at plain.OfCountedInteger f
  unfolding bits
  counted_read f counts enough first len s short long =
      let o : List ℕ = octets_at octets (at + 8) count in
      let n : length o ≡ count = length-octets_of count (drop (at + 8) (bits octets)) in
      let octet : digits count 8 ≡ take 8 (drop at (bits octets)) =
      ap (λ (k : ℕ). digits k 8) is
      ∙ digits_of-number (take 8 (drop at (bits octets))) 8 (length-cut octets at 8 (omega arith)) in
      let whole : take (8 + 8 * count) (drop at (bits octets)) ≡ digits (length o) 8 ++ bits o =
      take-add 8 (8 * count) (drop at (bits octets))
      ∙ ap (λ (l : List Bool). take 8 (drop at (bits octets)) ++ take (8 * count) l) behind
      ∙ ap (λ (l : List Bool). l ++ take (8 * count) (drop (at + 8) (bits octets))) (sym octet)
      ∙ ap (λ (l : List Bool). digits count 8 ++ l) (sym (bits-octets_at octets (at + 8) count (omega arith)))
      ∙ ap (λ (k : ℕ). digits k 8 ++ bits o) (sym n) in
      let few : length o ≤ 127 = (let c = counts.1 in omega arith) in
      record {
        field = plain.CountedInteger (signed o);
        of_shape = tt;
        first = first;
        within = omega arith;
        spelled = (o, s, few, ap (λ (k : ℕ). take k (drop at (bits octets))) len ∙ whole);
        told = (λ small. short (omega arith), λ many. long (omega arith));
      }

  enough_left : at + 8 ≤ 8 * length octets → 8 ≤ length (drop at (bits octets))
  enough_left lt = omega (arith, length-left octets at)

  counts_first : IsCount count → IsCount (first_octet (drop at (bits octets)))
  counts_first c = subst IsCount is c

  pub counted_length : (r : Refusal) → at + 8 ≤ 8 * length octets → r.code ≡ 20 → number_of_words r.high r.low ≡ count
      → ¬ (IsCount count) → NamesReason plain.OfCountedInteger (drop at (bits octets)) r
  counted_length r enough code told none =
      record { fault = NoLength count; names = (code, told); reason = (enough_left enough, is, none) }

  pub counted_wrong : (r : Refusal) → at + (8 + 8 * count) ≤ 8 * length octets → r.code ≡ 19
      → number_of_words r.high r.low ≡ 0 → IsCount count
      → ((n : ℤ) → ¬ (IsShortest n (octets_at octets (at + 8) count)))
      → NamesReason plain.OfCountedInteger (drop at (bits octets)) r
  counted_wrong r enough code zero counts none =
      let wrong : IsNoInteger (take (8 * count) (drop (at + 8) (bits octets))) =
      none_here octets (at + 8) count (counts.0) (omega arith) none in
      let there : IsNoInteger (take (8 * count) (drop 8 (drop at (bits octets)))) =
      subst (λ (l : List Bool). IsNoInteger (take (8 * count) l)) (sym behind) wrong in
      record {
        fault = NotInteger;
        names = (code, zero);
        reason = (
          omega (arith, length-left octets at, is),
          counts_first counts,
          subst (λ (k : ℕ). IsNoInteger (take (8 * k) (drop 8 (drop at (bits octets))))) is there,
        );
      }

  pub counted_cut : (r : Refusal) → at + 8 ≤ 8 * length octets → 8 * length octets < at + (8 + 8 * count)
      → r.code ≡ 15 → number_of_words r.high r.low ≡ at + (8 + 8 * count) - 8 * length octets → IsCount count
      → NamesReason plain.OfCountedInteger (drop at (bits octets)) r
  counted_cut r enough lt code n counts = record {
    fault = Short _;
    names = (code, refl);
    reason = inr (
      enough_left enough,
      counts_first counts,
      subst (λ (k : ℕ). (0 < number_of_words r.high r.low)
          × (length (drop at (bits octets)) + number_of_words r.high r.low ≡ 8 + 8 * k)) is
          (is_short octets at (8 + 8 * count) _ le n (omega arith)),
    );
  }

pub counted_short : (octets : List ℕ) (at : ℕ) (r : Refusal) → at ≤ 8 * length octets → r.code ≡ 15
    → 8 * length octets < at + 8 → number_of_words r.high r.low ≡ at + 8 - 8 * length octets
    → NamesReason plain.OfCountedInteger (drop at (bits octets)) r
counted_short octets at r le code lt n = record {
  fault = Short _;
  names = (code, refl);
  reason = inl (is_short octets at 8 _ le n (omega arith));
}

-- ---- shortest octets of a number of 128 bits

pub sixteen_at_most : (n : ℤ) (o : List ℕ) → IsShortest n o → IsInRange kind_i128 n → length o ≤ 16
sixteen_at_most n o s fits = elim (cases_lt 16 (length o)) [
  | inl lt ↦
      let differ = nine_bits_from_shortest n o s in
      absurd (past_sixteen o s.octets differ lt (subst (IsInRange kind_i128) (sym s.value) fits))
  | inr le ↦ le
]

-- a word in two's complement, given as a number
pub word_back : (word : ℕ) (v : ℤ) → word < 2 ^ 128 → v ≡ to_z w128 word → to_z w128 (of_z w128 v) ≡ to_z w128 word
word_back word v lt e = ap (λ (z : ℤ). to_z w128 (of_z w128 z)) e ∙ ap (to_z w128) (of_z-to_z w128 word lt)

-- the digits that were read of shortest octets are their bits
pub bits_of_shortest : (n : ℤ) (o p slice : List ℕ) (count r : ℕ) → IsShortest n o → IsShortest n p → slice ≡ p
    → count ≡ length p → digits r (8 * count) ≡ take (8 * count) (drop 0 (bits slice)) → digits r (8 * count) ≡ bits o
bits_of_shortest n o p slice count r s t is len read =
    read ∙ take_all (8 * count) (bits slice) (omega (arith, length-bits slice, ap length is, len))
    ∙ ap bits (is ∙ shortest_once n p o t s)
