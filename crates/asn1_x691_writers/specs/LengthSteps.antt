-- What follows of lengths and small numbers that were written.
use Rattle.std.proofs.Common.{◌≡◌, ℕ, ◌+◌, ◌*◌, ◌-◌, ◌/◌, ◌%◌, ◌^◌, ◌<◌, ◌≤◌, List, [], ◌++◌, Bool, refl, sym, ap, ◌∙◌, inl, inr, arith}
use Rattle.std.proofs.lemmas.List.{append-nil}
use Rattle.asn1_bits.specs.Bits.{digits}
use Rattle.asn1_bits.specs.Laws.NumberLaws.{digits-append, digits-low}
use Rattle.asn1_schema.specs.Encodings.{Encoding, constant, number, anywhere, then, cases, in_turn, in_case}
use Rattle.asn1_x691.specs.declared.fault.FaultKind.{FaultKind}
use Rattle.asn1_x691.specs.declared.fault.FaultKind.TheVariants.{Short}
use Rattle.asn1_x691.specs.Fields.{long_enough, distance_from_one, above_64, length_of, large_length, small_length, at_least_64, semi_constrained, large_number, small_number}
use Rattle.asn1_x691_writers.specs.Written.{IsGrown, IsWritten}
use Rattle.asn1_x691_writers.specs.FieldSteps.{number_written, turn_written, turn_constant, second_written}

-- ---- one octet, or two

-- a number of up to fourteen bits; L is what follows the bits 1 and 1
abbrev pub counted : ℕ → (ℕ → Encoding FaultKind ℕ) → Encoding FaultKind ℕ
counted node L = then (number 8 Short node) (λ first n. n) (λ first.
    cases (first < 128) (constant first) (128 ≤ first)
    (cases (first < 192) (then (number 8 Short node) (λ second n. n) (λ second. long_enough node (256 * (first - 128) + second)))
    (192 ≤ first) (L first)))

module _ (node n : ℕ) (L : ℕ → Encoding FaultKind ℕ) where
  pub one_octet_encodes : n < 128 → (counted node L).encodes n (digits n 8)
  one_octet_encodes few = record {
    value = n;
    after = n;
    front = digits n 8;
    rest = [];
    first = (omega (arith, few), refl);
    second = inl (few, (refl, refl));
    is = refl;
    parts = sym (append-nil (digits n 8));
  }

  two_digits : 128 ≤ n → n < 16384 → digits (32768 + n) 16 ≡ digits (128 + n / 256) 8 ++ digits (n % 256) 8
  two_digits many few =
      let m = 32768 + n in
      let high : m / 2 ^ 8 ≡ 128 + n / 256 = omega arith in
      let low : m ≡ (128 + n / 256) * 2 ^ 8 + n % 256 = omega arith in
      digits-append m 8 8
      ∙ ap (λ (k : ℕ). digits k 8 ++ digits m 8) high
      ∙ ap (λ (l : List Bool). digits (128 + n / 256) 8 ++ l)
      (ap (λ (k : ℕ). digits k 8) low ∙ digits-low (128 + n / 256) (n % 256) 8)

  pub two_octets_encode : 128 ≤ n → n < 16384 → (counted node L).encodes n (digits (32768 + n) 16)
  two_octets_encode many few = record {
    value = 128 + n / 256;
    after = n;
    front = digits (128 + n / 256) 8;
    rest = digits (n % 256) 8;
    first = (omega (arith, few), refl);
    second = inr (
      omega arith,
      inl (
        omega (arith, few),
        record {
          value = n % 256;
          after = n;
          front = digits (n % 256) 8;
          rest = [];
          first = (omega arith, refl);
          second = inl (omega (arith, many), (omega arith, refl));
          is = refl;
          parts = sym (append-nil (digits (n % 256) 8));
        },
      ),
    );
    is = refl;
    parts = two_digits many few;
  }

  module _ (aligned : Bool) (was now : List ℕ) (old new : ℕ) where
    pub one_octet : n < 128 → IsGrown was old now new (digits n 8) → IsWritten aligned (anywhere (counted node L)) n was old now new
    one_octet few g = record { list = digits n 8; encodes = λ at h. one_octet_encodes few; grown = g }

    pub two_octets : 128 ≤ n → n < 16384 → IsGrown was old now new (digits (32768 + n) 16)
        → IsWritten aligned (anywhere (counted node L)) n was old now new
    two_octets many few g = record { list = digits (32768 + n) 16; encodes = λ at h. two_octets_encode many few; grown = g }

-- ---- a bit 0 and six bits, or a bit 1 and more

seven : (m : ℕ) → m < 64 → digits m 7 ≡ digits 0 1 ++ digits m 6
seven m h =
    let e : m / 2 ^ 6 ≡ 0 = omega (arith, h) in
    digits-append m 1 6 ∙ ap (λ (k : ℕ). digits k 1 ++ digits m 6) e

module _ (aligned : Bool) (node m : ℕ) (was now : List ℕ) (old new : ℕ) (few : m < 64) (g : IsGrown was old now new (digits m 7)) where
  six_bits : {X : Type 0} (S : ℕ → ℕ → Encoding FaultKind X) (x : X) → ((at : ℕ) → (S 0 at).encodes x (digits m 6))
      → IsWritten aligned (in_turn (anywhere (number 1 Short node)) (λ bit n. n) S) x was old now new
  unfolding digits
  six_bits S x s = record {
    list = digits m 7;
    encodes = λ at h. record {
      value = 0;
      after = x;
      front = digits 0 1;
      rest = digits m 6;
      first = (omega arith, refl);
      second = s (at + 1);
      is = refl;
      parts = seven m few;
    };
    grown = g;
  }

  pub number_in_six : IsWritten aligned (small_number aligned node) m was old now new
  number_in_six =
      six_bits (λ bit. in_case (bit ≡ 0) (anywhere (number 6 Short node)) (0 < bit) (large_number aligned node)) m
      (λ at. inl (refl, (omega (arith, few), refl)))

  pub length_in_six : IsWritten aligned (small_length aligned node) (m + 1) was old now new
  length_in_six =
      six_bits (λ bit. in_case (bit ≡ 0) (anywhere (distance_from_one node)) (0 < bit) (large_length aligned node)) (m + 1)
      (λ at. inl (
        refl,
        record {
          value = m;
          after = m + 1;
          front = digits m 6;
          rest = [];
          first = (omega (arith, few), refl);
          second = (refl, refl);
          is = refl;
          parts = sym (append-nil (digits m 6));
        },
      ))

module _ (aligned : Bool) (node n : ℕ) (was mid now : List ℕ) (old at new : ℕ) (g : IsGrown was old mid at (digits 1 1)) where
  one_bit : IsWritten aligned (anywhere (number 1 Short node)) 1 was old mid at
  one_bit = number_written aligned 1 node Short 1 was mid old at (omega arith) g

  pub length_above_64 : 64 < n → IsWritten aligned (length_of aligned node) n mid at now new
      → IsWritten aligned (small_length aligned node) n was old now new
  length_above_64 many a =
      let S : ℕ → ℕ → Encoding FaultKind ℕ = λ bit.
      in_case (bit ≡ 0) (anywhere (distance_from_one node)) (0 < bit) (large_length aligned node) in
      turn_written aligned (anywhere (number 1 Short node)) (λ bit n. n) S 1 n was mid now old at new one_bit
      (second_written aligned (1 ≡ 0) (0 < 1) (anywhere (distance_from_one node)) (large_length aligned node) n mid now at new
      (omega arith)
      (turn_constant aligned mid now at new (length_of aligned node) (λ n m. m) (λ n. anywhere (above_64 node n)) n n a
      (λ p. inl (many, (refl, refl)))))

  pub number_from_64 : 64 ≤ n → IsWritten aligned (semi_constrained aligned node) n mid at now new
      → IsWritten aligned (small_number aligned node) n was old now new
  number_from_64 many a =
      let S : ℕ → ℕ → Encoding FaultKind ℕ = λ bit.
      in_case (bit ≡ 0) (anywhere (number 6 Short node)) (0 < bit) (large_number aligned node) in
      turn_written aligned (anywhere (number 1 Short node)) (λ bit n. n) S 1 n was mid now old at new one_bit
      (second_written aligned (1 ≡ 0) (0 < 1) (anywhere (number 6 Short node)) (large_number aligned node) n mid now at new
      (omega arith)
      (turn_constant aligned mid now at new (semi_constrained aligned node) (λ n m. m) (λ n. anywhere (at_least_64 node n)) n n a
      (λ p. inl (many, (refl, refl)))))
