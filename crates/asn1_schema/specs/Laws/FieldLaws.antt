-- Laws of bits as they are, and of numbers of a width.
use Rattle.std.proofs.Common.{◌≡◌, ℕ, Bool, List, length, sym, ◌∙◌}
use Rattle.asn1_schema.specs.Encodings.{EncodesOne, any_bits, number}
use Rattle.asn1_schema.specs.Fields.{raw_bits}
use Rattle.asn1_schema.specs.Laws.EncodingLaws.{IsSound}
use Rattle.asn1_schema.specs.Laws.ContentsLaws.{AreSound, of_size_sound}

any_bits_are_sound : {K : Type 0} → AreSound (any_bits {K = K})
any_bits_are_sound = record {
  one = record { one = λ list x y p q. p ∙ sym q };
  names = record { excludes = λ list e p x q. p; one = λ list e g p q. absurd p };
  inside = λ list e p. absurd p;
}

pub raw_bits_sound : {K : Type 0} (count : ℕ) (short : K) (node : ℕ) → IsSound (raw_bits count short node)
raw_bits_sound count short node = of_size_sound count short node any_bits any_bits_are_sound

pub raw_bits_encode_one : {K : Type 0} (count : ℕ) (short : K) (node : ℕ) → EncodesOne (raw_bits count short node).encodes
raw_bits_encode_one count short node = record { one = λ x a b p q. sym p.1 ∙ q.1 }

pub raw_bits_size : {K : Type 0} (count : ℕ) (short : K) (node : ℕ) (x list : List Bool) → (raw_bits count short node).encodes x list
    → length list ≡ count
raw_bits_size count short node x list p = p.0

pub number_encodes_one : {K : Type 0} (width : ℕ) (short : K) (node : ℕ) → EncodesOne (number width short node).encodes
number_encodes_one width short node = record { one = λ x a b p q. p.1 ∙ sym q.1 }
