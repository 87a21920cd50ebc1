-- Numbers of 64 and of 128 bits and their octets.
use Rattle.std.proofs.Common.{◌≡◌, ℕ, ◌+◌, ◌<◌, ◌≤◌, inl, inr, ⊎_elim, ℤ, List, [], ◌∷◌, length, get_or, sym, subst, arith}
use Rattle.std.proofs.lemmas.Bool.{lt-ltb, le-leb, lt-leb, cases_lt}
use Rattle.std.proofs.lemmas.Bool.Decides.{nat_tests}
use Rattle.std.proofs.lemmas.Int.{ints}
use Rattle.asn1_number.specs.Octets.{IsShortest}
use Rattle.asn1_number.specs.Laws.OctetLaws.{nine_bits_from_shortest}
use Rattle.asn1_number.specs.Readings.{IsInRange, UnsignedOf, SignedOf, kind_u64, signed_reading, counted_length}
use Rattle.asn1_number.specs.Laws.ReadingLaws.{unsigned_law, past_sixteen, past_u128}

-- more than sixteen shortest octets encode no number of 128 bits in two's complement
pub past_i128 : (n : ℤ) (o : List ℕ) → IsShortest n o → 16 < length o → IsInRange (SignedOf 16) n → ⊥
past_i128 n o s more r =
    past_sixteen o s.octets (nine_bits_from_shortest n o s) more (subst (IsInRange (SignedOf 16)) (sym s.value) r)

-- an unsigned number of 64 bits is a signed one of 128 bits
pub u64_in_i128 : (n : ℤ) → IsInRange kind_u64 n → IsInRange (SignedOf 16) n
u64_in_i128 n r = let low = r.0 in let high = r.1 in (omega (arith, ints), omega (arith, ints))

counted : (b size : ℕ) (bs : List ℕ) → size + 1 < length (b ∷ bs) → size < counted_length (b ∷ bs)
counted b size bs more = grind (arith, nat_tests)

too_many : (size : ℕ) (n : ℤ) (o : List ℕ) → 1 ≤ size → IsShortest n o → size + 1 < length o → IsInRange (UnsignedOf size) n
    → ⊥
unfolding signed_reading
too_many size n [] sized s more r = omega arith
too_many size n (b ∷ bs) sized s more r =
    let e = unsigned_law size n (b ∷ bs) sized r s in
    let c = lt-ltb size (counted_length (b ∷ bs)) (counted b size bs more) in
    ⊎_elim (λ low. let d = rw (lt-leb 128 b low, c) at e in absurd cc)
    (λ high. let d = rw (le-leb 128 b high) at e in absurd cc) (cases_lt b 128)

-- shortest octets of an unsigned number are at most one more than its type has
pub one_more_at_most : (size : ℕ) (n : ℤ) (o : List ℕ) → 1 ≤ size → IsShortest n o → IsInRange (UnsignedOf size) n
    → length o ≤ size + 1
one_more_at_most size n o sized s r = elim (cases_lt (size + 1) (length o)) [
  | inl lt ↦ absurd (too_many size n o sized s lt r)
  | inr le ↦ le
]

-- seventeen octets or more that do not begin with zero, or eighteen, encode no number of 128 bits
pub no_u128 : (n : ℤ) (o : List ℕ) → IsShortest n o → 16 < length o → (length o ≡ 17 → get_or o 0 0 ≡ 0 → ⊥)
    → IsInRange (UnsignedOf 16) n → ⊥
no_u128 n o s more none r =
    past_u128 o s.octets (nine_bits_from_shortest n o s) more none (subst (IsInRange (UnsignedOf 16)) (sym s.value) r)
