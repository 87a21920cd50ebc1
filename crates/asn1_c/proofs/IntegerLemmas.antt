-- Numbers of 64 bits and their octets.
use Rattle.std.proofs.Common.{ℕ, ◌<◌, ◌≤◌, inl, inr, ℤ, List, [], ◌∷◌, length, arith}
use Rattle.std.proofs.lemmas.Bool.{lt-ltb, cases_lt}
use Rattle.asn1_number.specs.Octets.{IsShortest}
use Rattle.asn1_number.specs.Readings.{IsInRange, kind_i64, signed_reading}
use Rattle.asn1_number.specs.Laws.ReadingLaws.{signed_law}

-- shortest octets of a number of 64 bits are at most eight
pub no_more_than_eight : (n : ℤ) (o : List ℕ) → IsShortest n o → 8 < length o → IsInRange kind_i64 n → ⊥
unfolding signed_reading
no_more_than_eight n [] s more r = omega arith
no_more_than_eight n (b ∷ bs) s more r =
    let e = signed_law 8 n (b ∷ bs) (omega arith) r s in
    let l = lt-ltb _ _ more in
    let d = rw l at e in
    absurd cc

pub eight_at_most : (n : ℤ) (o : List ℕ) → IsShortest n o → IsInRange kind_i64 n → length o ≤ 8
eight_at_most n o s r = elim (cases_lt 8 (length o)) [
  | inl lt ↦ absurd (no_more_than_eight n o s lt r)
  | inr le ↦ le
]
