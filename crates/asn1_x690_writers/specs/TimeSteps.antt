-- The characters of a time are octets.
use Rattle.std.proofs.Common.{◌≡◌, ℕ, suc, ◌-◌, ◌^◌, ◌<◌, ◌≤◌, List, [], ◌∷◌, length, inl, inr, ap, arith}
use Rattle.std.specs.Prelude.{slice_index}
use Rattle.std.proofs.lemmas.Bool.{cases_lt}
use Rattle.asn1_schema.specs.declared.tables.TimeKind.{TimeKind}
use Rattle.asn1_schema.specs.declared.tables.TimeKind.TheVariants.{Utc, Generalized}
use Rattle.asn1_schema.specs.Times.{IsDigit, IsUtcTime, HasFraction, IsGeneralizedTime, IsTime}
use Rattle.asn1_x690_writers.specs.Texts.{AreWithin}

each_within : (text : List ℕ) → ((i : ℕ) → i < length text → slice_index text i < 2 ^ 8) → AreWithin 8 text
each_within [] f = tt
each_within (c ∷ text) f = (f 0 (omega arith), each_within text (λ i h. f (suc i) (omega (arith, h))))

digit_within : (c : ℕ) → IsDigit c → c < 2 ^ 8
digit_within c d = let most = d.1 in omega (arith, most)

utc_within : (text : List ℕ) → IsUtcTime text → (i : ℕ) → i < length text → slice_index text i < 2 ^ 8
utc_within text t i h = elim (cases_lt i 12) [
  | inl lt ↦ let first : 0 ≤ i = omega arith in digit_within (slice_index text i) (t.digits i first lt)
  | inr le ↦ let e : i ≡ 12 = omega (arith, le, h, t.size) in
      let last = ap (λ (n : ℕ). slice_index text n) e in omega (arith, last, t.zone)
]

fraction_within : (text : List ℕ) → HasFraction text → slice_index text (length text - 1) ≡ 90 → (i : ℕ) → 14 ≤ i → i < length text
    → slice_index text i < 2 ^ 8
fraction_within text f zone i from h = elim (cases_lt 14 i) [
  | inl after ↦ elim (cases_lt i (length text - 1)) [
    | inl lt ↦ digit_within (slice_index text i) (f.digits i (omega (arith, after)) lt)
    | inr le ↦ let e : i ≡ length text - 1 = omega (arith, le, h) in
        let last = ap (λ (n : ℕ). slice_index text n) e in omega (arith, last, zone)
  ]
  | inr at ↦ let e : i ≡ 14 = omega (arith, from, at) in
      let stop = ap (λ (n : ℕ). slice_index text n) e in omega (arith, stop, f.stop)
]

generalized_within : (text : List ℕ) → IsGeneralizedTime text → (i : ℕ) → i < length text → slice_index text i < 2 ^ 8
generalized_within text t i h = elim (cases_lt i 14) [
  | inl lt ↦ let first : 0 ≤ i = omega arith in digit_within (slice_index text i) (t.digits i first lt)
  | inr le ↦ elim t.fraction [
    | inl size ↦ let e : i ≡ length text - 1 = omega (arith, le, h, size) in
        let last = ap (λ (n : ℕ). slice_index text n) e in omega (arith, last, t.zone)
    | inr f ↦ fraction_within text f t.zone i le h
  ]
]

pub time_within : (kind : TimeKind) (text : List ℕ) → IsTime kind text → AreWithin 8 text
time_within Utc text t = each_within text (utc_within text t)
time_within Generalized text t = each_within text (generalized_within text t)
