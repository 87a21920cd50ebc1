-- The octets of a long number of a tag.
use Rattle.std.proofs.Common.{◌≡◌, ◌≢◌, ℕ, zero, suc, ◌+◌, ◌*◌, ◌%◌, ◌^◌, ◌<◌, ◌≤◌, List, [], ◌∷◌, ◌++◌, Bool, true, false, length, refl, sym, ◌∙◌, ap, subst, arith, append_assoc, inl, inr, Option, Some}
use Rattle.std.specs.Prelude.{◌⊎◌}
use Rattle.std.proofs.Math.Nat.{pow-suc, mul_assoc}
use Rattle.std.proofs.lemmas.List.{length-append}
use Rattle.asn1_oid.specs.Contents.{base_128}
use Rattle.asn1_schema.specs.Encodings.{Fault, Encoding, Starts, IsAt, number, constant, invalid, cases}
use Rattle.asn1_x690.specs.declared.fault.FaultKind.{FaultKind}
use Rattle.asn1_x690.specs.declared.fault.FaultKind.TheVariants.{Short, NotMinimal}
use Rattle.asn1_x690.specs.Series.{series}
use Rattle.asn1_x690.specs.Elements.{IsLongNumber, long_number}
use Rattle.asn1_x690_fields.specs.Outcomes.{IsShown}
use Rattle.asn1_x690_fields.specs.Steps.{then_starts, then_fault}

-- ---- one digit more

grown : (a p b d : ℕ) → a * (p * 128) + (b * 128 + d) ≡ (a * p + b) * 128 + d
grown a p b d =
    let m : a * (p * 128) ≡ a * p * 128 = sym (mul_assoc a p 128) in
    omega (arith, m)

pub base_128-one : (octet : ℕ) → base_128 (octet ∷ []) ≡ octet % 128
unfolding base_128
base_128-one octet = omega arith

pub base_128-push : (octets : List ℕ) (octet : ℕ) → base_128 (octets ++ octet ∷ []) ≡ base_128 octets * 128 + octet % 128
unfolding base_128
base_128-push [] octet = omega arith
base_128-push (x ∷ octets) octet =
    let size : length (octets ++ octet ∷ []) ≡ suc (length octets) = omega (arith, length-append octets (octet ∷ [])) in
    ap (λ (n : ℕ). x % 128 * 128 ^ n + base_128 (octets ++ octet ∷ [])) size
    ∙ ap (λ (p : ℕ). x % 128 * p + base_128 (octets ++ octet ∷ [])) (pow-suc 128 (length octets))
    ∙ ap (λ (n : ℕ). x % 128 * (128 ^ length octets * 128) + n) (base_128-push octets octet)
    ∙ grown (x % 128) (128 ^ length octets) (base_128 octets) (octet % 128)

-- ---- a series

abbrev pub Octets : ℕ → Encoding FaultKind (List ℕ)
Octets node = series (number 8 Short node) (λ octet. 128 ≤ octet) (λ octet. octet < 128)

module _ (node : ℕ) (list mid : List Bool) (octet : ℕ) (s : Starts (number 8 Short node).encodes list octet mid) where
  last_starts : octet < 128 → Starts (Octets node).encodes list (octet ∷ []) mid
  last_starts low = record { front = s.front; encoded = inl (low, s.encoded, refl); parts = s.parts }

  more_start : (octets : List ℕ) (left : List Bool) → 128 ≤ octet → Starts (Octets node).encodes mid octets left
      → Starts (Octets node).encodes list (octet ∷ octets) left
  more_start octets left high t = record {
    front = s.front ++ t.front;
    encoded = inr (high, (s.front, t.front, s.encoded, t.encoded, refl));
    parts = s.parts ∙ ap (λ (l : List Bool). s.front ++ l) t.parts ∙ sym (append_assoc s.front t.front left);
  }

  more_fault : (e : Fault FaultKind) → 128 ≤ octet → (Octets node).fault mid e → (Octets node).fault list e
  more_fault e high w = (suc w.0, record { value = octet; rest = mid; starts = s; holds = (high, w.1) })

-- octets were read, after each of which others follow
pub record IsGoingOn (node : ℕ) (list now : List Bool) (octets : List ℕ) : Type 0 where
  pub done : (others : List ℕ) (left : List Bool) → Starts (Octets node).encodes now others left
      → Starts (Octets node).encodes list (octets ++ others) left
  pub fault : (e : Fault FaultKind) → (Octets node).fault now e → (Octets node).fault list e

-- the same, or all octets were read
abbrev pub IsSoFar : ℕ → List Bool → List Bool → List ℕ → Bool → Type 0
IsSoFar node list now octets true = IsGoingOn node list now octets
IsSoFar node list now octets false = Starts (Octets node).encodes list octets now

pub record IsRun (node : ℕ) (list now : List Bool) (first : ℕ) (number : Option ℕ) (is_more : Bool) : Type 0 where
  pub others : List ℕ
  pub shown : IsShown number (base_128 (first ∷ others))
  pub read : IsSoFar node list now (first ∷ others) is_more

module _ (node : ℕ) (list now : List Bool) (first : ℕ) (s : Starts (number 8 Short node).encodes list first now) where
  so_far : (b : Bool) → (b ≡ true → 128 ≤ first) → (b ≡ false → first < 128) → IsSoFar node list now (first ∷ []) b
  so_far true high low = record {
    done = λ others left t. more_start node list now first s others left (high refl) t;
    fault = λ e w. more_fault node list now first s e (high refl) w;
  }
  so_far false high low = last_starts node list now first s (low refl)

  pub run_begins : (b : Bool) → (b ≡ true → 128 ≤ first) → (b ≡ false → first < 128)
      → IsRun node list now first (Some (first % 128)) b
  run_begins b high low = record { others = []; shown = (sym (base_128-one first), omega (arith, base_128-one first)); read = so_far b high low }

module _ (node : ℕ) (list now mid : List Bool) (first : ℕ) (was is : Option ℕ) (run : IsRun node list now first was true)
    (octet : ℕ) (s : Starts (number 8 Short node).encodes now octet mid)
    (with_digit : (n : ℕ) → IsShown was n → IsShown is (n * 128 + octet % 128)) where
  abbrev octets : List ℕ
  octets = first ∷ run.others

  next_so_far : (b : Bool) → (b ≡ true → 128 ≤ octet) → (b ≡ false → octet < 128) → IsSoFar node list mid (octets ++ octet ∷ []) b
  next_so_far true high low = record {
    done = λ others left t.
        subst (λ (l : List ℕ). Starts (Octets node).encodes list l left) (sym (append_assoc octets (octet ∷ []) others))
        (run.read.done (octet ∷ others) left (more_start node now mid octet s others left (high refl) t));
    fault = λ e w. run.read.fault e (more_fault node now mid octet s e (high refl) w);
  }
  next_so_far false high low = run.read.done (octet ∷ []) mid (last_starts node now mid octet s (low refl))

  pub run_on : (b : Bool) → (b ≡ true → 128 ≤ octet) → (b ≡ false → octet < 128) → IsRun node list mid first is b
  run_on b high low = record {
    others = run.others ++ octet ∷ [];
    shown = subst (λ (n : ℕ). IsShown is n) (sym (base_128-push octets octet)) (with_digit (base_128 octets) run.shown);
    read = next_so_far b high low;
  }

-- an octet is missing
pub run_fails : (node : ℕ) (list now : List Bool) (first : ℕ) (was : Option ℕ) → IsRun node list now first was true
    → (e : Fault FaultKind) → (number 8 Short node).fault now e → (long_number node).fault list e
run_fails node list now first was run e w = inl (run.read.fault e (zero, w))

-- ---- the number

module _ (node : ℕ) (list now : List Bool) (first : ℕ) (shown : Option ℕ) (run : IsRun node list now first shown false) where
  abbrev tested : List ℕ → Encoding FaultKind ℕ
  tested octets = cases (IsLongNumber octets) (constant (base_128 octets)) (¬ (IsLongNumber octets)) (invalid NotMinimal node)

  pub run_ends : first ≢ 128 → ((n : ℕ) → IsShown shown n → 31 ≤ n)
      → (n : ℕ) × IsShown shown n × Starts (long_number node).encodes list n now
  run_ends ne high = (
    base_128 (first ∷ run.others),
    run.shown,
    then_starts (Octets node) (λ octets n. n) tested list now now (first ∷ run.others) (base_128 (first ∷ run.others)) run.read
        (record {
          front = [];
          encoded = inl ((ne, high (base_128 (first ∷ run.others)) run.shown), (refl, refl));
          parts = refl;
        }),
  )

  pub run_not_minimal : (e : Fault FaultKind) → (first ≡ 128) ⊎ ((n : ℕ) → IsShown shown n → n < 31) → IsAt NotMinimal node now e
      → (long_number node).fault list e
  run_not_minimal e why w =
      then_fault (Octets node) (λ octets n. n) tested list now (first ∷ run.others) e run.read (inr (not why, w))
    where
      not : (first ≡ 128) ⊎ ((n : ℕ) → IsShown shown n → n < 31) → IsLongNumber (first ∷ run.others) → ⊥
      not (inl p) q = q.0 p
      not (inr p) q =
          let few = p (base_128 (first ∷ run.others)) run.shown in
          let many : 31 ≤ base_128 (first ∷ run.others) = q.1 in
          omega (arith, few, many)
