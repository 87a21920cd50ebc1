-- What follows from steps of a decoder that reads numbers and lengths.
use Rattle.std.proofs.Common.{◌≡◌, ℕ, ℤ, negsuc, suc, ◌-◌, ◌*◌, ◌^◌, ◌<◌, ◌≤◌, List, [], ◌++◌, Bool, true, false, length, refl, sym, ◌∙◌, ap, subst, inl, inr, Option, Some, None, arith}
use Rattle.std.specs.Prelude.{◌⊎◌, ⊤}
use Rattle.std.proofs.Math.Pow.{pow_mono}
use Rattle.std.proofs.lemmas.List.{append-nil}
use Rattle.asn1_bits.specs.Bits.{number as number_of}
use Rattle.asn1_bits.specs.Laws.NumberLaws.{number_is}
use Rattle.asn1_schema.specs.Encodings.{Fault, Encoding, Starts, IsAt, number, anywhere, constant, invalid, then, cases, in_turn, in_case}
use Rattle.asn1_schema.specs.Fields.{raw_bits}
use Rattle.asn1_schema.specs.PiecesOfParts.{signed_number}
use Rattle.asn1_x691.specs.declared.fault.FaultKind.{FaultKind}
use Rattle.asn1_x691.specs.declared.fault.FaultKind.TheVariants.{Short, NotMinimal}
use Rattle.asn1_x691.specs.Fields.{zeros, to_octet, on_octet, minimal_octets, below_minus_one, signed_of, signed_octets}
use Rattle.asn1_x691_fields.specs.declared.state.State.{State}
use Rattle.asn1_x691_fields.specs.FirstBits.{IsPositive, IsNegative, by_sign}
use Rattle.asn1_x691_fields.specs.Numbers.{distance}
use Rattle.asn1_x691_fields.specs.Outcomes.{rest, position, fault_of, IsWithin, IsOnward, IsRead}
use Rattle.asn1_x691_fields.specs.Steps.{then_starts, then_fault, turn_starts, turn_fault}

-- ---- octets that are as few as they can be

abbrev pub IsMinimal : ℕ → ℕ → Type 0
IsMinimal count d = (count ≤ 1) ⊎ (2 ^ (8 * (count - 1)) ≤ d)

module _ (count node : ℕ) (list mid : List Bool) (d : ℕ) (s : Starts (number (8 * count) Short node).encodes list d mid) where
  abbrev tested : ℕ → Encoding FaultKind ℕ
  tested n =
      cases (IsMinimal count n) (constant n) ((1 < count) × (n < 2 ^ (8 * (count - 1)))) (invalid NotMinimal node)

  pub minimal_starts : IsMinimal count d → Starts (minimal_octets count node).encodes list d mid
  minimal_starts few =
      then_starts (number (8 * count) Short node) (λ d n. n) tested list mid mid d d s
      (record { front = []; encoded = inl (few, (refl, refl)); parts = refl })

  pub minimal_fault : (e : Fault FaultKind) → 1 < count → d < 2 ^ (8 * (count - 1)) → IsAt NotMinimal node mid e
      → (minimal_octets count node).fault list e
  minimal_fault e some low w =
      then_fault (number (8 * count) Short node) (λ d n. n) tested list mid d e s (inr ((some, low), w))

-- ---- a call that reads the rest of a field

module _ {X Y Z T : Type 0} (list : List Bool) (old mid new : State) (x : X) (g : T → Y) where
  pub then_read : (A : Encoding FaultKind X) (f : X → Y → Z) (B : X → Encoding FaultKind Y) (r : Option T)
      → Starts A.encodes (rest list old) x (rest list mid) → IsRead (anywhere (B x)) g list mid new r
      → IsRead (anywhere (then A f B)) (λ t. f x (g t)) list old new r
  then_read A f B (Some t) s p = then_starts A f B (rest list old) (rest list mid) (rest list new) x (g t) s p
  then_read A f B None s p = then_fault A f B (rest list old) (rest list mid) x (fault_of new) s p

  pub turn_read : (A : ℕ → Encoding FaultKind X) (f : X → Y → Z) (B : X → ℕ → Encoding FaultKind Y) (r : Option T)
      → IsWithin list old → IsOnward list old mid
      → Starts (A (position old)).encodes (rest list old) x (rest list mid) → IsRead (B x) g list mid new r
      → IsRead (in_turn A f B) (λ t. f x (g t)) list old new r
  turn_read A f B (Some t) h o s p = turn_starts list old mid h o A f B x s (rest list new) (g t) p
  turn_read A f B None h o s p = turn_fault list old mid h o A f B x s (fault_of new) p

-- ---- a case of a field

module _ {X T : Type 0} (list : List Bool) (old new : State) (g : T → X) (C D : Type 0) (A B : ℕ → Encoding FaultKind X) where
  pub first_read : (r : Option T) → C → IsRead A g list old new r → IsRead (in_case C A D B) g list old new r
  first_read (Some t) c p = record { front = p.front; encoded = inl (c, p.encoded); parts = p.parts }
  first_read None c p = inl (c, p)

  pub second_read : (r : Option T) → D → IsRead B g list old new r → IsRead (in_case C A D B) g list old new r
  second_read (Some t) d p = record { front = p.front; encoded = inr (d, p.encoded); parts = p.parts }
  second_read None d p = inr (d, p)

-- ---- a field that begins at an octet

-- the start alone
abbrev start : Bool → ℕ → ℕ → Encoding FaultKind ⊤
start aligned node at = on_octet aligned node (constant tt) at

-- in the UNALIGNED variant no bits precede the field
no_zeros : (node at : ℕ) (list mid : List Bool) → Starts (start false node at).encodes list tt mid → list ≡ mid
no_zeros node at list mid s = s.parts ∙ ap (λ (l : List Bool). l ++ mid) s.encoded.1

-- in the ALIGNED variant zeros precede it
only_zeros : (node at : ℕ) (list mid : List Bool) → Starts (start true node at).encodes list tt mid
    → Starts (zeros (to_octet at) node).encodes list tt mid
only_zeros node at list mid s =
    let p = s.encoded in
    let e : s.front ≡ p.front =
    p.parts ∙ ap (λ (l : List Bool). p.front ++ l) p.second.1 ∙ append-nil p.front in
    record { front = p.front; encoded = p.first; parts = s.parts ∙ ap (λ (l : List Bool). l ++ mid) e }

module _ {X : Type 0} (node : ℕ) (A : Encoding FaultKind X) (at : ℕ) where
  pub octet_starts : (aligned : Bool) (list mid left : List Bool) (x : X) → Starts (start aligned node at).encodes list tt mid
      → Starts A.encodes mid x left → Starts (on_octet aligned node A at).encodes list x left
  octet_starts false list mid left x s t =
      record { front = t.front; encoded = t.encoded; parts = no_zeros node at list mid s ∙ t.parts }
  octet_starts true list mid left x s t =
      then_starts (zeros (to_octet at) node) (λ u x. x) (λ u. A) list mid left tt x (only_zeros node at list mid s) t

  pub octet_fault : (aligned : Bool) (list mid : List Bool) (e : Fault FaultKind) → Starts (start aligned node at).encodes list tt mid
      → A.fault mid e → (on_octet aligned node A at).fault list e
  octet_fault false list mid e s w = subst (λ (l : List Bool). A.fault l e) (sym (no_zeros node at list mid s)) w
  octet_fault true list mid e s w =
      then_fault (zeros (to_octet at) node) (λ u x. x) (λ u. A) list mid tt e (only_zeros node at list mid s) w

pub octet_read : {X T : Type 0} (list : List Bool) (old mid new : State) (g : T → X) (aligned : Bool) (node : ℕ)
    (A : Encoding FaultKind X) (r : Option T)
    → Starts (on_octet aligned node (constant (tt {0})) (position old)).encodes (rest list old) (tt {0}) (rest list mid)
    → IsRead (anywhere A) g list mid new r → IsRead (on_octet aligned node A) g list old new r
octet_read list old mid new g aligned node A (Some t) s p =
    octet_starts node A (position old) aligned (rest list old) (rest list mid) (rest list new) (g t) s p
octet_read list old mid new g aligned node A None s p =
    octet_fault node A (position old) aligned (rest list old) (rest list mid) (fault_of new) s p

-- ---- a number that stays in the message

pub number_of_bits : (width node : ℕ) (list front left : List Bool) → Starts (raw_bits width Short node).encodes list front left
    → Starts (number width Short node).encodes list (number_of front) left
number_of_bits width node list front left s =
    let e = number_is s.front (number_of front) width s.encoded.0 (ap number_of s.encoded.1) in
    record { front = s.front; encoded = (e.0, sym e.1); parts = s.parts }

-- octets of two's complement that are as few as they can be
abbrev pub IsFewest : ℕ → ℕ → Type 0
IsFewest count d = (count ≤ 1) ⊎ ((2 ^ (8 * count - 9) ≤ d) × (2 ^ (8 * count - 9) ≤ below_minus_one count d))

-- and octets that are too many
abbrev pub IsTooLong : ℕ → ℕ → Type 0
IsTooLong count d = (d < 2 ^ (8 * count - 9)) ⊎ ((2 ^ (8 * count - 1) ≤ d) × (below_minus_one count d < 2 ^ (8 * count - 9)))

module _ (count node : ℕ) (list bits mid : List Bool) (s : Starts (raw_bits (8 * count) Short node).encodes list bits mid) where
  fewest_up : (d : ℕ) → IsFewest count d → (count ≤ 1) ⊎ (2 ^ (8 * count - 9) ≤ d)
  fewest_up d (inl p) = inl p
  fewest_up d (inr p) = inr p.0

  fewest_down : (d : ℕ) → IsFewest count d → (count ≤ 1) ⊎ (2 ^ (8 * count - 9) ≤ below_minus_one count d)
  fewest_down d (inl p) = inl p
  fewest_down d (inr p) = inr p.1

  signed : (z : ℤ) → (signed_of count node (number_of bits)).encodes z [] → Starts (signed_octets count node).encodes list z mid
  signed z p =
      then_starts (number (8 * count) Short node) (λ d z. z) (λ d. signed_of count node d) list mid mid (number_of bits) z
      (number_of_bits (8 * count) node list bits mid s) (record { front = []; encoded = p; parts = refl })

  signed_case : (w : ℕ) → suc w ≡ 8 * count → 8 * count - 1 ≡ w → IsFewest count (number_of bits)
      → IsPositive bits w ⊎ IsNegative bits w → (signed_of count node (number_of bits)).encodes (signed_number bits) []
  signed_case w e f few (inl p) =
      inl (subst (λ (n : ℕ). number_of bits < 2 ^ n) (sym f) p.low, inl (fewest_up (number_of bits) few, (p.same, refl)))
  signed_case w e f few (inr p) =
      inr (
        subst (λ (n : ℕ). 2 ^ n ≤ number_of bits) (sym f) p.high,
        inl (fewest_down (number_of bits) few, (p.below ∙ ap (λ (n : ℕ). negsuc (2 ^ n - 1 - number_of bits)) e, refl)),
      )

  pub signed_starts : 0 < count → IsFewest count (number_of bits) → Starts (signed_octets count node).encodes list (signed_number bits) mid
  signed_starts some few =
      let e : suc (8 * count - 1) ≡ 8 * count = omega (arith, some) in
      let size : length bits ≡ suc (8 * count - 1) = ap length s.encoded.1 ∙ s.encoded.0 ∙ sym e in
      signed (signed_number bits) (signed_case (8 * count - 1) e refl few (by_sign bits (8 * count - 1) size))

  pub signed_fault : (e : Fault FaultKind) → 1 < count → IsTooLong count (number_of bits) → IsAt NotMinimal node mid e
      → (signed_octets count node).fault list e
  signed_fault e some (inl p) w =
      let up : 2 ^ (8 * count - 9) ≤ 2 ^ (8 * count - 1) = pow_mono (omega (arith, some)) in
      then_fault (number (8 * count) Short node) (λ d z. z) (λ d. signed_of count node d) list mid (number_of bits) e
      (number_of_bits (8 * count) node list bits mid s) (inl (omega (arith, p, up), inr ((some, p), w)))
  signed_fault e some (inr p) w =
      then_fault (number (8 * count) Short node) (λ d z. z) (λ d. signed_of count node d) list mid (number_of bits) e
      (number_of_bits (8 * count) node list bits mid s) (inr (p.0, inr ((some, p.1), w)))

-- ---- how far a number of some octets is from 0 or from -1

far_by_sign : (count w : ℕ) (bits : List Bool) → suc w ≡ 8 * count → 1 < count → IsFewest count (number_of bits)
    → IsPositive bits w ⊎ IsNegative bits w → 2 ^ (8 * count - 9) ≤ distance (signed_number bits)
far_by_sign count w bits e some (inl few) s = absurd (omega (arith, some, few))
far_by_sign count w bits e some (inr few) (inl p) = omega (arith, few.0, ap distance p.same)
far_by_sign count w bits e some (inr few) (inr p) =
    let d : 2 ^ suc w ≡ 2 ^ (8 * count) = ap (λ (n : ℕ). 2 ^ n) e in
    omega (arith, few.1, ap distance p.below, d)

pub far_enough : (count : ℕ) (bits : List Bool) → length bits ≡ 8 * count → 1 < count → IsFewest count (number_of bits)
    → 2 ^ (8 * count - 9) ≤ distance (signed_number bits)
far_enough count bits size some few =
    let e : suc (8 * count - 1) ≡ 8 * count = omega (arith, some) in
    far_by_sign count (8 * count - 1) bits e some few (by_sign bits (8 * count - 1) (size ∙ sym e))
