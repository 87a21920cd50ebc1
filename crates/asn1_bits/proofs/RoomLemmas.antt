-- Room at the end of a list, as it is filled.
use Rattle.std.proofs.Common.{◌≡◌, ℕ, ◌+◌, ◌-◌, ◌<◌, ◌≤◌, Bool, false, List, ◌++◌, length, take, set, replicate, refl, sym, ap, ◌∙◌, append_assoc, drop, arith}
use Rattle.std.proofs.lemmas.List.{take-replicate, drop-drop, drop-replicate, length-set, set-append_left, length-append, length-take, length-replicate, take_at, replicate-append-replicate}
use Rattle.std.proofs.Math.Seq.{take-set-lt}
use Rattle.asn1_bits.specs.Bits.{ored, IsZeroFrom}
use Rattle.asn1_bits.proofs.OredLemmas.{length-ored, ored-append_left, ored-zeros}
use Rattle.asn1_bits.proofs.ZeroLemmas.{zeros_behind, zero_from}

-- bits ORed into room are after those before them, and zeros are left
pub ored-room : (list src : List Bool) (place : ℕ) → IsZeroFrom place list → place + length src ≤ length list
    → ored list place src ≡ (take place list ++ src) ++ replicate (length list - (place + length src)) false
ored-room list src place z h =
    let front = take place list in
    let n = length src in
    let rest = length list - (place + n) in
    let zeros = replicate n false in
    let tail = replicate rest false in
    let at : place ≡ length front = omega (arith, length-take place list, z.within) in
    let split : list ≡ (front ++ zeros) ++ tail =
    zeros_behind place list z
    ∙ ap (λ (l : List Bool). front ++ l)
    ((let e : length list - place ≡ n + rest = omega arith in ap (λ (k : ℕ). replicate k false) e)
    ∙ sym (replicate-append-replicate n rest false))
    ∙ sym (append_assoc front zeros tail) in
    ap (λ (l : List Bool). ored l place src) split
    ∙ ored-append_left (front ++ zeros) tail place src
    (omega (arith, length-append front zeros, length-replicate n false))
    ∙ ap (λ (l : List Bool). l ++ tail) (ap (λ (k : ℕ). ored (front ++ zeros) k src) at ∙ ored-zeros front src n refl)

-- bits written over room are bits ORed into it
pub room-over : (list src : List Bool) (place : ℕ) → IsZeroFrom place list → place + length src ≤ length list
    → take place list ++ (src ++ drop (place + length src) list) ≡ ored list place src
room-over list src place z h =
    let n = length src in
    let rest = length list - (place + n) in
    let front = take place list in
    let left : length list - place - n ≡ rest = omega arith in
    let behind : drop (place + n) list ≡ replicate rest false =
    sym (drop-drop n place list) ∙ ap (drop n) z.zero ∙ drop-replicate n (length list - place) false
    ∙ ap (λ (k : ℕ). replicate k false) left in
    ap (λ (l : List Bool). front ++ (src ++ l)) behind
    ∙ sym (append_assoc front src (replicate rest false))
    ∙ sym (ored-room list src place z h)

-- so the front is the old front and they
pub room-taken : (list src : List Bool) (place : ℕ) → IsZeroFrom place list → place + length src ≤ length list
    → take (place + length src) (ored list place src) ≡ take place list ++ src
room-taken list src place z h =
    let front = take place list in
    ap (take (place + length src)) (ored-room list src place z h)
    ∙ take_at (front ++ src) (replicate (length list - (place + length src)) false) (place + length src)
    (omega (arith, length-append front src, length-take place list, z.within))

-- and what is left is zeros
pub room-left : (list src : List Bool) (place : ℕ) → IsZeroFrom place list → place + length src ≤ length list
    → IsZeroFrom (place + length src) (ored list place src)
room-left list src place z h =
    let after = ored list place src in
    let n = length-ored list place src in
    zero_from (place + length src) after (omega arith)
    (ored-room list src place z h
    ∙ ap (λ (l : List Bool). l ++ replicate (length list - (place + length src)) false)
    (sym (room-taken list src place z h))
    ∙ ap (λ (k : ℕ). take (place + length src) after ++ replicate (k - (place + length src)) false) (sym n))

-- what is known after width bits were written into the room
pub record Filled (list after src : List Bool) (place width : ℕ) : Type 0 where
  pub rest : IsZeroFrom (place + width) after
  pub taken : take (place + width) after ≡ take place list ++ src
  pub len : length after ≡ length list

-- both, of the list that a write leaves
pub room-step : (list after src : List Bool) (place width : ℕ) → IsZeroFrom place list → after ≡ ored list place src
    → length src ≡ width → place + width ≤ length list
    → Filled list after src place width
room-step list after src place width z e n h =
    rw (e, ← n) record {
      rest = room-left list src place z (omega arith);
      taken = room-taken list src place z (omega arith);
      len = length-ored list place src;
    }

-- a list of zeros is room from any index on
pub room-zeros : (place n : ℕ) → place ≤ n → IsZeroFrom place (replicate n false)
    × (take place (replicate n false) ≡ replicate place false)
room-zeros place n h =
    let front : take place (replicate n false) ≡ replicate place false = take-replicate place n false h in
    let len = length-replicate n false in
    let sum : place + (length (replicate n false) - place) ≡ n = omega arith in (
      zero_from place (replicate n false) (omega arith)
          (sym (ap (λ (l : List Bool). l ++ replicate (length (replicate n false) - place) false) front
          ∙ replicate-append-replicate place (length (replicate n false) - place) false
          ∙ ap (λ (k : ℕ). replicate k false) sum)),
      front,
    )

-- a bit that is set before the room leaves it
pub room-set : (list : List Bool) (place i : ℕ) (bit : Bool) → IsZeroFrom place list → i < place
    → IsZeroFrom place (set list i bit) × (take place (set list i bit) ≡ set (take place list) i bit)
room-set list place i bit z h =
    let front : take place (set list i bit) ≡ set (take place list) i bit = take-set-lt place list i bit h in
    let n = length-set list i bit in (
      zero_from place (set list i bit) (omega (arith, z.within))
          (ap (λ (l : List Bool). set l i bit) (zeros_behind place list z)
          ∙ set-append_left (take place list) (replicate (length list - place) false) i bit
          (omega (arith, length-take place list, z.within))
          ∙ ap (λ (l : List Bool). l ++ replicate (length list - place) false) (sym front)
          ∙ ap (λ (k : ℕ). take place (set list i bit) ++ replicate (k - place) false) (sym n)),
      front,
    )

-- bits that were ORed into the front of zeros
pub zeros-filled : (after src : List Bool) (n total : ℕ) → after ≡ ored (replicate total false) 0 src → length src ≡ n
    → n ≤ total
    → IsZeroFrom n after × (take n after ≡ src)
zeros-filled after src n total e len h =
    let all = length-replicate total false in
    let f = room-step (replicate total false) after src 0 n (room-zeros 0 total (omega arith)).0 e len (omega arith) in
    let at : 0 + n ≡ n = omega arith in
    (rw at at f.rest, rw at at f.taken)
