-- What follows from steps of a decoder.
use Rattle.std.proofs.Common.{◌≡◌, ℕ, ◌+◌, ◌-◌, ◌^◌, ◌<◌, ◌≤◌, List, [], ◌∷◌, ◌++◌, Bool, length, take, drop, refl, sym, ◌∙◌, ap, subst, arith, append_assoc, inr}
use Rattle.std.proofs.lemmas.List.{length-append, length-take-le, length-drop, drop-take, drop-drop}
use Rattle.std.proofs.Math.Seq.{take-add}
use Rattle.std.specs.Prelude.{nat_eq, zero, suc}
use Rattle.asn1_bits.specs.Bits.{digits, is_odd, number as number_of}
use Rattle.asn1_bits.specs.Laws.NumberLaws.{number_is}
use Rattle.asn1_schema.specs.Encodings.{Fault, Encoding, Starts, IsAt, number, constant, then, in_turn}
use Rattle.asn1_schema.specs.Fields.{raw_bits}
use Rattle.asn1_x691.specs.declared.fault.FaultKind.{FaultKind}
use Rattle.asn1_x691.specs.declared.fault.FaultKind.TheVariants.{Short}
use Rattle.asn1_x691.specs.Strings.{bit, first_of}
use Rattle.asn1_x691_fields.specs.declared.state.State.{State}
use Rattle.asn1_x691_fields.specs.Outcomes.{rest, position, fault_of, IsWithin, IsMoved, IsOnward}

-- ---- bits of a message

-- the first of the bits that are left, and the others
pub split : (list : List Bool) (at width end : ℕ) → at + width ≤ end
    → drop at (take end list) ≡ take width (drop at list) ++ drop (at + width) (take end list)
split list at width end h =
    let more = end - (at + width) in
    let e : end ≡ at + (width + more) = omega arith in
    let f : end ≡ at + width + more = omega arith in
    ap (λ (n : ℕ). drop at (take n list)) e
    ∙ drop-take at (width + more) list
    ∙ take-add width more (drop at list)
    ∙ ap (λ (l : List Bool). take width (drop at list) ++ take more l) (drop-drop width at list)
    ∙ ap (λ (l : List Bool). take width (drop at list) ++ l)
    (sym (drop-take (at + width) more list) ∙ ap (λ (n : ℕ). drop (at + width) (take n list)) (sym f))

pub front_length : (list : List Bool) (at width : ℕ) → at + width ≤ length list → length (take width (drop at list)) ≡ width
front_length list at width h = length-take-le width (drop at list) (omega (arith, length-drop at list))

pub rest_length : (list : List Bool) (s : State) → s.end ≤ length list → length (rest list s) ≡ s.end - s.at
rest_length list s h = length-drop s.at (take s.end list) ∙ ap (λ (n : ℕ). n - s.at) (length-take-le s.end list h)

-- ---- faults

-- a fault before the next bit
pub fault_at : (list : List Bool) (s new : State) (node : ℕ) (kind : FaultKind) → s.end ≤ length list → new.at ≡ s.at → new.end ≡ s.end
    → new.node ≡ node → new.kind ≡ kind → IsAt kind node (rest list s) (fault_of new)
fault_at list s new node kind h a e n k = rw (a, e, n, k, rest_length list s h) refl

pub is_short : (list : List Bool) (s new : State) (width node : ℕ) → s.end ≤ length list → s.end - s.at < width → new.at ≡ s.at
    → new.end ≡ s.end → new.node ≡ node → new.kind ≡ Short
    → (length (rest list s) < width) × IsAt Short node (rest list s) (fault_of new)
is_short list s new width node h few a e n k =
    (omega (arith, rest_length list s h, few), fault_at list s new node Short h a e n k)

-- ---- numbers

module _ (list : List Bool) (s : State) (width node : ℕ) (ends : s.at + width ≤ s.end) (inside : s.end ≤ length list) where
  abbrev after : List Bool
  after = drop (s.at + width) (take s.end list)

  pub number_starts : (n : ℕ) → n ≡ number_of (take width (drop s.at list))
      → Starts (number width Short node).encodes (rest list s) n after
  number_starts n is =
      let e = number_is (take width (drop s.at list)) n width (front_length list s.at width (omega (arith, ends, inside))) is in
      record { front = take width (drop s.at list); encoded = (e.0, sym e.1); parts = split list s.at width s.end ends }

  pub bits_start : Starts (raw_bits width Short node).encodes (rest list s) (take width (drop s.at list)) after
  bits_start = record {
    front = take width (drop s.at list);
    encoded = (front_length list s.at width (omega (arith, ends, inside)), refl);
    parts = split list s.at width s.end ends;
  }

pub number_below : (list : List Bool) (at width n : ℕ) → at + width ≤ length list → n ≡ number_of (take width (drop at list)) → n < 2 ^ width
number_below list at width n h is = (number_is (take width (drop at list)) n width (front_length list at width h) is).0

-- ---- one encoding after another

pub constant_starts : {X : Type 0} (x : X) (list : List Bool) → Starts (constant {K = FaultKind} x).encodes list x list
constant_starts x list = record { front = []; encoded = (refl, refl); parts = refl }

pub then_starts : {X Y Z : Type 0} (A : Encoding FaultKind X) (f : X → Y → Z) (B : X → Encoding FaultKind Y)
    (list mid left : List Bool) (x : X) (y : Y) → Starts A.encodes list x mid → Starts (B x).encodes mid y left
    → Starts (then A f B).encodes list (f x y) left
then_starts A f B list mid left x y s t = record {
  front = s.front ++ t.front;
  encoded = record {
    value = x;
    after = y;
    front = s.front;
    rest = t.front;
    first = s.encoded;
    second = t.encoded;
    is = refl;
    parts = refl;
  };
  parts = s.parts ∙ ap (λ (l : List Bool). s.front ++ l) t.parts ∙ sym (append_assoc s.front t.front left);
}

pub then_fault : {X Y Z : Type 0} (A : Encoding FaultKind X) (f : X → Y → Z) (B : X → Encoding FaultKind Y)
    (list mid : List Bool) (x : X) (e : Fault FaultKind) → Starts A.encodes list x mid → (B x).fault mid e → (then A f B).fault list e
then_fault A f B list mid x e s w = inr (record { value = x; rest = mid; starts = s; holds = w })

-- ---- one encoding after another, by their positions

pub moved_on : (list : List Bool) (old new : State) → IsOnward list old new → IsMoved list old new
moved_on list old new g = record { same_first = g.same_first; same_end = g.same_end; on = g.on; ends = g.ends; inside = g.inside }

pub within_after : (list : List Bool) (old new : State) → IsWithin list old → IsMoved list old new → IsWithin list new
within_after list old new h g = record {
  begins = omega (arith, g.same_first, g.on, h.begins);
  ends = g.ends;
  inside = g.inside;
}

pub moved_over : (list : List Bool) (old mid new : State) → IsMoved list old mid → IsMoved list mid new → IsMoved list old new
moved_over list old mid new g k = record {
  same_first = k.same_first ∙ g.same_first;
  same_end = k.same_end ∙ g.same_end;
  on = omega (arith, g.on, k.on);
  ends = k.ends;
  inside = k.inside;
}

module _ (list : List Bool) (old mid : State) (h : IsWithin list old) (g : IsMoved list old mid) where
  step_size : {X : Type 0} (P : X → List Bool → Type 0) (x : X) → (s : Starts P (rest list old) x (rest list mid))
      → mid.at ≡ old.at + length s.front
  step_size P x s =
      let a = rest_length list old h.inside in
      let b = rest_length list mid g.inside in
      omega (arith, a, b, ap length s.parts, length-append s.front (rest list mid), g.same_end, g.on, g.ends, h.ends)

  pub step_position : {X : Type 0} (P : X → List Bool → Type 0) (x : X) → (s : Starts P (rest list old) x (rest list mid))
      → position mid ≡ position old + length s.front
  step_position P x s = omega (arith, step_size P x s, g.same_first, h.begins)

  module _ {X Y Z : Type 0} (A : ℕ → Encoding FaultKind X) (f : X → Y → Z) (B : X → ℕ → Encoding FaultKind Y) (x : X)
      (s : Starts (A (position old)).encodes (rest list old) x (rest list mid)) where
    pub after_starts : (left : List Bool) (y : Y) → Starts (B x (position mid)).encodes (rest list mid) y left
        → Starts (in_turn A f B (position old)).encodes (rest list old) (f x y) left
    after_starts left y t = record {
      front = s.front ++ t.front;
      encoded = record {
        value = x;
        after = y;
        front = s.front;
        rest = t.front;
        first = s.encoded;
        second = subst (λ (n : ℕ). (B x n).encodes y t.front) (step_position (A (position old)).encodes x s) t.encoded;
        is = refl;
        parts = refl;
      };
      parts = s.parts ∙ ap (λ (l : List Bool). s.front ++ l) t.parts ∙ sym (append_assoc s.front t.front left);
    }

    pub after_fault : (e : Fault FaultKind) → (B x (position mid)).fault (rest list mid) e
        → (in_turn A f B (position old)).fault (rest list old) e
    after_fault e w = inr (record {
      value = (x, s.front);
      rest = rest list mid;
      starts = record { front = s.front; encoded = (s.encoded, refl); parts = s.parts };
      holds = subst (λ (n : ℕ). (B x n).fault (rest list mid) e) (step_position (A (position old)).encodes x s) w;
    })

-- the same after a step that decoded no part
module _ (list : List Bool) (old mid : State) (h : IsWithin list old) (g : IsOnward list old mid) {X Y Z : Type 0}
    (A : ℕ → Encoding FaultKind X) (f : X → Y → Z) (B : X → ℕ → Encoding FaultKind Y) (x : X)
    (s : Starts (A (position old)).encodes (rest list old) x (rest list mid)) where
  pub turn_starts : (left : List Bool) (y : Y) → Starts (B x (position mid)).encodes (rest list mid) y left
      → Starts (in_turn A f B (position old)).encodes (rest list old) (f x y) left
  turn_starts left y t = after_starts list old mid h (moved_on list old mid g) A f B x s left y t

  pub turn_fault : (e : Fault FaultKind) → (B x (position mid)).fault (rest list mid) e
      → (in_turn A f B (position old)).fault (rest list old) e
  turn_fault e w = after_fault list old mid h (moved_on list old mid g) A f B x s e w

-- ---- one bit

odd_of_one : (n : ℕ) → n < 2 ^ 1 → is_odd n ≡ nat_eq n 1
odd_of_one zero h = refl
odd_of_one (suc zero) h = refl
odd_of_one (suc (suc n)) h = absurd (omega arith)

pub one_bit : (n : ℕ) → n < 2 ^ 1 → digits n 1 ≡ nat_eq n 1 ∷ []
unfolding digits
one_bit n h = ap (λ (b : Bool). b ∷ []) (odd_of_one n h)

pub bit_starts : (node : ℕ) (list left : List Bool) (n : ℕ) → Starts (number 1 Short node).encodes list n left
    → Starts (bit node).encodes list (nat_eq n 1) left
bit_starts node list left n s =
    let e : s.front ≡ nat_eq n 1 ∷ [] = s.encoded.1 ∙ one_bit n s.encoded.0 in
    then_starts (raw_bits 1 Short node) (λ bits b. b) (λ bits. constant (first_of bits)) list left left s.front (nat_eq n 1)
    (record { front = s.front; encoded = (ap length e, refl); parts = s.parts })
    (record {
      front = [];
      encoded = (sym (ap first_of e), refl);
      parts = refl;
    })
