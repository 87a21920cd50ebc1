-- What follows from steps of a decoder.
use Rattle.std.proofs.Common.{◌≡◌, ℕ, ◌+◌, ◌-◌, ◌<◌, ◌≤◌, List, [], ◌++◌, Bool, length, take, drop, refl, sym, ◌∙◌, ap, arith, append_assoc, inl, inr}
use Rattle.std.proofs.lemmas.List.{length-take-le, length-drop, drop-take, drop-drop}
use Rattle.std.proofs.Math.Seq.{take-add}
use Rattle.asn1_bits.specs.Bits.{number as number_of}
use Rattle.asn1_bits.specs.Laws.NumberLaws.{number_is}
use Rattle.asn1_schema.specs.Encodings.{Fault, Encoding, Starts, IsAt, number, constant, then, cases}
use Rattle.asn1_schema.specs.Fields.{raw_bits}
use Rattle.asn1_x690.specs.declared.fault.FaultKind.{FaultKind}
use Rattle.asn1_x690.specs.declared.fault.FaultKind.TheVariants.{Short}
use Rattle.asn1_x690_fields.specs.declared.state.State.{State}
use Rattle.asn1_x690_fields.specs.Outcomes.{rest, fault_of, IsWithin, IsOnward}

-- ---- bits of a message

-- the first of the bits that are left, and the others
pub split : (list : List Bool) (at width end : ℕ) → at + width ≤ end
    → drop at (take end list) ≡ take width (drop at list) ++ drop (at + width) (take end list)
split list at width end h =
    let more = end - (at + width) in
    let e : end ≡ at + (width + more) = omega arith in
    let f : end ≡ at + width + more = omega arith in
    ap (λ (n : ℕ). drop at (take n list)) e
    ∙ drop-take at (width + more) list
    ∙ take-add width more (drop at list)
    ∙ ap (λ (l : List Bool). take width (drop at list) ++ take more l) (drop-drop width at list)
    ∙ ap (λ (l : List Bool). take width (drop at list) ++ l)
    (sym (drop-take (at + width) more list) ∙ ap (λ (n : ℕ). drop (at + width) (take n list)) (sym f))

pub front_length : (list : List Bool) (at width : ℕ) → at + width ≤ length list → length (take width (drop at list)) ≡ width
front_length list at width h = length-take-le width (drop at list) (omega (arith, length-drop at list))

pub rest_length : (list : List Bool) (s : State) → s.end ≤ length list → length (rest list s) ≡ s.end - s.at
rest_length list s h = length-drop s.at (take s.end list) ∙ ap (λ (n : ℕ). n - s.at) (length-take-le s.end list h)

pub within_after : (list : List Bool) (old new : State) → IsOnward list old new → IsWithin list new
within_after list old new g = record { ends = g.ends; inside = g.inside }

-- ---- faults

-- a fault before the next bit
pub fault_at : (list : List Bool) (s new : State) (node : ℕ) (kind : FaultKind) → s.end ≤ length list → new.at ≡ s.at → new.end ≡ s.end
    → new.node ≡ node → new.kind ≡ kind → IsAt kind node (rest list s) (fault_of new)
fault_at list s new node kind h a e n k = rw (a, e, n, k, rest_length list s h) refl

pub is_short : (list : List Bool) (s new : State) (width node : ℕ) → s.end ≤ length list → s.end - s.at < width → new.at ≡ s.at
    → new.end ≡ s.end → new.node ≡ node → new.kind ≡ Short
    → (length (rest list s) < width) × IsAt Short node (rest list s) (fault_of new)
is_short list s new width node h few a e n k =
    (omega (arith, rest_length list s h, few), fault_at list s new node Short h a e n k)

-- ---- numbers

module _ (list : List Bool) (s : State) (width node : ℕ) (ends : s.at + width ≤ s.end) (inside : s.end ≤ length list) where
  abbrev after : List Bool
  after = drop (s.at + width) (take s.end list)

  pub number_starts : (n : ℕ) → n ≡ number_of (take width (drop s.at list))
      → Starts (number width Short node).encodes (rest list s) n after
  number_starts n is =
      let e = number_is (take width (drop s.at list)) n width (front_length list s.at width (omega (arith, ends, inside))) is in
      record { front = take width (drop s.at list); encoded = (e.0, sym e.1); parts = split list s.at width s.end ends }

  pub bits_start : Starts (raw_bits width Short node).encodes (rest list s) (take width (drop s.at list)) after
  bits_start = record {
    front = take width (drop s.at list);
    encoded = (front_length list s.at width (omega (arith, ends, inside)), refl);
    parts = split list s.at width s.end ends;
  }

-- ---- one encoding after another

pub constant_starts : {X : Type 0} (x : X) (list : List Bool) → Starts (constant {K = FaultKind} x).encodes list x list
constant_starts x list = record { front = []; encoded = (refl, refl); parts = refl }

pub then_starts : {X Y Z : Type 0} (A : Encoding FaultKind X) (f : X → Y → Z) (B : X → Encoding FaultKind Y)
    (list mid left : List Bool) (x : X) (y : Y) → Starts A.encodes list x mid → Starts (B x).encodes mid y left
    → Starts (then A f B).encodes list (f x y) left
then_starts A f B list mid left x y s t = record {
  front = s.front ++ t.front;
  encoded = record {
    value = x;
    after = y;
    front = s.front;
    rest = t.front;
    first = s.encoded;
    second = t.encoded;
    is = refl;
    parts = refl;
  };
  parts = s.parts ∙ ap (λ (l : List Bool). s.front ++ l) t.parts ∙ sym (append_assoc s.front t.front left);
}

pub then_fault : {X Y Z : Type 0} (A : Encoding FaultKind X) (f : X → Y → Z) (B : X → Encoding FaultKind Y)
    (list mid : List Bool) (x : X) (e : Fault FaultKind) → Starts A.encodes list x mid → (B x).fault mid e → (then A f B).fault list e
then_fault A f B list mid x e s w = inr (record { value = x; rest = mid; starts = s; holds = w })

-- ---- a case of a field

module _ {X : Type 0} (C D : Type 0) (A B : Encoding FaultKind X) (list left : List Bool) (x : X) where
  pub first_starts : C → Starts A.encodes list x left → Starts (cases C A D B).encodes list x left
  first_starts c p = record { front = p.front; encoded = inl (c, p.encoded); parts = p.parts }

  pub second_starts : D → Starts B.encodes list x left → Starts (cases C A D B).encodes list x left
  second_starts d p = record { front = p.front; encoded = inr (d, p.encoded); parts = p.parts }
