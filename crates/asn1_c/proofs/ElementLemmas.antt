-- Elements of DER that lie in octets.
use Rattle.std.proofs.Common.{◌≡◌, ⊎_elim, ℕ, ◌+◌, ◌-◌, ◌*◌, ◌/◌, ◌%◌, ◌<◌, ◌≤◌, Bool, List, [], ◌∷◌, ◌++◌, length, take, drop, Option, Some, None, refl, sym, ap, subst, ◌∙◌, arith}
use Rattle.std.proofs.Math.Seq.{take-append_seam}
use Rattle.std.proofs.lemmas.List.{length-append, length-drop, length-take, take_all, append_assoc}
use Rattle.asn1_bits.specs.Bits.{bits}
use Rattle.asn1_bits.specs.Laws.DigitLaws.{length-bits, length-digits, bits-drop, bits-take}
use Rattle.asn1_schema.specs.Encodings.{Starts, IsNumber}
use Rattle.asn1_schema.specs.PiecesOfParts.{bits_at}
use Rattle.asn1_x690.specs.declared.fault.FaultKind.TheVariants.{Short}
use Rattle.asn1_x690.specs.declared.tables.Identifier.{Identifier}
use Rattle.asn1_x690.specs.Elements.{long_number, identifier, long_length, length_after, length_octets, any_element}
use Rattle.asn1_x690.specs.Series.{IsSeries}
use Rattle.asn1_x690_fields.specs.declared.header.Header.{Header}
use Rattle.asn1_x690_fields.specs.declared.state.State.{State}
use Rattle.asn1_x690_fields.specs.Outcomes.{rest, fault_of, IsWithin, IsOnward, IsReadAs, IsShown, IsHeader}
use Rattle.asn1_c.specs.Elements.{part, class_number, fault_code, IsElementAt, IsElementFaultAt, HasLargeTagAt}

number_size : (width n : ℕ) (list : List Bool) → IsNumber width n list → length list ≡ width
number_size width n list p = ap length p.1 ∙ length-digits n width

series_size : (More Last : ℕ → Type 0) (values : List ℕ) (list : List Bool) → IsSeries (λ n l. IsNumber 8 n l) More Last values list
    → length list % 8 ≡ 0
series_size More Last [] list h = absurd h
series_size More Last (x ∷ xs) list h =
    ⊎_elim
    (λ a. let e : length list ≡ 8 = number_size 8 x list a.1 in omega (arith, e))
    (λ b. let e : length b.1.0 ≡ 8 = number_size 8 x b.1.0 b.1.2 in
    let f : length b.1.1 % 8 ≡ 0 = series_size More Last xs b.1.1 b.1.3 in
    let g : length list ≡ length b.1.0 + length b.1.1 = ap length b.1.4 ∙ length-append b.1.0 b.1.1 in
    omega (arith, e, f, g))
    h

long_number_size : (n : ℕ) (list : List Bool) → (long_number 0).encodes n list → length list % 8 ≡ 0
long_number_size n list p =
    let front : length p.front % 8 ≡ 0 = series_size (λ octet. 128 ≤ octet) (λ octet. octet < 128) p.value p.front p.first in
    let none : length p.rest ≡ 0 = ⊎_elim (λ a. ap length a.1.1) (λ b. absurd b.1) p.second in
    let sum : length list ≡ length p.front + length p.rest = ap length p.parts ∙ length-append p.front p.rest in
    omega (arith, front, none, sum)

identifier_size : (id : Identifier) (list : List Bool) → (identifier 0).encodes id list → length list % 8 ≡ 0
identifier_size id list p =
    let front : length p.front ≡ 8 = number_size 8 p.value p.front p.first in
    let rest : length p.rest % 8 ≡ 0 =
    ⊎_elim (λ a. let e : length p.rest ≡ 0 = ap length a.1.1 in omega (arith, e)) (λ b. long_number_size p.after p.rest b.1) p.second in
    let sum : length list ≡ length p.front + length p.rest = ap length p.parts ∙ length-append p.front p.rest in
    omega (arith, front, rest, sum)

long_length_size : (octets n : ℕ) (list : List Bool) → (long_length 0 octets).encodes n list → length list % 8 ≡ 0
long_length_size octets n list p =
    let front : length p.front ≡ 8 * octets = number_size (8 * octets) p.value p.front p.first in
    let none : length p.rest ≡ 0 = ⊎_elim (λ a. ap length a.1.1) (λ b. absurd b.1) p.second in
    let sum : length list ≡ length p.front + length p.rest = ap length p.parts ∙ length-append p.front p.rest in
    omega (arith, front, none, sum)

after_size : (first n : ℕ) (list : List Bool) → (length_after 0 first).encodes n list → length list % 8 ≡ 0
after_size first n list h =
    ⊎_elim (λ a. let e : length list ≡ 0 = ap length a.1.1 in omega (arith, e))
    (λ b. ⊎_elim (λ c. absurd c.1) (λ d. ⊎_elim (λ e. absurd e.1) (λ f. long_length_size (first - 128) n list f.1) d.1) b.1)
    h

length_size : (n : ℕ) (list : List Bool) → (length_octets 0).encodes n list → length list % 8 ≡ 0
length_size n list p =
    let front : length p.front ≡ 8 = number_size 8 p.value p.front p.first in
    let rest : length p.rest % 8 ≡ 0 = after_size p.value p.after p.rest p.second in
    let sum : length list ≡ length p.front + length p.rest = ap length p.parts ∙ length-append p.front p.rest in
    omega (arith, front, rest, sum)

-- the header and the contents octets of an element, both whole octets
record Halves (v : Identifier × List Bool) (list : List Bool) : Type 0 where
  head : List Bool
  parts : list ≡ head ++ v.1
  header : length head % 8 ≡ 0
  contents : length v.1 % 8 ≡ 0

halves : (v : Identifier × List Bool) (list : List Bool) → (any_element 0).encodes v list → Halves v list
halves v list p =
    let q = p.second in
    let c : v.1 ≡ q.rest = ap (λ (w : Identifier × List Bool). w.1) p.is ∙ (q.is ∙ q.second.1) in
    let few : length v.1 ≡ length q.rest = ap length c in
    let many = q.second.0 in
    let same : length q.after ≡ length q.rest = ap length q.second.1 in
    let a : length p.front % 8 ≡ 0 = identifier_size p.value p.front p.first in
    let b : length q.front % 8 ≡ 0 = length_size q.value q.front q.first in
    let sum : length (p.front ++ q.front) ≡ length p.front + length q.front = length-append p.front q.front in
    record {
      head = p.front ++ q.front;
      parts = p.parts ∙ ap (λ (l : List Bool). p.front ++ l) (q.parts ∙ ap (λ (l : List Bool). q.front ++ l) (sym c))
          ∙ sym (append_assoc p.front q.front v.1);
      header = omega (arith, a, b, sum);
      contents = omega (arith, few, many, same);
    }

-- where an element and its contents octets lie
pub record Lies (v : Identifier × List Bool) (octets : List ℕ) (position first count end : ℕ) : Type 0 where
  pub begins : position ≤ first
  pub ends : first + count ≡ end
  pub within : end ≤ length octets
  pub encoded : (any_element 0).encodes (v.0, bits (part octets first count)) (bits (part octets position (end - position)))

pub lies : (v : Identifier × List Bool) (octets : List ℕ) (position from to : ℕ) → position ≤ length octets → from ≤ to
    → to ≤ 8 * length octets → v.1 ≡ bits_at (bits octets) from (to - from)
    → Starts (any_element 0).encodes (bits (drop position octets)) v (drop to (bits octets))
    → Lies v octets position (from / 8) ((to - from) / 8) (to / 8)
lies v octets position from to inside ordered within at s =
    let h = halves v s.front s.encoded in
    let head : List Bool = h.head in
    let header = h.header in
    let whole = h.contents in
    let all : 8 * length (drop position octets) ≡ length s.front + length (drop to (bits octets)) =
    sym (length-bits (drop position octets)) ∙ ap length s.parts ∙ length-append s.front (drop to (bits octets)) in
    let left : length (drop position octets) ≡ length octets - position = length-drop position octets in
    let total : length (bits octets) ≡ 8 * length octets = length-bits octets in
    let others : length (drop to (bits octets)) ≡ length (bits octets) - to = length-drop to (bits octets) in
    let behind : length (drop from (bits octets)) ≡ length (bits octets) - from = length-drop from (bits octets) in
    let size : length v.1 ≡ to - from =
    ap length at ∙ omega (arith, length-take (to - from) (drop from (bits octets)), behind, total, within, ordered) in
    let sum : length s.front ≡ length head + length v.1 = ap length h.parts ∙ length-append head v.1 in
    let from_is : 8 * (from / 8) ≡ from = omega arith in
    let count_is : 8 * ((to - from) / 8) ≡ to - from = omega arith in
    let front_is : 8 * (to / 8 - position) ≡ length s.front = omega arith in
    let inner : bits (part octets (from / 8) ((to - from) / 8)) ≡ v.1 =
    bits-take ((to - from) / 8) (drop (from / 8) octets)
    ∙ ap (λ (l : List Bool). take (8 * ((to - from) / 8)) l) (bits-drop (from / 8) octets)
    ∙ ap (λ (k : ℕ). take (8 * ((to - from) / 8)) (drop k (bits octets))) from_is
    ∙ ap (λ (k : ℕ). take k (drop from (bits octets))) count_is ∙ sym at in
    let outer : bits (part octets position (to / 8 - position)) ≡ s.front =
    bits-take (to / 8 - position) (drop position octets)
    ∙ ap (λ (k : ℕ). take k (bits (drop position octets))) front_is
    ∙ ap (λ (l : List Bool). take (length s.front) l) s.parts
    ∙ take-append_seam s.front (drop to (bits octets)) in
    record {
      begins = omega arith;
      ends = omega arith;
      within = omega arith;
      encoded = subst (λ (l : List Bool). (any_element 0).encodes (v.0, bits (part octets (from / 8) ((to - from) / 8))) l) (sym outer)
          (subst (λ (l : List Bool). (any_element 0).encodes (v.0, l) s.front) (sym inner) s.encoded);
    }

-- the state in which an element is read from a position on
abbrev pub start : List ℕ → ℕ → State
start octets position = record { at = 8 * position; end = 8 * length octets; count = 0; node = 0; kind = Short }

pub within : (octets : List ℕ) (position : ℕ) → position ≤ length octets → IsWithin (bits octets) (start octets position)
within octets position le = record { ends = omega arith; inside = omega (arith, length-bits octets) }

left : (octets : List ℕ) (position : ℕ) → rest (bits octets) (start octets position) ≡ bits (drop position octets)
left octets position =
    ap (λ (l : List Bool). drop (8 * position) l) (take_all (8 * length octets) (bits octets) (omega (arith, length-bits octets)))
    ∙ sym (bits-drop position octets)

abbrev IsRead : List ℕ → ℕ → State → Option Header → Type 0
IsRead octets position s r = IsReadAs (any_element 0) (IsHeader (bits octets)) (bits octets) (start octets position) s r

pub fault_at : (octets : List ℕ) (position : ℕ) (s : State) → IsRead octets position s None
    → IsElementFaultAt octets position (fault_code s.kind)
fault_at octets position s read = record {
  fault = fault_of s;
  named = refl;
  first = subst (λ (l : List Bool). (any_element 0).fault l (fault_of s)) (left octets position) read;
}

pub large_at : (octets : List ℕ) (position : ℕ) (s : State) (h : Header) → IsRead octets position s (Some h)
    → h.identifier.number ≡ None → HasLargeTagAt octets position
large_at octets position s h read none = record {
  element = read.0;
  rest = rest (bits octets) s;
  starts = subst (λ (l : List Bool). Starts (any_element 0).encodes l read.0 (rest (bits octets) s)) (left octets position) read.2;
  large = subst (λ (n : Option ℕ). IsShown n read.0.0.tag.number) none read.1.identifier.number;
}

pub element_at : (octets : List ℕ) (position class n : ℕ) (s : State) (h : Header) → position ≤ length octets
    → h.from ≤ h.to → h.to ≡ s.at → IsOnward (bits octets) (start octets position) s
    → IsRead octets position s (Some h) → h.identifier.number ≡ Some n → class ≡ class_number h.identifier.class
    → IsElementAt octets position record {
      class = class;
      constructed = h.identifier.is_constructed;
      number = n;
      first = h.from / 8;
      length = (h.to - h.from) / 8;
      end = h.to / 8;
    }
element_at octets position class n s h le ordered ends onward read some is_class =
    let v : Identifier × List Bool = read.0 in
    let shown = read.1 in
    let total = length-bits octets in
    let end : s.end ≡ 8 * length octets = onward.same_end in
    let inside = onward.ends in
    let others : rest (bits octets) s ≡ drop h.to (bits octets) =
    ap (λ (l : List Bool). drop s.at l) (take_all s.end (bits octets) (omega arith))
    ∙ ap (λ (k : ℕ). drop k (bits octets)) (sym ends) in
    let starts : Starts (any_element 0).encodes (bits (drop position octets)) v (drop h.to (bits octets)) =
    subst (λ (l : List Bool). Starts (any_element 0).encodes (bits (drop position octets)) v l) others
    (subst (λ (l : List Bool). Starts (any_element 0).encodes l v (rest (bits octets) s)) (left octets position) read.2) in
    let there = lies v octets position h.from h.to le ordered (omega arith) shown.contents starts in
    record {
      identifier = v.0;
      class = is_class ∙ ap class_number shown.identifier.class;
      constructed = shown.identifier.form;
      number = (subst (λ (m : Option ℕ). IsShown m v.0.tag.number) some shown.identifier.number).0;
      begins = there.begins;
      ends = there.ends;
      within = there.within;
      encoded = there.encoded;
    }
