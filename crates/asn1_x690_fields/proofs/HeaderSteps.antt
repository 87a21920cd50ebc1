-- Identifiers and headers of elements.
use Rattle.std.proofs.Common.{◌≡◌, ℕ, ◌+◌, ◌-◌, ◌*◌, ◌/◌, ◌%◌, ◌^◌, ◌<◌, ◌≤◌, List, [], ◌++◌, Bool, length, take, drop, refl, ◌∙◌, ap, subst, arith, inl, inr, Some}
use Rattle.std.proofs.Math.Seq.{take-add}
use Rattle.std.proofs.lemmas.List.{drop-drop}
use Rattle.asn1_bits.specs.Bits.{number as number_of}
use Rattle.asn1_bits.specs.Laws.NumberLaws.{number-append, number-lt}
use Rattle.asn1_schema.specs.Encodings.{Fault, Starts, number}
use Rattle.asn1_schema.specs.Fields.{raw_bits}
use Rattle.asn1_schema.specs.PiecesOfParts.{bits_at}
use Rattle.asn1_x690.specs.declared.fault.FaultKind.{FaultKind}
use Rattle.asn1_x690.specs.declared.fault.FaultKind.TheVariants.{Short}
use Rattle.asn1_x690.specs.declared.tables.Identifier.{Identifier}
use Rattle.asn1_x690.specs.Elements.{identifier_of, long_number, number_after, identifier, length_after, length_octets, contents_after, any_element}
use Rattle.asn1_x690_fields.specs.declared.state.State.{State}
use Rattle.asn1_x690_fields.specs.declared.identifier.FoundIdentifier.{FoundIdentifier}
use Rattle.asn1_x690_fields.specs.Outcomes.{rest, fault_of, IsReadAs, IsIdentifier, IsLength, IsHeader, IsElement}
use Rattle.asn1_x690_fields.specs.Steps.{front_length, number_starts, bits_start, then_starts, then_fault}

-- ---- identifiers

module _ (node first : ℕ) (list mid : List Bool) (s : Starts (number 8 Short node).encodes list first mid) where
  -- a number in the first octet
  pub short_identifier : first % 32 < 31 → Starts (identifier node).encodes list (identifier_of first (first % 32)) mid
  short_identifier low =
      then_starts (number 8 Short node) identifier_of (λ f. number_after node f) list mid mid first (first % 32) s
      (record { front = []; encoded = inl (low, (refl, refl)); parts = refl })

  pub long_identifier : (n : ℕ) (left : List Bool) → first % 32 ≡ 31 → Starts (long_number node).encodes mid n left
      → Starts (identifier node).encodes list (identifier_of first n) left
  long_identifier n left high t =
      then_starts (number 8 Short node) identifier_of (λ f. number_after node f) list mid left first n s
      (record { front = t.front; encoded = inr (high, t.encoded); parts = t.parts })

  pub long_identifier_fault : (e : Fault FaultKind) → first % 32 ≡ 31 → (long_number node).fault mid e → (identifier node).fault list e
  long_identifier_fault e high w =
      then_fault (number 8 Short node) identifier_of (λ f. number_after node f) list mid first e s (inr (high, w))

-- ---- elements

module _ (node : ℕ) (list mid : List Bool) (id : Identifier) (s : Starts (identifier node).encodes list id mid) where
  pub length_fault : (e : Fault FaultKind) → (length_octets node).fault mid e → (any_element node).fault list e
  length_fault e w =
      then_fault {Z = Identifier × List Bool} (identifier node) (λ i c. (i, c)) (λ i. contents_after node) list mid id e s (inl w)

  module _ (n : ℕ) (next : List Bool) (t : Starts (length_octets node).encodes mid n next) where
    pub contents_fault : (e : Fault FaultKind) → (raw_bits (8 * n) Short node).fault next e → (any_element node).fault list e
    contents_fault e w =
        then_fault {Z = Identifier × List Bool} (identifier node) (λ i c. (i, c)) (λ i. contents_after node) list mid id e s
        (then_fault (length_octets node) (λ m c. c) (λ m. raw_bits (8 * m) Short node) mid next n e t w)

    pub element_starts : (c left : List Bool) → Starts (raw_bits (8 * n) Short node).encodes next c left
        → Starts (any_element node).encodes list (id, c) left
    element_starts c left u =
        then_starts (identifier node) (λ i c. (i, c)) (λ i. contents_after node) list mid left id c s
        (then_starts (length_octets node) (λ m c. c) (λ m. raw_bits (8 * m) Short node) mid next left n c t u)

-- ---- contents octets after a length

pub raw_fault : (m n node : ℕ) (list : List Bool) (e : Fault FaultKind) → m ≤ n → (raw_bits (8 * m) Short node).fault list e
    → (raw_bits (8 * n) Short node).fault list e
raw_fault m n node list e le (inl p) = inl (omega (arith, p.0, le), p.1)
raw_fault m n node list e le (inr p) = absurd p.1.1

-- a length that octets of the message have is no greater one
pub same_length : (shown n at end size : ℕ) → IsLength shown n → at + 8 * shown ≤ end → end ≤ size → size < 2 ^ 64 → shown ≡ n
same_length shown n at end size (le, inl p) within inside few = p
same_length shown n at end size (le, inr p) within inside few = absurd (omega (arith, p, within, inside, few))

module _ (node : ℕ) (list : List Bool) (old mid next new : State) (found : FoundIdentifier) (count : ℕ)
    (i : IsReadAs (identifier node) IsIdentifier list old mid (Some found))
    (l : IsReadAs (length_octets node) IsLength list mid next (Some count)) where
  pub header_fault : (raw_bits (8 * count) Short node).fault (rest list next) (fault_of new)
      → (any_element node).fault (rest list old) (fault_of new)
  header_fault w =
      contents_fault node (rest list old) (rest list mid) i.0 i.2 l.0 (rest list next) l.2 (fault_of new)
      (raw_fault count l.0 node (rest list next) (fault_of new) l.1.0 w)

  pub header_read : (at end size : ℕ) → at + 8 * count ≤ end → end ≤ size → size < 2 ^ 64 → new.at ≡ at + 8 * count
      → Starts (raw_bits (8 * count) Short node).encodes (rest list next) (bits_at list at (8 * count)) (rest list new)
      → (v : Identifier × List Bool) × IsHeader list (record { identifier = found; from = at; to = new.at }) v
      × Starts (any_element node).encodes (rest list old) v (rest list new)
  header_read at end size within inside few to s =
      let same = same_length count l.0 at end size l.1 within inside few in
      let t : 8 * count ≡ new.at - at = omega (arith, to) in (
        (i.0, bits_at list at (8 * count)),
        record { identifier = i.1; contents = ap (λ (n : ℕ). bits_at list at n) t },
        element_starts node (rest list old) (rest list mid) i.0 i.2 l.0 (rest list next) l.2 (bits_at list at (8 * count)) (rest list new)
            (subst (λ (n : ℕ). Starts (raw_bits (8 * n) Short node).encodes (rest list next) (bits_at list at (8 * count)) (rest list new)) same s),
      )

-- ---- an element with a header of two octets

-- the number of two octets by each of them
record AreTwo (both first second : ℕ) : Type 0 where
  is_first : both / 256 ≡ first
  is_second : both % 256 ≡ second

two_octets : (list : List Bool) (at both : ℕ) → at + 16 ≤ length list → both ≡ number_of (take 16 (drop at list))
    → AreTwo both (number_of (take 8 (drop at list))) (number_of (take 8 (drop (at + 8) list)))
two_octets list at both h is =
    let second = take 8 (drop (at + 8) list) in
    let size : length second ≡ 8 = front_length list (at + 8) 8 (omega (arith, h)) in
    let below : number_of second < 256 = subst (λ (n : ℕ). number_of second < 2 ^ n) size (number-lt second) in
    let e : both ≡ number_of (take 8 (drop at list)) * 256 + number_of second =
    is ∙ ap number_of (take-add 8 8 (drop at list) ∙ ap (λ (l : List Bool). take 8 (drop at list) ++ take 8 l) (drop-drop 8 at list))
    ∙ number-append (take 8 (drop at list)) second
    ∙ ap (λ (n : ℕ). number_of (take 8 (drop at list)) * 2 ^ n + number_of second) size in
    record { is_first = omega (arith, e, below); is_second = omega (arith, e, below) }

pub short_element : (list : List Bool) (s : State) (node both : ℕ) (found : FoundIdentifier) → s.at + 16 + 8 * (both % 256) ≤ s.end
    → s.end ≤ length list → both ≡ number_of (take 16 (drop s.at list)) → both / 256 % 32 < 31 → both % 256 < 128
    → IsIdentifier found (identifier_of (both / 256) (both / 256 % 32))
    → IsElement list (rest list s) node (record { identifier = found; from = s.at + 16; to = s.at + 16 + 8 * (both % 256) })
    (drop (s.at + 16 + 8 * (both % 256)) (take s.end list))
short_element list s node both found ends inside is low few shown =
    let first = both / 256 in
    let count = both % 256 in
    let two = two_octets list s.at both (omega (arith, ends, inside)) is in
    let mid : State = record { at = s.at + 8; end = s.end; count = s.count; node = s.node; kind = s.kind } in
    let next : State = record { at = s.at + 8 + 8; end = s.end; count = s.count; node = s.node; kind = s.kind } in
    let i = short_identifier node first (rest list s) (rest list mid)
    (number_starts list s 8 node (omega (arith, ends)) inside first two.is_first) low in
    let l : Starts (length_octets node).encodes (rest list mid) count (rest list next) =
    then_starts (number 8 Short node) (λ f n. n) (λ f. length_after node f) (rest list mid) (rest list next) (rest list next) count count
    (number_starts list mid 8 node (omega (arith, ends)) inside count two.is_second)
    (record { front = []; encoded = inl (few, (refl, refl)); parts = refl }) in
    let c = bits_start list next (8 * count) node (omega (arith, ends)) inside in
    let same : s.at + 8 + 8 ≡ s.at + 16 = omega arith in
    let e : 8 * count ≡ s.at + 16 + 8 * count - (s.at + 16) = omega arith in (
      (identifier_of first (first % 32), bits_at list (s.at + 16) (8 * count)),
      record { identifier = shown; contents = ap (λ (n : ℕ). bits_at list (s.at + 16) n) e },
      subst (λ (n : ℕ). Starts (any_element node).encodes (rest list s) (identifier_of first (first % 32), bits_at list n (8 * count))
          (drop (n + 8 * count) (take s.end list))) same
          (element_starts node (rest list s) (rest list mid) (identifier_of first (first % 32)) i count (rest list next) l
          (take (8 * count) (drop next.at list)) (drop (next.at + 8 * count) (take s.end list)) c),
    )
