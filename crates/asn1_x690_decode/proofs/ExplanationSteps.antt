-- An element at an index of a message, and an index at which no element begins.
use Rattle.std.proofs.Common.{◌≡◌, ℕ, ◌-◌, ◌*◌, ◌≤◌, Bool, List, length, take, drop, refl, ◌∙◌, ap, subst, arith, inl, Option, Some, None}
use Rattle.std.specs.Prelude.{IfSome, IfNone}
use Rattle.std.proofs.lemmas.List.{take_all, length-take-le, length-drop}
use Rattle.asn1_bits.specs.Bits.{bits}
use Rattle.asn1_bits.specs.Laws.DigitLaws.{length-bits}
use Rattle.asn1_schema.specs.Encodings.{Starts}
use Rattle.asn1_x690.specs.declared.fault.FaultKind.TheVariants.{Short}
use Rattle.asn1_x690.specs.Elements.{any_element}
use Rattle.asn1_x690_fields.specs.declared.header.Header.{Header}
use Rattle.asn1_x690_fields.specs.declared.state.State.{State}
use Rattle.asn1_x690_fields.specs.Outcomes.{rest, fault_of, IsWithin, IsOnward, IsHeader, IsReadAs}
use Rattle.asn1_x690_fields.specs.Steps.{rest_length}
use Rattle.asn1_x690_decode.specs.Explanations.{IsElementAt, HasNoElementAt}

-- a decoder before a bit of the octets
abbrev pub state_at : List ℕ → ℕ → State
state_at octets at = record { at = at; end = 8 * length octets; count = 0; node = 0; kind = Short }

module _ (octets : List ℕ) (at : ℕ) where
  abbrev list : List Bool
  list = bits octets

  whole : take (8 * length octets) list ≡ list
  whole = take_all (8 * length octets) list (let e = length-bits octets in omega (arith, e))

  pub within : at ≤ 8 * length octets → IsWithin list (state_at octets at)
  within inside = record { ends = inside; inside = (let e = length-bits octets in omega (arith, e)) }

  abbrev IsRead : State → Option Header → Type 0
  IsRead after r = IsReadAs (any_element 0) (IsHeader list) list (state_at octets at) after r

  element_of : (after : State) (h : Header) → IsOnward list (state_at octets at) after → h.from ≤ h.to → h.to ≡ after.at
      → IsRead after (Some h) → IsElementAt octets at h.from h.to h.identifier
  element_of after h on ordered ends r =
      let size = rest_length list after on.inside in
      let many : h.to - h.from ≤ length (drop h.from list) = omega (arith, length-drop h.from list) in
      let contents = ap length r.1.contents ∙ length-take-le (h.to - h.from) (drop h.from list) many in
      record {
        element = r.0;
        after = rest list after;
        starts = subst (λ (l : List Bool). Starts (any_element 0).encodes (drop at l) r.0 (rest list after)) whole r.2;
        identifier = r.1.identifier;
        contents = omega (arith, contents);
        ends = (let e = length-bits octets in omega (arith, e, size));
      }

  pub found : (after : State) (r : Option Header) → IsOnward list (state_at octets at) after → IfSome r (λ h. h.from ≤ h.to)
      → IfSome r (λ h. h.to ≡ after.at) → IsRead after r → IfSome r (λ h. IsElementAt octets at h.from h.to h.identifier)
  found after None on ordered ends r = tt
  found after (Some h) on ordered ends r = element_of after h on ordered ends r

  pub absent : (after : State) (r : Option Header) → IsRead after r → IfNone r (HasNoElementAt octets at)
  absent after None r =
      (fault_of after, subst (λ (l : List Bool). (any_element 0).fault (drop at l) (fault_of after)) whole r)
  absent after (Some h) r = tt

  -- octets are missing
  pub past : 8 * length octets ≤ at → HasNoElementAt octets at
  past over =
      let few = length-drop at list in
      let e = length-bits octets in
      (record { node = 0; left = length (drop at list); kind = Short }, inl (inl (omega (arith, few, e), refl)))
