-- A whole message.
use Rattle.std.proofs.Common.{◌≡◌, ℕ, ◌-◌, ◌*◌, List, [], ◌∷◌, Bool, length, take, drop, refl, sym, ◌∙◌, ap, subst, arith, inl, inr}
use Rattle.std.proofs.lemmas.List.{take_all}
use Rattle.asn1_bits.specs.Bits.{bits}
use Rattle.asn1_bits.specs.Laws.DigitLaws.{length-bits}
use Rattle.asn1_schema.specs.declared.part.Part.{Part}
use Rattle.asn1_schema.specs.declared.tables.Range.{Range}
use Rattle.asn1_schema.specs.Room.{Holds}
use Rattle.asn1_schema.specs.Encodings.{Starts, IsAt}
use Rattle.asn1_x690.specs.declared.fault.FaultKind.TheVariants.{Extra}
use Rattle.asn1_x690.specs.Laws.ValueLaws.{value_at}
use Rattle.asn1_x690_fields.specs.declared.state.State.{State}
use Rattle.asn1_x690_fields.specs.Outcomes.{rest, fault_of, IsWithin}
use Rattle.asn1_x690_fields.specs.Steps.{rest_length}
use Rattle.asn1_x690_decode.specs.declared.context.Context.{Context}
use Rattle.asn1_x690_decode.specs.Tables.{tables_of, elements}
use Rattle.asn1_x690_decode.specs.Decoding.{IsMoved, IsFound}
use Rattle.asn1_x690_decode.specs.Messages.{messages, IsComplete, IsFirstFault, IsPrefix, IsFirstFaultOfPrefix}
use Rattle.asn1_x690_decode.proofs.TagSteps.{only_done}

none_held : (ranges : List Range) (list : List Bool) (room : List Part) → Holds ranges list room 0 []
none_held ranges list [] = record { kept = refl; many = inl refl }
none_held ranges list (p ∷ room) = record { kept = refl; many = inl refl }

module _ (c : Context) (depth node : ℕ) (first : State) (at : first.at ≡ 0) (end : first.end ≡ 8 * length c.octets.now) where
  abbrev list : List Bool
  list = bits c.octets.now

  size : first.end ≡ length list
  size = end ∙ sym (length-bits c.octets.now)

  whole : rest list first ≡ list
  whole = ap (λ (n : ℕ). drop n (take first.end list)) at ∙ take_all first.end list (let e = size in omega (arith, e))

  pub within : IsWithin list first
  within = record { ends = omega (arith, at); inside = (let e = size in omega (arith, e)) }

  module _ (last : State) (was is : List Part) (m : IsMoved list first last) where
    abbrev Found : Type 0
    Found = IsFound c.tables.ranges.now (λ l xs others. Starts (elements c depth node).encoding.encodes l xs others) list first last was is

    held : (f : Found) → first.count ≡ 0 → Holds c.tables.ranges.now list is last.count f.parts
    held f none =
        subst (λ (n : ℕ). Holds c.tables.ranges.now list was n [] → Holds c.tables.ranges.now list is last.count f.parts) none (f.grown [])
        (none_held c.tables.ranges.now list was)

    pub complete : Found → first.count ≡ 0 → last.at ≡ last.end → IsComplete c depth node is last.count
    complete f none over =
        let n = rest_length list last m.inside in
        record {
          parts = f.parts;
          encoded = subst (λ (l : List Bool). (messages c depth node).fills f.parts l) whole
              (only_done Extra node (elements c depth node) list first last f.parts f.are (omega (arith, n, over)));
          value = value_at c.tables.nodes.now (tables_of c) depth node f.parts f.are.front f.are.encoded;
          held = held f none;
        }

    pub prefix : Found → first.count ≡ 0 → IsPrefix c depth node is (record { parts = last.count; bits = last.at })
    prefix f none =
        let e : last.end ≡ length list = m.same_end ∙ size in
        record {
          parts = f.parts;
          starts = subst (λ (l : List Bool). Starts (elements c depth node).encoding.encodes l f.parts (drop last.at list)) whole
              (subst (λ (l : List Bool). Starts (elements c depth node).encoding.encodes (rest list first) f.parts (drop last.at l))
              (take_all last.end list (omega (arith, e))) f.are);
          value = value_at c.tables.nodes.now (tables_of c) depth node f.parts f.are.front f.are.encoded;
          held = held f none;
        }

    same_left : (new : State) → new.at ≡ last.at → new.end ≡ last.end → new.end - new.at ≡ length list - new.at
    same_left new at' end' = let e : new.end ≡ length list = end' ∙ m.same_end ∙ size in omega (arith, e)

    pub fault_of_message : (elements c depth node).encoding.fault (rest list first) (fault_of last)
        → IsFirstFault c depth node (record { node = last.node; at = last.at; parts = last.count; kind = last.kind })
    fault_of_message w =
        subst (λ (n : ℕ). (messages c depth node).fault list (record { node = last.node; left = n; kind = last.kind }))
        (same_left last refl refl)
        (subst (λ (l : List Bool). (messages c depth node).fault l (fault_of last)) whole (inl w))

    pub fault_of_prefix : (elements c depth node).encoding.fault (rest list first) (fault_of last)
        → IsFirstFaultOfPrefix c depth node (record { node = last.node; at = last.at; parts = last.count; kind = last.kind })
    fault_of_prefix w =
        subst (λ (n : ℕ). (elements c depth node).encoding.fault list (record { node = last.node; left = n; kind = last.kind }))
        (same_left last refl refl)
        (subst (λ (l : List Bool). (elements c depth node).encoding.fault l (fault_of last)) whole w)

    pub extra_of_message : Found → (new : State) → (last.at ≡ last.end → ⊥) → new.at ≡ last.at → new.end ≡ last.end
        → IsAt Extra node (rest list last) (fault_of new)
        → IsFirstFault c depth node (record { node = new.node; at = new.at; parts = new.count; kind = new.kind })
    extra_of_message f new not at' end' here =
        let n = rest_length list last m.inside in
        let ends = m.ends in
        subst (λ (k : ℕ). (messages c depth node).fault list (record { node = new.node; left = k; kind = new.kind }))
        (same_left new at' end')
        (subst (λ (l : List Bool). (messages c depth node).fault l (fault_of new)) whole
        (inr (record { value = f.parts; rest = rest list last; starts = f.are; holds = (omega (arith, n, ends, not), here) })))
