-- Steps over a message.
use Rattle.std.proofs.Common.{◌≡◌, ℕ, ◌-◌, ◌*◌, List, [], Bool, length, take, drop, refl, sym, ◌∙◌, ap, subst, arith, inl}
use Rattle.std.proofs.lemmas.List.{take_all}
use Rattle.asn1_bits.specs.Bits.{bits}
use Rattle.asn1_bits.specs.Laws.DigitLaws.{length-bits}
use Rattle.asn1_schema.specs.declared.part.Part.{Part}
use Rattle.asn1_schema.specs.declared.tables.Range.{Range}
use Rattle.asn1_schema.specs.Encodings.{Fault, Starts}
use Rattle.asn1_x691.specs.declared.fault.FaultKind.{FaultKind}
use Rattle.asn1_schema.specs.Laws.ValueLaws.{GivesValues}
use Rattle.asn1_x691.specs.OpenTypes.{complete}
use Rattle.asn1_x691.specs.Laws.ValueLaws.{value_at, complete_gives}
use Rattle.asn1_x691_fields.specs.declared.state.State.{State}
use Rattle.asn1_x691_fields.specs.Outcomes.{rest, position, fault_of, IsWithin, IsMoved}
use Rattle.asn1_x691_decode.specs.declared.context.Context.{Context}
use Rattle.asn1_schema.specs.Room.{Holds}
use Rattle.asn1_x691_decode.specs.Decoding.{IsDecoded, IsFilled, types, decoder_limits, defaults_in}
use Rattle.asn1_x691_decode.specs.Messages.{named, IsComplete, IsFirstFault, IsPrefix, IsFirstFaultOfPrefix}

pub holds_none : (ranges : List Range) (list : List Bool) (room : List Part) → Holds ranges list room 0 []
holds_none ranges list room = record { kept = sym (take_all (length room) [] (omega arith)); many = inl refl }

module _ (c : Context) (s : State) (at : s.at ≡ 0) (first : s.first ≡ 0) (end : s.end ≡ 8 * length c.octets.now) where
  abbrev list : List Bool
  list = bits c.octets.now

  pub begins_within : IsWithin list s
  begins_within = record {
    begins = omega (arith, at, first);
    ends = omega (arith, at, end);
    inside = omega (arith, end, length-bits c.octets.now);
  }

  pub the_whole : rest list s ≡ list
  the_whole = ap (λ (n : ℕ). drop n (take s.end list)) at ∙ take_all s.end list (omega (arith, end, length-bits c.octets.now))

  pub no_position : position s ≡ 0
  no_position = omega (arith, at, first)

  -- how many bits are left, for the message
  pub same_name : (new : State) → IsMoved list s new
      → fault_of new ≡ named c (record { node = new.node; at = new.at; parts = new.count; kind = new.kind })
  same_name new g =
      let e : new.end - new.at ≡ length list - new.at = omega (arith, g.same_end, end, length-bits c.octets.now) in
      rw e refl

  gives_one : (depth node : ℕ) → GivesValues 1 (types c depth node)
  gives_one depth node = value_at decoder_limits c.is_aligned c.tables.nodes.now c.tables.members.now c.tables.ranges.now (defaults_in c) depth node

  pub complete_message : (depth node : ℕ) (new : State) (was now : List Part) → s.count ≡ 0
      → IsFilled c.tables.ranges.now (complete node (types c depth node)).fills list s new was now → IsComplete c depth node now new.count
  complete_message depth node new was now none f = record {
    parts = f.parts;
    encodes = subst (λ (l : List Bool). (complete node (types c depth node)).fills f.parts l) the_whole f.fills;
    value = complete_gives node (types c depth node) (gives_one depth node) f.parts (rest list s) f.fills;
    held = f.grown [] (subst (λ (n : ℕ). Holds c.tables.ranges.now list was n []) (sym none) (holds_none c.tables.ranges.now list was));
  }

  pub fault_message : (depth node : ℕ) (new : State) → IsMoved list s new
      → (complete node (types c depth node)).fault (rest list s) (fault_of new)
      → IsFirstFault c depth node (record { node = new.node; at = new.at; parts = new.count; kind = new.kind })
  fault_message depth node new g w =
      (subst (λ (e : Fault FaultKind). (complete node (types c depth node)).fault list e) (same_name new g)
      (subst (λ (l : List Bool). (complete node (types c depth node)).fault l (fault_of new)) the_whole w))

  pub prefix_message : (depth node : ℕ) (new : State) (was now : List Part) → s.count ≡ 0 → IsMoved list s new
      → IsDecoded c.tables.ranges.now (types c depth node (position s)).encoding.encodes list s new was now
      → IsPrefix c depth node now (record { parts = new.count; bits = new.at })
  prefix_message depth node new was now none g d =
      let e : rest list new ≡ drop new.at list =
      ap (drop new.at) (take_all new.end list (omega (arith, g.same_end, end, length-bits c.octets.now))) in
      record {
        parts = d.parts;
        starts = subst (λ (n : ℕ). Starts (types c depth node n).encoding.encodes list d.parts (drop new.at list)) no_position
            (subst (λ (l : List Bool). Starts (types c depth node (position s)).encoding.encodes l d.parts (drop new.at list)) the_whole
            (subst (λ (l : List Bool). Starts (types c depth node (position s)).encoding.encodes (rest list s) d.parts l) e d.starts));
        value = gives_one depth node (position s) d.parts d.starts.front d.starts.encoded;
        held = d.grown [] (subst (λ (n : ℕ). Holds c.tables.ranges.now list was n []) (sym none) (holds_none c.tables.ranges.now list was));
      }

  pub prefix_fault : (depth node : ℕ) (new : State) → IsMoved list s new
      → (types c depth node (position s)).encoding.fault (rest list s) (fault_of new)
      → IsFirstFaultOfPrefix c depth node (record { node = new.node; at = new.at; parts = new.count; kind = new.kind })
  prefix_fault depth node new g w =
      (subst (λ (e : Fault FaultKind). (types c depth node 0).encoding.fault list e) (same_name new g)
      (subst (λ (n : ℕ). (types c depth node n).encoding.fault list (fault_of new)) no_position
      (subst (λ (l : List Bool). (types c depth node (position s)).encoding.fault l (fault_of new)) the_whole w)))
