-- Steps over a value of whose bits a property must not hold.
use Rattle.std.proofs.Common.{◌≡◌, ℕ, ◌+◌, ◌-◌, List, ◌++◌, Bool, length, take, drop, refl, sym, ◌∙◌, ap, arith, inr}
use Rattle.asn1_bits.specs.Bits.{bits}
use Rattle.asn1_schema.specs.declared.misfit.MisfitKind.{MisfitKind}
use Rattle.asn1_schema.specs.declared.part.Part.{Part}
use Rattle.asn1_schema.specs.PiecesOfParts.{bits_at}
use Rattle.asn1_schema.specs.Encodings.{Starts, IsAt}
use Rattle.asn1_schema.specs.TypeEncodings.{TypeEncoding, except_type}
use Rattle.asn1_schema.specs.Laws.EncodingLaws.{same_fronts}
use Rattle.asn1_x691.specs.declared.fault.FaultKind.{FaultKind}
use Rattle.asn1_x691_fields.specs.declared.state.State.{State}
use Rattle.asn1_x691_fields.specs.Outcomes.{rest, fault_of, IsWithin, IsMoved}
use Rattle.asn1_x691_fields.specs.Steps.{split, front_length, step_position}
use Rattle.asn1_x691_decode.specs.declared.context.Context.{Context}
use Rattle.asn1_x691_decode.specs.Decoding.{IsDecoded}

-- the bits that encode a value are those of the message between two indexes
pub front_bits : (list : List Bool) (old mid : State) → IsWithin list old → IsMoved list old mid → {X : Type 0}
    → (P : X → List Bool → Type 0) (x : X) → (s : Starts P (rest list old) x (rest list mid))
    → s.front ≡ bits_at list old.at (mid.at - old.at)
front_bits list old mid h g P x s =
    let width = mid.at - old.at in
    let place = step_position list old mid h g P x s in
    let size : mid.at ≡ old.at + length s.front = omega (arith, place, g.same_first, g.on, h.begins) in
    let ends : old.at + width ≡ mid.at = omega (arith, g.on) in
    let cut = split list old.at width old.end (omega (arith, ends, g.ends, g.same_end)) in
    let same : drop (old.at + width) (take old.end list) ≡ rest list mid =
    ap (λ (n : ℕ). drop n (take old.end list)) ends ∙ ap (λ (n : ℕ). drop mid.at (take n list)) (sym g.same_end) in
    let whole : s.front ++ rest list mid ≡ bits_at list old.at width ++ rest list mid =
    sym s.parts ∙ cut ∙ ap (λ (l : List Bool). bits_at list old.at width ++ l) same in
    let long = front_length list old.at width (omega (arith, ends, g.ends, g.inside)) in
    (same_fronts s.front (bits_at list old.at width) (rest list mid) (rest list mid) whole (omega (arith, size, long, g.on))).0

module _ (c : Context) (C : List Bool → Type 0) (kind : FaultKind) (misfit : MisfitKind) (node : ℕ) (A : TypeEncoding FaultKind) where
  abbrev list : List Bool
  list = bits c.octets.now

  abbrev pub other_decoded : (old mid : State) (was is : List Part)
      → (d : IsDecoded c.tables.ranges.now A.encoding.encodes list old mid was is) → (C d.starts.front → ⊥)
      → IsDecoded c.tables.ranges.now (except_type C kind misfit node A).encoding.encodes list old mid was is
  other_decoded old mid was is d not = record {
    parts = d.parts;
    starts = record { front = d.starts.front; encoded = (d.starts.encoded, not); parts = d.starts.parts };
    grown = d.grown;
  }

  pub other_fault : (old mid new : State) (was is : List Part)
      → (d : IsDecoded c.tables.ranges.now A.encoding.encodes list old mid was is) → C d.starts.front
      → IsAt kind node (rest list old) (fault_of new)
      → (except_type C kind misfit node A).encoding.fault (rest list old) (fault_of new)
  other_fault old mid new was is d yet at =
      inr (
        record {
          value = (d.parts, d.starts.front);
          rest = rest list mid;
          starts = record { front = d.starts.front; encoded = (d.starts.encoded, refl); parts = d.starts.parts };
          holds = yet;
        },
        at,
      )
