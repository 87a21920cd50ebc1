-- Steps over a SEQUENCE OF.
use Rattle.std.proofs.Common.{◌≡◌, ℕ, zero, suc, ◌+◌, ◌<◌, List, [], ◌∷◌, Bool, true, subst, arith, inl}
use Rattle.asn1_bits.specs.Bits.{bits}
use Rattle.asn1_schema.specs.declared.part.Part.{Part}
use Rattle.asn1_schema.specs.declared.tables.Length.{Length}
use Rattle.asn1_schema.specs.declared.tables.Length.TheVariants.{AtLeast, Between}
use Rattle.asn1_schema.specs.Pieces.{Parts, Count}
use Rattle.asn1_schema.specs.Encodings.{Fault, Encoding, Starts, anywhere}
use Rattle.asn1_schema.specs.TypeEncodings.{by_bit}
use Rattle.asn1_x691.specs.declared.fault.FaultKind.{FaultKind}
use Rattle.asn1_x691.specs.Fields.{constrained}
use Rattle.asn1_x691.specs.Strings.{bit}
use Rattle.asn1_x691.specs.Types.{length_at_least, added_length, count_from}
use Rattle.asn1_x691_fields.specs.declared.state.State.{State}
use Rattle.asn1_x691_fields.specs.Outcomes.{rest, position, IsWithin, IsMoved, IsOnward}
use Rattle.asn1_x691_decode.specs.declared.context.Context.{Context}
use Rattle.asn1_schema.specs.Room.{IsGrown}
use Rattle.asn1_x691_decode.specs.Decoding.{IsDecoded, types, sequence_of_in, root_list_in, at_least_in, added_list_in, all_items_in, items_in}
use Rattle.asn1_x691_decode.proofs.Steps.{IsUnderway, IsSamePlace, header_step, part_step, value_step, nothing_decoded}

module _ (c : Context) (depth : ℕ) where
  abbrev list : List Bool
  list = bits c.octets.now

  -- ---- items

  abbrev pub I : ℕ → ℕ → ℕ → Encoding FaultKind Parts
  I item n at = (items_in c depth item n at).encoding

  abbrev V : ℕ → ℕ → Encoding FaultKind Parts
  V item at = (types c depth item at).encoding

  pub item_step : (item left more : ℕ) (old now : State) (was is : List Part) → more + 1 ≡ left → IsWithin list old → IsMoved list old now
      → IsDecoded c.tables.ranges.now (V item (position old)).encodes list old now was is → IsUnderway c (I item left) (I item more) old now was is
  item_step item left more old now was is e h g d =
      let a : suc more ≡ left = omega (arith, e) in
      subst (λ (n : ℕ). IsUnderway c (I item n) (I item more) old now was is) a (value_step c (V item) (I item more) old now was is h g d)

  pub item_fault : (item left at : ℕ) (l : List Bool) (e : Fault FaultKind) → 0 < left → (V item at).fault l e → (I item left at).fault l e
  item_fault item zero at l e some w = absurd (omega (arith, some))
  item_fault item (suc left) at l e some w = inl w

  pub no_items : (item left : ℕ) (s : State) (was : List Part) → left ≡ 0 → IsDecoded c.tables.ranges.now (I item left (position s)).encodes list s s was was
  no_items item zero s was z = nothing_decoded c s was
  no_items item (suc left) s was z = absurd (omega (arith, z))

  -- ---- the number of the items

  module _ (node : ℕ) (is_set : Bool) (item : ℕ) where
    -- all items of a list
    abbrev pub L : ℕ → ℕ → Encoding FaultKind Parts
    L n at = (all_items_in c depth node is_set item n at).encoding

    pub between_step : (least range d : ℕ) (old mid now : State) (was next : List Part) → IsWithin list old → IsOnward list old mid
        → Starts (constrained c.is_aligned range node (position old)).encodes (rest list old) d (rest list mid)
        → IsSamePlace mid now → IsGrown c.tables.ranges.now list was mid.count next now.count (Count (least + d) ∷ [])
        → IsUnderway c (λ at. (root_list_in c depth node is_set (Between least range) item at).encoding) (L (least + d)) old now was next
    between_step least range d old mid now was next h g s same grown =
        part_step c (constrained c.is_aligned range node) (count_from least) (λ k. L (least + k)) old mid now was next d h g s same grown

    abbrev pub after_bit : Length → Bool → ℕ → Encoding FaultKind Parts
    after_bit size b n = by_bit (root_list_in c depth node is_set size item n) (added_list_in c depth node is_set size item n) b

    pub bit_step : (size : Length) (b : Bool) (old now : State) (was : List Part) → IsWithin list old → IsOnward list old now
        → Starts (bit node).encodes (rest list old) b (rest list now)
        → IsUnderway c (λ at. (sequence_of_in c depth node true is_set size item at).encoding) (after_bit size b) old now was was
    bit_step size b old now was h g s = header_step c (anywhere (bit node)) (after_bit size) old now was b h g s

  -- ---- the number of the items of a SET OF

  module _ (node item : ℕ) where
    abbrev pub S : ℕ → ℕ → Encoding FaultKind Parts
    S n at = (all_items_in c depth node true item n at).encoding

    pub at_least_step : (least n : ℕ) (old mid now : State) (was next : List Part) → IsWithin list old → IsOnward list old mid
        → Starts (length_at_least c.is_aligned least node (position old)).encodes (rest list old) n (rest list mid)
        → IsSamePlace mid now → IsGrown c.tables.ranges.now list was mid.count next now.count (Count n ∷ [])
        → IsUnderway c (λ at. (at_least_in c depth node true least item at).encoding) (S n) old now was next
    at_least_step least n old mid now was next h g s same grown =
        part_step c (length_at_least c.is_aligned least node) Count S old mid now was next n h g s same grown

    pub added_step : (size : Length) (n : ℕ) (old mid now : State) (was next : List Part) → IsWithin list old → IsOnward list old mid
        → Starts (added_length c.is_aligned size node (position old)).encodes (rest list old) n (rest list mid)
        → IsSamePlace mid now → IsGrown c.tables.ranges.now list was mid.count next now.count (Count n ∷ [])
        → IsUnderway c (λ at. (added_list_in c depth node true size item at).encoding) (S n) old now was next
    added_step size n old mid now was next h g s same grown =
        part_step c (added_length c.is_aligned size node) Count S old mid now was next n h g s same grown
