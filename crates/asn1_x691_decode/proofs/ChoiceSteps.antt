-- Steps over a CHOICE.
use Rattle.std.proofs.Common.{◌≡◌, ℕ, ◌+◌, ◌-◌, ◌<◌, ◌≤◌, List, [], ◌∷◌, Bool, true, false, sym, subst, arith, Option, Some, None}
use Rattle.std.specs.Prelude.{slice_get, nat_lt}
use Rattle.std.proofs.lemmas.Bool.{lt-ltb}
use Rattle.asn1_bits.specs.Bits.{bits}
use Rattle.asn1_schema.specs.declared.part.Part.{Part}
use Rattle.asn1_schema.specs.declared.tables.Member.{Member}
use Rattle.asn1_schema.specs.declared.tables.Rows.{Rows}
use Rattle.asn1_schema.specs.Pieces.{Parts, Chosen, Unknown, UnknownChosen}
use Rattle.asn1_schema.specs.Encodings.{Fault, Encoding, Starts, IsAt, anywhere}
use Rattle.asn1_schema.specs.TypeEncodings.{leaf, by_bit}
use Rattle.asn1_x691.specs.declared.fault.FaultKind.{FaultKind}
use Rattle.asn1_x691.specs.declared.fault.FaultKind.TheVariants.{NoNode}
use Rattle.asn1_x691.specs.Fields.{constrained, small_number}
use Rattle.asn1_x691.specs.Fragments.{octets}
use Rattle.asn1_x691.specs.Strings.{bit}
use Rattle.asn1_x691.specs.Types.{alternative_if, added, added_alternative, alternative_of_addition}
use Rattle.asn1_x691_fields.specs.declared.state.State.{State}
use Rattle.asn1_x691_fields.specs.Outcomes.{rest, position, IsWithin, IsOnward}
use Rattle.asn1_x691_decode.specs.declared.context.Context.{Context}
use Rattle.asn1_schema.specs.Room.{IsGrown}
use Rattle.asn1_x691_decode.specs.Decoding.{types, decoder_limits, defaults_in, choice_in, alternatives_in, choice_extension_in, known_in}
use Rattle.asn1_x691_decode.proofs.Steps.{IsUnderway, IsSamePlace, header_step, part_step}

lt_false : (a b : ℕ) → b ≤ a → nat_lt a b ≡ false
lt_false a b h = grind arith

module _ (c : Context) (depth node : ℕ) where
  abbrev list : List Bool
  list = bits c.octets.now

  -- ---- the root

  module _ (rows : Rows) where
    abbrev pub A : ℕ → Encoding FaultKind Parts
    A at = (alternatives_in c depth node rows at).encoding

    abbrev F : Bool → Option Member → ℕ → Encoding FaultKind Parts
    F b o at = (alternative_if decoder_limits c.is_aligned (types c depth) c.tables.members.now c.tables.ranges.now
        (defaults_in c) node b o at).encoding

    abbrev pub H : ℕ → ℕ → Encoding FaultKind Parts
    H i = F (nat_lt i rows.count) (slice_get c.tables.members.now (rows.from + i))

    pub index_step : (last : ℕ) (old mid now : State) (was next : List Part) (i : ℕ) → last ≡ rows.count - 1 → IsWithin list old → IsOnward list old mid
        → Starts (constrained c.is_aligned last node (position old)).encodes (rest list old) i (rest list mid)
        → IsSamePlace mid now → IsGrown c.tables.ranges.now list was mid.count next now.count (Chosen i ∷ []) → IsUnderway c A (H i) old now was next
    index_step last old mid now was next i e h g s same grown =
        part_step c (constrained c.is_aligned (rows.count - 1) node) Chosen H old mid now was next i h g
        (subst (λ (n : ℕ). Starts (constrained c.is_aligned n node (position old)).encodes (rest list old) i (rest list mid)) e s) same grown

    pub no_index : (i at : ℕ) (l : List Bool) (e : Fault FaultKind) → rows.count ≤ i → IsAt NoNode node l e → (H i at).fault l e
    no_index i at l e past w =
        subst (λ (b : Bool). (F b (slice_get c.tables.members.now (rows.from + i)) at).fault l e) (sym (lt_false i rows.count past)) w

    pub no_alternative : (i at : ℕ) (l : List Bool) (e : Fault FaultKind) → i < rows.count
        → slice_get c.tables.members.now (rows.from + i) ≡ None → IsAt NoNode node l e → (H i at).fault l e
    no_alternative i at l e lt none w =
        subst (λ (b : Bool). (F b (slice_get c.tables.members.now (rows.from + i)) at).fault l e) (sym (lt-ltb i rows.count lt))
        (subst (λ (o : Option Member). (F true o at).fault l e) (sym none) w)

    pub the_alternative : (i : ℕ) (m : Member) (P : (ℕ → Encoding FaultKind Parts) → Type 0) → i < rows.count
        → slice_get c.tables.members.now (rows.from + i) ≡ Some m → P (λ at. (types c depth m.node at).encoding) → P (H i)
    the_alternative i m P lt some p =
        subst (λ (b : Bool). P (F b (slice_get c.tables.members.now (rows.from + i)))) (sym (lt-ltb i rows.count lt))
        (subst (λ (o : Option Member). P (F true o)) (sym some) p)

  -- ---- the extension bit

  module _ (rows known : Rows) where
    abbrev pub X : ℕ → Encoding FaultKind Parts
    X at = (choice_extension_in c depth node rows known at).encoding

    abbrev pub after_bit : Bool → ℕ → Encoding FaultKind Parts
    after_bit b n = by_bit (alternatives_in c depth node rows n) (choice_extension_in c depth node rows known n) b

    pub bit_step : (b : Bool) (old now : State) (was : List Part) → IsWithin list old → IsOnward list old now
        → Starts (bit node).encodes (rest list old) b (rest list now)
        → IsUnderway c (λ at. (choice_in c depth node true rows known at).encoding) (after_bit b) old now was was
    bit_step b old now was h g s = header_step c (anywhere (bit node)) after_bit old now was b h g s

    -- ---- an addition

    abbrev G : Bool → ℕ → ℕ → Encoding FaultKind Parts
    G b i at = (added decoder_limits c.is_aligned (types c depth) c.tables.members.now c.tables.ranges.now
        (defaults_in c) node known b i at).encoding

    added_step : (i : ℕ) (b : Bool) (old mid now : State) (was next : List Part) → nat_lt i known.count ≡ b → IsWithin list old
        → IsOnward list old mid → Starts (small_number c.is_aligned node (position old)).encodes (rest list old) i (rest list mid)
        → IsSamePlace mid now → IsGrown c.tables.ranges.now list was mid.count next now.count (added_alternative (rows.count - 1) b i ∷ [])
        → IsUnderway c X (G b i) old now was next
    added_step i b old mid now was next e h g s same grown =
        subst (λ (x : Bool). IsUnderway c X (G x i) old now was next) e
        (part_step c (small_number c.is_aligned node) (alternative_of_addition (rows.count - 1) known.count) (λ k. G (nat_lt k known.count) k)
        old mid now was next i h g s same
        (subst (λ (x : Bool). IsGrown c.tables.ranges.now list was mid.count next now.count (added_alternative (rows.count - 1) x i ∷ [])) (sym e) grown))

    pub known_step : (i n : ℕ) (old mid now : State) (was next : List Part) → i < known.count → n ≡ rows.count - 1 + 1 + i → IsWithin list old
        → IsOnward list old mid → Starts (small_number c.is_aligned node (position old)).encodes (rest list old) i (rest list mid)
        → IsSamePlace mid now → IsGrown c.tables.ranges.now list was mid.count next now.count (Chosen n ∷ [])
        → IsUnderway c X (λ at. (known_in c depth node (slice_get c.tables.members.now (known.from + i)) at).encoding) old now was next
    known_step i n old mid now was next lt e h g s same grown =
        added_step i true old mid now was next (lt-ltb i known.count lt) h g s same
        (subst (λ (k : ℕ). IsGrown c.tables.ranges.now list was mid.count next now.count (Chosen k ∷ [])) e grown)

    pub unknown_step : (i : ℕ) (old mid now : State) (was next : List Part) → known.count ≤ i → IsWithin list old
        → IsOnward list old mid → Starts (small_number c.is_aligned node (position old)).encodes (rest list old) i (rest list mid)
        → IsSamePlace mid now → IsGrown c.tables.ranges.now list was mid.count next now.count (UnknownChosen i ∷ [])
        → IsUnderway c X (λ at. (leaf (octets 0 c.is_aligned node) Unknown node at).encoding) old now was next
    unknown_step i old mid now was next past h g s same grown =
        added_step i false old mid now was next (lt_false i known.count past) h g s same grown
