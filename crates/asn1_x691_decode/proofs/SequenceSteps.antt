-- Steps over a SEQUENCE that has an extension marker, and over its additions.
use Rattle.std.proofs.Common.{◌≡◌, ℕ, zero, suc, ◌+◌, ◌-◌, ◌<◌, List, [], ◌∷◌, Bool, true, false, length, sym, subst, arith, inl, inr}
use Rattle.asn1_bits.specs.Bits.{bits}
use Rattle.asn1_schema.specs.declared.part.Part.{Part}
use Rattle.asn1_schema.specs.declared.tables.Rows.{Rows}
use Rattle.asn1_schema.specs.Pieces.{Parts, Absent, Sequence, Additions}
use Rattle.asn1_schema.specs.Encodings.{Fault, Encoding, Starts, IsAt, constant, invalid, anywhere}
use Rattle.asn1_schema.specs.Fields.{raw_bits}
use Rattle.asn1_schema.specs.TypeEncodings.{TypeEncoding, AfterHeader, by_bit, put, both, header}
use Rattle.asn1_x691.specs.declared.fault.FaultKind.{FaultKind}
use Rattle.asn1_x691.specs.declared.fault.FaultKind.TheVariants.{Short, NoAddition}
use Rattle.asn1_x691.specs.Fields.{small_length}
use Rattle.asn1_x691.specs.Strings.{bit}
use Rattle.asn1_x691.specs.Types.{some_additions, any_true}
use Rattle.asn1_x691_fields.specs.declared.state.State.{State}
use Rattle.asn1_x691_fields.specs.Outcomes.{rest, position, IsWithin, IsMoved, IsOnward}
use Rattle.asn1_x691_decode.specs.declared.context.Context.{Context}
use Rattle.asn1_schema.specs.Room.{IsGrown}
use Rattle.asn1_x691_decode.specs.Decoding.{IsDecoded, types, decoder_limits, defaults_in, sequence_in, root_in, extension_in, addition_in, additions_in, by_presence, bits_after_one}
use Rattle.asn1_x691_decode.proofs.Steps.{IsUnderway, IsSamePlace, header_step, part_step, put_step, value_step, first_case, nothing_decoded}

module _ (c : Context) (depth node : ℕ) where
  abbrev list : List Bool
  list = bits c.octets.now

  -- ---- the extension bit

  module _ (root known : Rows) where
    abbrev R : ℕ → TypeEncoding FaultKind
    R = root_in c depth node root

    abbrev X : ℕ → TypeEncoding FaultKind
    X = extension_in c depth node known

    abbrev S : ℕ → Encoding FaultKind Parts
    S at = (sequence_in c depth node true root known at).encoding

    abbrev pub after_bit : Bool → ℕ → Encoding FaultKind Parts
    after_bit b n = by_bit (put (Sequence root.count false) R node n) (put (Sequence root.count true) (both R X) node n) b

    pub bit_step : (b : Bool) (old now : State) (was : List Part) → IsWithin list old → IsOnward list old now
        → Starts (bit node).encodes (rest list old) b (rest list now) → IsUnderway c S (after_bit b) old now was was
    bit_step b old now was h g s = header_step c (anywhere (bit node)) after_bit old now was b h g s

    pub after_false : (b : Bool) (old now : State) (was next : List Part) → b ≡ false → IsWithin list old → IsSamePlace old now
        → IsGrown c.tables.ranges.now list was old.count next now.count (Sequence root.count b ∷ [])
        → IsUnderway c (after_bit b) (λ at. (R at).encoding) old now was next
    after_false true old now was next e h s g = absurd cc
    after_false false old now was next e h s g =
        put_step c (Sequence root.count false) (λ at. (R at).encoding) old now was next h s g

    pub after_true : (b : Bool) (old now : State) (was next : List Part) → b ≡ true → IsWithin list old → IsSamePlace old now
        → IsGrown c.tables.ranges.now list was old.count next now.count (Sequence root.count b ∷ [])
        → IsUnderway c (after_bit b) (λ at. (both R X at).encoding) old now was next
    after_true true old now was next e h s g =
        put_step c (Sequence root.count true) (λ at. (both R X at).encoding) old now was next h s g
    after_true false old now was next e h s g = absurd cc

  -- ---- the number of the additions, and the bits that tell which of them are present

  module _ (known : Rows) where
    abbrev pub E : ℕ → ℕ → AfterHeader FaultKind (List Bool)
    E n = some_additions decoder_limits c.is_aligned (types c depth) c.tables.members.now c.tables.ranges.now
        (defaults_in c) node n known

    abbrev pub Q : ℕ → ℕ → Encoding FaultKind Parts
    Q n at = (header (raw_bits n Short node) n (E n) node at).encoding

    abbrev pub X0 : ℕ → Encoding FaultKind Parts
    X0 at = (extension_in c depth node known at).encoding

    pub count_step : (old mid now : State) (was next : List Part) (n : ℕ) → IsWithin list old → IsOnward list old mid
        → Starts (small_length c.is_aligned node (position old)).encodes (rest list old) n (rest list mid) → IsSamePlace mid now
        → IsGrown c.tables.ranges.now list was mid.count next now.count (Additions n ∷ []) → IsUnderway c X0 (Q n) old now was next
    count_step old mid now was next n h g s same grown =
        part_step c (small_length c.is_aligned node) Additions Q old mid now was next n h g s same grown

    pub no_bits : (n at : ℕ) (l : List Bool) (e : Fault FaultKind) → (raw_bits n Short node).fault l e → (Q n at).fault l e
    no_bits n at l e w = inl w

    abbrev pub T : ℕ → List Bool → ℕ → Encoding FaultKind Parts
    T n p at = (E n at).after p

    pub bits_step : (old now : State) (was : List Part) (n : ℕ) (p : List Bool) → IsWithin list old → IsOnward list old now
        → Starts (raw_bits n Short node).encodes (rest list old) p (rest list now) → IsUnderway c (Q n) (T n p) old now was was
    bits_step old now was n p h g s = header_step c (λ at. raw_bits n Short node) (T n) old now was p h g s

    pub some_step : (s : State) (was : List Part) (n : ℕ) (p : List Bool) → any_true p ≡ true
        → IsUnderway c (T n p) (λ at. (additions_in c depth node n known.count known.from at).after p) s s was was
    some_step s was n p some =
        first_case c (any_true p ≡ true) (any_true p ≡ false) (λ at. (additions_in c depth node n known.count known.from at).after p)
        (λ at. invalid NoAddition node) s was some

    pub none_fault : (n at : ℕ) (p l : List Bool) (e : Fault FaultKind) → any_true p ≡ false → IsAt NoAddition node l e → (T n p at).fault l e
    none_fault n at p l e none w = inr (none, w)

  -- ---- additions

  abbrev pub D : ℕ → ℕ → ℕ → List Bool → ℕ → Encoding FaultKind Parts
  D count known from p at = (additions_in c depth node count known from at).after p

  one_addition : (count known from : ℕ) (p : List Bool) (old now : State) (was is : List Part) → IsWithin list old → IsMoved list old now
      → IsDecoded c.tables.ranges.now (by_presence c depth node p (addition_in c depth node known from) (position old)).encodes list old now was is
      → IsUnderway c (D (suc count) known from p) (D count (known - 1) (from + 1) (bits_after_one p)) old now was is
  one_addition count known from [] old now was is h g d = absurd d.starts.encoded
  one_addition count known from (false ∷ p) old now was is h g d =
      value_step c (λ at. constant (Absent ∷ [])) (D count (known - 1) (from + 1) p) old now was is h g d
  one_addition count known from (true ∷ p) old now was is h g d =
      value_step c (λ at. (addition_in c depth node known from at).encoding) (D count (known - 1) (from + 1) p) old now was is h g d

  one_fault : (count known from : ℕ) (p : List Bool) (at : ℕ) (l : List Bool) (e : Fault FaultKind)
      → (by_presence c depth node p (addition_in c depth node known from) at).fault l e → (D (suc count) known from p at).fault l e
  one_fault count known from [] at l e w = w
  one_fault count known from (false ∷ p) at l e w = absurd w
  one_fault count known from (true ∷ p) at l e w = inl w

  pub addition_step : (left known from index more : ℕ) (p q : List Bool) (old now : State) (was is : List Part) → more + 1 ≡ left
      → IsWithin list old → IsMoved list old now
      → IsDecoded c.tables.ranges.now (by_presence c depth node p (addition_in c depth node (known - index) (from + index)) (position old)).encodes list old now was is
      → q ≡ bits_after_one p
      → IsUnderway c (D left (known - index) (from + index) p) (D more (known - (index + 1)) (from + (index + 1)) q) old now was is
  addition_step left known from index more p q old now was is e h g d f =
      let a : suc more ≡ left = omega (arith, e) in
      let b : known - index - 1 ≡ known - (index + 1) = omega arith in
      let k : from + index + 1 ≡ from + (index + 1) = omega arith in
      subst (λ (n : ℕ). IsUnderway c (D n (known - index) (from + index) p) (D more (known - (index + 1)) (from + (index + 1)) q) old now was is) a
      (subst (λ (n : ℕ). IsUnderway c (D (suc more) (known - index) (from + index) p) (D more n (from + (index + 1)) q) old now was is) b
      (subst (λ (n : ℕ). IsUnderway c (D (suc more) (known - index) (from + index) p) (D more (known - index - 1) n q) old now was is) k
      (subst (λ (l : List Bool). IsUnderway c (D (suc more) (known - index) (from + index) p) (D more (known - index - 1) (from + index + 1) l) old now was is)
      (sym f) (one_addition more (known - index) (from + index) p old now was is h g d))))

  pub addition_fault : (left known from : ℕ) (p : List Bool) (at : ℕ) (l : List Bool) (e : Fault FaultKind) → 0 < left
      → (by_presence c depth node p (addition_in c depth node known from) at).fault l e → (D left known from p at).fault l e
  addition_fault zero known from p at l e some w = absurd (omega (arith, some))
  addition_fault (suc left) known from p at l e some w = one_fault left known from p at l e w

  pub no_additions : (left known from : ℕ) (p : List Bool) (s : State) (was : List Part) → left ≡ 0 → length p ≡ 0
      → IsDecoded c.tables.ranges.now (D left known from p (position s)).encodes list s s was was
  no_additions zero known from [] s was z none = nothing_decoded c s was
  no_additions zero known from (b ∷ p) s was z none = absurd (omega (arith, none))
  no_additions (suc left) known from p s was z none = absurd (omega (arith, z))
