-- What follows for the additions of a CHOICE.
use Rattle.std.proofs.Common.{◌≡◌, ℕ, ◌+◌, ◌<◌, ◌≤◌, Bool, true, false, refl, sym, ap, arith}
use Rattle.std.specs.Prelude.{nat_lt}
use Rattle.std.proofs.lemmas.Bool.{ltb-true, ltb-false, lt-ltb, le-ltb}
use Rattle.asn1_schema.specs.Pieces.{Chosen, UnknownChosen}
use Rattle.asn1_x691.specs.Types.{added_alternative, alternative_of_addition}

pub known_alternative : (last known i : ℕ) → i < known → Chosen (last + 1 + i) ≡ alternative_of_addition last known i
known_alternative last known i few = ap (λ (b : Bool). added_alternative last b i) (sym (lt-ltb i known few))

pub unknown_alternative : (last known i : ℕ) → known ≤ i → UnknownChosen i ≡ alternative_of_addition last known i
unknown_alternative last known i many = ap (λ (b : Bool). added_alternative last b i) (sym (le-ltb i known many))

-- an alternative of the root is no addition, and neither is one after the known ones
not_known : (last known index i : ℕ) (b : Bool) → nat_lt i known ≡ b → last + known < index → Chosen index ≡ added_alternative last b i → ⊥
not_known last known index i true e many p =
    let few : i < known = ltb-true i known e in
    let q : index ≡ last + 1 + i = cc in
    omega (arith, few, many, q)
not_known last known index i false e many p = absurd cc

pub past_known : (last known index : ℕ) → last + known < index → (i : ℕ) → Chosen index ≡ alternative_of_addition last known i → ⊥
past_known last known index many i p = not_known last known index i (nat_lt i known) refl many p

not_added : (last index i : ℕ) (b : Bool) → index ≤ last → Chosen index ≡ added_alternative last b i → ⊥
not_added last index i true few p =
    let q : index ≡ last + 1 + i = cc in
    omega (arith, few, q)
not_added last index i false few p = absurd cc

pub of_root : (last known index : ℕ) → index ≤ last → (i : ℕ) → Chosen index ≡ alternative_of_addition last known i → ⊥
of_root last known index few i p = not_added last index i (nat_lt i known) few p

-- an unknown alternative of an index of a known one is none
not_unknown : (last known n i : ℕ) (b : Bool) → nat_lt i known ≡ b → n < known → UnknownChosen n ≡ added_alternative last b i → ⊥
not_unknown last known n i true e few p = absurd cc
not_unknown last known n i false e few p =
    let many : known ≤ i = ltb-false i known e in
    let q : n ≡ i = cc in
    omega (arith, few, many, q)

pub not_past : (last known n : ℕ) → n < known → (i : ℕ) → UnknownChosen n ≡ alternative_of_addition last known i → ⊥
not_past last known n few i p = not_unknown last known n i (nat_lt i known) refl few p
