-- What follows for ENUMERATED.
use Rattle.std.proofs.Common.{◌≡◌, ℕ, ◌+◌, ◌-◌, ◌<◌, ◌≤◌, Bool, true, false, refl, sym, ap, ◌∙◌, arith}
use Rattle.std.specs.Prelude.{nat_lt}
use Rattle.std.proofs.lemmas.Bool.{ltb-true, ltb-false, lt-ltb, le-ltb}
use Rattle.asn1_schema.specs.Pieces.{Enumerated, UnknownEnumerated}
use Rattle.asn1_x691.specs.Leaves.{added_value, value_of_addition}

pub known_value : (last known index : ℕ) → last < index → index - last - 1 < known
    → Enumerated index ≡ value_of_addition last known (index - last - 1)
known_value last known index more few =
    let e : index ≡ last + 1 + (index - last - 1) = omega (arith, more) in
    ap Enumerated e ∙ ap (λ (b : Bool). added_value last b (index - last - 1)) (sym (lt-ltb (index - last - 1) known few))

pub unknown_value : (last known n : ℕ) → known ≤ n → UnknownEnumerated n ≡ value_of_addition last known n
unknown_value last known n many = ap (λ (b : Bool). added_value last b n) (sym (le-ltb n known many))

-- a value of an index past the known additions is none
not_known : (last known index i : ℕ) (b : Bool) → nat_lt i known ≡ b → known ≤ index - last - 1 → Enumerated index ≡ added_value last b i → ⊥
not_known last known index i true e many p =
    let few : i < known = ltb-true i known e in
    let q : index ≡ last + 1 + i = cc in
    omega (arith, few, many, q)
not_known last known index i false e many p = absurd cc

pub past_known : (last known index : ℕ) → known ≤ index - last - 1 → (i : ℕ) → Enumerated index ≡ value_of_addition last known i → ⊥
past_known last known index many i p = not_known last known index i (nat_lt i known) refl many p

-- an unknown value of an index of a known one is none
not_unknown : (last known n i : ℕ) (b : Bool) → nat_lt i known ≡ b → n < known → UnknownEnumerated n ≡ added_value last b i → ⊥
not_unknown last known n i true e few p = absurd cc
not_unknown last known n i false e few p =
    let many : known ≤ i = ltb-false i known e in
    let q : n ≡ i = cc in
    omega (arith, few, many, q)

pub not_past : (last known n : ℕ) → n < known → (i : ℕ) → UnknownEnumerated n ≡ value_of_addition last known i → ⊥
not_past last known n few i p = not_unknown last known n i (nat_lt i known) refl few p
