-- Series: values one after another, each of which tells whether another one follows. They belong to no standard.
use Rattle.std.specs.Prelude.{◌≡◌, ℕ, zero, suc, ◌⊎◌, Bool, List, [], ◌∷◌, ◌++◌}
use Rattle.asn1_schema.specs.Encodings.{Fault, Encoding, Then}

-- the list is an encoding of these values; `More` holds of each but the last, and `Last` of the last
abbrev pub IsSeries : {X : Type 0} → (X → List Bool → Type 0) → (X → Type 0) → (X → Type 0) → List X → List Bool → Type 0
IsSeries P More Last [] list = ⊥
IsSeries P More Last (x ∷ xs) list =
    (Last x × P x list × (xs ≡ []))
    ⊎ (More x × ((front : List Bool) × (rest : List Bool) × P x front × IsSeries P More Last xs rest × (list ≡ front ++ rest)))

-- the first fault is that of the value after `n` others
abbrev pub SeriesFault : {K X : Type 0} → Encoding K X → (X → Type 0) → ℕ → List Bool → Fault K → Type 0
SeriesFault A More zero list e = A.fault list e
SeriesFault A More (suc n) list e = Then A.encodes (λ x rest. More x × SeriesFault A More n rest e) list

-- values up to the first of which `Last` holds
abbrev pub series : {K X : Type 0} → Encoding K X → (X → Type 0) → (X → Type 0) → Encoding K (List X)
series A More Last = record {
  encodes = IsSeries A.encodes More Last;
  fault = λ list e. (n : ℕ) × SeriesFault A More n list e;
}
