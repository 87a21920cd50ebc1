-- Strings and numbers as types have them (X.691 12, 16, 17).
use Rattle.std.specs.Prelude.{◌≡◌, ℕ, ◌+◌, ◌*◌, ◌<◌, ◌≤◌, ◌⊎◌, Bool, false, List, length, [], ◌∷◌}
use Rattle.asn1_schema.specs.declared.tables.Length.{Length}
use Rattle.asn1_schema.specs.declared.tables.Length.TheVariants.{AtLeast, Between}
use Rattle.asn1_schema.specs.Encodings.{Encoding, constant, invalid, then, cases, anywhere, in_turn, in_case}
use Rattle.asn1_schema.specs.Fields.{raw_bits}
use Rattle.asn1_x691.specs.declared.fault.FaultKind.{FaultKind}
use Rattle.asn1_x691.specs.declared.fault.FaultKind.TheVariants.{Short, BelowLeast, InRoot}
use Rattle.asn1_x691.specs.Fields.{on_octet, constrained}
use Rattle.asn1_x691.specs.Fragments.{string}

abbrev pub first_of : List Bool → Bool
first_of [] = false
first_of (b ∷ bits) = b

-- one bit, 1 for true (12.2)
abbrev pub bit : ℕ → Encoding FaultKind Bool
bit node = then (raw_bits 1 Short node) (λ bits b. b) (λ bits. constant (first_of bits))

-- `n` units begin where they are: none, and those of a fixed size of up to 16 bits (16.9, 17.6)
abbrev pub IsInline : ℕ → ℕ → ℕ → ℕ → Type 0
IsInline unit least range n = (n ≡ 0) ⊎ ((range ≡ 0) × (unit * least ≤ 16))

-- all others begin at an octet in the ALIGNED variant (16.10, 16.11, 17.7, 17.8)
abbrev pub IsOnOctet : ℕ → ℕ → ℕ → ℕ → Type 0
IsOnOctet unit least range n = (0 < n) × ((0 < range) ⊎ (16 < unit * least))

-- `n` units
abbrev pub units_of : Bool → ℕ → ℕ → ℕ → ℕ → ℕ → ℕ → Encoding FaultKind (List Bool)
units_of aligned unit least range node n =
    in_case (IsInline unit least range n) (anywhere (raw_bits (unit * n) Short node)) (IsOnOctet unit least range n)
    (on_octet aligned node (raw_bits (unit * n) Short node))

-- the number of the units, where it is not fixed, and the units
abbrev pub sized_string : Bool → ℕ → ℕ → ℕ → ℕ → ℕ → Encoding FaultKind (List Bool)
sized_string aligned unit least range node =
    in_turn (constrained aligned range node) (λ d bits. bits) (λ d. units_of aligned unit least range node (least + d))

-- units after their number, of which there are as many as `Yes` permits and `No` forbids, in at most `most` fragments
abbrev pub where_size : {X : Type 0} → (ℕ → Type 0) → (ℕ → Type 0) → FaultKind → ℕ → ℕ × X → ℕ → Encoding FaultKind X
where_size Yes No kind node v = anywhere (cases (Yes v.0) (constant v.1) (No v.0) (invalid kind node))

abbrev pub string_where : ℕ → Bool → ℕ → (ℕ → Type 0) → (ℕ → Type 0) → FaultKind → ℕ → ℕ → Encoding FaultKind (List Bool)
string_where most aligned unit Yes No kind node =
    in_turn (string most aligned unit node) (λ v bits. bits) (λ v. where_size Yes No kind node v)

abbrev pub long_string : ℕ → Bool → ℕ → ℕ → ℕ → ℕ → Encoding FaultKind (List Bool)
long_string most aligned unit least node = string_where most aligned unit (λ n. least ≤ n) (λ n. n < least) BelowLeast node

-- a string of units of `unit` bits, by its size constraint
abbrev pub string_of : ℕ → Bool → ℕ → Length → ℕ → ℕ → Encoding FaultKind (List Bool)
string_of most aligned unit (AtLeast least) node = long_string most aligned unit least node
string_of most aligned unit (Between least range) node = sized_string aligned unit least range node

-- ---- sizes with an extension marker

-- the sizes of the root, and all others
abbrev pub IsOfRoot : Length → ℕ → Type 0
IsOfRoot (AtLeast least) n = least ≤ n
IsOfRoot (Between least range) n = (least ≤ n) × (n ≤ least + range)

abbrev pub IsAddedSize : Length → ℕ → Type 0
IsAddedSize (AtLeast least) n = n < least
IsAddedSize (Between least range) n = (n < least) ⊎ (least + range < n)

-- bits that are units of such a number
abbrev pub AreAdded : ℕ → Length → List Bool → Type 0
AreAdded unit size bits = (n : ℕ) × (length bits ≡ unit * n) × IsAddedSize size n

-- a string of a size that is none of the root (16.6, 17.3)
abbrev pub added_string : ℕ → Bool → ℕ → Length → ℕ → ℕ → Encoding FaultKind (List Bool)
added_string most aligned unit size node = string_where most aligned unit (IsAddedSize size) (IsOfRoot size) InRoot node
