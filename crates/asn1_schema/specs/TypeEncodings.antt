-- Encodings of types, both ways: which bits encode which parts, the first fault of bits, and the first misfit of parts.
-- Positions: `at` bits of the message precede the encoding. An encoding that does not align ignores it.
use Rattle.std.specs.Prelude.{◌≡◌, ℕ, zero, suc, ◌+◌, ◌⊎◌, ⊤, Bool, true, false, List, [], ◌∷◌, ◌++◌, length}
use Rattle.asn1_schema.specs.declared.misfit.MisfitKind.{MisfitKind}
use Rattle.asn1_schema.specs.declared.misfit.MisfitKind.TheVariants.{NoPart, OtherPart, NoEncoding}
use Rattle.asn1_schema.specs.Pieces.{Piece, Absent, Parts}
use Rattle.asn1_schema.specs.Encodings.{Fault, Encoding, Contents, CanEncode, constant, invalid, cases, with_bits, except, within, in_turn}

-- a misfit: at which node of the schema, with how many parts left, and of which kind
abbrev pub Misfit : Type 0
Misfit = Fault MisfitKind

-- the misfit is of this kind, at the node, before these parts
abbrev pub IsAtPart : MisfitKind → ℕ → Parts → Misfit → Type 0
IsAtPart kind node tape e = e ≡ record { node = node; left = length tape; kind = kind }

-- a type: how its values are encoded, and the first misfit of parts that begin with no value
pub record TypeEncoding (K : Type 0) : Type 1 where
  pub encoding : Encoding K Parts
  pub misfit : Parts → Misfit → Type 0

-- what follows a header that is in no part: reading, the bits of the header tell it; writing, the parts do
pub record AfterHeader (K X : Type 0) : Type 1 where
  pub after : X → Encoding K Parts
  pub misfit : Parts → Misfit → Type 0

-- parts begin with some of which P says the bits, and V holds of these bits and of the parts after them
pub record AfterParts (P : Parts → List Bool → Type 0) (V : List Bool → Parts → Type 0) (tape : Parts) : Type 0 where
  pub parts : Parts
  pub list : List Bool
  pub rest : Parts
  pub encodes : P parts list
  pub are : tape ≡ parts ++ rest
  pub holds : V list rest

-- there is a first part, and V says its misfit
abbrev pub FirstPart : ℕ → (Piece → Parts → Misfit → Type 0) → Parts → Misfit → Type 0
FirstPart node V [] e = IsAtPart NoPart node [] e
FirstPart node V (p ∷ rest) e = V p rest e

-- ---- combinators

-- no parts and no bits
abbrev pub nothing : {K : Type 0} → ℕ → TypeEncoding K
nothing at = record { encoding = constant []; misfit = λ tape e. ⊥ }

-- no bits and no parts are valid
abbrev pub invalid_type : {K : Type 0} → K → MisfitKind → ℕ → ℕ → TypeEncoding K
invalid_type fault misfit node at = record { encoding = invalid fault node; misfit = λ tape e. IsAtPart misfit node tape e }

-- the misfit of a value, or of what follows it at its position
abbrev pub PairMisfit : {K : Type 0} → TypeEncoding K → (ℕ → Parts → Misfit → Type 0) → ℕ → Parts → Misfit → Type 0
PairMisfit A W at tape e =
    A.misfit tape e ⊎ AfterParts A.encoding.encodes (λ list rest. W (at + length list) rest e) tape

-- a value, then another
abbrev pub both : {K : Type 0} → (ℕ → TypeEncoding K) → (ℕ → TypeEncoding K) → ℕ → TypeEncoding K
both A B at = record {
  encoding = in_turn (λ n. (A n).encoding) (λ ts us. ts ++ us) (λ ts n. (B n).encoding) at;
  misfit = PairMisfit (A at) (λ n. (B n).misfit) at;
}

-- `n` values
abbrev pub several : {K : Type 0} → (ℕ → TypeEncoding K) → ℕ → ℕ → TypeEncoding K
several A zero = nothing
several A (suc n) = both A (several A n)

-- bits that tell a value and a part that tells it too, `is` of the value; then what depends on the value
abbrev pub PartMisfit : {K X : Type 0} → (ℕ → Encoding K X) → (X → Piece) → (X → ℕ → TypeEncoding K) → ℕ → ℕ → Piece → Parts
    → Misfit → Type 0
PartMisfit A is B node at p rest e =
    ((x : _) × (p ≡ is x)
    × ((¬ (CanEncode (A at).encodes x) × IsAtPart NoEncoding node (p ∷ rest) e)
    ⊎ ((list : List Bool) × (A at).encodes x list × (B x (at + length list)).misfit rest e)))
    ⊎ (((x : _) → p ≡ is x → ⊥) × IsAtPart OtherPart node (p ∷ rest) e)

abbrev pub part : {K X : Type 0} → (ℕ → Encoding K X) → (X → Piece) → (X → ℕ → TypeEncoding K) → ℕ → ℕ → TypeEncoding K
part A is B node at = record {
  encoding = in_turn A (λ x ts. is x ∷ ts) (λ x n. (B x n).encoding) at;
  misfit = FirstPart node (PartMisfit A is B node at);
}

-- one part, and its bits
abbrev pub leaf : {K X : Type 0} → (ℕ → Encoding K X) → (X → Piece) → ℕ → ℕ → TypeEncoding K
leaf A is node = part A is (λ x. nothing) node

-- a part that no bits tell, before others
abbrev pub put : {K : Type 0} → Piece → (ℕ → TypeEncoding K) → ℕ → ℕ → TypeEncoding K
put p A node = part (λ at. constant (tt {0})) (λ u. p) (λ u. A) node

-- the parts tell a value that H has no bits for
pub record AreUntold {K X : Type 0} (H : Encoding K X) (P : X → Parts → List Bool → Type 0) (tape : Parts) : Type 0 where
  pub value : X
  pub parts : Parts
  pub list : List Bool
  pub rest : Parts
  pub encodes : P value parts list
  pub are : tape ≡ parts ++ rest
  pub none : CanEncode H.encodes value → ⊥

-- a header of `width` bits, then what it tells
abbrev pub header : {K X : Type 0} → Encoding K X → ℕ → (ℕ → AfterHeader K X) → ℕ → ℕ → TypeEncoding K
header H width B node at = record {
  encoding = in_turn (λ n. H) (λ x ts. ts) (λ x n. (B n).after x) at;
  misfit = λ tape e. (B (at + width)).misfit tape e
      ⊎ (AreUntold H (λ x xs l. ((B (at + width)).after x).encodes xs l) tape × IsAtPart NoEncoding node tape e);
}

-- a value of whose bits C does not hold
abbrev pub except_type : {K : Type 0} → (List Bool → Type 0) → K → MisfitKind → ℕ → TypeEncoding K → TypeEncoding K
except_type C fault misfit node A = record {
  encoding = except C fault node A.encoding;
  misfit = λ tape e. A.misfit tape e ⊎ (AfterParts A.encoding.encodes (λ list rest. C list) tape × IsAtPart misfit node tape e);
}

-- a value, then another that may depend on the bits of the first
abbrev pub both_by_bits : {K : Type 0} → (ℕ → TypeEncoding K) → (List Bool → ℕ → TypeEncoding K) → ℕ → TypeEncoding K
both_by_bits A B at = record {
  encoding = in_turn (λ n. with_bits (A n).encoding) (λ v us. v.0 ++ us) (λ v n. (B v.1 n).encoding) at;
  misfit = λ tape e. (A at).misfit tape e
      ⊎ AfterParts (A at).encoding.encodes (λ list rest. (B list (at + length list)).misfit rest e) tape;
}

-- `n` values, each of which may depend on the bits of the one before it
abbrev pub several_by_bits : {K : Type 0} → (List Bool → ℕ → TypeEncoding K) → List Bool → ℕ → ℕ → TypeEncoding K
several_by_bits A before zero = nothing
several_by_bits A before (suc n) = both_by_bits (A before) (λ list. several_by_bits A list n)

-- ---- components, each of which is present or absent by a bit of a list

-- after the last component no bit is left
abbrev pub no_bits_left : {K : Type 0} → K → ℕ → List Bool → Encoding K Parts
no_bits_left fault node [] = constant []
no_bits_left fault node (b ∷ bits) = invalid fault node

abbrev pub end_of_components : {K : Type 0} → K → ℕ → ℕ → AfterHeader K (List Bool)
end_of_components fault node at = record { after = no_bits_left fault node; misfit = λ tape e. ⊥ }

-- a component that must be present, then others
abbrev pub mandatory : {K : Type 0} → (ℕ → TypeEncoding K) → (ℕ → AfterHeader K (List Bool)) → ℕ → AfterHeader K (List Bool)
mandatory A F at = record {
  after = λ bits. in_turn (λ n. (A n).encoding) (λ ts us. ts ++ us) (λ ts n. (F n).after bits) at;
  misfit = PairMisfit (A at) (λ n. (F n).misfit) at;
}

-- the parts begin with the one that says that a component is absent
abbrev pub IsAbsent : Parts → Type 0
IsAbsent tape = (others : Parts) × (tape ≡ Absent ∷ others)

abbrev pub by_first_bit : {K : Type 0} → K → ℕ → (ℕ → TypeEncoding K) → (ℕ → AfterHeader K (List Bool)) → ℕ → List Bool → Encoding K Parts
by_first_bit fault node A F at [] = invalid fault node
by_first_bit fault node A F at (false ∷ bits) =
    in_turn (λ n. constant (Absent ∷ [])) (λ ts us. ts ++ us) (λ ts n. (F n).after bits) at
by_first_bit fault node A F at (true ∷ bits) = in_turn (λ n. (A n).encoding) (λ ts us. ts ++ us) (λ ts n. (F n).after bits) at

-- a component that is present where the first bit is 1, then others
abbrev pub optional : {K : Type 0} → K → ℕ → (ℕ → TypeEncoding K) → (ℕ → AfterHeader K (List Bool)) → ℕ → AfterHeader K (List Bool)
optional fault node A F at = record {
  after = by_first_bit fault node A F at;
  misfit = λ tape e. ((others : Parts) × (tape ≡ Absent ∷ others) × (F at).misfit others e)
      ⊎ (¬ (IsAbsent tape) × PairMisfit (A at) (λ n. (F n).misfit) at tape e);
}

-- ---- only what meets a test

-- the parts tell a value that fails the test
pub record AreFailing {X : Type 0} (test : X → Bool) (P : X → Parts → List Bool → Type 0) (tape : Parts) : Type 0 where
  pub value : X
  pub parts : Parts
  pub list : List Bool
  pub rest : Parts
  pub encodes : P value parts list
  pub are : tape ≡ parts ++ rest
  pub fails : test value ≡ false

-- what follows a header whose value meets the test
abbrev pub only_where : {K X : Type 0} → (X → Bool) → K → MisfitKind → ℕ → (ℕ → AfterHeader K X) → ℕ → AfterHeader K X
only_where test fault misfit node B at = record {
  after = λ x. cases (test x ≡ true) ((B at).after x) (test x ≡ false) (invalid fault node);
  misfit = λ tape e. (B at).misfit tape e
      ⊎ (AreFailing test (λ x xs l. ((B at).after x).encodes xs l) tape × IsAtPart misfit node tape e);
}

-- ---- a root and its extension, told by a bit and by whether P holds of the first part

abbrev pub by_bit : {K : Type 0} → TypeEncoding K → TypeEncoding K → Bool → Encoding K Parts
by_bit A B false = A.encoding
by_bit A B true = B.encoding

abbrev pub either_by_bit : {K : Type 0} → (Piece → Type 0) → ℕ → (ℕ → TypeEncoding K) → (ℕ → TypeEncoding K) → ℕ → AfterHeader K Bool
either_by_bit P node A B at = record {
  after = by_bit (A at) (B at);
  misfit = FirstPart node (λ p rest e. (¬ (P p) × (A at).misfit (p ∷ rest) e) ⊎ (P p × (B at).misfit (p ∷ rest) e));
}

-- ---- a value in bits of its own, as in an open type

-- no header encloses the contents
abbrev pub NotEnclosed : {K : Type 0} → Encoding K (⊤ × List Bool) → List Bool → Type 0
NotEnclosed H contents = (list : List Bool) → H.encodes (tt, contents) list → ⊥

-- bits that H encloses, filled by a value
abbrev pub enclosed : {K : Type 0} → (ℕ → Encoding K (⊤ × List Bool)) → Contents K Parts → (Parts → Misfit → Type 0) → ℕ → ℕ
    → TypeEncoding K
enclosed H F W node at = record {
  encoding = within (H at) (λ u. F);
  misfit = λ tape e. W tape e
      ⊎ (AfterParts F.fills (λ list rest. NotEnclosed (H at) list) tape × IsAtPart NoEncoding node tape e);
}

-- ---- what a writer is promised

-- Parts begin with those of one value at most, whose bits are one. A misfit is one, and excludes that any of the first parts
-- have an encoding.
pub record EncodesUniquely (P : Parts → List Bool → Type 0) (W : Parts → Misfit → Type 0) : Type 0 where
  pub one : (tape xs ys rest other : Parts) (a b : List Bool) → P xs a → P ys b → tape ≡ xs ++ rest → tape ≡ ys ++ other
      → (xs ≡ ys) × (rest ≡ other) × (a ≡ b)
  pub excludes : (tape : Parts) (e : Misfit) → W tape e → (xs rest : Parts) (a : List Bool) → P xs a → tape ≡ xs ++ rest → ⊥
  pub one_misfit : (tape : Parts) (e g : Misfit) → W tape e → W tape g → e ≡ g

-- Parts without a misfit begin with a value: it can't be that none of the first have an encoding.
pub record NamesEachMisfit (P : Parts → List Bool → Type 0) (W : Parts → Misfit → Type 0) : Type 0 where
  pub covers : (tape : Parts) → ((e : Misfit) → W tape e → ⊥) → (AfterParts P (λ list rest. ⊤) tape → ⊥) → ⊥
