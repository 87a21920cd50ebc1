-- Encodings: which bits are an encoding of which value, and which fault is the first where bits begin with no encoding.
-- An encoding is built of smaller ones by the combinators of this file. They belong to no standard.
use Rattle.std.specs.Prelude.{◌∷◌, ◌≡◌, ℕ, zero, suc, ◌+◌, ◌-◌, ◌^◌, ◌<◌, ◌≤◌, ◌⊎◌, Bool, List, [], ◌++◌, take, length}
use Rattle.asn1_bits.specs.Bits.{digits}

-- a fault: at which node of the schema, with how many bits left, and of which kind
pub record Fault (K : Type 0) : Type 0 where
  pub node : ℕ
  pub left : ℕ
  pub kind : K

-- `encodes x list`: the list is an encoding of x.
-- `fault list e`: the list begins with no encoding, and e is the first fault.
pub record Encoding (K X : Type 0) : Type 1 where
  pub encodes : X → List Bool → Type 0
  pub fault : List Bool → Fault K → Type 0

-- Contents end where their bits end.
-- `fills x list`: all bits of the list are x. `fault list e`: they are no value, and e is the first fault.
pub record Contents (K X : Type 0) : Type 1 where
  pub fills : X → List Bool → Type 0
  pub fault : List Bool → Fault K → Type 0

-- ---- what lists begin with

-- the list begins with an encoding of x, and the rest follows
pub record Starts {X : Type 0} (P : X → List Bool → Type 0) (list : List Bool) (x : X) (rest : List Bool) : Type 0 where
  pub front : List Bool
  pub encoded : P x front
  pub parts : list ≡ front ++ rest

-- the list begins with an encoding of some value
pub record CanDecode {X : Type 0} (P : X → List Bool → Type 0) (list : List Bool) : Type 0 where
  pub value : X
  pub rest : List Bool
  pub starts : Starts P list value rest

-- the list begins with an encoding of some value, and W holds of that value and of the rest
pub record Then {X : Type 0} (P : X → List Bool → Type 0) (W : X → List Bool → Type 0) (list : List Bool) : Type 0 where
  pub value : X
  pub rest : List Bool
  pub starts : Starts P list value rest
  pub holds : W value rest

-- some bits are an encoding of x
pub record CanEncode {X : Type 0} (P : X → List Bool → Type 0) (x : X) : Type 0 where
  pub list : List Bool
  pub encoded : P x list

-- the fault is of this kind, at the node, before the list
abbrev pub IsAt : {K : Type 0} → K → ℕ → List Bool → Fault K → Type 0
IsAt kind node list e = e ≡ record { node = node; left = length list; kind = kind }

-- the same fault, where `more` bits more follow
abbrev pub with_more_after : {K : Type 0} → ℕ → Fault K → Fault K
with_more_after more e = record { node = e.node; left = e.left + more; kind = e.kind }

-- ---- encodings

-- no bits, and this value
abbrev pub constant : {K X : Type 0} → X → Encoding K X
constant x = record { encodes = λ y list. (y ≡ x) × (list ≡ []); fault = λ list e. ⊥ }

-- no bits are valid
abbrev pub invalid : {K X : Type 0} → K → ℕ → Encoding K X
invalid kind node = record { encodes = λ x list. ⊥; fault = λ list e. IsAt kind node list e }

-- an encoding of a value, then what Q says of that value and of a second one; f of the two values is the whole
pub record InSequence {X Y Z : Type 0} (P : X → List Bool → Type 0) (f : X → Y → Z) (Q : X → Y → List Bool → Type 0)
    (whole : Z) (list : List Bool) : Type 0 where
  pub value : X
  pub after : Y
  pub front : List Bool
  pub rest : List Bool
  pub first : P value front
  pub second : Q value after rest
  pub is : whole ≡ f value after
  pub parts : list ≡ front ++ rest

-- a value, then a second one whose encoding may depend on the first; f of the two is the whole
abbrev pub then : {K X Y Z : Type 0} → Encoding K X → (X → Y → Z) → (X → Encoding K Y) → Encoding K Z
then A f B = record {
  encodes = λ z list. InSequence A.encodes f (λ x. (B x).encodes) z list;
  fault = λ list e. A.fault list e ⊎ Then A.encodes (λ x rest. (B x).fault rest e) list;
}

-- the first where C holds, and the second where D holds
abbrev pub cases : {K X : Type 0} → Type 0 → Encoding K X → Type 0 → Encoding K X → Encoding K X
cases C A D B = record {
  encodes = λ x list. (C × A.encodes x list) ⊎ (D × B.encodes x list);
  fault = λ list e. (C × A.fault list e) ⊎ (D × B.fault list e);
}

-- a value, with the bits that encode it
abbrev pub with_bits : {K X : Type 0} → Encoding K X → Encoding K (X × List Bool)
with_bits A = record { encodes = λ v list. A.encodes v.0 list × (list ≡ v.1); fault = A.fault }

-- a value of whose bits C does not hold; where C holds, the fault is before them
abbrev pub except : {K X : Type 0} → (List Bool → Type 0) → K → ℕ → Encoding K X → Encoding K X
except C kind node A = record {
  encodes = λ x list. A.encodes x list × ¬ (C list);
  fault = λ list e. A.fault list e
      ⊎ (Then (with_bits A).encodes (λ v rest. C v.1) list × IsAt kind node list e);
}

-- `count` bits, filled by contents
abbrev pub of_size : {K X : Type 0} → ℕ → K → ℕ → Contents K X → Encoding K X
of_size count short node F = record {
  encodes = λ x list. (length list ≡ count) × F.fills x list;
  fault = λ list e. ((length list < count) × IsAt short node list e)
      ⊎ ((count ≤ length list)
      × ((f : Fault _) × F.fault (take count list) f × (e ≡ with_more_after (length list - count) f)));
}

-- bits of which H tells a value and contents; the value tells what fills the contents
abbrev pub within : {K T X : Type 0} → Encoding K (T × List Bool) → (T → Contents K X) → Encoding K X
within H F = record {
  encodes = λ x list. (v : _ × List Bool) × H.encodes v list × (F v.0).fills x v.1;
  fault = λ list e. H.fault list e
      ⊎ Then H.encodes (λ v rest. (f : Fault _) × (F v.0).fault v.1 f × (e ≡ with_more_after (length rest) f)) list;
}

-- a number below 2 ^ width, by that many binary digits
abbrev pub IsNumber : ℕ → ℕ → List Bool → Type 0
IsNumber width n list = (n < 2 ^ width) × (list ≡ digits n width)

abbrev pub number : {K : Type 0} → ℕ → K → ℕ → Encoding K ℕ
number width short node = record {
  encodes = λ n list. IsNumber width n list;
  fault = λ list e. (length list < width) × IsAt short node list e;
}

-- ---- contents

-- no contents are valid
abbrev pub invalid_contents : {K X : Type 0} → K → ℕ → Contents K X
invalid_contents kind node = record { fills = λ x list. ⊥; fault = λ list e. IsAt kind node list e }

-- any bits
abbrev pub any_bits : {K : Type 0} → Contents K (List Bool)
any_bits = record { fills = λ bits list. bits ≡ list; fault = λ list e. ⊥ }

-- one value, and nothing after it
abbrev pub only : {K X : Type 0} → K → ℕ → Encoding K X → Contents K X
only extra node A = record {
  fills = λ x list. A.encodes x list;
  fault = λ list e. A.fault list e ⊎ Then A.encodes (λ x rest. (0 < length rest) × IsAt extra node rest e) list;
}

-- a value, then contents that may depend on it; f of the two is the whole
abbrev pub then_contents : {K X Y Z : Type 0} → Encoding K X → (X → Y → Z) → (X → Contents K Y) → Contents K Z
then_contents A f F = record {
  fills = λ z list. InSequence A.encodes f (λ x. (F x).fills) z list;
  fault = λ list e. A.fault list e ⊎ Then A.encodes (λ x rest. (F x).fault rest e) list;
}

-- the first contents where C holds of the bits, otherwise the second
abbrev pub if_next : {K X : Type 0} → (List Bool → Type 0) → Contents K X → Contents K X → Contents K X
if_next C F G = record {
  fills = λ x list. (C list × F.fills x list) ⊎ (¬ (C list) × G.fills x list);
  fault = λ list e. (C list × F.fault list e) ⊎ (¬ (C list) × G.fault list e);
}

-- contents that depend on their number of bits
abbrev pub by_size : {K X : Type 0} → (ℕ → Contents K X) → Contents K X
by_size F = record { fills = λ x list. (F (length list)).fills x list; fault = λ list e. (F (length list)).fault list e }

abbrev pub mapped : {K X Y : Type 0} → (X → Y) → Contents K X → Contents K Y
mapped f F = record { fills = λ y list. (x : _) × F.fills x list × (y ≡ f x); fault = F.fault }

-- values one after another to the end, at most `most`; each may depend on the bits of the one before it
abbrev pub items : {K X Y : Type 0} → K → ℕ → (List Bool → Encoding K X) → Y → (X → Y → Y) → List Bool → ℕ → Contents K Y
items extra node A none f before zero = only extra node (constant none)
items extra node A none f before (suc most) =
    if_next (λ list. list ≡ []) (only extra node (constant none))
    (then_contents (with_bits (A before)) (λ v y. f v.0 y) (λ v. items extra node A none f v.1 most))

-- values one after another to the end; each takes a bit at least, so there are no more than bits
abbrev pub repeated : {K X Y : Type 0} → K → ℕ → (List Bool → Encoding K X) → Y → (X → Y → Y) → Contents K Y
repeated extra node A none f = by_size (λ size. items extra node A none f [] size)

-- ---- encodings that depend on their position: `at` bits of the message precede them

abbrev pub anywhere : {K X : Type 0} → Encoding K X → ℕ → Encoding K X
anywhere A at = A

-- as `InSequence`, where the second encoding may depend on its position
pub record InTurn {X Y Z : Type 0} (P : X → List Bool → Type 0) (f : X → Y → Z) (Q : X → ℕ → Y → List Bool → Type 0) (at : ℕ)
    (whole : Z) (list : List Bool) : Type 0 where
  pub value : X
  pub after : Y
  pub front : List Bool
  pub rest : List Bool
  pub first : P value front
  pub second : Q value (at + length front) after rest
  pub is : whole ≡ f value after
  pub parts : list ≡ front ++ rest

-- as `then`, at a position
abbrev pub in_turn : {K X Y Z : Type 0} → (ℕ → Encoding K X) → (X → Y → Z) → (X → ℕ → Encoding K Y) → ℕ → Encoding K Z
in_turn A f B at = record {
  encodes = λ z list. InTurn (A at).encodes f (λ x n. (B x n).encodes) at z list;
  fault = λ list e. (A at).fault list e
      ⊎ Then (with_bits (A at)).encodes (λ v rest. (B v.0 (at + length v.1)).fault rest e) list;
}

-- as `cases`, at a position
abbrev pub in_case : {K X : Type 0} → Type 0 → (ℕ → Encoding K X) → Type 0 → (ℕ → Encoding K X) → ℕ → Encoding K X
in_case C A D B at = cases C (A at) D (B at)

-- in no bits, the value of which P holds
abbrev pub value_where : {K X : Type 0} → (X → Type 0) → K → ℕ → Encoding K X
value_where P kind node = record {
  encodes = λ x list. P x × (list ≡ []);
  fault = λ list e. ((x : _) → P x → ⊥) × IsAt kind node list e;
}

-- `n` values, one after another
abbrev pub each : {K X : Type 0} → Encoding K X → ℕ → Encoding K (List X)
each A zero = constant []
each A (suc n) = then A (λ x xs. x ∷ xs) (λ x. each A n)

-- a value that `Yes` permits and `No` forbids; where it is forbidden, the fault is after its bits
abbrev pub permitted : {K X : Type 0} → (X → Type 0) → (X → Type 0) → K → ℕ → (ℕ → Encoding K X) → ℕ → Encoding K X
permitted Yes No kind node A = in_turn A (λ x y. y) (λ x. anywhere (cases (Yes x) (constant x) (No x) (invalid kind node)))

-- ---- what a reader is promised of an encoding

-- a list begins with an encoding of one value at most, which ends at one place; so no encoding begins another
pub record DecodesOne {X : Type 0} (P : X → List Bool → Type 0) : Type 0 where
  pub one : (list : List Bool) (x y : X) (rest other : List Bool) → Starts P list x rest → Starts P list y other
      → (x ≡ y) × (rest ≡ other)

-- a value has one encoding at most
pub record EncodesOne {X : Type 0} (P : X → List Bool → Type 0) : Type 0 where
  pub one : (x : X) (a b : List Bool) → P x a → P x b → a ≡ b

-- a list has one first fault at most, and none where it begins with an encoding
pub record NamesFault {X E : Type 0} (P : X → List Bool → Type 0) (W : List Bool → E → Type 0) : Type 0 where
  pub excludes : (list : List Bool) (e : E) → W list e → CanDecode P list → ⊥
  pub one : (list : List Bool) (e f : E) → W list e → W list f → e ≡ f

-- a list is the contents of one value at most
pub record FillsOne {X : Type 0} (P : X → List Bool → Type 0) : Type 0 where
  pub one : (list : List Bool) (x y : X) → P x list → P y list → x ≡ y

-- a list has one first fault at most, and none where it is the contents of a value
pub record NamesUnfit {X E : Type 0} (P : X → List Bool → Type 0) (W : List Bool → E → Type 0) : Type 0 where
  pub excludes : (list : List Bool) (e : E) → W list e → (x : X) → P x list → ⊥
  pub one : (list : List Bool) (e f : E) → W list e → W list f → e ≡ f
