-- Contents of types, both ways: values that fill the bits which a header encloses. They belong to no standard.
use Rattle.std.specs.Prelude.{◌≡◌, ℕ, suc, ◌⊎◌, ⊤, Bool, true, false, List, [], ◌∷◌, ◌++◌}
use Rattle.asn1_schema.specs.declared.misfit.MisfitKind.{MisfitKind}
use Rattle.asn1_schema.specs.declared.misfit.MisfitKind.TheVariants.{NoEncoding, OtherPart, NoAddition}
use Rattle.asn1_schema.specs.Pieces.{Piece, Absent, Parts}
use Rattle.asn1_schema.specs.Encodings.{Encoding, Contents, CanEncode, IsAt, constant, within, invalid_contents, only, then_contents, if_next, mapped, repeated}
use Rattle.asn1_schema.specs.TypeEncodings.{Misfit, IsAtPart, TypeEncoding, AfterParts, FirstPart, IsAbsent, several_by_bits}

-- ---- contents of any values

-- bits of which P says the value
abbrev pub valid : {K X : Type 0} → (X → List Bool → Type 0) → K → ℕ → Contents K X
valid P kind node = record { fills = P; fault = λ list e. ((x : _) → P x list → ⊥) × IsAt kind node list e }

-- a value that `Yes` permits; where it is another, the fault is before it
abbrev pub permitted_contents : {K X : Type 0} → (X → Type 0) → K → ℕ → Contents K X → Contents K X
permitted_contents Yes kind node F = record {
  fills = λ x list. F.fills x list × Yes x;
  fault = λ list e. F.fault list e ⊎ (((x : _) × F.fills x list × ¬ (Yes x)) × IsAt kind node list e);
}

-- some bits are contents of x
abbrev pub CanFill : {K X : Type 0} → Contents K X → X → Type 0
CanFill F x = (list : List Bool) × F.fills x list

-- ---- three sorts

-- a type whose values fill bits
pub record TypeContents (K : Type 0) : Type 1 where
  pub contents : Contents K Parts
  pub misfit : Parts → Misfit → Type 0

-- contents that tell a value beside their parts; writing, a part before them tells it
pub record ToldContents (K X : Type 0) : Type 1 where
  pub contents : Contents K (X × Parts)
  pub misfit : X → Parts → Misfit → Type 0

-- contents that a header tells apart; writing, the parts tell the header
pub record ByHeader (K T : Type 0) : Type 1 where
  pub contents : T → Contents K Parts
  pub misfit : Parts → Misfit → Type 0

-- ---- a header and the contents that it encloses

-- the parts begin with contents that no header encloses
pub record AreUnheaded {K T : Type 0} (H : Encoding K (T × List Bool)) (P : T → Parts → List Bool → Type 0) (tape : Parts) : Type 0 where
  pub value : T
  pub parts : Parts
  pub list : List Bool
  pub rest : Parts
  pub encodes : P value parts list
  pub are : tape ≡ parts ++ rest
  pub none : CanEncode H.encodes (value, list) → ⊥

abbrev pub headed : {K T : Type 0} → Encoding K (T × List Bool) → ℕ → ByHeader K T → TypeEncoding K
headed H node B = record {
  encoding = within H B.contents;
  misfit = λ tape e. B.misfit tape e
      ⊎ (AreUnheaded H (λ t xs list. (B.contents t).fills xs list) tape × IsAtPart NoEncoding node tape e);
}

-- no header is valid
abbrev pub invalid_header : {K T : Type 0} → K → MisfitKind → ℕ → ByHeader K T
invalid_header fault misfit node = record { contents = λ t. invalid_contents fault node; misfit = λ tape e. IsAtPart misfit node tape e }

-- this header, and no other
abbrev pub only_header : {K T : Type 0} → T → K → ℕ → TypeContents K → ByHeader K T
only_header h fault node F = record {
  contents = λ t. if_next (λ list. t ≡ h) F.contents (invalid_contents fault node);
  misfit = F.misfit;
}

-- any header, where a part is all bits of it and of its contents
abbrev pub WholeMisfit : {K T : Type 0} → Encoding K (T × List Bool) → (List Bool → Piece) → ℕ → Piece → Parts → Misfit → Type 0
WholeMisfit H is node p rest e =
    ((list : List Bool) × (p ≡ is list) × ((v : _) → H.encodes v list → ⊥) × IsAtPart NoEncoding node (p ∷ rest) e)
    ⊎ (((list : List Bool) → p ≡ is list → ⊥) × IsAtPart OtherPart node (p ∷ rest) e)

abbrev pub any_header : {K T : Type 0} → Encoding K (T × List Bool) → (List Bool → Piece) → ℕ → ByHeader K T
any_header H is node = record {
  contents = λ t. record {
    fills = λ xs c. (list : List Bool) × H.encodes (t, c) list × (xs ≡ is list ∷ []);
    fault = λ c e. ⊥;
  };
  misfit = FirstPart node (WholeMisfit H is node);
}

-- the parts are not of A, or they tell a header of which C holds
abbrev pub HeaderMisfit : {K T : Type 0} → ByHeader K T → (T → Type 0) → ℕ → Parts → Parts → Misfit → Type 0
HeaderMisfit A C node tape rest e =
    A.misfit rest e
    ⊎ (((t : _) × AfterParts (λ xs list. (A.contents t).fills xs list) (λ list others. C t) rest) × IsAtPart NoEncoding node tape e)

abbrev pub EitherMisfit : {K T : Type 0} → (T → Type 0) → ℕ → Piece → ByHeader K T → ByHeader K T → Piece → Parts → Misfit → Type 0
EitherMisfit P node q A B p rest e =
    ((p ≡ q) × HeaderMisfit A (λ t. ¬ (P t)) node (p ∷ rest) rest e)
    ⊎ (¬ (p ≡ q) × HeaderMisfit B P node (p ∷ rest) (p ∷ rest) e)

-- a part and the first contents where P holds of the header, otherwise the second
abbrev pub either : {K T : Type 0} → (T → Type 0) → ℕ → Piece → ByHeader K T → ByHeader K T → ByHeader K T
either P node q A B = record {
  contents = λ t. if_next (λ list. P t) (mapped (λ (ts : Parts). q ∷ ts) (A.contents t)) (B.contents t);
  misfit = FirstPart node (EitherMisfit P node q A B);
}

-- ---- one value

abbrev pub invalid_type_contents : {K : Type 0} → K → MisfitKind → ℕ → TypeContents K
invalid_type_contents fault misfit node = record { contents = invalid_contents fault node; misfit = λ tape e. IsAtPart misfit node tape e }

-- a value, and nothing after it
abbrev pub only_value : {K : Type 0} → K → ℕ → TypeEncoding K → TypeContents K
only_value extra node A = record { contents = only extra node A.encoding; misfit = A.misfit }

-- one part, which the contents tell
abbrev pub LeafMisfit : {K X : Type 0} → Contents K X → (X → Piece) → ℕ → Piece → Parts → Misfit → Type 0
LeafMisfit F is node p rest e =
    ((x : _) × (p ≡ is x) × ¬ (CanFill F x) × IsAtPart NoEncoding node (p ∷ rest) e)
    ⊎ (((x : _) → p ≡ is x → ⊥) × IsAtPart OtherPart node (p ∷ rest) e)

abbrev pub leaf_contents : {K X : Type 0} → Contents K X → (X → Piece) → ℕ → TypeContents K
leaf_contents F is node = record { contents = mapped (λ x. is x ∷ []) F; misfit = FirstPart node (LeafMisfit F is node) }

-- a part that tells what contents tell, and that `Yes` permits; then their parts
abbrev pub ToldMisfit : {K X : Type 0} → (X → Piece) → (X → Type 0) → ℕ → ToldContents K X → Piece → Parts → Misfit → Type 0
ToldMisfit is Yes node F p rest e =
    ((x : _) × (p ≡ is x) × ((¬ (Yes x) × IsAtPart NoEncoding node (p ∷ rest) e) ⊎ (Yes x × F.misfit x rest e)))
    ⊎ (((x : _) → p ≡ is x → ⊥) × IsAtPart OtherPart node (p ∷ rest) e)

abbrev pub told : {K X : Type 0} → (X → Piece) → (X → Type 0) → K → ℕ → ToldContents K X → TypeContents K
told is Yes kind node F = record {
  contents = mapped (λ v. is v.0 ∷ v.1) (permitted_contents (λ v. Yes v.0) kind node F.contents);
  misfit = FirstPart node (ToldMisfit is Yes node F);
}

-- ---- values one after another

abbrev pub invalid_told : {K X : Type 0} → K → MisfitKind → ℕ → ToldContents K X
invalid_told fault misfit node = record { contents = invalid_contents fault node; misfit = λ x tape e. IsAtPart misfit node tape e }

-- no parts, and no bits
abbrev pub nothing_more : {K : Type 0} → K → ℕ → ToldContents K ⊤
nothing_more extra node = record { contents = only extra node (constant (tt {0}, [])); misfit = λ x tape e. ⊥ }

-- a value, then contents
abbrev pub present : {K X : Type 0} → TypeEncoding K → ToldContents K X → ToldContents K X
present A F = record {
  contents = then_contents A.encoding (λ ts v. (v.0, ts ++ v.1)) (λ ts. F.contents);
  misfit = λ x tape e. A.misfit tape e ⊎ AfterParts A.encoding.encodes (λ list rest. F.misfit x rest e) tape;
}

-- contents that are not empty
abbrev pub required : {K X : Type 0} → K → ℕ → ToldContents K X → ToldContents K X
required missing node F = record {
  contents = if_next (λ list. list ≡ []) (invalid_contents missing node) F.contents;
  misfit = F.misfit;
}

-- the parts of contents that tell x
abbrev pub FillsWith : {K X : Type 0} → ToldContents K X → X → Parts → List Bool → Type 0
FillsWith F x xs list = F.contents.fills (x, xs) list

-- Bits: G where C holds of them, otherwise a component is absent, and F follows. Parts: F where the first part says that a component
-- is absent, otherwise G; where C does not tell the same of the bits, the parts have no encoding.
abbrev pub perhaps : {K X : Type 0} → (List Bool → Type 0) → ℕ → ToldContents K X → ToldContents K X → ToldContents K X
perhaps C node G F = record {
  contents = if_next C G.contents (mapped (λ v. (v.0, Absent ∷ v.1)) F.contents);
  misfit = λ x tape e.
      ((others : Parts) × (tape ≡ Absent ∷ others)
      × (F.misfit x others e ⊎ (AfterParts (FillsWith F x) (λ list rest. C list) others × IsAtPart NoEncoding node tape e)))
      ⊎ (¬ (IsAbsent tape)
      × (G.misfit x tape e ⊎ (AfterParts (FillsWith G x) (λ list rest. ¬ (C list)) tape × IsAtPart NoEncoding node tape e)));
}

-- a part, and contents
abbrev pub PrefixedMisfit : {K X : Type 0} → Piece → ℕ → ToldContents K X → X → Piece → Parts → Misfit → Type 0
PrefixedMisfit q node F x p rest e = ((p ≡ q) × F.misfit x rest e) ⊎ (¬ (p ≡ q) × IsAtPart OtherPart node (p ∷ rest) e)

abbrev pub prefixed : {K X : Type 0} → Piece → ℕ → ToldContents K X → ToldContents K X
prefixed q node F = record {
  contents = mapped (λ v. (v.0, q ∷ v.1)) F.contents;
  misfit = λ x. FirstPart node (PrefixedMisfit q node F x);
}

-- values to the end, each of which may depend on the bits of the one before it, and their number
abbrev pub to_end : {K : Type 0} → K → ℕ → (List Bool → TypeEncoding K) → ToldContents K ℕ
to_end extra node A = record {
  contents = repeated extra node (λ before. (A before).encoding) (0, []) (λ ts v. (suc v.0, ts ++ v.1));
  misfit = λ n tape e. (several_by_bits (λ before at. A before) [] n 0).misfit tape e;
}

-- the same contents, which tell f of what they told
abbrev pub renamed : {K X Y : Type 0} → (X → Y) → ℕ → ToldContents K X → ToldContents K Y
renamed f node F = record {
  contents = mapped (λ v. (f v.0, v.1)) F.contents;
  misfit = λ y tape e. ((x : _) × (y ≡ f x) × F.misfit x tape e) ⊎ (((x : _) → y ≡ f x → ⊥) × IsAtPart NoEncoding node tape e);
}

-- contents that may be empty, and whether they are not
abbrev pub SomeMisfit : {K : Type 0} → ℕ → TypeContents K → Bool → Parts → Misfit → Type 0
SomeMisfit node F false tape e = ⊥
SomeMisfit node F true tape e =
    F.misfit tape e ⊎ (AfterParts F.contents.fills (λ list rest. list ≡ []) tape × IsAtPart NoAddition node tape e)

abbrev pub some_or_none : {K : Type 0} → K → ℕ → TypeContents K → ToldContents K Bool
some_or_none extra node F = record {
  contents = if_next (λ list. list ≡ []) (only extra node (constant (false, []))) (mapped (λ (ts : Parts). (true, ts)) F.contents);
  misfit = SomeMisfit node F;
}
