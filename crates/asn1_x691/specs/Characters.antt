-- Strings of characters of known alphabets (X.691 30.1 to 30.5).
use Rattle.std.specs.Prelude.{◌≡◌, ℕ, ◌+◌, ◌*◌, ◌<◌, ◌≤◌, ◌⊎◌, Bool, List, ◌++◌, length}
use Rattle.asn1_schema.specs.declared.tables.Range.{Range}
use Rattle.asn1_schema.specs.declared.tables.Length.{Length}
use Rattle.asn1_schema.specs.declared.tables.Length.TheVariants.{AtLeast, Between}
use Rattle.asn1_schema.specs.Pieces.{Piece, Text}
use Rattle.asn1_schema.specs.Encodings.{Encoding, then, number, value_where, each, anywhere, in_turn, in_case}
use Rattle.asn1_x691.specs.declared.fault.FaultKind.{FaultKind}
use Rattle.asn1_x691.specs.declared.fault.FaultKind.TheVariants.{Short, BelowLeast, InRoot, NotInAlphabet}
use Rattle.asn1_x691.specs.Fields.{on_octet, constrained}
use Rattle.asn1_x691.specs.Fragments.{all_units}
use Rattle.asn1_x691.specs.Strings.{where_size, IsOfRoot, IsAddedSize}
use Rattle.asn1_x691.specs.Alphabets.{width_of, HasCode}

-- `n` characters begin where they are: none; those of a fixed size of up to 16 bits (30.5.6), and others of fewer than 16
-- (30.5.7)
abbrev pub IsInlineText : ℕ → ℕ → ℕ → ℕ → Type 0
IsInlineText width least range n = (n ≡ 0)
    ⊎ (((range ≡ 0) × (width * least ≤ 16)) ⊎ ((0 < range) × (width * (least + range) < 16)))

-- all others begin at an octet in the ALIGNED variant
abbrev pub IsOnOctetText : ℕ → ℕ → ℕ → ℕ → Type 0
IsOnOctetText width least range n =
    (0 < n) × (((range ≡ 0) × (16 < width * least)) ⊎ ((0 < range) × (16 ≤ width * (least + range))))

-- a piece that is a string of a size that is none of the root
abbrev pub IsAddedText : Length → Piece → Type 0
IsAddedText size (Text text) = IsAddedSize size (length text)
IsAddedText size p = ⊥

module _ (aligned : Bool) (ranges : List Range) (node : ℕ) where
  -- a character, by its code
  abbrev pub character : Encoding FaultKind ℕ
  character = then (number (width_of aligned ranges) Short node) (λ i c. c)
      (λ i. value_where (λ c. HasCode aligned ranges i c) NotInAlphabet node)

  -- `n` characters
  abbrev pub characters : ℕ → ℕ → Encoding FaultKind (List ℕ)
  characters n = anywhere (each character n)

  abbrev pub sized_characters : ℕ → ℕ → ℕ → ℕ → Encoding FaultKind (List ℕ)
  sized_characters least range n =
      in_case (IsInlineText (width_of aligned ranges) least range n) (characters n)
      (IsOnOctetText (width_of aligned ranges) least range n) (on_octet aligned node (each character n))

  -- the number of the characters, where it is not fixed, and the characters
  abbrev pub sized_text : ℕ → ℕ → ℕ → Encoding FaultKind (List ℕ)
  sized_text least range =
      in_turn (constrained aligned range node) (λ d text. text) (λ d. sized_characters least range (least + d))

module _ (most : ℕ) (aligned : Bool) (ranges : List Range) (node : ℕ) where
  -- characters after their number, which `Yes` permits and `No` forbids, in at most `most` fragments
  abbrev pub text_where : (ℕ → Type 0) → (ℕ → Type 0) → FaultKind → ℕ → Encoding FaultKind (List ℕ)
  text_where Yes No kind =
      in_turn (all_units (characters aligned ranges node) (λ a b. a ++ b) aligned node most) (λ v text. text)
      (λ v. where_size Yes No kind node v)

  abbrev pub text_of : Length → ℕ → Encoding FaultKind (List ℕ)
  text_of (AtLeast least) = text_where (λ n. least ≤ n) (λ n. n < least) BelowLeast
  text_of (Between least range) = sized_text aligned ranges node least range

  -- of a size that is none of the root (30.4)
  abbrev pub added_text : Length → ℕ → Encoding FaultKind (List ℕ)
  added_text size = text_where (IsAddedSize size) (IsOfRoot size) InRoot
