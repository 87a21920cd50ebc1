-- What the answer to an input is.
use Rattle.std.specs.Prelude.{◌≡◌, ◌≢◌, ℕ, ◌*◌, ◌<◌, ◌≤◌, ◌⊎◌, Bool, List, ◌++◌, length, drop, All, Ok, string_bytes, codes}
use Rattle.asn1_values.specs.declared.bit_fields.error.ReadError.{ReadError}
use Rattle.asn1_values.specs.declared.bit_fields.error.ReadError.TheVariants.{Memory}
use Rattle.asn1_values.specs.Fields.{Field, Shape, AreSpelledBy, Begins}
use Rattle.asn1_values.specs.Refusals.{IsReadRefusal}
use Rattle.asn1_values.specs.Words.{bits, padded}
use Rattle.hex.specs.Hex.{decode_of}
use Rattle.field_lines.specs.declared.answer.Answer as made
use Rattle.field_lines.specs.Input.{Lines, AreLines, AreWords, IsNumber}
use Rattle.field_lines.specs.Output.{line, printed, error_text}

-- what is written, and the status
pub record Answer : Type 0 where
  pub text : List ℕ
  pub status : ℕ

-- those of an answer that was made
abbrev pub answer_in : made.Answer → Answer
answer_in a = record { text = string_bytes a.text; status = a.status }

-- the octets hold the list, with zeros to the end of the last
abbrev pub Hold : List ℕ → List Bool → Type 0
Hold octets list = All (λ octet. octet < 256) octets × (bits octets ≡ padded list)

-- the fields are printed, with the number of bits that are left and the octets that hold the
-- fields' own bits
abbrev pub IsPrinted : List Field → ℕ → Answer → Type 0
IsPrinted fields left answer =
    (again : List Bool) × (octets : List ℕ) × AreSpelledBy fields again × Hold octets again
    × (answer ≡ record { text = printed fields left octets; status = 0 })

-- fields of the shapes begin the bits, and are printed
abbrev pub IsFieldsAnswer : List Bool → List Shape → Answer → Type 0
IsFieldsAnswer list shapes answer =
    (fields : List Field) × (rest : List Bool) × Begins list shapes fields rest × IsPrinted fields (length rest) answer

-- no fields of the shapes begin the bits; the first that is invalid is named
abbrev pub IsRefusalAnswer : List Bool → List Shape → Answer → Type 0
IsRefusalAnswer list shapes answer =
    (e : ReadError) × (e ≢ Memory) × IsReadRefusal list shapes e
    × (answer ≡ record { text = line (codes "refused: " ++ error_text e); status = 1 })

-- the answer to bits and shapes
abbrev pub IsBitsAnswer : List Bool → List Shape → Answer → Type 0
IsBitsAnswer list shapes answer = IsFieldsAnswer list shapes answer ⊎ IsRefusalAnswer list shapes answer

-- there is one that is right, and the answer goes on from it; or there is none, and the answer is
-- this line
abbrev pub OrElse : {X : Type 0} → (X → Type 0) → List ℕ → (X → Answer → Type 0) → Answer → Type 0
OrElse {X} IsRight text Next answer =
    ((x : X) × IsRight x × Next x answer)
    ⊎ (((x : X) → ¬ (IsRight x)) × (answer ≡ record { text = line text; status = 1 }))

-- the line names one of the bits of the octets, or the end of them
abbrev pub IsStart : List ℕ → List ℕ → ℕ → Type 0
IsStart line octets first = IsNumber line first × (first ≤ 8 * length octets)

-- the answer to shapes and octets, by the line of the first bit
abbrev pub IsStartAnswer : Lines → List Shape → List ℕ → Answer → Type 0
IsStartAnswer lines shapes octets =
    OrElse (IsStart lines.start octets) (codes "bad start") (λ first. IsBitsAnswer (drop first (bits octets)) shapes)

-- the answer to shapes, by the line of octets
abbrev pub IsOctetsAnswer : Lines → List Shape → Answer → Type 0
IsOctetsAnswer lines shapes =
    OrElse (λ octets. decode_of lines.octets ≡ Ok octets) (codes "bad octets") (IsStartAnswer lines shapes)

-- the answer to three lines, by that of shapes
abbrev pub IsShapesAnswer : Lines → Answer → Type 0
IsShapesAnswer lines = OrElse (AreWords lines.shapes) (codes "bad shapes") (IsOctetsAnswer lines)

-- the answer to the input: the first line that is invalid decides
abbrev pub IsAnswer : List ℕ → Answer → Type 0
IsAnswer text = OrElse (AreLines text) (codes "bad input") IsShapesAnswer

-- P holds of the answer, and of no other
abbrev pub IsOnly : (Answer → Type 0) → Answer → Type 0
IsOnly P answer = P answer × ((other : Answer) → P other → other ≡ answer)
