-- Complete encodings and open types (X.691 11.1, 11.2).
use Rattle.std.specs.Prelude.{◌≡◌, ◌≢◌, ℕ, zero, suc, ◌⊎◌, ⊤, Bool, List, length}
use Rattle.asn1_bits.specs.Bits.{digits}
use Rattle.asn1_schema.specs.Encodings.{Encoding, Contents, IsAt, constant, with_bits, in_turn, anywhere, then_contents}
use Rattle.asn1_schema.specs.Pieces.{Parts}
use Rattle.asn1_schema.specs.TypeEncodings.{TypeEncoding, enclosed}
use Rattle.asn1_x691.specs.declared.fault.FaultKind.{FaultKind}
use Rattle.asn1_x691.specs.declared.fault.FaultKind.TheVariants.{NotZero, ExtraOctets}
use Rattle.asn1_x691.specs.Fields.{to_octet}
use Rattle.asn1_x691.specs.Fragments.{octets}

-- how many zeros follow a number of bits: to whole octets, of which there is one at least (11.1.3)
abbrev pub padding_of : ℕ → ℕ
padding_of zero = 8
padding_of (suc n) = to_octet (suc n)

-- the zeros after `n` bits, and nothing else
abbrev pub padding : ℕ → ℕ → Contents FaultKind ⊤
padding node n = record {
  fills = λ u list. (length list ≡ padding_of n) × (list ≡ digits 0 (length list));
  fault = λ list e. ((length list ≢ padding_of n) × IsAt ExtraOctets node list e)
      ⊎ ((length list ≡ padding_of n) × (list ≢ digits 0 (length list)) × IsAt NotZero node list e);
}

-- a complete encoding: a value at the first position of octets of its own, and the zeros after it (11.1)
abbrev pub complete : ℕ → (ℕ → TypeEncoding FaultKind) → Contents FaultKind Parts
complete node A = then_contents (with_bits (A 0).encoding) (λ v u. v.0) (λ v. padding node (length v.1))

-- octets after their number, in at most `most` fragments; they are contents of something
abbrev pub enclosing : ℕ → Bool → ℕ → ℕ → Encoding FaultKind (⊤ × List Bool)
enclosing most aligned node = in_turn (octets most aligned node) (λ contents u. (u, contents)) (λ contents. anywhere (constant tt))

-- an open type: octets that are a complete encoding, after their number (11.2)
abbrev pub open_type : ℕ → Bool → ℕ → (ℕ → TypeEncoding FaultKind) → ℕ → TypeEncoding FaultKind
open_type most aligned node A = enclosed (enclosing most aligned node) (complete node A) (A 0).misfit node
