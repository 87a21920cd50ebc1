-- Octets that are kept by their contents: identifiers and UTF-8 (X.690 8.19, 8.20, 8.23.10). A list of bits is that of octets.
use Rattle.std.specs.Prelude.{◌≡◌, ℕ, ◌≤◌, Bool, List, length}
use Rattle.std.specs.Str.{IsUtf8}
use Rattle.asn1_bits.specs.Bits.{bits}
use Rattle.asn1_oid.specs.Contents.{AreSubidentifiers, IsContents}

abbrev pub IsObjectIdentifier : List Bool → Type 0
IsObjectIdentifier contents = (arcs : List ℕ) × (octets : List ℕ) × IsContents arcs octets × (contents ≡ bits octets)

abbrev pub IsRelativeIdentifier : List Bool → Type 0
IsRelativeIdentifier contents =
    (arcs : List ℕ) × (octets : List ℕ) × (1 ≤ length arcs) × AreSubidentifiers arcs octets × (contents ≡ bits octets)

abbrev pub IsUtf8Text : List Bool → Type 0
IsUtf8Text contents = (octets : List ℕ) × IsUtf8 octets × (contents ≡ bits octets)
