-- The octets of an integer, wherever they are.
use Rattle.std.specs.Prelude.{◌≡◌, ℕ, ◌+◌, ◌≤◌, List, drop, length, ⊤}
use Rattle.std.specs.List.{flat_map}
use Rattle.asn1_number.specs.declared.integer_bytes.Storage.{Storage}
use Rattle.asn1_number.specs.declared.integer_bytes.Storage.TheVariants.{Words, Copied, Borrowed}

-- the octets, wherever they lie
abbrev pub octets_in : Storage → List ℕ
octets_in (Words start count words) = drop start (flat_map (λ w. w) words)
octets_in (Copied first kept) = drop first kept
octets_in (Borrowed s) = s.now

-- those inline are the end of the sixteen or seventeen that are kept
abbrev pub IsEndOfKept : Storage → Type 0
IsEndOfKept (Words start count words) = (start + count ≡ 16) × (length (flat_map (λ w. w) words) ≡ 16)
IsEndOfKept (Copied first kept) = (first ≤ 17) × (length kept ≡ 17)
IsEndOfKept (Borrowed s) = ⊤
