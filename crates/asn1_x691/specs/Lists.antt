-- The items of a list after their number, of any number: in fragments from 16,384 on (X.691 11.9.3.8, 20.6).
use Rattle.std.specs.Prelude.{◌≡◌, ◌≢◌, ℕ, zero, suc, ◌+◌, ◌*◌, ◌/◌, ◌%◌, ◌<◌, ◌⊎◌, nat_lt, Bool, true, false, List, [], ◌∷◌, ◌++◌}
use Rattle.asn1_schema.specs.declared.misfit.MisfitKind.TheVariants.{NoEncoding, OtherPart}
use Rattle.asn1_schema.specs.Pieces.{Piece, Count, Parts}
use Rattle.asn1_schema.specs.Encodings.{Encoding, CanEncode, constant, invalid, cases, anywhere, in_turn}
use Rattle.asn1_schema.specs.TypeEncodings.{TypeEncoding, Misfit, IsAtPart, FirstPart, nothing, both}
use Rattle.asn1_x691.specs.declared.fault.FaultKind.{FaultKind}
use Rattle.asn1_x691.specs.declared.fault.FaultKind.TheVariants.{Fragment}
use Rattle.asn1_x691.specs.Fragments.{units_next, all_units}
use Rattle.asn1_x691.specs.Strings.{where_size}

-- a permitted number of items, no more than `most` fragments of 65,536 and the last items hold
abbrev pub IsCountable : ℕ → (ℕ → Type 0) → ℕ → Type 0
IsCountable most Yes n = Yes n × (n < 65536 * most + 16384)

-- A n says of n items how they are encoded
module _ (A : ℕ → ℕ → TypeEncoding FaultKind) (aligned : Bool) (node : ℕ) where
  -- ---- reading: each number tells how many items follow it

  abbrev pub numbered_items : ℕ → ℕ → Encoding FaultKind (ℕ × Parts)
  numbered_items most = all_units (λ n at. (A n at).encoding) (λ xs ys. xs ++ ys) aligned node most

  -- ---- writing: the part of the list tells how many items there are, and so each number

  -- this number, in no part
  abbrev pub number_of_units : ℕ → ℕ → TypeEncoding FaultKind
  number_of_units n at = record {
    encoding = in_turn (units_next aligned node) (λ m ts. ts)
        (λ m. anywhere (cases (m ≡ n) (constant []) (m ≢ n) (invalid Fragment node))) at;
    misfit = λ tape e. (CanEncode (units_next aligned node at).encodes n → ⊥) × IsAtPart NoEncoding node tape e;
  }

  -- `n` items after their number, then others
  abbrev pub fragment_then : ℕ → (ℕ → TypeEncoding FaultKind) → ℕ → TypeEncoding FaultKind
  fragment_then n R = both (number_of_units n) (both (A n) R)

  -- fewer than 65,536 items: after a fragment of 16,384, 32,768 or 49,152 where there are 16,384 and more
  abbrev pub items_below : Bool → ℕ → ℕ → TypeEncoding FaultKind
  items_below true n = fragment_then n nothing
  items_below false n = fragment_then (16384 * (n / 16384)) (fragment_then (n % 16384) nothing)

  -- `n` fragments of 65,536 items, then others
  abbrev pub whole_fragments_then : ℕ → (ℕ → TypeEncoding FaultKind) → ℕ → TypeEncoding FaultKind
  whole_fragments_then zero R = R
  whole_fragments_then (suc n) R = fragment_then 65536 (whole_fragments_then n R)

  -- `n` items
  abbrev pub items_in_fragments : ℕ → ℕ → TypeEncoding FaultKind
  items_in_fragments n = whole_fragments_then (n / 65536) (items_below (nat_lt (n % 65536) 16384) (n % 65536))

  -- ---- a list whose number of items `Yes` permits and `No` forbids, in at most `most` fragments

  abbrev pub ListMisfit : ℕ → (ℕ → Type 0) → ℕ → Piece → Parts → Misfit → Type 0
  ListMisfit most Yes at p rest e =
      ((n : ℕ) × (p ≡ Count n)
      × ((IsCountable most Yes n × (items_in_fragments n at).misfit rest e)
      ⊎ (¬ (IsCountable most Yes n) × IsAtPart NoEncoding node (p ∷ rest) e)))
      ⊎ (((n : ℕ) → p ≡ Count n → ⊥) × IsAtPart OtherPart node (p ∷ rest) e)

  abbrev pub list_where : ℕ → (ℕ → Type 0) → (ℕ → Type 0) → FaultKind → ℕ → TypeEncoding FaultKind
  list_where most Yes No kind at = record {
    encoding = in_turn (numbered_items most) (λ v ts. ts) (λ v. where_size Yes No kind node (v.0, Count v.0 ∷ v.1)) at;
    misfit = FirstPart node (ListMisfit most Yes at);
  }
