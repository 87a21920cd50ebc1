-- What follows from steps of a decoder that reads a value of one part.
use Rattle.std.proofs.Common.{◌≡◌, ℕ, List, [], ◌∷◌, Bool, refl, sym, subst, inl, inr, Option, Some, None}
use Rattle.std.proofs.lemmas.List.{append-nil}
use Rattle.asn1_schema.specs.declared.part.Part.{Part}
use Rattle.asn1_schema.specs.declared.tables.Range.{Range}
use Rattle.asn1_schema.specs.Pieces.{Piece}
use Rattle.asn1_schema.specs.PiecesOfParts.{piece_of}
use Rattle.asn1_schema.specs.Encodings.{Fault, Encoding, Starts, IsAt, constant, invalid, cases, anywhere, in_turn, permitted}
use Rattle.asn1_schema.specs.TypeEncodings.{TypeEncoding, leaf, by_bit}
use Rattle.asn1_x691.specs.declared.fault.FaultKind.{FaultKind}
use Rattle.asn1_x691.specs.Strings.{bit}
use Rattle.asn1_x691.specs.Leaves.{by_extension_bit}
use Rattle.asn1_x691_fields.specs.declared.state.State.{State}
use Rattle.asn1_x691_fields.specs.Outcomes.{rest, position, fault_of, IsWithin, IsOnward, IsRead}
use Rattle.asn1_x691_fields.specs.Steps.{turn_starts, turn_fault}

-- ---- one part, and its bits

pub leaf_starts : {X : Type 0} (A : ℕ → Encoding FaultKind X) (is : X → Piece) (node at : ℕ) (list left : List Bool) (x : X) (p : Piece)
    → p ≡ is x → Starts (A at).encodes list x left → Starts (leaf A is node at).encoding.encodes list (p ∷ []) left
leaf_starts A is node at list left x p e s =
    subst (λ (q : Piece). Starts (leaf A is node at).encoding.encodes list (q ∷ []) left) (sym e)
    (record {
      front = s.front;
      encoded = record {
        value = x;
        after = [];
        front = s.front;
        rest = [];
        first = s.encoded;
        second = (refl, refl);
        is = refl;
        parts = sym (append-nil s.front);
      };
      parts = s.parts;
    })

-- ---- a value after a header

module _ {X Y Z T : Type 0} (list : List Bool) (old mid new : State) (x : X) (g : T → Y) where
  pub turn_read : (A : ℕ → Encoding FaultKind X) (f : X → Y → Z) (B : X → ℕ → Encoding FaultKind Y) (r : Option T)
      → IsWithin list old → IsOnward list old mid
      → Starts (A (position old)).encodes (rest list old) x (rest list mid) → IsRead (B x) g list mid new r
      → IsRead (in_turn A f B) (λ t. f x (g t)) list old new r
  turn_read A f B (Some t) h o s p = turn_starts list old mid h o A f B x s (rest list new) (g t) p
  turn_read A f B None h o s w = turn_fault list old mid h o A f B x s (fault_of new) w

-- an extension bit, and what it tells
pub bit_taken : (node : ℕ) (Added : Piece → Type 0) (root extension : ℕ → TypeEncoding FaultKind) (ranges : List Range) (list : List Bool) (old mid new : State)
    (b : Bool) (r : Option Part) → IsWithin list old → IsOnward list old mid
    → Starts (bit node).encodes (rest list old) b (rest list mid)
    → IsRead (λ at. by_bit (root at) (extension at) b) (λ p. piece_of ranges list p ∷ []) list mid new r
    → IsRead (λ at. (by_extension_bit node Added root extension at).encoding) (λ p. piece_of ranges list p ∷ []) list old new r
bit_taken node Added root extension ranges list old mid new b r h o s p =
    turn_read list old mid new b (λ (t : Part). piece_of ranges list t ∷ []) (λ at. bit node) (λ x ts. ts)
    (λ x at. by_bit (root at) (extension at) x) r h o s p

-- ---- a value that is permitted

module _ {X : Type 0} (Yes No : X → Type 0) (kind : FaultKind) (node : ℕ) (A : ℕ → Encoding FaultKind X) (list : List Bool)
    (old mid : State) (h : IsWithin list old) (o : IsOnward list old mid) (x : X)
    (s : Starts (A (position old)).encodes (rest list old) x (rest list mid)) where
  abbrev tested : X → ℕ → Encoding FaultKind X
  tested y = anywhere (cases (Yes y) (constant y) (No y) (invalid kind node))

  pub permitted_starts : Yes x → Starts (permitted Yes No kind node A (position old)).encodes (rest list old) x (rest list mid)
  permitted_starts is =
      turn_starts list old mid h o A (λ y z. z) tested x s (rest list mid) x
      (record { front = []; encoded = inl (is, (refl, refl)); parts = refl })

  pub permitted_fault : (e : Fault FaultKind) → No x → IsAt kind node (rest list mid) e
      → (permitted Yes No kind node A (position old)).fault (rest list old) e
  permitted_fault e is w = turn_fault list old mid h o A (λ y z. z) tested x s e (inr (is, w))
