-- What follows for types of one part.
use Rattle.std.proofs.Common.{◌≡◌, ℕ, ◌+◌, List, [], ◌∷◌, Bool, length, refl, sym, subst, inl, inr, append-nil}
use Rattle.asn1_schema.specs.declared.misfit.MisfitKind.TheVariants.{OtherPart, NoEncoding}
use Rattle.asn1_schema.specs.Pieces.{Piece, Parts}
use Rattle.asn1_schema.specs.Fields.{raw_bits}
use Rattle.asn1_schema.specs.Encodings.{Encoding, CanEncode, anywhere, constant}
use Rattle.asn1_schema.specs.TypeEncodings.{TypeEncoding, Misfit, leaf, by_bit}
use Rattle.asn1_x691.specs.declared.fault.FaultKind.{FaultKind}
use Rattle.asn1_x691.specs.declared.fault.FaultKind.TheVariants.{Short}
use Rattle.asn1_x691.specs.Strings.{bit, first_of}
use Rattle.asn1_x691.specs.Leaves.{by_extension_bit}
use Rattle.asn1_x691_writers.specs.Written.{IsGrown, IsWritten}
use Rattle.asn1_x691_writers.specs.FieldSteps.{turn_written, then_constant}
use Rattle.asn1_x691_writers.specs.StringSteps.{raw_written}

-- ---- one part, and its bits

module _ {X : Type 0} (A : ℕ → Encoding FaultKind X) (is : X → Piece) (node : ℕ) where
  pub leaf_written : (aligned : Bool) (x : X) (p : Piece) (was now : List ℕ) (old new : ℕ) → p ≡ is x → IsWritten aligned A x was old now new
      → IsWritten aligned (λ at. (leaf A is node at).encoding) (p ∷ []) was old now new
  leaf_written aligned x p was now old new e a =
      subst (λ (q : Piece). IsWritten aligned (λ at. (leaf A is node at).encoding) (q ∷ []) was old now new) (sym e)
      (record {
        list = a.list;
        encodes = λ at h. record {
          value = x;
          after = [];
          front = a.list;
          rest = [];
          first = a.encodes at h;
          second = (refl, refl);
          is = refl;
          parts = sym (append-nil a.list);
        };
        grown = a.grown;
      })

  -- the misfit of another part
  pub leaf_other : (p : Piece) → ((x : X) → p ≡ is x → ⊥) → (at : ℕ) (rest : Parts)
      → (leaf A is node at).misfit (p ∷ rest) (record { node = node; left = length (p ∷ rest); kind = OtherPart })
  leaf_other p f at rest = inr (f, refl)

  -- that of a value without an encoding
  pub leaf_none : (p : Piece) (x : X) → p ≡ is x → ((at : ℕ) → CanEncode (A at).encodes x → ⊥) → (at : ℕ) (rest : Parts)
      → (leaf A is node at).misfit (p ∷ rest) (record { node = node; left = length (p ∷ rest); kind = NoEncoding })
  leaf_none p x e f at rest = inl (x, e, inl (f at, refl))

-- ---- after an extension bit

pub bit_is : (aligned : Bool) (node : ℕ) (b : Bool) (was now : List ℕ) (old new : ℕ) → IsGrown was old now new (b ∷ [])
    → IsWritten aligned (anywhere (bit node)) b was old now new
bit_is aligned node b was now old new g =
    then_constant aligned was now old new (raw_bits 1 Short node) (λ bits b. b) (λ bits. constant (first_of bits)) (b ∷ []) b
    (raw_written aligned 1 node (b ∷ []) was now old new refl g) (refl, refl)

module _ (node : ℕ) (Added : Piece → Type 0) (root extension : ℕ → TypeEncoding FaultKind) (p : Piece) where
  pub bit_written : (aligned b : Bool) (was mid now : List ℕ) (old at new : ℕ)
      → IsWritten aligned (anywhere (bit node)) b was old mid at
      → IsWritten aligned (λ n. by_bit (root n) (extension n) b) (p ∷ []) mid at now new
      → IsWritten aligned (λ n. (by_extension_bit node Added root extension n).encoding) (p ∷ []) was old now new
  bit_written aligned b was mid now old at new a c =
      turn_written aligned (λ n. bit node) (λ x ts. ts) (λ x n. by_bit (root n) (extension n) x) b (p ∷ []) was mid now old at new a c

  pub root_misfit : (e : Parts → Misfit) → (Added p → ⊥) → ((at : ℕ) (rest : Parts) → (root at).misfit (p ∷ rest) (e rest))
      → (at : ℕ) (rest : Parts) → (by_extension_bit node Added root extension at).misfit (p ∷ rest) (e rest)
  root_misfit e f m at rest = inl (inl (f, m (at + 1) rest))

  pub added_misfit : (e : Parts → Misfit) → Added p → ((at : ℕ) (rest : Parts) → (extension at).misfit (p ∷ rest) (e rest))
      → (at : ℕ) (rest : Parts) → (by_extension_bit node Added root extension at).misfit (p ∷ rest) (e rest)
  added_misfit e f m at rest = inl (inr (f, m (at + 1) rest))
