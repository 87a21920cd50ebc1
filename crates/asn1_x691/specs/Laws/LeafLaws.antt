-- Laws of types of one part.
use Rattle.std.proofs.Common.{length, ◌≡◌, ℕ, ℤ, nat_lt, Bool, true, false, List, arith}
use Rattle.std.specs.Int.Signed.{clash_ℤ, ◌<ℤ◌, ◌≤ℤ◌}
use Rattle.asn1_schema.specs.declared.tables.Length.{Length}
use Rattle.asn1_schema.specs.declared.tables.Length.TheVariants.{AtLeast}
use Rattle.asn1_schema.specs.Pieces.{Piece, Absent, Integer, Enumerated, Bits, Octets, Text}
use Rattle.asn1_schema.specs.Encodings.{Encoding, EncodesOne, permitted}
use Rattle.asn1_schema.specs.TypeEncodings.{TypeEncoding, leaf}
use Rattle.asn1_schema.specs.Laws.PositionLaws.{IsSoundEverywhere}
use Rattle.asn1_schema.specs.Laws.PermittedLaws.{permitted_sound, permitted_one, permitted_is, permitted_of}
use Rattle.asn1_schema.specs.Laws.HeaderLaws.{BeginsWith}
use Rattle.asn1_x691.specs.declared.fault.FaultKind.{FaultKind}
use Rattle.asn1_x691.specs.declared.fault.FaultKind.TheVariants.{InRoot, NotTrimmed, Contents}
use Rattle.asn1_x691.specs.Fields.{constrained, semi_constrained, unconstrained, small_number}
use Rattle.asn1_x691.specs.Fragments.{octets}
use Rattle.asn1_x691.specs.Strings.{string_of, added_string}
use Rattle.asn1_x691.specs.Leaves.{from_least, IsBetween, IsOutside, IsAddedInteger, value_of_addition, IsAddedValue, AreAddedBits, AreAddedOctets, AreTrimmed, integer_between, integer_at_least, integer, extensible_integer, integer_between_by, integer_at_least_by, enumerated, enumerated_by, string_by, bits_by, bit_string, octet_string, text, contents, visible, time}
use Rattle.asn1_x691.specs.Laws.FieldLaws.{constrained_sound, semi_constrained_sound, unconstrained_sound, small_number_sound}
use Rattle.asn1_x691.specs.Laws.OneEncodingLaws.{constrained_one}
use Rattle.asn1_x691.specs.Laws.NumberLaws.{semi_constrained_one, unconstrained_one, small_number_one}
use Rattle.asn1_x691.specs.Laws.StringLaws.{sizes_apart, string_of_sound, string_of_one, string_is_not_added, added_string_sound, added_string_one, added_string_is_added}
use Rattle.asn1_x691.specs.Characters.{text_of, added_text, IsAddedText}
use Rattle.asn1_x691.specs.Laws.CharacterLaws.{text_of_sound, text_of_one, text_of_size, added_text_sound, added_text_one, added_text_is_added}
use Rattle.asn1_schema.specs.declared.tables.Range.{Range}
use Rattle.asn1_x691.specs.Laws.FragmentLaws.{octets_sound, octets_one}
use Rattle.asn1_x691.specs.Laws.RangeLaws.{constrained_within}
use Rattle.asn1_x691.specs.Laws.GoodTypes.{IsType, leaf_type, by_bit_type}
use Rattle.asn1_x691.specs.Laws.PieceLaws.{from_least_between, from_least_at_least, outside_apart, integer_alike, from_least_alike, enumerated_alike, bits_alike, octets_alike, text_alike, added_value_alike, added_value_present, is_added_value, one_apart, eight_apart}

module _ (aligned : Bool) (node : ℕ) where
  -- ---- INTEGER

  integer_between_type : (least : ℤ) (range : ℕ) → IsType (integer_between aligned node least range)
  integer_between_type least range =
      leaf_type (constrained aligned range node) (from_least least) node (constrained_sound aligned range node)
      (constrained_one aligned range node) (from_least_alike least) (λ x p. cc)

  integer_at_least_type : (least : ℤ) → IsType (integer_at_least aligned node least)
  integer_at_least_type least =
      leaf_type (semi_constrained aligned node) (from_least least) node (semi_constrained_sound aligned node)
      (semi_constrained_one aligned node) (from_least_alike least) (λ x p. cc)

  pub integer_type : IsType (integer aligned node)
  integer_type =
      leaf_type (unconstrained aligned node) Integer node (unconstrained_sound aligned node) (unconstrained_one aligned node)
      integer_alike (λ x p. cc)

  extensible_integer_type : (Root Added : ℤ → Type 0) (A : ℕ → TypeEncoding FaultKind) → ((n : ℤ) → Added n → Root n → ⊥)
      → IsType A → ((at : ℕ) → BeginsWith (λ p. ¬ (IsAddedInteger Added p)) (A at))
      → IsType (extensible_integer aligned node Root Added A)
  extensible_integer_type Root Added A apart a root =
      by_bit_type node (IsAddedInteger Added) A (leaf (permitted Added Root InRoot node (unconstrained aligned node)) Integer node) a
      (leaf_type (permitted Added Root InRoot node (unconstrained aligned node)) Integer node
      (permitted_sound Added Root InRoot node (unconstrained aligned node) apart (unconstrained_sound aligned node))
      (permitted_one Added Root InRoot node (unconstrained aligned node) (unconstrained_one aligned node)) integer_alike (λ x p. cc)) root
      (λ at. record {
        each = λ xs l p. (
          Integer p.value,
          p.after,
          p.is,
          permitted_is Added Root InRoot node (unconstrained aligned node) at p.value p.front p.first,
        );
      })

  pub integer_between_by_type : (b : Bool) (least : ℤ) (range : ℕ) → IsType (integer_between_by aligned node b least range)
  integer_between_by_type false least range = integer_between_type least range
  integer_between_by_type true least range =
      extensible_integer_type (IsBetween least range) (IsOutside least range) (integer_between aligned node least range)
      (outside_apart least range) (integer_between_type least range)
      (λ at. record {
        each = λ xs l p. (
          from_least least p.value,
          p.after,
          p.is,
          from_least_between least range p.value (constrained_within aligned range node at p.value p.front p.first),
        );
      })

  pub integer_at_least_by_type : (b : Bool) (least : ℤ) → IsType (integer_at_least_by aligned node b least)
  integer_at_least_by_type false least = integer_at_least_type least
  integer_at_least_by_type true least =
      extensible_integer_type (λ n. least ≤ℤ n) (λ n. n <ℤ least) (integer_at_least aligned node least) (λ n p q. clash_ℤ p q)
      (integer_at_least_type least)
      (λ at. record { each = λ xs l p. (from_least least p.value, p.after, p.is, from_least_at_least least p.value) })

  -- ---- ENUMERATED

  enumerated_type : (last : ℕ) → IsType (enumerated aligned node last)
  enumerated_type last =
      leaf_type (constrained aligned last node) Enumerated node (constrained_sound aligned last node) (constrained_one aligned last node)
      enumerated_alike (λ x p. cc)

  pub enumerated_by_type : (b : Bool) (last known : ℕ) → IsType (enumerated_by aligned node b last known)
  enumerated_by_type false last known = enumerated_type last
  enumerated_by_type true last known =
      by_bit_type node (IsAddedValue last) (enumerated aligned node last)
      (leaf (small_number aligned node) (value_of_addition last known) node) (enumerated_type last)
      (leaf_type (small_number aligned node) (value_of_addition last known) node (small_number_sound aligned node)
      (small_number_one aligned node) (λ x y. added_value_alike last (nat_lt x known) (nat_lt y known) x y)
      (λ x. added_value_present last (nat_lt x known) x))
      (λ at. record {
        each = λ xs l p. (
          Enumerated p.value,
          p.after,
          p.is,
          λ q. let few = constrained_within aligned last node at p.value p.front p.first in omega (arith, few, q),
        );
      })
      (λ at. record {
        each = λ xs l p.
            (value_of_addition last known p.value, p.after, p.is, is_added_value last (nat_lt p.value known) p.value);
      })

  -- ---- strings

  string_by_type : {X : Type 0} (b : Bool) (A B : ℕ → Encoding FaultKind X) (is : X → Piece) (Added : Piece → Type 0)
      → IsSoundEverywhere A → ((at : ℕ) → EncodesOne (A at).encodes) → IsSoundEverywhere B → ((at : ℕ) → EncodesOne (B at).encodes)
      → ((x y : X) → is x ≡ is y → x ≡ y) → ((x : X) → is x ≡ Absent → ⊥)
      → ((at : ℕ) (x : X) (k : List Bool) → (A at).encodes x k → Added (is x) → ⊥)
      → ((at : ℕ) (x : X) (k : List Bool) → (B at).encodes x k → Added (is x)) → IsType (string_by aligned node b A B is Added)
  string_by_type false A B is Added a one b other alike not absent present = leaf_type A is node a one alike not
  string_by_type true A B is Added a one b other alike not absent present =
      by_bit_type node Added (leaf A is node) (leaf B is node) (leaf_type A is node a one alike not) (leaf_type B is node b other alike not)
      (λ at. record { each = λ xs l p. (is p.value, p.after, p.is, λ q. absent at p.value p.front p.first q) })
      (λ at. record { each = λ xs l p. (is p.value, p.after, p.is, present at p.value p.front p.first) })

  module _ (size : Length) (A : ℕ → Encoding FaultKind (List Bool)) where
    bits_by_sound : (has_names : Bool) → IsSoundEverywhere A → IsSoundEverywhere (bits_by aligned node has_names size A)
    bits_by_sound false a = a
    bits_by_sound true a =
        permitted_sound (AreTrimmed size) (λ bits. ¬ (AreTrimmed size bits)) NotTrimmed node A (λ x p q. q p) a

    bits_by_one : (has_names : Bool) → ((at : ℕ) → EncodesOne (A at).encodes) → (at : ℕ)
        → EncodesOne (bits_by aligned node has_names size A at).encodes
    bits_by_one false a = a
    bits_by_one true a = permitted_one (AreTrimmed size) (λ bits. ¬ (AreTrimmed size bits)) NotTrimmed node A a

    bits_by_of : (has_names : Bool) (at : ℕ) (x k : List Bool) → (bits_by aligned node has_names size A at).encodes x k
        → (list : List Bool) × (A at).encodes x list
    bits_by_of false at x k p = (k, p)
    bits_by_of true at x k p = permitted_of (AreTrimmed size) (λ bits. ¬ (AreTrimmed size bits)) NotTrimmed node A at x k p

-- in at most `most` fragments
module _ (most : ℕ) (aligned : Bool) (node : ℕ) where
  pub octet_string_type : (size : Length) (b : Bool) → IsType (octet_string most aligned node size b)
  octet_string_type size b =
      string_by_type aligned node b (string_of most aligned 8 size node) (added_string most aligned 8 size node) Octets (AreAddedOctets size)
      (string_of_sound most aligned 8 node eight_apart size) (string_of_one most aligned 8 node eight_apart size)
      (added_string_sound most aligned 8 node eight_apart size) (added_string_one most aligned 8 node eight_apart size) octets_alike
      (λ x p. cc) (λ at x k p q. string_is_not_added most aligned 8 node eight_apart size at x k p q)
      (λ at x k p. added_string_is_added most aligned 8 node eight_apart size at x k p)

  pub bit_string_type : (size : Length) (b has_names : Bool) → IsType (bit_string most aligned node size b has_names)
  bit_string_type size b has_names =
      string_by_type aligned node b (bits_by aligned node has_names size (string_of most aligned 1 size node))
      (bits_by aligned node has_names size (added_string most aligned 1 size node)) Bits (AreAddedBits size)
      (bits_by_sound aligned node size (string_of most aligned 1 size node) has_names (string_of_sound most aligned 1 node one_apart size))
      (bits_by_one aligned node size (string_of most aligned 1 size node) has_names (string_of_one most aligned 1 node one_apart size))
      (bits_by_sound aligned node size (added_string most aligned 1 size node) has_names (added_string_sound most aligned 1 node one_apart size))
      (bits_by_one aligned node size (added_string most aligned 1 size node) has_names (added_string_one most aligned 1 node one_apart size)) bits_alike
      (λ x p. cc)
      (λ at x k p q.
      let g = bits_by_of aligned node size (string_of most aligned 1 size node) has_names at x k p in
      string_is_not_added most aligned 1 node one_apart size at x g.0 g.1 q)
      (λ at x k p.
      let g = bits_by_of aligned node size (added_string most aligned 1 size node) has_names at x k p in
      added_string_is_added most aligned 1 node one_apart size at x g.0 g.1)

  pub contents_type : (Valid : List Bool → Type 0) → IsType (contents most aligned node Valid)
  contents_type Valid =
      leaf_type (permitted Valid (λ list. ¬ (Valid list)) Contents node (octets most aligned node)) Octets node
      (permitted_sound Valid (λ list. ¬ (Valid list)) Contents node (octets most aligned node) (λ x p q. q p) (octets_sound most aligned node))
      (permitted_one Valid (λ list. ¬ (Valid list)) Contents node (octets most aligned node) (octets_one most aligned node)) octets_alike
      (λ x p. cc)

  pub time_type : (Valid : List ℕ → Type 0) → IsType (time most aligned node Valid)
  time_type Valid =
      let A = text_of most aligned visible node (AtLeast 0) in
      leaf_type (permitted Valid (λ text. ¬ (Valid text)) Contents node A) Text node
      (permitted_sound Valid (λ text. ¬ (Valid text)) Contents node A (λ x p q. q p) (text_of_sound aligned visible node most (AtLeast 0)))
      (permitted_one Valid (λ text. ¬ (Valid text)) Contents node A (text_of_one aligned visible node most (AtLeast 0))) text_alike
      (λ x p. cc)

  pub text_type : (size : Length) (b : Bool) (ranges whole : List Range) → IsType (text most aligned node size b ranges whole)
  text_type size b ranges whole =
      string_by_type aligned node b (text_of most aligned ranges node size) (added_text most aligned whole node size) Text (IsAddedText size)
      (text_of_sound aligned ranges node most size) (text_of_one aligned ranges node most size) (added_text_sound aligned whole node most size)
      (added_text_one aligned whole node most size) text_alike (λ x p. cc)
      (λ at x k p q. sizes_apart size (length x) q (text_of_size aligned ranges node most size at x k p))
      (λ at x k p. added_text_is_added aligned whole node most size at x k p)
