-- Limits only reject more: what is decoded within limits is decoded without them, and its first fault is theirs, if it is not that of
-- a limit.
use Rattle.std.proofs.Common.{ℕ, zero, suc, ◌+◌, ◌<◌, ◌≤◌, Bool, true, false, List, ◌∷◌, ◌++◌, length, refl, arith}
use Rattle.asn1_schema.specs.declared.tables.Length.{Length}
use Rattle.asn1_schema.specs.declared.tables.Length.TheVariants.{AtLeast, Between}
use Rattle.asn1_schema.specs.declared.tables.Range.{Range}
use Rattle.asn1_schema.specs.Pieces.{Piece, Bits, Octets, Text, Count, Unknown, Parts}
use Rattle.asn1_schema.specs.Encodings.{Encoding, constant, invalid, anywhere, permitted, in_case, with_bits}
use Rattle.asn1_schema.specs.TypeEncodings.{TypeEncoding, leaf, either_by_bit}
use Rattle.asn1_schema.specs.Laws.NarrowLaws.{AreNarrow, TypesAreNarrow, same_narrow, limit_narrow, cases_narrow, in_turn_narrow, permitted_narrow, with_bits_narrow, leaf_narrow, header_narrow, either_by_bit_narrow, ContentsAreNarrow, then_contents_narrow, enclosed_narrow}
use Rattle.asn1_x691.specs.declared.fault.FaultKind.{FaultKind}
use Rattle.asn1_x691.specs.declared.fault.FaultKind.TheVariants.{NotMinimal, Unsupported, BelowLeast, InRoot, NotTrimmed, Contents}
use Rattle.asn1_x691.specs.Fragments.{units, units_then, units_below, last_units, units_next, all_units, bits_of_units, string, octets}
use Rattle.asn1_x691.specs.Strings.{bit, where_size, string_where, sized_string, string_of, added_string, IsOfRoot, IsAddedSize}
use Rattle.asn1_x691.specs.Characters.{characters, sized_text, text_where, text_of, added_text, IsAddedText}
use Rattle.asn1_x691.specs.Lists.{numbered_items, list_where}
use Rattle.asn1_x691.specs.OpenTypes.{padding, complete, enclosing, open_type}
use Rattle.asn1_x691.specs.Limits.{IsNoLimit}
use Rattle.asn1_x691.specs.Leaves.{by_extension_bit, AreAddedBits, AreAddedOctets, AreTrimmed, string_by, bits_by, bit_string, octet_string, text, contents, visible, time}

abbrev pub Narrow : {X : Type 0} → (ℕ → Encoding FaultKind X) → (ℕ → Encoding FaultKind X) → Type 0
Narrow A B = AreNarrow IsNoLimit A B

abbrev pub NarrowTypes : (ℕ → TypeEncoding FaultKind) → (ℕ → TypeEncoding FaultKind) → Type 0
NarrowTypes A B = TypesAreNarrow IsNoLimit A B

a_limit : IsNoLimit Unsupported → ⊥
a_limit h = h refl

-- ---- units in fragments

-- U and V say how units are encoded, and U rejects more
module _ {Y : Type 0} (U V : ℕ → ℕ → Encoding FaultKind Y) (u : (n : ℕ) → Narrow (U n) (V n)) (join : Y → Y → Y) (aligned : Bool) (node : ℕ) where
  abbrev N : ℕ → Encoding FaultKind ℕ
  N = units_next aligned node

  -- what follows a number that begins a fragment, where `more` more fragments may follow
  abbrev Long : (ℕ → ℕ → Encoding FaultKind Y) → ℕ → ℕ → ℕ → Encoding FaultKind (ℕ × Y)
  Long T more n = in_case (n < 65536) (units_then T join aligned node n (last_units T join aligned node)) (65536 ≤ n)
      (units_then T join aligned node n (all_units T join aligned node more))

  abbrev None_longer : FaultKind → ℕ → ℕ → Encoding FaultKind (ℕ × Y)
  None_longer kind n = anywhere (invalid kind node)

  abbrev Next : (ℕ → ℕ → Encoding FaultKind Y) → (ℕ → ℕ → Encoding FaultKind (ℕ × Y)) → ℕ → ℕ → Encoding FaultKind (ℕ × Y)
  Next T L n = in_case (n < 16384) (units T join aligned node n) (16384 ≤ n) (L n)

  few_narrow : (n : ℕ) → Narrow (units U join aligned node n) (units V join aligned node n)
  few_narrow n at =
      let E = λ (y : Y). anywhere {K = FaultKind} (constant (tt {0})) in
      in_turn_narrow IsNoLimit (U n) (V n) (λ y v. (n, y)) E E at (u n at) (λ y front w. same_narrow IsNoLimit (constant (tt {0})))

  next_narrow : (L M : ℕ → ℕ → Encoding FaultKind (ℕ × Y)) → ((n : ℕ) → Narrow (L n) (M n)) → (n : ℕ) → Narrow (Next U L n) (Next V M n)
  next_narrow L M l n at =
      cases_narrow IsNoLimit (n < 16384) (units U join aligned node n at) (16384 ≤ n) (L n at) (units V join aligned node n at) (M n at)
      (few_narrow n at) (l n at)

  below_narrow : (kind : FaultKind) → Narrow (units_below U join aligned node kind) (units_below V join aligned node kind)
  below_narrow kind at =
      in_turn_narrow IsNoLimit N N (λ n v. v) (Next U (None_longer kind)) (Next V (None_longer kind)) at (same_narrow IsNoLimit (N at))
      (λ n front w. next_narrow (None_longer kind) (None_longer kind) (λ m p. same_narrow IsNoLimit (invalid kind node)) n (at + length front))

  limit_of_all_narrow : (more : ℕ) → Narrow (units_below U join aligned node Unsupported) (all_units V join aligned node more)
  limit_of_all_narrow zero = below_narrow Unsupported
  limit_of_all_narrow (suc more) = λ at.
      in_turn_narrow IsNoLimit N N (λ n v. v) (Next U (None_longer Unsupported)) (Next V (Long V more)) at (same_narrow IsNoLimit (N at))
      (λ n front w. next_narrow (None_longer Unsupported) (Long V more)
      (λ m p. limit_narrow IsNoLimit Unsupported node (Long V more m p) a_limit) n (at + length front))

  then_narrow : (n : ℕ) (R S : ℕ → Encoding FaultKind (ℕ × Y)) → Narrow R S
      → Narrow (units_then U join aligned node n R) (units_then V join aligned node n S)
  then_narrow n R S r at =
      in_turn_narrow IsNoLimit (U n) (V n) (λ y v. (n + v.0, join y v.1)) (λ y. R) (λ y. S) at (u n at)
      (λ y front w. r (at + length front))

  long_narrow : (most more : ℕ) → Narrow (all_units U join aligned node most) (all_units V join aligned node more)
      → (n : ℕ) → Narrow (Long U most n) (Long V more n)
  long_narrow most more r n at =
      let A = all_units U join aligned node most in
      let B = all_units V join aligned node more in
      cases_narrow IsNoLimit (n < 65536) (units_then U join aligned node n (last_units U join aligned node) at) (65536 ≤ n)
      (units_then U join aligned node n A at) (units_then V join aligned node n (last_units V join aligned node) at)
      (units_then V join aligned node n B at)
      (then_narrow n (last_units U join aligned node) (last_units V join aligned node) (below_narrow NotMinimal) at) (then_narrow n A B r at)

  pub all_narrow : (most more : ℕ) → most ≤ more → Narrow (all_units U join aligned node most) (all_units V join aligned node more)
  all_narrow zero more h = limit_of_all_narrow more
  all_narrow (suc most) zero h = absurd (omega (arith, h))
  all_narrow (suc most) (suc more) h = λ at.
      in_turn_narrow IsNoLimit N N (λ n v. v) (Next U (Long U most)) (Next V (Long V more)) at (same_narrow IsNoLimit (N at))
      (λ n front w. next_narrow (Long U most) (Long V more) (long_narrow most more (all_narrow most more (omega (arith, h)))) n
      (at + length front))

-- ---- complete encodings

pub complete_narrow : (node : ℕ) (A B : ℕ → TypeEncoding FaultKind) → NarrowTypes A B
    → ContentsAreNarrow IsNoLimit (complete node A) (complete node B)
complete_narrow node A B a =
    then_contents_narrow IsNoLimit (with_bits (A 0).encoding) (with_bits (B 0).encoding) (λ v u. v.0) (λ v. padding node (length v.1))
    (with_bits_narrow IsNoLimit (A 0).encoding (B 0).encoding (a 0))

-- ---- strings

module _ (most more : ℕ) (h : most ≤ more) (aligned : Bool) (node : ℕ) where
  string_narrow : (unit : ℕ) → Narrow (string most aligned unit node) (string more aligned unit node)
  string_narrow unit =
      let U = bits_of_units unit node in
      all_narrow U U (λ n at. same_narrow IsNoLimit (U n at)) (λ a b. a ++ b) aligned node most more h

  pub octets_narrow : Narrow (octets most aligned node) (octets more aligned node)
  octets_narrow at =
      let E = λ (v : ℕ × List Bool). anywhere {K = FaultKind} (constant (tt {0})) in
      in_turn_narrow IsNoLimit (string most aligned 8 node) (string more aligned 8 node) (λ v u. v.1) E E at (string_narrow 8 at)
      (λ v front w. same_narrow IsNoLimit (constant (tt {0})))

  string_where_narrow : (unit : ℕ) (Yes No : ℕ → Type 0) (kind : FaultKind)
      → Narrow (string_where most aligned unit Yes No kind node) (string_where more aligned unit Yes No kind node)
  string_where_narrow unit Yes No kind at =
      let W = λ (v : ℕ × List Bool). where_size Yes No kind node v in
      in_turn_narrow IsNoLimit (string most aligned unit node) (string more aligned unit node) (λ v bits. bits) W W at (string_narrow unit at)
      (λ v front w. same_narrow IsNoLimit (W v (at + length front)))

  string_of_narrow : (unit : ℕ) (size : Length) → Narrow (string_of most aligned unit size node) (string_of more aligned unit size node)
  string_of_narrow unit (AtLeast least) = string_where_narrow unit (λ n. least ≤ n) (λ n. n < least) BelowLeast
  string_of_narrow unit (Between least range) = λ at. same_narrow IsNoLimit (sized_string aligned unit least range node at)

  added_string_narrow : (unit : ℕ) (size : Length)
      → Narrow (added_string most aligned unit size node) (added_string more aligned unit size node)
  added_string_narrow unit size = string_where_narrow unit (IsAddedSize size) (IsOfRoot size) InRoot

  text_where_narrow : (ranges : List Range) (Yes No : ℕ → Type 0) (kind : FaultKind)
      → Narrow (text_where most aligned ranges node Yes No kind) (text_where more aligned ranges node Yes No kind)
  text_where_narrow ranges Yes No kind at =
      let W = λ (v : ℕ × List ℕ). where_size Yes No kind node v in
      let U = characters aligned ranges node in
      in_turn_narrow IsNoLimit (all_units U (λ a b. a ++ b) aligned node most) (all_units U (λ a b. a ++ b) aligned node more)
      (λ v text. text) W W at (all_narrow U U (λ n to. same_narrow IsNoLimit (U n to)) (λ a b. a ++ b) aligned node most more h at)
      (λ v front w. same_narrow IsNoLimit (W v (at + length front)))

  text_of_narrow : (ranges : List Range) (size : Length) → Narrow (text_of most aligned ranges node size) (text_of more aligned ranges node size)
  text_of_narrow ranges (AtLeast least) = text_where_narrow ranges (λ n. least ≤ n) (λ n. n < least) BelowLeast
  text_of_narrow ranges (Between least range) = λ at. same_narrow IsNoLimit (sized_text aligned ranges node least range at)

  -- ---- lists

  pub list_narrow : (A B : ℕ → ℕ → TypeEncoding FaultKind) → ((n : ℕ) → NarrowTypes (A n) (B n)) → (Yes No : ℕ → Type 0) (kind : FaultKind)
      → NarrowTypes (list_where A aligned node most Yes No kind) (list_where B aligned node more Yes No kind)
  list_narrow A B a Yes No kind at =
      let W = λ (v : ℕ × Parts). where_size Yes No kind node (v.0, Count v.0 ∷ v.1) in
      in_turn_narrow IsNoLimit (numbered_items A aligned node most) (numbered_items B aligned node more) (λ v ts. ts) W W at
      (all_narrow (λ n to. (A n to).encoding) (λ n to. (B n to).encoding) a (λ xs ys. xs ++ ys) aligned node most more h at)
      (λ v front w. same_narrow IsNoLimit (W v (at + length front)))

  -- ---- types of one part

  pub by_bit_narrow : (Added : Piece → Type 0) (A B C D : ℕ → TypeEncoding FaultKind) → NarrowTypes A C → NarrowTypes B D
      → NarrowTypes (by_extension_bit node Added A B) (by_extension_bit node Added C D)
  by_bit_narrow Added A B C D a b =
      header_narrow IsNoLimit (bit node) 1 (either_by_bit Added node A B) (either_by_bit Added node C D) node
      (either_by_bit_narrow IsNoLimit Added node A B C D a b)

  string_by_narrow : {X : Type 0} (b : Bool) (A B C D : ℕ → Encoding FaultKind X) (is : X → Piece) (Added : Piece → Type 0) → Narrow A C
      → Narrow B D → NarrowTypes (string_by aligned node b A B is Added) (string_by aligned node b C D is Added)
  string_by_narrow false A B C D is Added a b = leaf_narrow IsNoLimit A C is node a
  string_by_narrow true A B C D is Added a b =
      by_bit_narrow Added (leaf A is node) (leaf B is node) (leaf C is node) (leaf D is node) (leaf_narrow IsNoLimit A C is node a)
      (leaf_narrow IsNoLimit B D is node b)

  bits_by_narrow : (b : Bool) (size : Length) (A B : ℕ → Encoding FaultKind (List Bool)) → Narrow A B
      → Narrow (bits_by aligned node b size A) (bits_by aligned node b size B)
  bits_by_narrow false size A B a = a
  bits_by_narrow true size A B a =
      permitted_narrow IsNoLimit (AreTrimmed size) (λ bits. ¬ (AreTrimmed size bits)) NotTrimmed node A B a

  pub bit_string_narrow : (size : Length) (b has_names : Bool)
      → NarrowTypes (bit_string most aligned node size b has_names) (bit_string more aligned node size b has_names)
  bit_string_narrow size b names =
      let A = string_of most aligned 1 size node in
      let B = added_string most aligned 1 size node in
      let C = string_of more aligned 1 size node in
      let D = added_string more aligned 1 size node in
      string_by_narrow b (bits_by aligned node names size A) (bits_by aligned node names size B) (bits_by aligned node names size C)
      (bits_by aligned node names size D) Bits (AreAddedBits size) (bits_by_narrow names size A C (string_of_narrow 1 size))
      (bits_by_narrow names size B D (added_string_narrow 1 size))

  pub octet_string_narrow : (size : Length) (b : Bool)
      → NarrowTypes (octet_string most aligned node size b) (octet_string more aligned node size b)
  octet_string_narrow size b =
      string_by_narrow b (string_of most aligned 8 size node) (added_string most aligned 8 size node) (string_of more aligned 8 size node)
      (added_string more aligned 8 size node) Octets (AreAddedOctets size) (string_of_narrow 8 size) (added_string_narrow 8 size)

  pub text_narrow : (size : Length) (b : Bool) (ranges whole : List Range)
      → NarrowTypes (text most aligned node size b ranges whole) (text more aligned node size b ranges whole)
  text_narrow size b ranges whole =
      string_by_narrow b (text_of most aligned ranges node size) (added_text most aligned whole node size)
      (text_of more aligned ranges node size) (added_text more aligned whole node size) Text (IsAddedText size) (text_of_narrow ranges size)
      (text_where_narrow whole (IsAddedSize size) (IsOfRoot size) InRoot)

  pub contents_narrow : (Valid : List Bool → Type 0) → NarrowTypes (contents most aligned node Valid) (contents more aligned node Valid)
  contents_narrow Valid =
      let A = permitted Valid (λ list. ¬ (Valid list)) Contents node (octets most aligned node) in
      let B = permitted Valid (λ list. ¬ (Valid list)) Contents node (octets more aligned node) in
      leaf_narrow IsNoLimit A B Octets node
      (permitted_narrow IsNoLimit Valid (λ list. ¬ (Valid list)) Contents node (octets most aligned node) (octets more aligned node) octets_narrow)

  pub time_narrow : (Valid : List ℕ → Type 0) → NarrowTypes (time most aligned node Valid) (time more aligned node Valid)
  time_narrow Valid =
      let A = text_of most aligned visible node (AtLeast 0) in
      let B = text_of more aligned visible node (AtLeast 0) in
      leaf_narrow IsNoLimit (permitted Valid (λ text. ¬ (Valid text)) Contents node A)
      (permitted Valid (λ text. ¬ (Valid text)) Contents node B) Text node
      (permitted_narrow IsNoLimit Valid (λ text. ¬ (Valid text)) Contents node A B (text_of_narrow visible (AtLeast 0)))

  pub unknown_narrow : NarrowTypes (leaf (octets most aligned node) Unknown node) (leaf (octets more aligned node) Unknown node)
  unknown_narrow = leaf_narrow IsNoLimit (octets most aligned node) (octets more aligned node) Unknown node octets_narrow

  enclosing_narrow : Narrow (enclosing most aligned node) (enclosing more aligned node)
  enclosing_narrow at =
      let E = λ (contents : List Bool). anywhere {K = FaultKind} (constant (tt {0})) in
      in_turn_narrow IsNoLimit (octets most aligned node) (octets more aligned node) (λ contents u. (u, contents)) E E at (octets_narrow at)
      (λ v front w. same_narrow IsNoLimit (constant (tt {0})))

  pub open_type_narrow : (A B : ℕ → TypeEncoding FaultKind) → NarrowTypes A B
      → NarrowTypes (open_type most aligned node A) (open_type more aligned node B)
  open_type_narrow A B a =
      enclosed_narrow IsNoLimit (enclosing most aligned node) (enclosing more aligned node) (complete node A) (complete node B)
      (A 0).misfit (B 0).misfit node enclosing_narrow (complete_narrow node A B a)
