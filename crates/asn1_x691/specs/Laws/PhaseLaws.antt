-- Laws of positions: an encoding depends on how many bits of an octet precede it in the ALIGNED variant, and on nothing in the
-- UNALIGNED one.
use Rattle.std.proofs.Common.{◌≡◌, ℕ, zero, suc, ◌+◌, ◌-◌, ◌*◌, ◌%◌, ◌<◌, ◌≤◌, Bool, true, false, List, ◌++◌, refl, subst, arith}
use Rattle.std.specs.Prelude.{◌≢◌}
use Rattle.asn1_schema.specs.declared.tables.Length.{Length}
use Rattle.asn1_schema.specs.declared.tables.Length.TheVariants.{AtLeast, Between}
use Rattle.asn1_schema.specs.declared.tables.Range.{Range}
use Rattle.asn1_schema.specs.Encodings.{Encoding, constant, invalid, then, cases, number, each, anywhere, in_case}
use Rattle.asn1_schema.specs.Fields.{raw_bits}
use Rattle.asn1_schema.specs.Laws.PhaseLaws.{Shifts, Agree, anywhere_agrees, in_turn_agrees, in_case_agrees}
use Rattle.asn1_x691.specs.declared.fault.FaultKind.{FaultKind}
use Rattle.asn1_x691.specs.declared.fault.FaultKind.TheVariants.{Short, NotMinimal, BelowLeast, InRoot, Unsupported}
use Rattle.asn1_x691.specs.Fields.{phase, zeros, on_octet, in_bits, width_to, octets_needed, octet_count, minimal_octets, minimal_up_to, indefinite, constrained, length_octets, length_of, distance_from_one, above_64, large_length, small_length, semi_constrained, at_least_64, large_number, small_number, signed_octets, unconstrained}
use Rattle.asn1_x691.specs.Fragments.{units_octets, units_next, units, units_then, units_below, last_units, all_units, bits_of_units, string, octets}
use Rattle.asn1_x691.specs.Strings.{IsInline, IsOnOctet, IsOfRoot, IsAddedSize, units_of, sized_string, where_size, string_where, string_of, added_string}
use Rattle.asn1_x691.specs.Alphabets.{width_of}
use Rattle.asn1_x691.specs.Characters.{IsInlineText, IsOnOctetText, character, characters, sized_characters, sized_text, text_where, text_of, added_text}

pub shifts : (aligned : Bool) → Shifts (phase aligned)
shifts false = record { on = λ p q n e. refl }
shifts true = record { on = λ p q n e. omega arith }

abbrev pub Follows : {X : Type 0} → Bool → (ℕ → Encoding FaultKind X) → Type 0
Follows aligned A = Agree (phase aligned) A

-- ---- fields

pub on_octet_follows : {X : Type 0} (aligned : Bool) (node : ℕ) (A : Encoding FaultKind X) → Follows aligned (on_octet aligned node A)
on_octet_follows false node A = record { same = λ p q e x list w. w }
on_octet_follows true node A = record {
  same = λ p q e x list w.
      subst (λ (r : ℕ). (then (zeros ((8 - r) % 8) node) (λ u x. x) (λ u. A)).encodes x list) e w;
}

indefinite_follows : (range node : ℕ) → Follows true (indefinite range node)
indefinite_follows range node =
    in_turn_agrees (shifts true) (anywhere (octet_count (octets_needed (width_to range)) node)) (λ octets n. n)
    (λ octets. on_octet true node (minimal_up_to octets range node))
    (anywhere_agrees (shifts true) (octet_count (octets_needed (width_to range)) node))
    (λ octets. on_octet_follows true node (minimal_up_to octets range node))

pub constrained_follows : (aligned : Bool) (range node : ℕ) → Follows aligned (constrained aligned range node)
constrained_follows false range node = anywhere_agrees (shifts false) (in_bits (width_to range) range node)
constrained_follows true range node =
    let s = shifts true in
    in_case_agrees s (range < 255) (anywhere (in_bits (width_to range) range node)) (255 ≤ range)
    (in_case (range ≡ 255) (on_octet true node (in_bits 8 range node)) (range ≢ 255)
    (in_case (range < 65536) (on_octet true node (in_bits 16 range node)) (65536 ≤ range) (indefinite range node)))
    (anywhere_agrees s (in_bits (width_to range) range node))
    (in_case_agrees s (range ≡ 255) (on_octet true node (in_bits 8 range node)) (range ≢ 255)
    (in_case (range < 65536) (on_octet true node (in_bits 16 range node)) (65536 ≤ range) (indefinite range node))
    (on_octet_follows true node (in_bits 8 range node))
    (in_case_agrees s (range < 65536) (on_octet true node (in_bits 16 range node)) (65536 ≤ range) (indefinite range node)
    (on_octet_follows true node (in_bits 16 range node)) (indefinite_follows range node)))

module _ (aligned : Bool) (node : ℕ) where
  abbrev S : Shifts (phase aligned)
  S = shifts aligned

  pub length_follows : Follows aligned (length_of aligned node)
  length_follows = on_octet_follows aligned node (length_octets node)

  large_length_follows : Follows aligned (large_length aligned node)
  large_length_follows =
      in_turn_agrees S (length_of aligned node) (λ n m. m) (λ n. anywhere (above_64 node n)) length_follows
      (λ n. anywhere_agrees S (above_64 node n))

  pub small_length_follows : Follows aligned (small_length aligned node)
  small_length_follows =
      in_turn_agrees S (anywhere (number 1 Short node)) (λ bit n. n)
      (λ bit. in_case (bit ≡ 0) (anywhere (distance_from_one node)) (0 < bit) (large_length aligned node))
      (anywhere_agrees S (number 1 Short node))
      (λ bit. in_case_agrees S (bit ≡ 0) (anywhere (distance_from_one node)) (0 < bit) (large_length aligned node)
      (anywhere_agrees S (distance_from_one node)) large_length_follows)

  octets_after : {X : Type 0} (count : ℕ) (A : Encoding FaultKind X)
      → Follows aligned (in_case (0 < count) (on_octet aligned node A) (count ≡ 0) (anywhere (invalid NotMinimal node)))
  octets_after count A =
      in_case_agrees S (0 < count) (on_octet aligned node A) (count ≡ 0) (anywhere (invalid NotMinimal node))
      (on_octet_follows aligned node A) (anywhere_agrees S (invalid NotMinimal node))

  pub semi_constrained_follows : Follows aligned (semi_constrained aligned node)
  semi_constrained_follows =
      in_turn_agrees S (length_of aligned node) (λ count d. d)
      (λ count. in_case (0 < count) (on_octet aligned node (minimal_octets count node)) (count ≡ 0) (anywhere (invalid NotMinimal node)))
      length_follows (λ count. octets_after count (minimal_octets count node))

  pub unconstrained_follows : Follows aligned (unconstrained aligned node)
  unconstrained_follows =
      in_turn_agrees S (length_of aligned node) (λ count z. z)
      (λ count. in_case (0 < count) (on_octet aligned node (signed_octets count node)) (count ≡ 0) (anywhere (invalid NotMinimal node)))
      length_follows (λ count. octets_after count (signed_octets count node))

  large_number_follows : Follows aligned (large_number aligned node)
  large_number_follows =
      in_turn_agrees S (semi_constrained aligned node) (λ n m. m) (λ n. anywhere (at_least_64 node n)) semi_constrained_follows
      (λ n. anywhere_agrees S (at_least_64 node n))

  pub small_number_follows : Follows aligned (small_number aligned node)
  small_number_follows =
      in_turn_agrees S (anywhere (number 1 Short node)) (λ bit n. n)
      (λ bit. in_case (bit ≡ 0) (anywhere (number 6 Short node)) (0 < bit) (large_number aligned node))
      (anywhere_agrees S (number 1 Short node))
      (λ bit. in_case_agrees S (bit ≡ 0) (anywhere (number 6 Short node)) (0 < bit) (large_number aligned node)
      (anywhere_agrees S (number 6 Short node)) large_number_follows)

  units_next_follows : Follows aligned (units_next aligned node)
  units_next_follows = on_octet_follows aligned node (units_octets node)

  -- ---- units

  module _ {Y : Type 0} (U : ℕ → ℕ → Encoding FaultKind Y) (join : Y → Y → Y) (follow : (n : ℕ) → Follows aligned (U n)) where
    units_follow : (n : ℕ) → Follows aligned (units U join aligned node n)
    units_follow n =
        in_turn_agrees S (U n) (λ y u. (n, y)) (λ y. anywhere (constant (tt {0}))) (follow n)
        (λ y. anywhere_agrees S {K = FaultKind} (constant (tt {0})))

    units_then_follow : (n : ℕ) (R : ℕ → Encoding FaultKind (ℕ × Y)) → Follows aligned R → Follows aligned (units_then U join aligned node n R)
    units_then_follow n R r = in_turn_agrees S (U n) (λ y v. (n + v.0, join y v.1)) (λ y. R) (follow n) (λ y. r)

    units_below_follow : (kind : FaultKind) → Follows aligned (units_below U join aligned node kind)
    units_below_follow kind =
        in_turn_agrees S (units_next aligned node) (λ n v. v)
        (λ n. in_case (n < 16384) (units U join aligned node n) (16384 ≤ n) (anywhere (invalid kind node))) units_next_follows
        (λ n. in_case_agrees S (n < 16384) (units U join aligned node n) (16384 ≤ n) (anywhere (invalid kind node)) (units_follow n)
        (anywhere_agrees S (invalid kind node)))

    pub all_units_follow : (most : ℕ) → Follows aligned (all_units U join aligned node most)
    all_units_follow zero = units_below_follow Unsupported
    all_units_follow (suc more) =
        let L = units_then U join aligned node in
        let all = all_units U join aligned node more in
        let last = last_units U join aligned node in
        in_turn_agrees S (units_next aligned node) (λ n v. v)
        (λ n. in_case (n < 16384) (units U join aligned node n) (16384 ≤ n) (in_case (n < 65536) (L n last) (65536 ≤ n) (L n all)))
        units_next_follows
        (λ n. in_case_agrees S (n < 16384) (units U join aligned node n) (16384 ≤ n) (in_case (n < 65536) (L n last) (65536 ≤ n) (L n all))
        (units_follow n)
        (in_case_agrees S (n < 65536) (L n last) (65536 ≤ n) (L n all) (units_then_follow n last (units_below_follow NotMinimal))
        (units_then_follow n all (all_units_follow more))))

  -- ---- strings

  pub string_follows : (most unit : ℕ) → Follows aligned (string most aligned unit node)
  string_follows most unit =
      all_units_follow (bits_of_units unit node) (λ a b. a ++ b) (λ n. anywhere_agrees S (raw_bits (unit * n) Short node)) most

  pub octets_follow : (most : ℕ) → Follows aligned (octets most aligned node)
  octets_follow most =
      in_turn_agrees S (string most aligned 8 node) (λ v u. v.1) (λ v. anywhere (constant (tt {0}))) (string_follows most 8)
      (λ v. anywhere_agrees S {K = FaultKind} (constant (tt {0})))

  units_of_follow : (unit least range n : ℕ) → Follows aligned (units_of aligned unit least range node n)
  units_of_follow unit least range n =
      in_case_agrees S (IsInline unit least range n) (anywhere (raw_bits (unit * n) Short node)) (IsOnOctet unit least range n)
      (on_octet aligned node (raw_bits (unit * n) Short node)) (anywhere_agrees S (raw_bits (unit * n) Short node))
      (on_octet_follows aligned node (raw_bits (unit * n) Short node))

  sized_string_follows : (unit least range : ℕ) → Follows aligned (sized_string aligned unit least range node)
  sized_string_follows unit least range =
      in_turn_agrees S (constrained aligned range node) (λ d bits. bits) (λ d. units_of aligned unit least range node (least + d))
      (constrained_follows aligned range node) (λ d. units_of_follow unit least range (least + d))

  where_size_follows : {X : Type 0} (Yes No : ℕ → Type 0) (kind : FaultKind) (v : ℕ × X) → Follows aligned (where_size Yes No kind node v)
  where_size_follows Yes No kind v = anywhere_agrees S (cases (Yes v.0) (constant v.1) (No v.0) (invalid kind node))

  string_where_follows : (most unit : ℕ) (Yes No : ℕ → Type 0) (kind : FaultKind)
      → Follows aligned (string_where most aligned unit Yes No kind node)
  string_where_follows most unit Yes No kind =
      in_turn_agrees S (string most aligned unit node) (λ v bits. bits) (λ v. where_size Yes No kind node v) (string_follows most unit)
      (λ v. where_size_follows Yes No kind v)

  pub string_of_follows : (most unit : ℕ) (size : Length) → Follows aligned (string_of most aligned unit size node)
  string_of_follows most unit (AtLeast least) = string_where_follows most unit (λ n. least ≤ n) (λ n. n < least) BelowLeast
  string_of_follows most unit (Between least range) = sized_string_follows unit least range

  pub added_string_follows : (most unit : ℕ) (size : Length) → Follows aligned (added_string most aligned unit size node)
  added_string_follows most unit size = string_where_follows most unit (IsAddedSize size) (IsOfRoot size) InRoot

  -- ---- characters

  module _ (ranges : List Range) where
    abbrev C : ℕ → Encoding FaultKind (List ℕ)
    C n = each (character aligned ranges node) n

    sized_characters_follow : (least range n : ℕ) → Follows aligned (sized_characters aligned ranges node least range n)
    sized_characters_follow least range n =
        let w = width_of aligned ranges in
        in_case_agrees S (IsInlineText w least range n) (anywhere (C n)) (IsOnOctetText w least range n) (on_octet aligned node (C n))
        (anywhere_agrees S (C n)) (on_octet_follows aligned node (C n))

    sized_text_follows : (least range : ℕ) → Follows aligned (sized_text aligned ranges node least range)
    sized_text_follows least range =
        in_turn_agrees S (constrained aligned range node) (λ d text. text)
        (λ d. sized_characters aligned ranges node least range (least + d)) (constrained_follows aligned range node)
        (λ d. sized_characters_follow least range (least + d))

    text_where_follows : (most : ℕ) (Yes No : ℕ → Type 0) (kind : FaultKind)
        → Follows aligned (text_where most aligned ranges node Yes No kind)
    text_where_follows most Yes No kind =
        in_turn_agrees S (all_units (characters aligned ranges node) (λ a b. a ++ b) aligned node most) (λ v text. text)
        (λ v. where_size Yes No kind node v)
        (all_units_follow (characters aligned ranges node) (λ a b. a ++ b) (λ n. anywhere_agrees S (C n)) most)
        (λ v. where_size_follows Yes No kind v)

    pub text_of_follows : (most : ℕ) (size : Length) → Follows aligned (text_of most aligned ranges node size)
    text_of_follows most (AtLeast least) = text_where_follows most (λ n. least ≤ n) (λ n. n < least) BelowLeast
    text_of_follows most (Between least range) = sized_text_follows least range

    pub added_text_follows : (most : ℕ) (size : Length) → Follows aligned (added_text most aligned ranges node size)
    added_text_follows most size = text_where_follows most (IsAddedSize size) (IsOfRoot size) InRoot
