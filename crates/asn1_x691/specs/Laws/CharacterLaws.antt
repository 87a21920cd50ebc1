-- Laws of strings of characters.
use Rattle.std.proofs.Common.{◌≡◌, ℕ, zero, suc, ◌+◌, ◌<◌, ◌≤◌, Bool, List, ◌++◌, length, length-append, inl, inr, sym, ◌∙◌, ap, subst, arith}
use Rattle.asn1_schema.specs.declared.tables.Range.{Range}
use Rattle.asn1_schema.specs.declared.tables.Length.{Length}
use Rattle.asn1_schema.specs.declared.tables.Length.TheVariants.{AtLeast, Between}
use Rattle.asn1_schema.specs.Encodings.{Encoding, EncodesOne, number, value_where, each, anywhere, invalid, in_case}
use Rattle.asn1_schema.specs.Laws.EncodingLaws.{IsSound, invalid_sound, number_sound, same_fronts}
use Rattle.asn1_schema.specs.Laws.PositionLaws.{IsSoundEverywhere}
use Rattle.asn1_schema.specs.Laws.ByStructure.{then_of, cases_of, constant_of, in_turn_of, in_case_of}
use Rattle.asn1_schema.specs.Laws.FieldLaws.{number_encodes_one}
use Rattle.asn1_schema.specs.Laws.OneEncodingLaws.{then_encodes_one, in_turn_encodes_one, in_case_encodes_one, only_constant, constant_if_encodes_one}
use Rattle.asn1_schema.specs.Laws.EachLaws.{value_where_sound, value_where_one, each_sound, each_one, each_length}
use Rattle.asn1_x691.specs.declared.fault.FaultKind.{FaultKind}
use Rattle.asn1_x691.specs.declared.fault.FaultKind.TheVariants.{Short, BelowLeast, InRoot, NotInAlphabet, NotMinimal, Unsupported}
use Rattle.asn1_x691.specs.Fields.{on_octet, constrained}
use Rattle.asn1_x691.specs.Fragments.{units, units_then, units_below, last_units, all_units}
use Rattle.asn1_x691.specs.Strings.{where_size, IsOfRoot, IsAddedSize}
use Rattle.asn1_x691.specs.Alphabets.{width_of, HasCode}
use Rattle.asn1_x691.specs.Characters.{IsInlineText, IsOnOctetText, character, characters, sized_characters, sized_text, text_where, text_of, added_text}
use Rattle.asn1_x691.specs.Laws.FieldLaws.{on_octet_sound, constrained_sound}
use Rattle.asn1_x691.specs.Laws.OneEncodingLaws.{on_octet_one, inner, constrained_one}
use Rattle.asn1_x691.specs.Laws.RangeLaws.{constrained_within, same_distance, not_below}
use Rattle.asn1_x691.specs.Laws.FragmentLaws.{all_units_sound, all_units_one}
use Rattle.asn1_x691.specs.Laws.StringLaws.{sizes_apart}
use Rattle.asn1_x691.specs.Laws.AlphabetLaws.{character_of_code, code_of_character}

inline_or_not : (width least range n : ℕ) → IsInlineText width least range n → IsOnOctetText width least range n → ⊥
inline_or_not width least range n (inl p) q = omega (arith, p, q.0)
inline_or_not width least range n (inr (inl p)) (some, inl q) = omega (arith, p.1, q.1)
inline_or_not width least range n (inr (inl p)) (some, inr q) = omega (arith, p.0, q.0)
inline_or_not width least range n (inr (inr p)) (some, inl q) = omega (arith, p.0, q.0)
inline_or_not width least range n (inr (inr p)) (some, inr q) = omega (arith, p.1, q.1)

module _ (aligned : Bool) (ranges : List Range) (node : ℕ) where
  abbrev A : Encoding FaultKind ℕ
  A = character aligned ranges node

  abbrev Code : ℕ → ℕ → Type 0
  Code i c = HasCode aligned ranges i c

  abbrev U : ℕ → ℕ → Encoding FaultKind (List ℕ)
  U n = characters aligned ranges node n

  abbrev J : List ℕ → List ℕ → List ℕ
  J a b = a ++ b

  character_sound : IsSound A
  character_sound =
      then_of (number_sound (width_of aligned ranges) Short node)
      (λ i. value_where_sound (λ c. Code i c) NotInAlphabet node (λ c d p q. character_of_code aligned ranges i c d p q))

  character_one : EncodesOne A.encodes
  character_one =
      then_encodes_one (number (width_of aligned ranges) Short node) (λ i c. c)
      (λ i. value_where (λ c. Code i c) NotInAlphabet node) (number_encodes_one (width_of aligned ranges) Short node)
      (λ i. value_where_one (λ c. Code i c) NotInAlphabet node)
      (λ x y u v i j k l p q r s e. (code_of_character aligned ranges x y u v r.0 s.0 e, e))

  characters_sound : (n : ℕ) → IsSoundEverywhere (U n)
  characters_sound n at = each_sound A character_sound n

  characters_one : (n at : ℕ) → EncodesOne (U n at).encodes
  characters_one n at = each_one A character_one n

  sized_characters_sound : (least range n : ℕ) → IsSoundEverywhere (sized_characters aligned ranges node least range n)
  sized_characters_sound least range n =
      in_case_of (inline_or_not (width_of aligned ranges) least range n) (characters_sound n)
      (on_octet_sound aligned node _ (each_sound A character_sound n))

  sized_characters_one : (least range n at : ℕ) → EncodesOne (sized_characters aligned ranges node least range n at).encodes
  sized_characters_one least range n =
      in_case_encodes_one (IsInlineText (width_of aligned ranges) least range n) (IsOnOctetText (width_of aligned ranges) least range n)
      (U n) (on_octet aligned node (each A n)) (inline_or_not (width_of aligned ranges) least range n) (characters_one n)
      (on_octet_one aligned node (each A n) (each_one A character_one n))

  sized_characters_length : (least range n at : ℕ) (x : List ℕ) (k : List Bool)
      → (sized_characters aligned ranges node least range n at).encodes x k → length x ≡ n
  sized_characters_length least range n at x k (inl p) = each_length A n x k p.1
  sized_characters_length least range n at x k (inr p) =
      let q = inner aligned node at (each A n) x k p.1 in
      each_length A n x q.0 q.1

  sized_text_sound : (least range : ℕ) → IsSoundEverywhere (sized_text aligned ranges node least range)
  sized_text_sound least range =
      in_turn_of (constrained_sound aligned range node) (λ d. sized_characters_sound least range (least + d))

  sized_text_one : (least range at : ℕ) → EncodesOne (sized_text aligned ranges node least range at).encodes
  sized_text_one least range =
      in_turn_encodes_one (constrained aligned range node) (λ d text. text)
      (λ d. sized_characters aligned ranges node least range (least + d)) (constrained_one aligned range node)
      (λ d. sized_characters_one least range (least + d))
      (λ x y u v at m n i j k l p q r s e. (
        same_distance least x y
            (sym (sized_characters_length least range (least + x) m u k r) ∙ ap length e
            ∙ sized_characters_length least range (least + y) n v l s),
        e,
      ))

  -- ---- of any number

  joined_apart : (n at to : ℕ) (y z a b : List ℕ) (k l : List Bool) → (U n at).encodes y k → (U n to).encodes z l → J y a ≡ J z b
      → (y ≡ z) × (a ≡ b)
  joined_apart n at to y z a b k l p q e = same_fronts y z a b e (each_length A n y k p ∙ sym (each_length A n z l q))

  abbrev IsCounted : ℕ × List ℕ → Type 0
  IsCounted v = length v.1 ≡ v.0

  units_counted : (n at : ℕ) (v : ℕ × List ℕ) (k : List Bool) → (units U J aligned node n at).encodes v k → IsCounted v
  units_counted n at v k p = subst (λ (w : ℕ × List ℕ). IsCounted w) (sym p.is) (each_length A n p.value p.front p.first)

  then_counted : (n at : ℕ) (R : ℕ → Encoding FaultKind (ℕ × List ℕ))
      → ((to : ℕ) (w : ℕ × List ℕ) (l : List Bool) → (R to).encodes w l → IsCounted w) → (v : ℕ × List ℕ) (k : List Bool)
      → (units_then U J aligned node n R at).encodes v k → IsCounted v
  then_counted n at R r v k p =
      let h : length p.after.1 ≡ p.after.0 = r (at + length p.front) p.after p.rest p.second in
      let s : length p.value ≡ n = each_length A n p.value p.front p.first in
      let all : length (p.value ++ p.after.1) ≡ length p.value + length p.after.1 = length-append p.value p.after.1 in
      subst (λ (w : ℕ × List ℕ). IsCounted w) (sym p.is) (omega (arith, h, s, all))

  below_counted : (kind : FaultKind) (at : ℕ) (v : ℕ × List ℕ) (k : List Bool) → (units_below U J aligned node kind at).encodes v k
      → IsCounted v
  below_counted kind at v k p =
      subst (λ (w : ℕ × List ℕ). IsCounted w) (sym p.is) (each_of p.value (at + length p.front) p.after p.rest p.second)
    where
      each_of : (n to : ℕ) (w : ℕ × List ℕ) (l : List Bool)
          → (in_case (n < 16384) (units U J aligned node n) (16384 ≤ n) (anywhere (invalid kind node)) to).encodes w l
          → IsCounted w
      each_of n to w l (inl q) = units_counted n to w l q.1
      each_of n to w l (inr q) = absurd q.1

  next_counted : (more n to : ℕ) → ((at : ℕ) (v : ℕ × List ℕ) (k : List Bool) → (all_units U J aligned node more at).encodes v k
      → IsCounted v) → (w : ℕ × List ℕ) (l : List Bool)
      → (in_case (n < 16384) (units U J aligned node n) (16384 ≤ n)
      (in_case (n < 65536) (units_then U J aligned node n (last_units U J aligned node)) (65536 ≤ n)
      (units_then U J aligned node n (all_units U J aligned node more))) to).encodes w l → IsCounted w
  next_counted more n to go w l (inl q) = units_counted n to w l q.1
  next_counted more n to go w l (inr (low, inl q)) = then_counted n to (last_units U J aligned node) (below_counted NotMinimal) w l q.1
  next_counted more n to go w l (inr (low, inr q)) = then_counted n to (all_units U J aligned node more) go w l q.1

  all_counted : (most at : ℕ) (v : ℕ × List ℕ) (k : List Bool) → (all_units U J aligned node most at).encodes v k → IsCounted v
  all_counted zero at v k p = below_counted Unsupported at v k p
  all_counted (suc more) at v k p =
      subst (λ (w : ℕ × List ℕ). IsCounted w) (sym p.is)
      (next_counted more p.value (at + length p.front) (all_counted more) p.after p.rest p.second)

  same_counted : (x y : ℕ × List ℕ) → IsCounted x → IsCounted y → x.1 ≡ y.1 → x ≡ y
  same_counted x y p q e =
      let count : x.0 ≡ y.0 = sym p ∙ ap length e ∙ q in
      ap (λ (c : ℕ). (c, x.1)) count ∙ ap (λ (b : List ℕ). (y.0, b)) e

  -- in at most `most` fragments
  module _ (most : ℕ) where
    text_where_sound : (Yes No : ℕ → Type 0) (kind : FaultKind) → ((n : ℕ) → Yes n → No n → ⊥)
        → IsSoundEverywhere (text_where most aligned ranges node Yes No kind)
    text_where_sound Yes No kind not_both =
        in_turn_of (all_units_sound U J aligned node characters_sound most)
        (λ v at. cases_of (not_both v.0) constant_of (invalid_sound kind node))

    text_where_one : (Yes No : ℕ → Type 0) (kind : FaultKind) (at : ℕ)
        → EncodesOne (text_where most aligned ranges node Yes No kind at).encodes
    text_where_one Yes No kind =
        in_turn_encodes_one (all_units U J aligned node most) (λ v text. text) (λ v. where_size Yes No kind node v)
        (all_units_one U J aligned node characters_sound characters_one joined_apart most)
        (λ v at. constant_if_encodes_one _ _ v.1 kind node)
        (λ x y u v at m n i j k l p q r s e.
        let a = (only_constant _ _ x.1 u kind node k r).1 in
        let b = (only_constant _ _ y.1 v kind node l s).1 in (
          same_counted x y (all_counted most at x i p) (all_counted most at y j q) (sym a ∙ e ∙ b),
          e,
        ))

    text_where_size : (Yes No : ℕ → Type 0) (kind : FaultKind) (at : ℕ) (x : List ℕ) (k : List Bool)
        → (text_where most aligned ranges node Yes No kind at).encodes x k → Yes (length x)
    text_where_size Yes No kind at x k p =
        let g = only_constant _ _ p.value.1 p.after kind node p.rest p.second in
        let counted : length p.value.1 ≡ p.value.0 = all_counted most at p.value p.front p.first in
        let same : length x ≡ p.value.0 = ap length (p.is ∙ g.1) ∙ counted in
        subst Yes (sym same) g.0

    -- ---- by a size constraint

    pub text_of_sound : (size : Length) → IsSoundEverywhere (text_of most aligned ranges node size)
    text_of_sound (AtLeast least) = text_where_sound (λ n. least ≤ n) (λ n. n < least) BelowLeast (not_below least)
    text_of_sound (Between least range) = sized_text_sound least range

    pub text_of_one : (size : Length) (at : ℕ) → EncodesOne (text_of most aligned ranges node size at).encodes
    text_of_one (AtLeast least) = text_where_one (λ n. least ≤ n) (λ n. n < least) BelowLeast
    text_of_one (Between least range) = sized_text_one least range

    pub text_of_size : (size : Length) (at : ℕ) (x : List ℕ) (k : List Bool) → (text_of most aligned ranges node size at).encodes x k
        → IsOfRoot size (length x)
    text_of_size (AtLeast least) at x k p = text_where_size (λ n. least ≤ n) (λ n. n < least) BelowLeast at x k p
    text_of_size (Between least range) at x k p =
        let few = constrained_within aligned range node at p.value p.front p.first in
        let same : length x ≡ least + p.value =
        ap length p.is ∙ sized_characters_length least range (least + p.value) (at + length p.front) p.after p.rest p.second in
        (omega (arith, same), omega (arith, same, few))

    pub added_text_sound : (size : Length) → IsSoundEverywhere (added_text most aligned ranges node size)
    added_text_sound size = text_where_sound (IsAddedSize size) (IsOfRoot size) InRoot (sizes_apart size)

    pub added_text_one : (size : Length) (at : ℕ) → EncodesOne (added_text most aligned ranges node size at).encodes
    added_text_one size = text_where_one (IsAddedSize size) (IsOfRoot size) InRoot

    pub added_text_is_added : (size : Length) (at : ℕ) (x : List ℕ) (k : List Bool)
        → (added_text most aligned ranges node size at).encodes x k → IsAddedSize size (length x)
    added_text_is_added size at x k p = text_where_size (IsAddedSize size) (IsOfRoot size) InRoot at x k p
