-- Laws of complete encodings and open types.
use Rattle.std.proofs.Common.{◌≡◌, ℕ, ◌+◌, ◌≤◌, inl, inr, Bool, List, ◌++◌, length, refl, sym, ◌∙◌, ap, arith}
use Rattle.std.specs.Prelude.{⊤}
use Rattle.std.proofs.lemmas.List.{length-append}
use Rattle.asn1_bits.specs.Bits.{digits}
use Rattle.asn1_bits.specs.Laws.DigitLaws.{length-digits}
use Rattle.asn1_schema.specs.Pieces.{Parts}
use Rattle.asn1_schema.specs.Encodings.{Fault, EncodesOne, constant, with_bits, anywhere}
use Rattle.asn1_schema.specs.TypeEncodings.{TypeEncoding, EncodesUniquely, NamesEachMisfit}
use Rattle.asn1_schema.specs.Laws.EncodingLaws.{at_inside, constant_sound, with_bits_sound}
use Rattle.asn1_schema.specs.Laws.ContentsLaws.{AreSound, then_contents_are_sound}
use Rattle.asn1_schema.specs.Laws.PositionLaws.{IsSoundEverywhere}
use Rattle.asn1_schema.specs.Laws.ByStructure.{in_turn_of}
use Rattle.asn1_schema.specs.Laws.OneEncodingLaws.{in_turn_encodes_one}
use Rattle.asn1_schema.specs.Laws.WritingLaws.{made}
use Rattle.asn1_schema.specs.Laws.TypeLaws.{IsGoodEverywhere}
use Rattle.asn1_schema.specs.Laws.HeaderLaws.{enclosed_good}
use Rattle.asn1_x691.specs.declared.fault.FaultKind.{FaultKind}
use Rattle.asn1_x691.specs.declared.fault.FaultKind.TheVariants.{ExtraOctets, NotZero}
use Rattle.asn1_x691.specs.Fragments.{octets}
use Rattle.asn1_x691.specs.OpenTypes.{padding_of, padding, complete, enclosing, open_type}
use Rattle.asn1_x691.specs.Laws.FragmentLaws.{octets_sound, octets_one, octets_fewer}

-- ---- the zeros after a value

module _ (node n : ℕ) where
  padding_excludes : (list : List Bool) (e : Fault FaultKind) → (padding node n).fault list e → (u : ⊤) → (padding node n).fills u list → ⊥
  padding_excludes list e (inl p) u q = p.0 q.0
  padding_excludes list e (inr p) u q = p.1 q.1

  padding_names_one : (list : List Bool) (e g : Fault FaultKind) → (padding node n).fault list e → (padding node n).fault list g → e ≡ g
  padding_names_one list e g (inl p) (inl q) = p.1 ∙ sym q.1
  padding_names_one list e g (inl p) (inr q) = absurd (p.0 q.0)
  padding_names_one list e g (inr p) (inl q) = absurd (q.0 p.0)
  padding_names_one list e g (inr p) (inr q) = p.2 ∙ sym q.2

  padding_inside : (list : List Bool) (e : Fault FaultKind) → (padding node n).fault list e → e.left ≤ length list
  padding_inside list e (inl p) = at_inside ExtraOctets node list e p.1
  padding_inside list e (inr p) = at_inside NotZero node list e p.2

  pub padding_is_sound : AreSound (padding node n)
  padding_is_sound = record {
    one = record { one = λ list x y p q. refl };
    names = record { excludes = padding_excludes; one = padding_names_one };
    inside = padding_inside;
  }

-- ---- complete encodings

module _ (node : ℕ) (A : ℕ → TypeEncoding FaultKind) (a : IsGoodEverywhere A) where
  abbrev C : Parts → List Bool → Type 0
  C xs l = (complete node A).fills xs l

  pub complete_is_sound : AreSound (complete node A)
  complete_is_sound =
      then_contents_are_sound (with_bits (A 0).encoding) (λ v u. v.0) (λ v. padding node (length v.1))
      (with_bits_sound (A 0).encoding (a 0).decodes) (λ v. padding_is_sound node (length v.1))

  same_padding : (l m k n : List Bool) → l ≡ m → (length k ≡ padding_of (length l)) × (k ≡ digits 0 (length k))
      → (length n ≡ padding_of (length m)) × (n ≡ digits 0 (length n)) → k ≡ n
  same_padding l m k n e p q =
      let same : length k ≡ length n = p.0 ∙ ap (λ (i : List Bool). padding_of (length i)) e ∙ sym q.0 in
      p.1 ∙ ap (λ (i : ℕ). digits 0 i) same ∙ sym q.1

  complete_one : (tape xs ys rest other : Parts) (k l : List Bool) → C xs k → C ys l → tape ≡ xs ++ rest → tape ≡ ys ++ other
      → (xs ≡ ys) × (rest ≡ other) × (k ≡ l)
  complete_one tape xs ys rest other k l p q s t =
      let e = (a 0).encodes.one tape p.value.0 q.value.0 rest other p.front q.front p.first.0 q.first.0
      (s ∙ ap (λ (zs : Parts). zs ++ rest) p.is) (t ∙ ap (λ (zs : Parts). zs ++ other) q.is) in
      let bits : p.value.1 ≡ q.value.1 = sym p.first.1 ∙ e.2 ∙ q.first.1 in
      let zeros : p.rest ≡ q.rest = same_padding p.value.1 q.value.1 p.rest q.rest bits p.second q.second in (
        p.is ∙ e.0 ∙ sym q.is,
        e.1,
        p.parts ∙ ap (λ (i : List Bool). i ++ p.rest) e.2 ∙ ap (λ (i : List Bool). q.front ++ i) zeros ∙ sym q.parts,
      )

  pub complete_encodes : EncodesUniquely C (A 0).misfit
  complete_encodes = record {
    one = complete_one;
    excludes = λ tape e m xs rest l p s.
        (a 0).encodes.excludes tape e m p.value.0 rest p.front p.first.0 (s ∙ ap (λ (zs : Parts). zs ++ rest) p.is);
    one_misfit = (a 0).encodes.one_misfit;
  }

  pub complete_names : NamesEachMisfit C (A 0).misfit
  complete_names = record {
    covers = λ tape sound able.
        (a 0).names.covers tape sound
        (λ t.
        let count = padding_of (length t.list) in
        let zeros : List Bool = digits 0 count in
        let many : length zeros ≡ count = length-digits 0 count in
        able
        (made C tape t.parts t.rest (t.list ++ zeros)
        (record {
          value = (t.parts, t.list);
          after = tt;
          front = t.list;
          rest = zeros;
          first = (t.encodes, refl);
          second = (many, ap (λ (i : ℕ). digits 0 i) (sym many));
          is = refl;
          parts = refl;
        })
        t.are));
  }

-- ---- octets after their number

enclosing_sound : (most : ℕ) (aligned : Bool) (node : ℕ) → IsSoundEverywhere (enclosing most aligned node)
enclosing_sound most aligned node = in_turn_of (octets_sound most aligned node) (λ contents at. constant_sound tt)

second_of : (a b : ⊤ × List Bool) → a ≡ b → a.1 ≡ b.1
second_of a b e = ap (λ (v : ⊤ × List Bool). v.1) e

enclosing_one : (most : ℕ) (aligned : Bool) (node at : ℕ) → EncodesOne (enclosing most aligned node at).encodes
enclosing_one most aligned node =
    in_turn_encodes_one (octets most aligned node) (λ contents u. (u, contents)) (λ contents. anywhere (constant tt)) (octets_one most aligned node)
    (λ contents at. record { one = λ u k l p q. p.1 ∙ sym q.1 })
    (λ x y u v at m n i j k l p q r s e. (second_of (u, x) (v, y) e, refl))

pub open_type_good : (most : ℕ) (aligned : Bool) (node : ℕ) (A : ℕ → TypeEncoding FaultKind) → IsGoodEverywhere A
    → IsGoodEverywhere (open_type most aligned node A)
open_type_good most aligned node A a at =
    enclosed_good (enclosing most aligned node) (complete node A) (A 0).misfit node at (enclosing_sound most aligned node at)
    (enclosing_one most aligned node at) fewer (complete_is_sound node A a) (complete_encodes node A a) (complete_names node A a)
  where
    fewer : (v : ⊤ × List Bool) (list : List Bool) → (enclosing most aligned node at).encodes v list → length v.1 ≤ length list
    fewer v list p =
        let all : length list ≡ length p.front + length p.rest = ap length p.parts ∙ length-append p.front p.rest in
        let few = octets_fewer most aligned node at p.value p.front p.first in
        let same : length v.1 ≡ length p.value = ap length (second_of v (p.after, p.value) p.is) in
        omega (arith, all, few, same)
