-- Laws of elements: octets begin with one at most, and an identifier and contents have one.
use Rattle.std.proofs.Common.{◌≡◌, ◌≢◌, ℕ, zero, suc, ◌+◌, ◌-◌, ◌*◌, ◌/◌, ◌%◌, ◌^◌, ◌<◌, ◌≤◌, inl, inr, Bool, cond, List, [], ◌∷◌, length, refl, sym, ◌∙◌, ap, subst, arith}
use Rattle.std.specs.Prelude.{◌⊎◌}
use Rattle.std.proofs.Math.Pow.{pow_mono}
use Rattle.std.proofs.lemmas.List.{length-append}
use Rattle.asn1_bits.specs.Bits.{is_odd}
use Rattle.asn1_bits.specs.Laws.DigitLaws.{length-digits}
use Rattle.asn1_bits.specs.Laws.NumberLaws.{worth-is_odd}
use Rattle.asn1_oid.specs.Contents.{base_128, IsSubidentifier, IsSeries as AreSeries}
use Rattle.asn1_oid.specs.Laws.WritingLaws.{only_octets}
use Rattle.asn1_schema.specs.Encodings.{EncodesOne, IsNumber, constant, invalid, cases, number}
use Rattle.asn1_schema.specs.Fields.{raw_bits}
use Rattle.asn1_schema.specs.Laws.EncodingLaws.{IsSound, number_encodes_one}
use Rattle.asn1_schema.specs.Laws.FieldLaws.{raw_bits_sound, raw_bits_encode_one}
use Rattle.asn1_schema.specs.Laws.ByStructure.{then_of, cases_of, constant_of, invalid_of, number_of}
use Rattle.asn1_schema.specs.Laws.OneEncodingLaws.{then_encodes_one, only_constant, constant_if_encodes_one}
use Rattle.asn1_x690.specs.declared.fault.FaultKind.TheVariants.{Short, NotMinimal}
use Rattle.asn1_x690.specs.declared.tables.Class.{Class}
use Rattle.asn1_x690.specs.declared.tables.Class.TheVariants.{Universal, Application, Context, Private}
use Rattle.asn1_x690.specs.declared.tables.Identifier.{Identifier}
use Rattle.asn1_x690.specs.Series.{IsSeries, series}
use Rattle.asn1_x690.specs.Elements.{class_of, identifier_of, IsLongNumber, long_number, number_after, identifier, IsLongLength, long_length, length_after, length_octets, contents_after, any_element}
use Rattle.asn1_x690.specs.Laws.SeriesLaws.{series_sound, series_encode_one}

-- ---- identifier octets

below_128 : (octet : ℕ) → 128 ≤ octet → octet < 128 → ⊥
below_128 octet p q = omega (arith, p, q)

long_number_sound : (node : ℕ) → IsSound (long_number node)
long_number_sound node =
    then_of (series_sound (number 8 Short node) (λ octet. 128 ≤ octet) (λ octet. octet < 128) below_128 number_of)
    (λ octets. cases_of (λ p q. q p) constant_of invalid_of)

number_after_sound : (node first : ℕ) → IsSound (number_after node first)
number_after_sound node first = cases_of (λ p q. omega (arith, p, q)) constant_of (long_number_sound node)

pub identifier_sound : (node : ℕ) → IsSound (identifier node)
identifier_sound node = then_of number_of (λ first. number_after_sound node first)

-- octets as subidentifiers are them
as_octets : (octets : List ℕ) (list : List Bool)
    → IsSeries (IsNumber 8) (λ octet. 128 ≤ octet) (λ octet. octet < 128) octets list → AreSeries octets
as_octets [] list p = p
as_octets (octet ∷ octets) list (inl p) = inl (p.0, p.2)
as_octets (octet ∷ octets) list (inr p) = inr (p.0, p.1.2.0, as_octets octets p.1.1 p.1.3)

same_octets : (x y : List ℕ) (i j : List Bool) (u v : ℕ) → IsSeries (IsNumber 8) (λ octet. 128 ≤ octet) (λ octet. octet < 128) x i
    → IsSeries (IsNumber 8) (λ octet. 128 ≤ octet) (λ octet. octet < 128) y j → IsLongNumber x → IsLongNumber y
    → u ≡ base_128 x → v ≡ base_128 y → u ≡ v → x ≡ y
same_octets x y i j u v p q m n a b e =
    let s : IsSubidentifier v x = record { series = as_octets x i p; value = sym a ∙ e; fewest = m.0 } in
    let t : IsSubidentifier v y = record { series = as_octets y j q; value = sym b; fewest = n.0 } in
    only_octets v x s ∙ sym (only_octets v y t)

long_number_one : (node : ℕ) → EncodesOne (long_number node).encodes
long_number_one node =
    then_encodes_one (series (number 8 Short node) (λ octet. 128 ≤ octet) (λ octet. octet < 128)) (λ octets n. n)
    (λ octets. cases (IsLongNumber octets) (constant (base_128 octets)) (¬ (IsLongNumber octets)) (invalid NotMinimal node))
    (series_encode_one (number 8 Short node) (λ octet. 128 ≤ octet) (λ octet. octet < 128) below_128 number_of (number_encodes_one 8))
    (λ octets. constant_if_encodes_one _ _ (base_128 octets) NotMinimal node)
    (λ x y u v i j k l p q r s e.
    let a = only_constant _ _ (base_128 x) u NotMinimal node k r in
    let b = only_constant _ _ (base_128 y) v NotMinimal node l s in
    (same_octets x y i j u v p q a.0 b.0 a.1 b.1 e, e))

-- a long number is from 31 on
is_long : (node n : ℕ) (k : List Bool) → (long_number node).encodes n k → 31 ≤ n
is_long node n k p =
    let a = only_constant _ _ (base_128 p.value) p.after NotMinimal node p.rest p.second in
    let low : 31 ≤ base_128 p.value = a.0.1 in
    subst (λ (m : ℕ). 31 ≤ m) (sym (p.is ∙ a.1)) low

number_after_one : (node first : ℕ) → EncodesOne (number_after node first).encodes
number_after_one node first = record { one = each }
  where
    each : (n : ℕ) (k l : List Bool) → (number_after node first).encodes n k → (number_after node first).encodes n l → k ≡ l
    each n k l (inl p) (inl q) = p.1.1 ∙ sym q.1.1
    each n k l (inl p) (inr q) = absurd (omega (arith, p.0, q.0))
    each n k l (inr p) (inl q) = absurd (omega (arith, p.0, q.0))
    each n k l (inr p) (inr q) = (long_number_one node).one n k l p.1 q.1

same_low : (node x y u v : ℕ) (k l : List Bool) → (number_after node x).encodes u k → (number_after node y).encodes v l → u ≡ v
    → x % 32 ≡ y % 32
same_low node x y u v k l (inl p) (inl q) e = sym p.1.0 ∙ e ∙ q.1.0
same_low node x y u v k l (inl p) (inr q) e =
    let n = is_long node v l q.1 in
    let m : u ≡ x % 32 = p.1.0 in
    absurd (omega (arith, p.0, m, e, n))
same_low node x y u v k l (inr p) (inl q) e =
    let n = is_long node u k p.1 in
    let m : v ≡ y % 32 = q.1.0 in
    absurd (omega (arith, q.0, m, e, n))
same_low node x y u v k l (inr p) (inr q) e = p.0 ∙ sym q.0

abbrev number_of_class : Class → ℕ
number_of_class Universal = 0
number_of_class Application = 1
number_of_class Context = 2
number_of_class Private = 3

class_tells : (n : ℕ) → n < 4 → number_of_class (class_of n) ≡ n
class_tells zero p = refl
class_tells (suc zero) p = refl
class_tells (suc (suc zero)) p = refl
class_tells (suc (suc (suc n))) p = omega (arith, p)

same_parity : (m n : ℕ) → is_odd m ≡ is_odd n → m % 2 ≡ n % 2
same_parity m n e = sym (worth-is_odd m) ∙ ap (λ (b : Bool). cond b 1 0) e ∙ worth-is_odd n

same_first : (node x y u v : ℕ) (k l : List Bool) → x < 256 → y < 256 → (number_after node x).encodes u k
    → (number_after node y).encodes v l → identifier_of x u ≡ identifier_of y v → (x ≡ y) × (u ≡ v)
same_first node x y u v k l p q r s e =
    let n : u ≡ v = ap (λ (i : Identifier). i.tag.number) e in
    let low = same_low node x y u v k l r s n in
    let form = same_parity (x / 32) (y / 32) (ap (λ (i : Identifier). i.is_constructed) e) in
    let class : class_of (x / 64) ≡ class_of (y / 64) = ap (λ (i : Identifier). i.tag.class) e in
    let high : x / 64 ≡ y / 64 =
    sym (class_tells (x / 64) (omega (arith, p))) ∙ ap number_of_class class ∙ class_tells (y / 64) (omega (arith, q)) in
    (omega (arith, low, form, high), n)

pub identifier_one : (node : ℕ) → EncodesOne (identifier node).encodes
identifier_one node =
    then_encodes_one (number 8 Short node) identifier_of (λ first. number_after node first) (number_encodes_one 8)
    (λ first. number_after_one node first)
    (λ x y u v i j k l p q r s e. same_first node x y u v k l p.0 q.0 r s e)

-- ---- lengths

long_length_sound : (node octets : ℕ) → IsSound (long_length node octets)
long_length_sound node octets = then_of number_of (λ d. cases_of (λ p q. q p) constant_of invalid_of)

length_after_sound : (node first : ℕ) → IsSound (length_after node first)
length_after_sound node first =
    cases_of (λ p q. omega (arith, p, q)) constant_of
    (cases_of (λ p q. q p) invalid_of (cases_of (λ p q. q p) invalid_of (long_length_sound node (first - 128))))

pub length_sound : (node : ℕ) → IsSound (length_octets node)
length_sound node = then_of number_of (λ first. length_after_sound node first)

long_length_one : (node octets : ℕ) → EncodesOne (long_length node octets).encodes
long_length_one node octets =
    then_encodes_one (number (8 * octets) Short node) (λ d n. n)
    (λ d. cases (IsLongLength octets d) (constant d) (¬ (IsLongLength octets d)) (invalid NotMinimal node))
    (number_encodes_one (8 * octets)) (λ d. constant_if_encodes_one _ _ d NotMinimal node)
    (λ x y u v i j k l p q r s e.
    (sym (only_constant _ _ x u NotMinimal node k r).1 ∙ e ∙ (only_constant _ _ y v NotMinimal node l s).1, e))

-- what a length tells of its first octet
record IsLong (first n : ℕ) : Type 0 where
  long : 128 < first
  high : 128 ≤ n
  fewest : 2 ^ (8 * (first - 128 - 1)) ≤ n
  below : n < 2 ^ (8 * (first - 128))

abbrev IsOfFirst : ℕ → ℕ → Type 0
IsOfFirst first n = ((first < 128) × (n ≡ first)) ⊎ IsLong first n

long_of : (node first n : ℕ) (k : List Bool) → 128 ≤ first → first ≢ 128 → (long_length node (first - 128)).encodes n k
    → IsLong first n
long_of node first n k p q r =
    let a = only_constant _ _ r.value r.after NotMinimal node r.rest r.second in
    let e : r.value ≡ n = sym (r.is ∙ a.1) in
    let few : 2 ^ (8 * (first - 128 - 1)) ≤ r.value = a.0.1 in
    let high : 128 ≤ r.value = a.0.0 in
    let below : r.value < 2 ^ (8 * (first - 128)) = r.first.0 in
    record {
      long = above first p q;
      high = subst (λ (m : ℕ). 128 ≤ m) e high;
      fewest = subst (λ (m : ℕ). 2 ^ (8 * (first - 128 - 1)) ≤ m) e few;
      below = subst (λ (m : ℕ). m < 2 ^ (8 * (first - 128))) e below;
    }
  where
    above : (m : ℕ) → 128 ≤ m → m ≢ 128 → 128 < m
    above m p q = omega (arith, p, q)

of_first : (node first n : ℕ) (k : List Bool) → (length_after node first).encodes n k → IsOfFirst first n
of_first node first n k (inl p) = inl (p.0, p.1.0)
of_first node first n k (inr (a, inl p)) = absurd p.1
of_first node first n k (inr (a, inr (b, inl p))) = absurd p.1
of_first node first n k (inr (a, inr (b, inr p))) = inr (long_of node first n k a b p.1)

not_fewer : (m n d low high : ℕ) → 128 < m → m < n → d < low → (8 * (m - 128) ≤ 8 * (n - 128 - 1) → low ≤ high) → high ≤ d → ⊥
not_fewer m n d low high some lt below mono enough =
    let many : 8 * (m - 128) ≤ 8 * (n - 128 - 1) = omega (arith, lt, some) in
    let step = mono many in
    omega (arith, below, step, enough)

same_count : (m n : ℕ) → (m < n → ⊥) → (n < m → ⊥) → m ≡ n
same_count zero zero p q = refl
same_count zero (suc n) p q = absurd (p (omega arith))
same_count (suc m) zero p q = absurd (q (omega arith))
same_count (suc m) (suc n) p q = ap suc (same_count m n (λ r. p (omega (arith, r))) (λ r. q (omega (arith, r))))

same_length : (x y u v : ℕ) → IsOfFirst x u → IsOfFirst y v → u ≡ v → x ≡ y
same_length x y u v (inl p) (inl q) e = sym p.1 ∙ e ∙ q.1
same_length x y u v (inl p) (inr q) e = let h = q.high in absurd (omega (arith, p.0, p.1, e, h))
same_length x y u v (inr p) (inl q) e = let h = p.high in absurd (omega (arith, q.0, q.1, e, h))
same_length x y u v (inr p) (inr q) e =
    let r : IsLong x v = subst (λ (n : ℕ). IsLong x n) e p in
    same_count x y
    (λ lt. not_fewer x y v (2 ^ (8 * (x - 128))) (2 ^ (8 * (y - 128 - 1))) r.long lt r.below (λ le. pow_mono le) q.fewest)
    (λ lt. not_fewer y x v (2 ^ (8 * (y - 128))) (2 ^ (8 * (x - 128 - 1))) q.long lt q.below (λ le. pow_mono le) r.fewest)

length_after_one : (node first : ℕ) → EncodesOne (length_after node first).encodes
length_after_one node first = record { one = each }
  where
    each : (n : ℕ) (k l : List Bool) → (length_after node first).encodes n k → (length_after node first).encodes n l → k ≡ l
    each n k l (inl p) (inl q) = p.1.1 ∙ sym q.1.1
    each n k l (inl p) (inr q) = absurd (omega (arith, p.0, q.0))
    each n k l (inr p) (inl q) = absurd (omega (arith, p.0, q.0))
    each n k l (inr (a, inl p)) q = absurd p.1
    each n k l (inr (a, inr (b, inl p))) q = absurd p.1
    each n k l p (inr (a, inl q)) = absurd q.1
    each n k l p (inr (a, inr (b, inl q))) = absurd q.1
    each n k l (inr (a, inr (b, inr p))) (inr (c, inr (d, inr q))) = (long_length_one node (first - 128)).one n k l p.1 q.1

pub length_one : (node : ℕ) → EncodesOne (length_octets node).encodes
length_one node =
    then_encodes_one (number 8 Short node) (λ first n. n) (λ first. length_after node first) (number_encodes_one 8)
    (λ first. length_after_one node first)
    (λ x y u v i j k l p q r s e. (same_length x y u v (of_first node x u k r) (of_first node y v l s) e, e))

-- ---- elements

contents_after_sound : (node : ℕ) → IsSound (contents_after node)
contents_after_sound node = then_of (length_sound node) (λ n. raw_bits_sound (8 * n) Short node)

pub any_element_sound : (node : ℕ) → IsSound (any_element node)
any_element_sound node = then_of (identifier_sound node) (λ id. contents_after_sound node)

contents_after_one : (node : ℕ) → EncodesOne (contents_after node).encodes
contents_after_one node =
    then_encodes_one (length_octets node) (λ n contents. contents) (λ n. raw_bits (8 * n) Short node) (length_one node)
    (λ n. raw_bits_encode_one (8 * n) Short node)
    (λ x y u v i j k l p q r s e.
    let a : length u ≡ 8 * x = ap length r.1 ∙ r.0 in
    let b : length v ≡ 8 * y = ap length s.1 ∙ s.0 in
    let c : length u ≡ length v = ap length e in
    (omega (arith, a, b, c), e))

pub any_element_one : (node : ℕ) → EncodesOne (any_element node).encodes
any_element_one node =
    then_encodes_one (identifier node) (λ id contents. (id, contents)) (λ id. contents_after node) (identifier_one node)
    (λ id. contents_after_one node)
    (λ x y u v i j k l p q r s e.
    (ap (λ (w : Identifier × List Bool). w.0) e, ap (λ (w : Identifier × List Bool). w.1) e))

-- an element has an octet at least, and its contents
pub element_some : (node : ℕ) (v : Identifier × List Bool) (list : List Bool) → (any_element node).encodes v list → 8 ≤ length list
element_some node v list p =
    let a : length list ≡ length p.front + length p.rest = ap length p.parts ∙ length-append p.front p.rest in
    let q = p.first in
    let b : length p.front ≡ length q.front + length q.rest = ap length q.parts ∙ length-append q.front q.rest in
    let c : length q.front ≡ 8 = ap length q.first.1 ∙ length-digits q.value 8 in
    omega (arith, a, b, c)

pub contents_fewer : (node : ℕ) (v : Identifier × List Bool) (list : List Bool) → (any_element node).encodes v list
    → length v.1 ≤ length list
contents_fewer node v list p =
    let a : length list ≡ length p.front + length p.rest = ap length p.parts ∙ length-append p.front p.rest in
    let q = p.second in
    let b : length p.rest ≡ length q.front + length q.rest = ap length q.parts ∙ length-append q.front q.rest in
    let c : v.1 ≡ q.after = ap (λ (w : Identifier × List Bool). w.1) p.is ∙ q.is in
    let d : length v.1 ≡ length q.rest = ap length c ∙ ap length q.second.1 in
    omega (arith, a, b, d)
