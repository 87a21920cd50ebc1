-- Laws of units after their number.
use Rattle.std.proofs.Common.{◌≡◌, ℕ, zero, suc, ◌+◌, ◌-◌, ◌*◌, ◌<◌, ◌≤◌, inl, inr, Bool, List, ◌++◌, length, refl, sym, ◌∙◌, ap, subst, arith}
use Rattle.std.specs.Prelude.{◌⊎◌}
use Rattle.std.proofs.lemmas.List.{length-append}
use Rattle.std.proofs.Math.Nat.{mul-add}
use Rattle.asn1_schema.specs.Encodings.{Encoding, EncodesOne, constant, invalid, number, anywhere, in_case}
use Rattle.asn1_schema.specs.Laws.EncodingLaws.{IsSound, constant_sound, invalid_sound, same_fronts}
use Rattle.asn1_schema.specs.Laws.PositionLaws.{IsSoundEverywhere}
use Rattle.asn1_schema.specs.Laws.ByStructure.{then_of, cases_of, constant_of, invalid_of, number_of, in_turn_of, in_case_of}
use Rattle.asn1_schema.specs.Laws.FieldLaws.{number_encodes_one, raw_bits_sound, raw_bits_encode_one}
use Rattle.asn1_schema.specs.Laws.OneEncodingLaws.{then_encodes_one, in_turn_encodes_one, only_constant, constant_if_encodes_one, in_case_encodes_one}
use Rattle.asn1_x691.specs.declared.fault.FaultKind.{FaultKind}
use Rattle.asn1_x691.specs.declared.fault.FaultKind.TheVariants.{Short, NotMinimal, Fragment, Unsupported}
use Rattle.asn1_x691.specs.Fragments.{fragment, units_after, units_octets, units_next, units, units_then, units_below, last_units, all_units, bits_of_units, string, octets}
use Rattle.asn1_x691.specs.Laws.FieldLaws.{on_octet_sound, long_enough_sound}
use Rattle.asn1_x691.specs.Laws.OneEncodingLaws.{on_octet_one, inner, IsLong, long_of, Two, two_octets_one}

-- ---- how many units follow

one_to_four : (n : ℕ) → (1 ≤ n) × (n ≤ 4) → (n < 1) ⊎ (4 < n) → ⊥
one_to_four n p (inl q) = omega (arith, p.0, q)
one_to_four n p (inr q) = omega (arith, p.1, q)

fragment_sound : (node times : ℕ) → IsSound (fragment node times)
fragment_sound node times = cases_of (one_to_four times) constant_of invalid_of

units_after_sound : (node first : ℕ) → IsSound (units_after node first)
units_after_sound node first =
    cases_of (λ a b. omega (arith, a, b)) constant_of
    (cases_of (λ a b. omega (arith, a, b)) (then_of number_of (λ second. long_enough_sound node (256 * (first - 128) + second)))
    (fragment_sound node (first - 192)))

units_octets_sound : (node : ℕ) → IsSound (units_octets node)
units_octets_sound node = then_of number_of (units_after_sound node)

pub units_next_sound : (aligned : Bool) (node : ℕ) → IsSoundEverywhere (units_next aligned node)
units_next_sound aligned node = on_octet_sound aligned node (units_octets node) (units_octets_sound node)

-- a fragment of `times` times 16,384 units, by its first octet
record IsFragment (first n : ℕ) : Type 0 where
  times : ℕ
  some : 1 ≤ times
  few : times ≤ 4
  is : n ≡ 16384 * times
  octet : first ≡ 192 + times

abbrev Told : ℕ → ℕ → Type 0
Told first n = ((first < 128) × (n ≡ first)) ⊎ ((first < 192) × IsLong first n) ⊎ IsFragment first n

fragment_of : (node first n : ℕ) (k : List Bool) → 192 ≤ first → (fragment node (first - 192)).encodes n k → IsFragment first n
fragment_of node first n k many p =
    let g = only_constant _ _ (16384 * (first - 192)) n Fragment node k p in
    record { times = first - 192; some = g.0.0; few = g.0.1; is = g.1; octet = omega (arith, many) }

told_by : (node first n : ℕ) (k : List Bool) → (units_after node first).encodes n k → Told first n
told_by node first n k (inl p) = inl (p.0, p.1.0)
told_by node first n k (inr (two, inl p)) =
    let q = p.1 in
    let o : q.value < 256 = q.first.0 in
    inr (inl (p.0, subst (λ (m : ℕ). IsLong first m) (sym q.is) (long_of node first q.after q.value q.rest two o q.second)))
told_by node first n k (inr (two, inr p)) = inr (inr (fragment_of node first n k p.0 p.1))

same_long : (x y u v : ℕ) → IsLong x u → IsLong y v → u ≡ v → x ≡ y
same_long x y u v p q e = omega (arith, p.is, p.octet, p.two, q.is, q.octet, q.two, e)

-- the number tells the first octet
same_first_octet : (x y u v : ℕ) → Told x u → Told y v → u ≡ v → x ≡ y
same_first_octet x y u v (inl p) (inl q) e = sym p.1 ∙ e ∙ q.1
same_first_octet x y u v (inl p) (inr (inl q)) e = absurd (omega (arith, p.0, p.1, q.1.long, e))
same_first_octet x y u v (inl p) (inr (inr q)) e = absurd (omega (arith, p.0, p.1, q.is, q.some, e))
same_first_octet x y u v (inr (inl p)) (inl q) e = absurd (omega (arith, q.0, q.1, p.1.long, e))
same_first_octet x y u v (inr (inl p)) (inr (inl q)) e = same_long x y u v p.1 q.1 e
same_first_octet x y u v (inr (inl p)) (inr (inr q)) e =
    absurd (omega (arith, p.0, p.1.is, p.1.octet, p.1.two, q.is, q.some, e))
same_first_octet x y u v (inr (inr p)) (inl q) e = absurd (omega (arith, q.0, q.1, p.is, p.some, e))
same_first_octet x y u v (inr (inr p)) (inr (inl q)) e =
    absurd (omega (arith, q.0, q.1.is, q.1.octet, q.1.two, p.is, p.some, e))
same_first_octet x y u v (inr (inr p)) (inr (inr q)) e = omega (arith, p.is, p.octet, q.is, q.octet, e)

units_after_one : (node first : ℕ) → EncodesOne (units_after node first).encodes
units_after_one node first =
    let F : Encoding FaultKind ℕ = fragment node (first - 192) in
    in_case_encodes_one (first < 128) (128 ≤ first) (anywhere (constant first))
    (in_case (first < 192) (anywhere (Two node first)) (192 ≤ first) (anywhere F)) (λ a b. omega (arith, a, b))
    (λ at. record { one = λ u k l p q. p.1 ∙ sym q.1 })
    (in_case_encodes_one (first < 192) (192 ≤ first) (anywhere (Two node first)) (anywhere F) (λ a b. omega (arith, a, b))
    (λ at. two_octets_one node first) (λ at. constant_if_encodes_one _ _ (16384 * (first - 192)) Fragment node)) 0

units_octets_one : (node : ℕ) → EncodesOne (units_octets node).encodes
units_octets_one node =
    then_encodes_one (number 8 Short node) (λ first n. n) (λ first. units_after node first) (number_encodes_one 8 Short node)
    (λ first. units_after_one node first)
    (λ x y u v i j k l p q r s e. (same_first_octet x y u v (told_by node x u k r) (told_by node y v l s) e, e))

pub units_next_one : (aligned : Bool) (node at : ℕ) → EncodesOne (units_next aligned node at).encodes
units_next_one aligned node = on_octet_one aligned node (units_octets node) (units_octets_one node)

-- a number of units that follow is below 16,384, or one to four times it
abbrev pub IsNext : ℕ → Type 0
IsNext n = (n < 16384) ⊎ ((times : ℕ) × (1 ≤ times) × (times ≤ 4) × (n ≡ 16384 * times))

next_of : (first n : ℕ) → Told first n → IsNext n
next_of first n (inl p) = inl (omega (arith, p.0, p.1))
next_of first n (inr (inl p)) = inl (omega (arith, p.0, p.1.is, p.1.octet, p.1.two))
next_of first n (inr (inr p)) = inr (p.times, p.some, p.few, p.is)

pub is_next : (aligned : Bool) (node at n : ℕ) (k : List Bool) → (units_next aligned node at).encodes n k → IsNext n
is_next aligned node at n k p =
    let q = inner aligned node at (units_octets node) n k p in
    subst (λ (m : ℕ). IsNext m) (sym q.1.is) (next_of q.1.value q.1.after (told_by node q.1.value q.1.after q.1.rest q.1.second))

-- ---- units

module _ {Y : Type 0} (U : ℕ → ℕ → Encoding FaultKind Y) (join : Y → Y → Y) (aligned : Bool) (node : ℕ)
    (sound : (n : ℕ) → IsSoundEverywhere (U n)) where
  units_sound : (n : ℕ) → IsSoundEverywhere (units U join aligned node n)
  units_sound n = in_turn_of (sound n) (λ y at. constant_sound (tt {0}))

  units_below_sound : (kind : FaultKind) → IsSoundEverywhere (units_below U join aligned node kind)
  units_below_sound kind =
      in_turn_of (units_next_sound aligned node)
      (λ n. in_case_of (λ a b. omega (arith, a, b)) (units_sound n) (λ at. invalid_sound kind node))

  units_then_sound : (n : ℕ) (R : ℕ → Encoding FaultKind (ℕ × Y)) → IsSoundEverywhere R
      → IsSoundEverywhere (units_then U join aligned node n R)
  units_then_sound n R r = in_turn_of (sound n) (λ y. r)

  pub all_units_sound : (most : ℕ) → IsSoundEverywhere (all_units U join aligned node most)
  all_units_sound zero = units_below_sound Unsupported
  all_units_sound (suc more) =
      in_turn_of (units_next_sound aligned node)
      (λ n. in_case_of (λ a b. omega (arith, a, b)) (units_sound n)
      (in_case_of (λ a b. omega (arith, a, b)) (units_then_sound n (last_units U join aligned node) (units_below_sound NotMinimal))
      (units_then_sound n (all_units U join aligned node more) (all_units_sound more))))

  -- ---- one encoding, where what is joined tells its parts

  module _ (one : (n at : ℕ) → EncodesOne (U n at).encodes)
      (apart : (n at to : ℕ) (y z a b : Y) (k l : List Bool) → (U n at).encodes y k → (U n to).encodes z l → join y a ≡ join z b
      → (y ≡ z) × (a ≡ b)) where
    second_of : (v w : ℕ × Y) → v ≡ w → v.1 ≡ w.1
    second_of v w e = ap (λ (x : ℕ × Y). x.1) e

    first_of : (v w : ℕ × Y) → v ≡ w → v.0 ≡ w.0
    first_of v w e = ap (λ (x : ℕ × Y). x.0) e

    units_one : (n at : ℕ) → EncodesOne (units U join aligned node n at).encodes
    units_one n =
        in_turn_encodes_one (U n) (λ y u. (n, y)) (λ y. anywhere (constant (tt {0}))) (one n)
        (λ y at. record { one = λ u k l p q. p.1 ∙ sym q.1 })
        (λ x y u v at m k i j g h p q r s e. (second_of (n, x) (n, y) e, refl))

    units_count : (n at : ℕ) (v : ℕ × Y) (k : List Bool) → (units U join aligned node n at).encodes v k → v.0 ≡ n
    units_count n at v k p = first_of v (n, p.value) p.is

    abbrev Below : FaultKind → ℕ → ℕ → Encoding FaultKind (ℕ × Y)
    Below kind n = in_case (n < 16384) (units U join aligned node n) (16384 ≤ n) (anywhere (invalid kind node))

    below_of : (kind : FaultKind) (n at : ℕ) (v : ℕ × Y) (k : List Bool) → (Below kind n at).encodes v k → (n < 16384) × (v.0 ≡ n)
    below_of kind n at v k (inl p) = (p.0, units_count n at v k p.1)
    below_of kind n at v k (inr p) = absurd p.1

    -- the last are fewer than 16,384
    last_count : (at : ℕ) (v : ℕ × Y) (k : List Bool) → (last_units U join aligned node at).encodes v k → v.0 < 16384
    last_count at v k p =
        let q = below_of NotMinimal p.value (at + length p.front) p.after p.rest p.second in
        let e : v.0 ≡ p.after.0 = first_of v p.after p.is in
        omega (arith, q.0, q.1, e)

    below_one : (kind : FaultKind) (at : ℕ) → EncodesOne (units_below U join aligned node kind at).encodes
    below_one kind =
        in_turn_encodes_one (units_next aligned node) (λ n v. v) (Below kind) (units_next_one aligned node)
        (λ n. in_case_encodes_one (n < 16384) (16384 ≤ n) (units U join aligned node n) (anywhere (invalid kind node))
        (λ a b. omega (arith, a, b)) (units_one n) (λ at. record { one = λ u k l p q. absurd p }))
        (λ x y u v at m n i j k l p q r s e.
        (sym (below_of kind x m u k r).1 ∙ first_of u v e ∙ (below_of kind y n v l s).1, e))

    module _ (R : ℕ → Encoding FaultKind (ℕ × Y)) (r : (at : ℕ) → EncodesOne (R at).encodes) where
      units_then_one : (n at : ℕ) → EncodesOne (units_then U join aligned node n R at).encodes
      units_then_one n =
          in_turn_encodes_one (U n) (λ y v. (n + v.0, join y v.1)) (λ y. R) (one n) (λ y. r)
          (λ x y u v at m k i j g h p q a b e.
          let f = first_of (n + u.0, join x u.1) (n + v.0, join y v.1) e in
          let same = apart n at at x y u.1 v.1 i j p q (second_of (n + u.0, join x u.1) (n + v.0, join y v.1) e) in
          let count : u.0 ≡ v.0 = omega (arith, f) in
          (same.0, ap (λ (c : ℕ). (c, u.1)) count ∙ ap (λ (y : Y). (v.0, y)) same.1))

    -- the number that all units have, where `n` come next
    abbrev CountOf : ℕ → ℕ → Type 0
    CountOf n c =
        ((n < 16384) × (c ≡ n)) ⊎ ((16384 ≤ n) × (n < 65536) × ((more : ℕ) × (more < 16384) × (c ≡ n + more)))
        ⊎ ((65536 ≤ n) × ((more : ℕ) × (c ≡ n + more)))

    abbrev More : ℕ → ℕ → ℕ → Encoding FaultKind (ℕ × Y)
    More more n = in_case (n < 65536) (units_then U join aligned node n (last_units U join aligned node)) (65536 ≤ n)
        (units_then U join aligned node n (all_units U join aligned node more))

    abbrev All : ℕ → ℕ → ℕ → Encoding FaultKind (ℕ × Y)
    All more n = in_case (n < 16384) (units U join aligned node n) (16384 ≤ n) (More more n)

    count_of : (most n at : ℕ) (v : ℕ × Y) (k : List Bool) → (All most n at).encodes v k → CountOf n v.0
    count_of most n at v k (inl p) = inl (p.0, units_count n at v k p.1)
    count_of most n at v k (inr (low, inl p)) =
        let q = p.1 in
        inr (inl (
          low,
          p.0,
          (
            q.after.0,
            last_count (at + length q.front) q.after q.rest q.second,
            first_of v (n + q.after.0, join q.value q.after.1) q.is,
          ),
        ))
    count_of most n at v k (inr (low, inr p)) =
        let q = p.1 in
        inr (inr (p.0, (q.after.0, first_of v (n + q.after.0, join q.value q.after.1) q.is)))

    -- it tells how many come next
    same_next : (m n c d : ℕ) → IsNext m → IsNext n → CountOf m c → CountOf n d → c ≡ d → m ≡ n
    same_next m n c d i j (inl p) (inl q) e = sym p.1 ∙ e ∙ q.1
    same_next m n c d i j (inl p) (inr (inl q)) e = absurd (omega (arith, p.0, p.1, q.0, q.2.2, e))
    same_next m n c d i j (inl p) (inr (inr q)) e = absurd (omega (arith, p.0, p.1, q.0, q.1.1, e))
    same_next m n c d i j (inr (inl p)) (inl q) e = absurd (omega (arith, q.0, q.1, p.0, p.2.2, e))
    same_next m n c d i j (inr (inr p)) (inl q) e = absurd (omega (arith, q.0, q.1, p.0, p.1.1, e))
    same_next m n c d (inl i) j (inr (inl p)) q e = absurd (omega (arith, i, p.0))
    same_next m n c d (inl i) j (inr (inr p)) q e = absurd (omega (arith, i, p.0))
    same_next m n c d i (inl j) p (inr (inl q)) e = absurd (omega (arith, j, q.0))
    same_next m n c d i (inl j) p (inr (inr q)) e = absurd (omega (arith, j, q.0))
    same_next m n c d (inr i) (inr j) (inr (inl p)) (inr (inl q)) e =
        omega (arith, i.3, j.3, p.2.1, p.2.2, q.2.1, q.2.2, e)
    same_next m n c d (inr i) (inr j) (inr (inl p)) (inr (inr q)) e =
        absurd (omega (arith, i.3, j.3, p.1, p.2.1, p.2.2, q.0, q.1.1, e))
    same_next m n c d (inr i) (inr j) (inr (inr p)) (inr (inl q)) e =
        absurd (omega (arith, i.3, j.3, q.1, q.2.1, q.2.2, p.0, p.1.1, e))
    same_next m n c d (inr i) (inr j) (inr (inr p)) (inr (inr q)) e =
        omega (arith, i.2, i.3, j.2, j.3, p.0, q.0)

    pub all_units_one : (most at : ℕ) → EncodesOne (all_units U join aligned node most at).encodes
    all_units_one zero at = below_one Unsupported at
    all_units_one (suc more) at =
        in_turn_encodes_one (units_next aligned node) (λ n v. v) (All more) (units_next_one aligned node)
        (λ n. in_case_encodes_one (n < 16384) (16384 ≤ n) (units U join aligned node n) (More more n) (λ a b. omega (arith, a, b)) (units_one n)
        (in_case_encodes_one (n < 65536) (65536 ≤ n) (units_then U join aligned node n (last_units U join aligned node))
        (units_then U join aligned node n (all_units U join aligned node more)) (λ a b. omega (arith, a, b))
        (units_then_one (last_units U join aligned node) (below_one NotMinimal) n)
        (units_then_one (all_units U join aligned node more) (all_units_one more) n)))
        (λ x y u v at m n i j k l p q r s e. (
          same_next x y u.0 v.0 (is_next aligned node at x i p) (is_next aligned node at y j q) (count_of more x m u k r)
              (count_of more y n v l s) (first_of u v e),
          e,
        )) at

-- ---- strings

joined_apart : (n : ℕ) (y z a b k l : List Bool) → length k ≡ n → y ≡ k → length l ≡ n → z ≡ l → y ++ a ≡ z ++ b → (y ≡ z) × (a ≡ b)
joined_apart n y z a b k l p q r s e =
    same_fronts y z a b e (ap length q ∙ p ∙ sym r ∙ ap length (sym s))

pub string_sound : (most : ℕ) (aligned : Bool) (unit node : ℕ) → IsSoundEverywhere (string most aligned unit node)
string_sound most aligned unit node =
    all_units_sound (bits_of_units unit node) (λ a b. a ++ b) aligned node (λ n at. raw_bits_sound (unit * n) Short node) most

pub string_one : (most : ℕ) (aligned : Bool) (unit node at : ℕ) → EncodesOne (string most aligned unit node at).encodes
string_one most aligned unit node =
    all_units_one (bits_of_units unit node) (λ a b. a ++ b) aligned node (λ n at. raw_bits_sound (unit * n) Short node)
    (λ n at. raw_bits_encode_one (unit * n) Short node)
    (λ n at to y z a b k l p q e. joined_apart (unit * n) y z a b k l p.0 p.1 q.0 q.1 e) most

-- ---- octets

-- the bits of a number of units, which are no more than the whole
pub record IsHeld (unit : ℕ) (v : ℕ × List Bool) (list : List Bool) : Type 0 where
  pub size : length v.1 ≡ unit * v.0
  pub within : length v.1 ≤ length list

module _ (aligned : Bool) (unit node : ℕ) where
  abbrev J : List Bool → List Bool → List Bool
  J a b = a ++ b

  abbrev B : ℕ → ℕ → Encoding FaultKind (List Bool)
  B n = bits_of_units unit node n

  longer : (list front rest : List Bool) → list ≡ front ++ rest → (length front ≤ length list) × (length rest ≤ length list)
  longer list front rest p =
      let all : length list ≡ length front + length rest = ap length p ∙ length-append front rest in
      (omega (arith, all), omega (arith, all))

  -- what is held of the rest is held of all
  held_in : (v : ℕ × List Bool) (w : ℕ × List Bool) (list front rest : List Bool) → v ≡ w → list ≡ front ++ rest → IsHeld unit w rest
      → IsHeld unit v list
  held_in v w list front rest e p h =
      let few = (longer list front rest p).1 in
      subst (λ (x : ℕ × List Bool). IsHeld unit x list) (sym e) (record { size = h.size; within = omega (arith, few, h.within) })

  units_held : (n at : ℕ) (v : ℕ × List Bool) (list : List Bool) → (units B J aligned node n at).encodes v list → IsHeld unit v list
  units_held n at v list p =
      let few = (longer list p.front p.rest p.parts).0 in
      let same : length p.value ≡ length p.front = ap length p.first.1 in
      subst (λ (x : ℕ × List Bool). IsHeld unit x list) (sym p.is)
      (record { size = same ∙ p.first.0; within = omega (arith, few, same) })

  then_held : (n at : ℕ) (R : ℕ → Encoding FaultKind (ℕ × List Bool))
      → ((to : ℕ) (w : ℕ × List Bool) (l : List Bool) → (R to).encodes w l → IsHeld unit w l) → (v : ℕ × List Bool) (list : List Bool)
      → (units_then B J aligned node n R at).encodes v list → IsHeld unit v list
  then_held n at R r v list p =
      let h = r (at + length p.front) p.after p.rest p.second in
      let same : length p.value ≡ length p.front = ap length p.first.1 in
      let all : length list ≡ length p.front + length p.rest = ap length p.parts ∙ length-append p.front p.rest in
      let both : length (p.value ++ p.after.1) ≡ length p.value + length p.after.1 = length-append p.value p.after.1 in
      let more : unit * (n + p.after.0) ≡ unit * n + unit * p.after.0 = mul-add unit n p.after.0 in
      let first : length p.front ≡ unit * n = p.first.0 in
      let rest : length p.after.1 ≡ unit * p.after.0 = h.size in
      subst (λ (x : ℕ × List Bool). IsHeld unit x list) (sym p.is)
      (record { size = omega (arith, same, both, more, first, rest); within = omega (arith, same, all, both, h.within) })

  below_held : (kind : FaultKind) (at : ℕ) (v : ℕ × List Bool) (list : List Bool) → (units_below B J aligned node kind at).encodes v list
      → IsHeld unit v list
  below_held kind at v list p = held_in v p.after list p.front p.rest p.is p.parts (each p.value (at + length p.front) p.after p.rest p.second)
    where
      each : (n to : ℕ) (w : ℕ × List Bool) (l : List Bool)
          → (in_case (n < 16384) (units B J aligned node n) (16384 ≤ n) (anywhere (invalid kind node)) to).encodes w l
          → IsHeld unit w l
      each n to w l (inl q) = units_held n to w l q.1
      each n to w l (inr q) = absurd q.1

  next_held : (more n to : ℕ) → ((at : ℕ) (v : ℕ × List Bool) (list : List Bool) → (all_units B J aligned node more at).encodes v list
      → IsHeld unit v list) → (w : ℕ × List Bool) (l : List Bool)
      → (in_case (n < 16384) (units B J aligned node n) (16384 ≤ n)
      (in_case (n < 65536) (units_then B J aligned node n (last_units B J aligned node)) (65536 ≤ n)
      (units_then B J aligned node n (all_units B J aligned node more))) to).encodes w l → IsHeld unit w l
  next_held more n to go w l (inl q) = units_held n to w l q.1
  next_held more n to go w l (inr (low, inl q)) = then_held n to (last_units B J aligned node) (below_held NotMinimal) w l q.1
  next_held more n to go w l (inr (low, inr q)) = then_held n to (all_units B J aligned node more) go w l q.1

  pub all_held : (most at : ℕ) (v : ℕ × List Bool) (list : List Bool) → (all_units B J aligned node most at).encodes v list
      → IsHeld unit v list
  all_held zero at v list p = below_held Unsupported at v list p
  all_held (suc more) at v list p =
      held_in v p.after list p.front p.rest p.is p.parts
      (next_held more p.value (at + length p.front) (all_held more) p.after p.rest p.second)

pub octets_sound : (most : ℕ) (aligned : Bool) (node : ℕ) → IsSoundEverywhere (octets most aligned node)
octets_sound most aligned node = in_turn_of (string_sound most aligned 8 node) (λ v at. constant_sound (tt {0}))

same_counted : (u v : ℕ × List Bool) → length u.1 ≡ 8 * u.0 → length v.1 ≡ 8 * v.0 → u.1 ≡ v.1 → u ≡ v
same_counted u v p q e =
    let same : length u.1 ≡ length v.1 = ap length e in
    let count : u.0 ≡ v.0 = omega (arith, p, q, same) in
    ap (λ (c : ℕ). (c, u.1)) count ∙ ap (λ (b : List Bool). (v.0, b)) e

pub octets_one : (most : ℕ) (aligned : Bool) (node at : ℕ) → EncodesOne (octets most aligned node at).encodes
octets_one most aligned node =
    in_turn_encodes_one (string most aligned 8 node) (λ v u. v.1) (λ v. anywhere (constant (tt {0}))) (string_one most aligned 8 node)
    (λ v at. record { one = λ u k l p q. p.1 ∙ sym q.1 })
    (λ x y u v at m n i j k l p q r s e. (
      same_counted x y (all_held aligned 8 node most at x i p).size (all_held aligned 8 node most at y j q).size e,
      refl,
    ))

-- octets are no longer than they with their number
pub octets_fewer : (most : ℕ) (aligned : Bool) (node at : ℕ) (contents list : List Bool) → (octets most aligned node at).encodes contents list
    → length contents ≤ length list
octets_fewer most aligned node at contents list p =
    let few = (longer aligned 8 node list p.front p.rest p.parts).0 in
    let h = all_held aligned 8 node most at p.value p.front p.first in
    let same : length contents ≡ length p.value.1 = ap length p.is in
    omega (arith, few, h.within, same)
