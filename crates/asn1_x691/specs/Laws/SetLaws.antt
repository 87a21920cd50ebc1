-- Laws of the items of a SET OF: where they begin at octets, or in the UNALIGNED variant, their bits in place tell their order.
use Rattle.std.proofs.Common.{◌≡◌, ◌≢◌, ℕ, zero, suc, ◌+◌, ◌<◌, ◌%◌, List, [], ◌∷◌, ◌++◌, Bool, true, false, length, refl, sym, ap, subst, arith, inl, inr, Option}
use Rattle.std.specs.declared.cmp.Ordering.TheVariants.{Less}
use Rattle.std.proofs.lemmas.List.{append-nil}
use Rattle.asn1_bits.specs.BitLists.{bits_cmp}
use Rattle.asn1_schema.specs.declared.tables.Node.{Node}
use Rattle.asn1_schema.specs.declared.tables.Member.{Member}
use Rattle.asn1_schema.specs.declared.tables.Range.{Range}
use Rattle.asn1_schema.specs.Pieces.{Parts}
use Rattle.asn1_schema.specs.Order.{IsBefore}
use Rattle.asn1_schema.specs.Laws.OrderLaws.{IsNoFront, is_before, puts_first}
use Rattle.asn1_x691.specs.Fields.{phase}
use Rattle.asn1_x691.specs.Limits.{Limits, IsOffOctet}
use Rattle.asn1_x691.specs.Types.{IsMisplaced, type_at}
use Rattle.asn1_x691.specs.Laws.TypeLaws.{type_at_type}
use Rattle.asn1_x691.specs.Laws.TypePhaseLaws.{type_at_follows}

-- in the ALIGNED variant both items begin at octets
on_octets : (aligned : Bool) (before : List Bool) (at : ℕ) → 0 < length before → (IsOffOctet true aligned before at → ⊥)
    → (phase aligned at ≡ phase aligned 0) × ((n : ℕ) → phase aligned (n + length before) ≡ phase aligned at → phase aligned n ≡ phase aligned 0)
on_octets false before at some f = (refl, λ n e. refl)
on_octets true before at some f =
    let a : at % 8 ≡ 0 = not_not (at % 8) (λ h. f (some, inl h)) in
    let b : length before % 8 ≡ 0 = not_not (length before % 8) (λ h. f (some, inr h)) in
    (a, λ n e. omega (arith, a, b, e))
  where
    not_not : (n : ℕ) → (n ≢ 0 → ⊥) → n ≡ 0
    not_not zero f = refl
    not_not (suc n) f = absurd (f (λ e. omega (arith, e)))

-- no list is put before that of no bits
not_below_nothing : (l : List Bool) → bits_cmp l [] ≡ Less → ⊥
not_below_nothing [] e = cc
not_below_nothing (b ∷ l) e = cc

pub some_before : (l before : List Bool) → bits_cmp l before ≡ Less → 0 < length before
some_before l [] e = absurd (not_below_nothing l e)
some_before l (b ∷ before) e = omega arith

module _ (limits : Limits) (aligned : Bool) (nodes : List Node) (members : List Member) (ranges : List Range)
    (defaults : ℕ → ℕ → Option (List Bool)) (depth item : ℕ) where
  abbrev P : ℕ → Parts → List Bool → Type 0
  P at = (type_at limits aligned nodes members ranges defaults depth item at).encoding.encodes

  abbrev Misplaced : List Bool → ℕ → List Bool → Type 0
  Misplaced before at l = IsMisplaced aligned (λ n. type_at limits aligned nodes members ranges defaults depth item n) before at l

  same : (p q : ℕ) → phase aligned p ≡ phase aligned q → (x : Parts) (l : List Bool) → P p x l → P q x l
  same = (type_at_follows limits aligned nodes members ranges defaults depth item).same

  one_encoding : (x : Parts) (a b : List Bool) → P 0 x a → P 0 x b → a ≡ b
  one_encoding x a b p q =
      (((type_at_type limits aligned nodes members ranges defaults depth item).good 0).encodes.one
      x x x [] [] a b p q (sym (append-nil x)) (sym (append-nil x))).2

  no_front : (x y : Parts) (a b : List Bool) → P 0 x a → P 0 y b → IsNoFront a b
  no_front x y a b p q more e =
      let d = ((type_at_type limits aligned nodes members ranges defaults depth item).good 0).decodes.one.one
      b x y more [] (record { front = a; encoded = p; parts = e }) (record { front = b; encoded = q; parts = sym (append-nil b) }) in
      ap length d.1

  -- an item whose bits are before those of the one that it follows is misplaced
  module _ (before : List Bool) (at began : ℕ) (x y : Parts) (l : List Bool) (on : IsOffOctet true aligned before at → ⊥)
      (ended : phase aligned (began + length before) ≡ phase aligned at) (p : P began x before) (q : P at y l) where
    pub misplaced : bits_cmp l before ≡ Less → Misplaced before at l
    misplaced e =
        let some = some_before l before e in
        let place = on_octets aligned before at some on in
        let first_alone = same began 0 (place.1 began ended) x before p in
        let second_alone = same at 0 place.0 y l q in record {
          first = x;
          second = y;
          first_bits = before;
          second_bits = l;
          some = some;
          began = began;
          ended = ended;
          first_here = p;
          second_here = q;
          first_alone = first_alone;
          second_alone = second_alone;
          are_before = is_before l before (no_front y x l before second_alone first_alone) e;
        }

  -- and no other one
  pub in_place : (before : List Bool) (at : ℕ) (l : List Bool) → (IsOffOctet true aligned before at → ⊥) → Misplaced before at l
      → bits_cmp l before ≡ Less
  in_place before at l on w =
      let place = on_octets aligned before at w.some on in
      let a = one_encoding w.first before w.first_bits (same w.began 0 (place.1 w.began w.ended) w.first before w.first_here) w.first_alone in
      let b = one_encoding w.second l w.second_bits (same at 0 place.0 w.second l w.second_here) w.second_alone in
      puts_first l before (subst (λ (i : List Bool). IsBefore l i) (sym a) (subst (λ (i : List Bool). IsBefore i w.first_bits) (sym b) w.are_before))
