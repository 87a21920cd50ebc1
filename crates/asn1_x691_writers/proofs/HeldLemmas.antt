-- Numbers that 128 bits do not hold.
use Rattle.std.proofs.Common.{◌≡◌, ℕ, ℤ, pos, negsuc, ◌-◌, ◌^◌, ◌<◌, ◌≤◌, refl, arith, SFits, Bool, true, false}
use Rattle.std.specs.Int.{w128}
use Rattle.std.specs.Prelude.{unsigned_abs, ◌+ℤ◌, ◌-ℤ◌, ◌<ℤ◌, ◌≤ℤ◌}
use Rattle.std.proofs.lemmas.Int.{ints}
use mathlib.Core.Bool.{not, beq}
use Rattle.asn1_x691_fields.specs.Numbers.{distance}
use Rattle.asn1_schema.specs.Pieces.{Integer}

pub positive_far : (z : ℤ) → pos (2 ^ 127) ≤ℤ z → (u : ℕ) × (Integer z ≡ Integer (pos u)) × (2 ^ 127 ≤ u)
positive_far (pos u) h = (u, refl, omega (arith, ints, h))
positive_far (negsuc u) h = absurd (omega (arith, ints, h))

pub wide_sum : (least : ℤ) (n : ℕ) → SFits w128 least → 2 ^ 128 ≤ n → pos (2 ^ 127) ≤ℤ (least +ℤ pos n)
wide_sum least n f h = let l = f.sfits in omega (arith, ints, l, h)

pub far_sum : (least : ℤ) (n m : ℕ) → SFits w128 least → m ≡ unsigned_abs (pos (2 ^ 127 - 1) -ℤ least) → m < n
    → pos (2 ^ 127) ≤ℤ (least +ℤ pos n)
far_sum least n m f e h = let l = f.sfits in omega (arith, ints, l, e, h)

pub near_sum : (least : ℤ) (n m : ℕ) → SFits w128 least → m ≡ unsigned_abs (pos (2 ^ 127 - 1) -ℤ least) → n ≤ m
    → (least +ℤ pos n) <ℤ pos (2 ^ 127)
near_sum least n m f e h = let l = f.sfits in omega (arith, ints, l, e, h)

pub not_far : (least z : ℤ) (n : ℕ) → z ≡ (least +ℤ pos n) → n ≡ 0 → SFits w128 least → 2 ^ 127 ≤ distance z → ⊥
not_far least (pos u) n e none f far = let l = f.sfits in omega (arith, ints, e, none, l, far)
not_far least (negsuc u) n e none f far = let l = f.sfits in omega (arith, ints, e, none, l, far)

-- ---- two bits

pub differ : (a b : Bool) → not (beq a b) ≡ true → a ≡ b → ⊥
differ false false h e = absurd (cc)
differ false true h e = absurd (cc)
differ true false h e = absurd (cc)
differ true true h e = absurd (cc)

pub agree : (a b : Bool) → not (beq a b) ≡ false → b ≡ a
agree false false h = refl
agree false true h = absurd (cc)
agree true false h = absurd (cc)
agree true true h = refl
