-- What follows of numbers outside -2^127 to 2^127 - 1.
use Rattle.std.proofs.Common.{◌≡◌, ℕ, ℤ, pos, negsuc, ◌^◌, ◌<◌, ◌≤◌, List, [], ◌∷◌, Bool, true, false, inl, inr, arith}
use Rattle.std.specs.Prelude.{◌<ℤ◌, ◌≤ℤ◌}
use Rattle.std.proofs.lemmas.Int.{ints}
use mir.Syntax.{w128}
use mir.Val.{SFits}
use Rattle.asn1_schema.specs.Pieces.{Piece, Integer}
use Rattle.asn1_x690.specs.Der.{always}
use Rattle.asn1_x690.specs.Leaves.{IsInteger, leaf_of}
use Rattle.asn1_x691_writers.specs.declared.state.Writer.{Writer}
use Rattle.asn1_x690_writers.specs.Put.{IsPutOne, IsMisfit, IsPut}

-- what was written of a number is written of one that a type permits
module _ (Yes : ℤ → Type 0) (Left : Type 0) (node : ℕ) (p : Piece) (permits : (z : ℤ) → p ≡ Integer z → Yes z) (was : List ℕ) (old : Writer)
    (now : List ℕ) (new : Writer) where
  written : IsPutOne (leaf_of IsInteger (always {X = ℤ}) Integer node) p was old now new → IsPutOne (leaf_of IsInteger Yes Integer node) p was old now new
  written w =
      let e : p ∷ [] ≡ Integer w.fills.0 ∷ [] = w.fills.2 in
      let first : p ≡ Integer w.fills.0 = cc in
      record {
        list = w.list;
        fills = (w.fills.0, (w.fills.1.0, permits w.fills.0 first), w.fills.2);
        whole = w.whole;
        grown = w.grown;
        next = w.next;
      }

  misfit : IsMisfit (leaf_of IsInteger (always {X = ℤ}) Integer node) p new → IsMisfit (leaf_of IsInteger Yes Integer node) p new
  misfit m = record {
    kind = m.kind;
    reason = m.reason;
    first = λ rest. elim (m.first rest) [
      | inl q ↦ inl (q.0, q.1, (λ c. q.2 (c.0, (c.1.0, tt))), q.3)
      | inr q ↦ inr q
    ];
  }

  pub put_permitted : (r : Bool) → IsPut Left (leaf_of IsInteger (always {X = ℤ}) Integer node) p was old now new r
      → IsPut Left (leaf_of IsInteger Yes Integer node) p was old now new r
  put_permitted true w = written w
  put_permitted false (inl m, same) = (inl (misfit m), same)
  put_permitted false (inr m, same) = (inr m, same)

pub far_above_least : (least : ℤ) (n : ℕ) → SFits w128 least → 2 ^ 127 ≤ n → least ≤ℤ pos n
far_above_least (pos m) n f far = let few : m < 2 ^ 127 = f.sfits in omega (arith, ints, few, far)
far_above_least (negsuc m) n f far = omega (arith, ints, far)

pub far_below_least : (least : ℤ) (n : ℕ) → SFits w128 least → 2 ^ 127 ≤ n → least ≤ℤ negsuc n → ⊥
far_below_least (pos m) n f far le = omega (arith, ints, far, le)
far_below_least (negsuc m) n f far le = let few : m < 2 ^ 127 = f.sfits in omega (arith, ints, few, far, le)

pub far_above_most : (most : ℤ) (n : ℕ) → most <ℤ pos (2 ^ 127) → 2 ^ 127 ≤ n → pos n ≤ℤ most → ⊥
far_above_most most n few far le = omega (arith, ints, few, far, le)
