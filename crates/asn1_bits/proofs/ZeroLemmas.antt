-- A list that is zeros from an index on.
use Rattle.std.proofs.Common.{◌≡◌, ℕ, ◌+◌, ◌-◌, ◌≤◌, Bool, false, List, ◌++◌, length, take, drop, replicate, sym, ap, ◌∙◌, arith}
use Rattle.std.proofs.lemmas.List.{length-take, take-append-drop, drop_at, drop-drop, drop-replicate}
use Rattle.asn1_bits.specs.Bits.{IsZeroFrom}

-- what comes before the index, and the zeros
pub zeros_behind : (place : ℕ) (list : List Bool) → IsZeroFrom place list
    → list ≡ take place list ++ replicate (length list - place) false
zeros_behind place list z = sym (take-append-drop place list) ∙ ap (λ (l : List Bool). take place list ++ l) z.zero

-- what is from an index on is zeros
pub zero_from : (place : ℕ) (list : List Bool) → place ≤ length list
    → list ≡ take place list ++ replicate (length list - place) false → IsZeroFrom place list
zero_from place list h e = record {
  within = h;
  zero =
      ap (drop place) e ∙ drop_at (take place list) (replicate (length list - place) false) place
      (omega (arith, length-take place list));
}

-- and so are those after a later index
pub zeros-later : (place next : ℕ) (list : List Bool) → IsZeroFrom place list → place ≤ next → next ≤ length list
    → IsZeroFrom next list
zeros-later place next list z from h = record {
  within = h;
  zero =
      (let there : place + (next - place) ≡ next = omega arith in
      let left : length list - place - (next - place) ≡ length list - next = omega arith in
      sym (drop-drop (next - place) place list ∙ ap (λ (k : ℕ). drop k list) there)
      ∙ ap (drop (next - place)) z.zero ∙ drop-replicate (next - place) (length list - place) false
      ∙ ap (λ (k : ℕ). replicate k false) left);
}
