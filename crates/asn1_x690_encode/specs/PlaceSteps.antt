-- Where octets have bits that were written.
use Rattle.std.proofs.Common.{◌≡◌, ℕ, ◌+◌, ◌*◌, ◌^◌, ◌<◌, ◌≤◌, List, ◌++◌, Bool, length, take, drop, refl, sym, ap, ◌∙◌, inl, inr, arith, append_assoc}
use Rattle.std.proofs.lemmas.List.{length-append, length-take-le, take-append-drop}
use Rattle.std.proofs.Math.Seq.{drop-append_seam, take-append_seam}
use Rattle.asn1_bits.specs.Bits.{bits}
use Rattle.asn1_bits.specs.Laws.DigitLaws.{length-bits}
use Rattle.asn1_schema.specs.PiecesOfParts.{bits_at}
use Rattle.asn1_x691_writers.specs.Written.{IsIndex, Holds, IsGrown}
use Rattle.asn1_x690_encode.specs.Compared.{IsIn}

-- the octets have these bits after `at` others
pub record ArePlaced (octets : List ℕ) (at : ℕ) (list : List Bool) : Type 0 where
  pub front : List Bool
  pub rest : List Bool
  pub size : length front ≡ at
  pub are : bits octets ≡ front ++ (list ++ rest)

-- an index that counts bits
exact : (at n : ℕ) → at + 8 < 2 ^ 64 → IsIndex at n → at ≡ n
exact at n few (inl e) = e
exact at n few (inr p) = absurd (omega (arith, p.0, few))

pub ends_after : (was now : List ℕ) (from to : ℕ) (list : List Bool) → IsGrown was from now to list → to + 8 < 2 ^ 64 → to ≡ from + length list
ends_after was now from to list g few = exact to (from + length list) few (g.index from (inl refl))

-- bits that were written, and that are all in the octets, are at their offset
pub placed : (was now : List ℕ) (from to : ℕ) (list : List Bool) → length now ≡ length was → IsGrown was from now to list → IsIn now from to
    → ArePlaced now from list
placed was now from to list same g h =
    let front = take from (bits was) in
    let inside : from ≤ length (bits was) = omega (arith, h.0, h.1, same, length-bits was) in
    let size : length front ≡ from = length-take-le from (bits was) inside in
    let held : Holds was from front =
    record { index = inl (sym size); kept = λ le. ap (λ (n : ℕ). take n (bits was)) size } in
    let now_held = g.held front held in
    let end : to ≡ length (front ++ list) = exact to (length (front ++ list)) h.2 now_held.index in
    let few : length (front ++ list) ≤ 8 * length now = omega (arith, end, h.1) in
    let is = now_held.kept few in
    let rest = drop (length (front ++ list)) (bits now) in record {
      front = front;
      rest = rest;
      size = size;
      are = sym (take-append-drop (length (front ++ list)) (bits now))
          ∙ ap (λ (l : List Bool). l ++ rest) is
          ∙ append_assoc front list rest;
    }

-- bits at an index
pub found : (octets : List ℕ) (at count : ℕ) (list : List Bool) → ArePlaced octets at list → count ≡ length list
    → bits_at (bits octets) at count ≡ list
found octets at count list p e =
    let at_seam : drop at (bits octets) ≡ list ++ p.rest =
    ap (λ (n : ℕ). drop n (bits octets)) (sym p.size)
    ∙ ap (λ (l : List Bool). drop (length p.front) l) p.are
    ∙ drop-append_seam p.front (list ++ p.rest) in
    ap (λ (l : List Bool). take count l) at_seam
    ∙ ap (λ (n : ℕ). take n (list ++ p.rest)) e
    ∙ take-append_seam list p.rest

-- bits one after another
pub placed_first : (octets : List ℕ) (at : ℕ) (xs ys : List Bool) → ArePlaced octets at (xs ++ ys) → ArePlaced octets at xs
placed_first octets at xs ys p = record {
  front = p.front;
  rest = ys ++ p.rest;
  size = p.size;
  are = p.are ∙ ap (λ (l : List Bool). p.front ++ l) (append_assoc xs ys p.rest);
}

pub placed_second : (octets : List ℕ) (at next : ℕ) (xs ys : List Bool) → next ≡ at + length xs → ArePlaced octets at (xs ++ ys)
    → ArePlaced octets next ys
placed_second octets at next xs ys e p = record {
  front = p.front ++ xs;
  rest = p.rest;
  size = length-append p.front xs ∙ ap (λ (n : ℕ). n + length xs) p.size ∙ sym e;
  are = p.are ∙ ap (λ (l : List Bool). p.front ++ l) (append_assoc xs ys p.rest) ∙ sym (append_assoc p.front xs (ys ++ p.rest));
}
