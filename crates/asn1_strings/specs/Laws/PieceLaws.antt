-- Laws of pieces: how many a list has, that each lies within it, and what is after the first.
use Rattle.std.proofs.Common.{◌≡◌, ℕ, suc, zero, ◌+◌, ◌*◌, ◌/◌, ◌<◌, ◌≤◌, List, ◌∷◌, ◌++◌, length, take, drop, map, refl, ap, sym, ◌∙◌, arith}
use Rattle.std.specs.List.{range_with_len}
use Rattle.std.proofs.Math.Seq.{drop-append-add, take-append_seam}
use Rattle.std.proofs.Math.Nat.{add-div_left, div-mul-le_self, mul-le-mul_right}
use Rattle.std.proofs.lemmas.List.{length-append}
use Rattle.std.proofs.lemmas.List.FromFn.{length-map-range_with_len}
use Rattle.asn1_strings.specs.Pieces.{piece, pieces}

-- past a first piece, the pieces are those of the rest
shifted : {X : Type 0} (w : ℕ) (p rest : List X) → length p ≡ w → (n i : ℕ) →
    map (piece w (p ++ rest)) (range_with_len (i + 1) n) ≡ map (piece w rest) (range_with_len i n)
shifted w p rest long zero i = refl
shifted w p rest long (suc n) i =
    let next : (i + 1) * w ≡ length p + i * w = rw long (omega arith) in
    let head : piece w (p ++ rest) (i + 1) ≡ piece w rest i =
    ap (take w) (ap (λ k. drop k (p ++ rest)) next ∙ drop-append-add p rest (i * w)) in
    rw (head, shifted w p rest long n (i + 1)) refl

-- a list that begins with a piece has it as its first piece
pub pieces_cons : {X : Type 0} (w : ℕ) (p rest : List X) → 0 < w → length p ≡ w →
    pieces w (p ++ rest) ≡ p ∷ pieces w rest
pieces_cons w p rest some long =
    let count : length (p ++ rest) / w ≡ suc (length rest / w) =
    ap (λ n. n / w) (length-append p rest ∙ ap (λ n. n + length rest) long) ∙ add-div_left (length rest) some
    ∙ omega arith in
    let first : piece w (p ++ rest) 0 ≡ p = let none : 0 * w ≡ 0 =
    omega arith in rw none (ap (λ n. take n (p ++ rest)) (sym long) ∙ take-append_seam p rest) in
    rw count (rw (first, shifted w p rest long (length rest / w) 0) refl)

-- there are as many as fit whole
pub length-pieces : {X : Type 0} (w : ℕ) (xs : List X) → length (pieces w xs) ≡ length xs / w
length-pieces w xs = length-map-range_with_len (piece w xs) 0 (length xs / w)

-- a piece lies within the list
pub piece_within : (w n i : ℕ) → i < n / w → i * w + w ≤ n
piece_within w n i lt =
    let up : suc i * w ≤ n / w * w = mul-le-mul_right w lt in
    let down = div-mul-le_self n w in
    omega arith
