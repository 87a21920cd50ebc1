-- Lists that were written over another, one after the other.
use Rattle.std.proofs.Common.{◌≡◌, ℕ, ◌+◌, ◌≤◌, Bool, List, [], ◌++◌, length, take, drop, sym, ap, ◌∙◌, append_assoc, arith}
use Rattle.std.proofs.Math.Seq.{drop-append-add}
use Rattle.std.proofs.lemmas.List.{length-append, length-take, length-drop, take-append-drop, take_at, drop-drop}
use Rattle.asn1_bits.specs.Bits.{overwritten}

-- what is written over it leaves the length
pub length-overwritten : (old : List Bool) (place : ℕ) (list : List Bool) → place + length list ≤ length old
    → length (overwritten old place list) ≡ length old
unfolding overwritten
length-overwritten old place list h =
    let rest = drop (place + length list) old in
    omega (
      arith,
      length-append (take place old) (list ++ rest),
      length-append list rest,
      length-take place old,
      length-drop (place + length list) old,
    )

-- writing nothing over bits changes nothing
pub overwritten-none : (old : List Bool) (place : ℕ) → overwritten old place [] ≡ old
unfolding overwritten
overwritten-none old place =
    (let e : place + 0 ≡ place = omega arith in ap (λ (k : ℕ). take place old ++ drop k old) e)
    ∙ take-append-drop place old

-- two lists, one after the other, are their concatenation
pub overwritten-append : (old : List Bool) (place next : ℕ) (xs ys : List Bool) → next ≡ place + length xs
    → place ≤ length old
    → overwritten (overwritten old place xs) next ys ≡ overwritten old place (xs ++ ys)
unfolding overwritten
overwritten-append old place next xs ys e h =
    let front = take place old in
    let done = front ++ xs in
    let rest = drop next old in
    let n : length done ≡ next = omega (arith, e, length-append front xs, length-take place old) in
    let first : front ++ (xs ++ drop (place + length xs) old) ≡ done ++ rest =
    ap (λ (k : ℕ). front ++ (xs ++ drop k old)) (sym e) ∙ sym (append_assoc front xs rest) in
    let past : drop (next + length ys) (done ++ rest) ≡ drop (next + length ys) old =
    ap (λ (k : ℕ). drop (k + length ys) (done ++ rest)) (sym n) ∙ drop-append-add done rest (length ys)
    ∙ drop-drop (length ys) next old in
    let end : next + length ys ≡ place + length (xs ++ ys) = omega (arith, e, length-append xs ys) in
    ap (λ (l : List Bool). take next l ++ (ys ++ drop (next + length ys) l)) first
    ∙ ap (λ (l : List Bool). l ++ (ys ++ drop (next + length ys) (done ++ rest))) (take_at done rest next n)
    ∙ ap (λ (l : List Bool). done ++ (ys ++ l)) past
    ∙ append_assoc front xs (ys ++ drop (next + length ys) old)
    ∙ ap (λ (l : List Bool). front ++ l) (sym (append_assoc xs ys (drop (next + length ys) old)))
    ∙ ap (λ (k : ℕ). front ++ ((xs ++ ys) ++ drop k old)) end
