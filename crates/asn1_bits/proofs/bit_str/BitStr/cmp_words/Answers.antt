use Rattle.std.proofs.Common.{◌≡◌, ℕ, ◌+◌, ◌*◌, ◌/◌, ◌%◌, Bool, List, ◌++◌, length, take, drop, sym, ap, ◌∙◌, arith, Ordering}
use Rattle.std.proofs.Math.Seq.{take-add}
use Rattle.std.proofs.lemmas.List.{length-drop, take-take}
use Rattle.std.specs.Ordering.{nat_cmp, ordering_then}
use Rattle.asn1_bits.specs.Bits.{digits, number}
use Rattle.asn1_bits.specs.BitStr.{view_of, bits_of}
use Rattle.asn1_bits.specs.Laws.NumberLaws.{number-nil, number_of-digits}
use Rattle.asn1_bits.specs.Laws.ViewLaws.{length-list_of}
use Rattle.asn1_bits.proofs.OrderLemmas.{differ, last-bits}
use Rattle.asn1_bits.proofs.bit_str.BitStr.cmp_words.Goals as goal

pub returns-then-one-two : goal.returns-then-one-two
returns-then-one-two c =
    let a = c.args.self in
    let b = c.args.other in
    let xs = bits_of a in
    let ys = bits_of b in
    let at = 64 * c.loop-k.k in
    let one = c.word_of_64-one.result in
    let two = c.word_of_64-two.result in
    let m : length xs ≡ a.len = length-list_of (view_of a) a.within in
    let n : length ys ≡ b.len = length-list_of (view_of b) b.within in
    let e : one ≡ number (take 64 (drop at xs)) = sym (number_of-digits one 64 (omega (arith, c.word_of_64-one.type_inv))) ∙ ap number c.word_of_64-one.ensures in
    let f : two ≡ number (take 64 (drop at ys)) = sym (number_of-digits two 64 (omega (arith, c.word_of_64-two.type_inv))) ∙ ap number c.word_of_64-two.ensures in
    c.cmp.ensures
    ∙ differ xs ys at 64 one two c.loop-k.invariant (omega (arith, m, n, length-drop at xs, c.min-words.ensures, c.loop-k-test.true))
    (omega (arith, m, n, length-drop at ys, c.min-words.ensures, c.loop-k-test.true)) e f c.if-one-two.true

pub loop-k-preserved : goal.loop-k-preserved
loop-k-preserved c =
    let xs = bits_of c.args.self in
    let ys = bits_of c.args.other in
    let at = 64 * c.loop-k.k in
    let next : at + 64 ≡ 64 * (c.loop-k.k + 1) = omega arith in
    let word : take 64 (drop at xs) ≡ take 64 (drop at ys) = sym c.word_of_64-one.ensures
    ∙ ap (λ (n : ℕ). digits n 64) c.if-one-two.false ∙ c.word_of_64-two.ensures in
    ap (λ (n : ℕ). take n xs) (sym next) ∙ take-add at 64 xs
    ∙ ap (λ (l : List Bool). l ++ take 64 (drop at xs)) c.loop-k.invariant
    ∙ ap (λ (l : List Bool). take at ys ++ l) word
    ∙ sym (take-add at 64 ys) ∙ ap (λ (n : ℕ). take n ys) next

pub returns-then-width-eq0 : goal.returns-then-width-eq0
returns-then-width-eq0 c =
    let a = c.args.self in
    let b = c.args.other in
    let xs = bits_of a in
    let ys = bits_of b in
    let at = 64 * (c.min-words.result / 64) in
    let w : c.min-words.result / 64 ≡ c.loop-k.k = omega (arith, c.loop-k-test.false, c.loop-k.auto.k-end) in
    let same : take at xs ≡ take at ys = ap (λ (k : ℕ). take (64 * k) xs) w ∙ c.loop-k.invariant ∙ ap (λ (k : ℕ). take (64 * k) ys) (sym w) in
    let p : length xs ≡ a.len = length-list_of (view_of a) a.within in
    let q : length ys ≡ b.len = length-list_of (view_of b) b.within in
    c.cmp-then-width-eq0.ensures
    ∙ ap (λ (k : ℕ). nat_cmp k b.len) (sym p) ∙ ap (nat_cmp (length xs)) (sym q)
    ∙ last-bits xs ys at 0 0 0 same (omega (arith, p, q, c.min-words.ensures, c.min-width.ensures, c.if-width-eq0.true)) (sym number-nil) (sym number-nil)

pub returns : goal.returns
returns c =
    let a = c.args.self in
    let b = c.args.other in
    let xs = bits_of a in
    let ys = bits_of b in
    let words = c.min-words.result / 64 in
    let at = 64 * words in
    let w : words ≡ c.loop-k.k = omega (arith, c.loop-k-test.false, c.loop-k.auto.k-end) in
    let same : take at xs ≡ take at ys = ap (λ (k : ℕ). take (64 * k) xs) w ∙ c.loop-k.invariant ∙ ap (λ (k : ℕ). take (64 * k) ys) (sym w) in
    let n = c.min-width.result % 64 in
    let one = c.first_u128-one.result in
    let two = c.first_u128-two.result in
    let p : length xs ≡ a.len = length-list_of (view_of a) a.within in
    let q : length ys ≡ b.len = length-list_of (view_of b) b.within in
    let read : (list part : List Bool) (k : ℕ) → part ≡ take n list → k ≡ number (take n part) → k ≡ number (take n list) = λ list part k e h.
    h ∙ ap (λ (l : List Bool). number (take n l)) e ∙ ap number (take-take n n list (omega arith)) in
    let e : one ≡ number (take n (drop at xs)) = read (drop at xs) (bits_of c.slice.result) one c.slice.ensures.list c.first_u128-one.ensures.number in
    let f : two ≡ number (take n (drop at ys)) = read (drop at ys) (bits_of c.slice-2.result) two c.slice-2.ensures.list c.first_u128-two.ensures.number in
    c.then.ensures
    ∙ ap (λ (o : Ordering). ordering_then o c.cmp-3.result) c.cmp-2.ensures
    ∙ ap (λ (o : Ordering). ordering_then (nat_cmp one two) o) c.cmp-3.ensures
    ∙ ap (λ (k : ℕ). ordering_then (nat_cmp one two) (nat_cmp k b.len)) (sym p)
    ∙ ap (λ (k : ℕ). ordering_then (nat_cmp one two) (nat_cmp (length xs) k)) (sym q)
    ∙ last-bits xs ys at n one two same (omega (arith, p, q, c.min-words.ensures, c.min-width.ensures)) e f
