use Rattle.std.proofs.Common.{◌≡◌, ℕ, ◌+◌, ◌*◌, List, ◌++◌, Bool, length, take, drop, sym, ap, ◌∙◌, arith}
use Rattle.std.proofs.lemmas.List.{drop-drop}
use Rattle.asn1_bits.specs.Bits.{bits, digits, overwritten}
use Rattle.asn1_bits.specs.Laws.ByteLaws.{bits-bytes}
use Rattle.asn1_bits.specs.Laws.DigitLaws.{bits-append, bits-take, bits-drop, length-digits}
use Rattle.asn1_x691_writers.proofs.bits.store.Goals as goal

pub returns-in-Some : goal.returns-in-Some
unfolding overwritten
returns-in-Some c =
    let was = c.args.octets.now in
    let first = c.args.first in
    let list = digits c.args.word 64 in
    let front = c.split_at_mut-rest.result.0.now in
    let eight = c.to_be_bytes.result in
    let back = c.split_at_mut-front.result.1.now in
    let e : 8 * (8 + first) ≡ 8 * first + length list = omega (arith, length-digits c.args.word 64) in
    let f : 8 + first ≡ first + 8 = omega arith in
    let rest : bits back ≡ drop (8 * first + length list) (bits was) =
    ap bits (c.split_at_mut-front.ensures.back ∙ ap (drop 8) c.split_at_mut-rest.ensures.back ∙ drop-drop 8 first was ∙ ap (λ (n : ℕ). drop n was) (sym f))
    ∙ bits-drop (8 + first) was ∙ ap (λ (n : ℕ). drop n (bits was)) e in
    bits-append front (eight ++ back)
    ∙ ap (λ (l : List Bool). bits front ++ l) (bits-append eight back)
    ∙ ap (λ (l : List Bool). l ++ (bits eight ++ bits back)) (ap bits c.split_at_mut-rest.ensures.front ∙ bits-take first was)
    ∙ ap (λ (l : List Bool). take (8 * first) (bits was) ++ (l ++ bits back)) (ap bits c.to_be_bytes.ensures ∙ bits-bytes 8 c.args.word)
    ∙ ap (λ (l : List Bool). take (8 * first) (bits was) ++ (list ++ l)) rest
