use Rattle.std.proofs.Common.{◌≡◌, ℕ, ◌+◌, ◌-◌, ◌*◌, ◌/◌, ◌%◌, ◌^◌, ap, ◌∙◌, arith}
use Rattle.std.proofs.Math.Nat.{div-one}
use Rattle.asn1_bits.specs.Bits.{bits, digits, ored}
use Rattle.asn1_bits.specs.Laws.DigitLaws.{length-bits}
use Rattle.asn1_bits.proofs.PutLemmas.{placed-two}
use Rattle.asn1_bits.proofs.WindowLemmas.{ored-no_digits, up-down, up-again}
use Rattle.asn1_bits.proofs.target.stores.or_word.Goals as goal

pub returns-then-width-eq0 : goal.returns-then-width-eq0
returns-then-width-eq0 c =
    rw c.if-width-eq0.true (ored-no_digits (bits c.args.dst.now) c.args.position c.args.word)

pub returns-then-position-dst : goal.returns-then-position-dst
returns-then-position-dst c =
    let j = 64 - c.args.width in
    let same : j % 64 ≡ j = omega (arith, c.if-width-eq0.false) in
    c.or_near_end.ensures
    ∙ ap (λ (k : ℕ). ored (bits c.args.dst.now) c.args.position (digits (c.args.word * 2 ^ k % 2 ^ 64 / 2 ^ j) c.args.width)) same
    ∙ ap (ored (bits c.args.dst.now) c.args.position) (up-down c.args.word c.args.width c.requires.width)

pub or_top-requires-clause-moved : goal.or_top-requires-clause-moved
or_top-requires-clause-moved c =
    let shift = c.args.position % 8 in
    let width = c.args.width in
    let past = shift + width - 64 in
    let all : 64 - width + (64 - shift) ≡ 64 - past = omega (arith, c.if-shift-width-gt64.true, c.requires.width) in
    let same : (64 - width) % 64 ≡ 64 - width = omega (arith, c.if-width-eq0.false) in
    ap (λ (k : ℕ). c.args.word * 2 ^ k % 2 ^ 64 * 2 ^ (64 - shift) % 2 ^ 64) same
    ∙ up-again c.args.word (64 - width) (64 - shift)
    ∙ ap (λ (k : ℕ). c.args.word * 2 ^ k % 2 ^ 64) all

pub returns-then-shift-width-gt64 : goal.returns-then-shift-width-gt64
returns-then-shift-width-gt64 c =
    let place = c.args.position in
    let past = place % 8 + c.args.width - 64 in
    placed-two (bits c.args.dst.now) (bits c.or_front_of.new.dst) (bits c.or_top.new.dst)
    place (8 * (place / 8 + 8)) c.args.word (c.args.width - past) past c.args.width
    c.or_front_of.ensures c.or_top.ensures (omega arith) (omega arith)
    (omega (arith, length-bits c.args.dst.now))

pub returns-else-shift-width-gt64 : goal.returns-else-shift-width-gt64
returns-else-shift-width-gt64 c =
    let place = c.args.position in
    let word = c.args.word in
    let past = place % 8 + c.args.width - 64 in
    let none : past ≡ 0 = omega (arith, c.if-shift-width-gt64.false) in
    let same : c.args.width - past ≡ c.args.width = omega (arith, c.if-shift-width-gt64.false) in
    c.or_front_of.ensures
    ∙ ap (λ (k : ℕ). ored (bits c.args.dst.now) place (digits (word / 2 ^ k) (c.args.width - past))) none
    ∙ ap (λ (k : ℕ). ored (bits c.args.dst.now) place (digits (word / 2 ^ 0) k)) same
    ∙ ap (λ (n : ℕ). ored (bits c.args.dst.now) place (digits n c.args.width)) (div-one word)
