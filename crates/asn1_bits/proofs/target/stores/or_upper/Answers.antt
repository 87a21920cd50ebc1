use Rattle.std.proofs.Common.{◌≡◌, ℕ, ◌+◌, ◌-◌, ◌*◌, ◌/◌, ◌%◌, ◌^◌, ◌<◌, sym, ap, ◌∙◌, arith}
use Rattle.std.proofs.Math.Nat.{mod-eq_of_lt}
use Rattle.std.proofs.lemmas.Nat.{shl-shr, shr_below, shl_below}
use Rattle.asn1_bits.specs.Bits.{bits, digits, ored}
use Rattle.asn1_bits.specs.Laws.DigitLaws.{length-bits}
use Rattle.asn1_bits.proofs.WindowLemmas.{or-near}
use Rattle.asn1_bits.proofs.target.stores.or_upper.Goals as goal

pub returns : goal.returns
returns c =
    let old = bits c.args.dst.now in
    let place = c.args.position in
    let s = place % 8 in
    let width = 64 - s in
    let n = c.args.word / 2 ^ s in
    let all : 64 ≡ width + s = omega arith in
    let up : 64 - width ≡ s = omega arith in
    let small : n < 2 ^ width = shr_below c.args.word width s (rw (ap (λ (k : ℕ). 2 ^ k) (sym all)) (omega arith)) in
    let whole : n * 2 ^ s < 2 ^ 64 = rw (ap (λ (k : ℕ). 2 ^ k) all) (shl_below n width s small) in
    let same : n ≡ n * 2 ^ (64 - width) % 2 ^ 64 / 2 ^ s =
    sym (ap (λ (k : ℕ). n * 2 ^ k % 2 ^ 64 / 2 ^ s) up ∙ ap (λ (m : ℕ). m / 2 ^ s) (mod-eq_of_lt whole) ∙ shl-shr n s) in
    or-near 8 old (bits c.or_octets.new.dst) place n width (omega arith) (omega arith)
    (omega (arith, length-bits c.args.dst.now))
    (c.or_octets.ensures ∙ ap (λ (m : ℕ). ored old (8 * (place / 8)) (digits m 64)) same)
