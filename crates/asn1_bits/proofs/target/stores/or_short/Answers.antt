use Rattle.std.proofs.Common.{◌≡◌, ℕ, ◌*◌, ◌/◌, List, length, take, sym, ap, ◌∙◌, arith}
use Rattle.asn1_bits.specs.Bits.{bits, ored}
use Rattle.asn1_bits.specs.Laws.DigitLaws.{length-bits}
use Rattle.asn1_bits.proofs.OredLemmas.{ored-none}
use Rattle.asn1_bits.proofs.WindowLemmas.{or-more, or-window, ored-no_digits}
use Rattle.asn1_bits.proofs.target.stores.or_short.Goals as goal

pub returns-then-width-eq0 : goal.returns-then-width-eq0
returns-then-width-eq0 c = rw c.if-width-eq0.true (ored-no_digits (bits c.args.dst.now) c.args.position c.args.word)

pub loop-k-init : goal.loop-k-init
loop-k-init c = sym (ored-none (bits c.args.dst.now) (8 * (c.args.position / 8)))

pub loop-k-preserved : goal.loop-k-preserved
loop-k-preserved c =
    or-more (bits c.args.dst.now) c.loop-k.dst c.to_be_bytes-octets.result (c.args.position / 8) c.loop-k.k
    c.loop-k.invariant
    (omega (arith, c.loop-k.auto.dst, c.div_ceil-count.ensures, c.requires.width))
    (let n : length c.to_be_bytes-octets.result ≡ 8 =
    ap (λ (l : List ℕ). length l) c.to_be_bytes-octets.ensures in omega
    (arith, c.div_ceil-count.ensures, c.requires.width))

pub returns : goal.returns
returns c =
    let old = bits c.args.dst.now in
    let count = c.div_ceil-count.result in
    let place = c.args.position in
    let done : c.loop-k.k ≡ count = omega arith in
    let n = length-bits c.args.dst.now in
    c.loop-k.invariant
    ∙ ap (λ (k : ℕ). ored old (8 * (place / 8)) (take (8 * k) (bits c.to_be_bytes-octets.result))) done
    ∙ or-window old c.to_be_bytes-octets.result 8 place c.args.word c.args.width count (omega arith)
    (omega (arith, c.div_ceil-count.ensures, c.requires.width)) (omega arith)
    (omega (arith, c.div_ceil-count.ensures, c.requires.width))
    (omega (arith, c.div_ceil-count.ensures, c.requires.width))
    (omega (arith, c.div_ceil-count.ensures, c.requires.width))
    c.to_be_bytes-octets.ensures
