use Rattle.std.proofs.Common.{◌≡◌, ℕ, ◌+◌, ◌-◌, ◌*◌, ◌/◌, ◌%◌, ◌^◌, ◌<◌, List, length, take, sym, ap, ◌∙◌, arith}
use Rattle.std.specs.Int.{bytes_high_first}
use Rattle.std.proofs.Math.Nat.{div-one}
use Rattle.asn1_bits.specs.Bits.{bits, ored}
use Rattle.asn1_bits.specs.Laws.DigitLaws.{length-bits}
use Rattle.asn1_bits.proofs.OredLemmas.{ored-none}
use Rattle.asn1_bits.proofs.WindowLemmas.{or-more, or-window}
use Rattle.asn1_bits.proofs.target.stores.or_top.Goals as goal

pub returns : goal.returns
returns c =
    let old = bits c.args.dst.now in
    let octets = c.to_be_bytes-octets.result in
    let q = c.args.octet in
    let place = 8 * q in
    let width = c.args.width in
    let word = c.args.word * 2 ^ (64 - width) % 2 ^ 64 in
    let n : length octets ≡ 8 = ap (λ (l : List ℕ). length l) c.to_be_bytes-octets.ensures in
    let within : q < length c.args.dst.now = omega (arith, c.requires.within, c.requires.some) in
    let first : q + 0 ≡ q = omega arith in
    let here : place / 8 ≡ q = omega arith in
    let front : place % 8 ≡ 0 = omega arith in
    let moved : octets ≡ bytes_high_first 8 (word / 2 ^ (place % 8)) =
    c.to_be_bytes-octets.ensures
    ∙ ap (bytes_high_first 8) (c.requires.moved ∙ sym (ap (λ (k : ℕ). word / 2 ^ k) front ∙ div-one word)) in
    rw first at (or-more old c.args.dst.now octets q 0 (sym (ored-none old place)) (omega (arith, within))
    (omega (arith, n)))
    ∙ ap (λ (k : ℕ). ored old (8 * k) (take 8 (bits octets))) (sym here)
    ∙ or-window old octets 8 place c.args.word width 1 (omega (arith, c.requires.some)) (omega arith)
    (omega (arith, length-bits c.args.dst.now, c.requires.within)) (omega (arith, length-bits c.args.dst.now, within))
    (omega (arith, c.requires.some)) (omega (arith, c.requires.width))
    moved
