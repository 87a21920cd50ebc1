use Rattle.std.proofs.Common.{◌≡◌, ℕ, ◌+◌, ◌*◌, ◌/◌, ◌%◌, ◌^◌, ◌<◌, length, subst, sym, ap, ◌∙◌, arith, ◌-◌, ◌≤◌, ◌++◌, take}
use Rattle.asn1_bits.specs.Bits.{bits, digits}
use Rattle.asn1_bits.specs.Laws.DigitLaws.{length-bits, length-digits}
use Rattle.std.proofs.Math.Nat.{mod-eq_of_lt}
use Rattle.asn1_x691_writers.specs.Written.{IsGrown}
use Rattle.asn1_x691_writers.specs.GrownSteps.{grown_stored}
use Rattle.asn1_x691_writers.proofs.WordLemmas.{bits_before, joined_fits, word_stored}
use Rattle.asn1_x691_writers.proofs.bits.put_number.Goals as goal

pub overflow_add-word : goal.overflow_add-word
overflow_add-word c =
    let octet = c.from.result in
    let byte : octet < 256 = omega (arith, c.from.ensures, c.type_inv.octets (c.args.at / 8)) in
    let fits = joined_fits octet c.args.value (c.args.at % 8) c.args.width (omega arith) c.requires.width c.requires.below byte in
    let first : octet / 2 ^ (8 - c.args.at % 8) * 2 ^ c.args.width < 2 ^ 64 = omega (arith, fits) in
    let same = mod-eq_of_lt first in
    omega (arith, same, fits)

pub returns-then-first-saturating_sub : goal.returns-then-first-saturating_sub
returns-then-first-saturating_sub c =
    let was = c.args.octets.now in
    let now = c.store.new.octets in
    let at = c.args.at in
    let shift = at % 8 in
    let width = c.args.width in
    let octet = c.from.result in
    let list = digits c.args.value width in
    let byte : octet < 256 = omega (arith, c.from.ensures, c.type_inv.octets (at / 8)) in
    let n = length-digits c.args.value width in
    let inside : at / 8 + 8 ≤ length was = omega (arith, c.saturating_sub.ensures, c.if-first-saturating_sub.true) in
    let front = bits_before was at (omega (arith, inside))
    ∙ ap (λ (o : ℕ). take (8 * (at / 8)) (bits was) ++ digits (o / 2 ^ (8 - shift)) shift) (sym c.from.ensures) in
    let e : at + length list ≡ at + width = omega (arith, n) in
    subst (λ (k : ℕ). IsGrown was at now k list) e
    (grown_stored was now at list c.requires.size c.store.auto.octets
    (word_stored octet c.args.value shift width (omega arith) c.requires.width c.requires.below byte (bits was) (bits now) at (8 * (at / 8))
    (at + length list) (omega arith) (omega (arith, length-bits was, inside)) e front c.store.ensures))
