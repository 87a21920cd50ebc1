use Rattle.std.proofs.Common.{◌≡◌, ◌+◌, ◌*◌, ◌++◌, Bool, length, sym, ap, ◌∙◌, subst, arith}
use Rattle.std.proofs.lemmas.Bool.{lt-ltb, le-ltb}
use Rattle.asn1_bits.specs.Bits.{digits}
use Rattle.asn1_bits.specs.Laws.DigitLaws.{length-digits}
use Rattle.asn1_x691_writers.specs.Enclosed.{length_bits, length_bits_by}
use Rattle.asn1_x691_writers.specs.EnclosedSteps.{over_grown}
use Rattle.asn1_x691_writers.specs.Written.{IsGrown}
use Rattle.asn1_x691_writers.proofs.enclosed.put_length_before.Goals as goal

pub returns-then-count-lt128-clause-index : goal.returns-then-count-lt128-clause-index
returns-then-count-lt128-clause-index c =
    let n = c.args.count in
    let e : length (length_bits n) ≡ 8 =
    ap (λ (b : Bool). length (length_bits_by b n)) (lt-ltb n 128 c.if-count-lt128.true) ∙ length-digits n 8 in
    omega (arith, e)

pub returns-then-count-lt128-clause-grown : goal.returns-then-count-lt128-clause-grown
returns-then-count-lt128-clause-grown c was contents size g =
    let n = c.args.count in
    let now = c.put_over.new.octets in
    let new = c.args.at + 8 + 8 * n in
    subst (λ (b : Bool). IsGrown was c.args.at now new (length_bits_by b n ++ contents)) (sym (lt-ltb n 128 c.if-count-lt128.true))
    (over_grown was c.args.octets.now now c.args.at new (digits 0 8) (digits n 8) contents c.requires.start c.put_over.auto.octets
    (length-digits 0 8 ∙ sym (length-digits n 8)) g c.put_over.ensures)

pub returns-clause-index : goal.returns-clause-index
returns-clause-index c =
    let n = c.args.count in
    let e : length (length_bits n) ≡ 16 =
    ap (λ (b : Bool). length (length_bits_by b n)) (le-ltb n 128 c.if-count-lt128.false) ∙ length-digits (32768 + n) 16 in
    omega (arith, e, c.put_two_octets.ensures.index)

pub returns-clause-grown : goal.returns-clause-grown
returns-clause-grown c was contents size g =
    let n = c.args.count in
    let k = c.put_two_octets in
    subst (λ (b : Bool). IsGrown was c.args.at k.new.octets k.result (length_bits_by b n ++ contents))
    (sym (le-ltb n 128 c.if-count-lt128.false)) (k.ensures.grown was contents size g)
