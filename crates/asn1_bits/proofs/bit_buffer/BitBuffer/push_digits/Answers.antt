use Rattle.std.proofs.Common.{Bool, List, length, ap, ◌∙◌, arith}
use Rattle.std.proofs.lemmas.List.{length-append}
use Rattle.asn1_bits.specs.Bits.{digits, ored}
use Rattle.asn1_bits.specs.Laws.DigitLaws.{length-digits}
use Rattle.asn1_bits.proofs.OredLemmas.{ored-onto}
use Rattle.asn1_bits.proofs.bit_buffer.BitBuffer.push_digits.Goals as goal

pub returns-clause-ok : goal.returns-clause-ok
returns-clause-ok c =
    let src = digits c.args.value c.args.width in
    ored-onto c.args.self.now c.put_number.new.self src c.len-position.result c.args.width
    (c.put_number.ensures.list
    ∙ ap (ored c.grow.new.self c.len-position.result) c.lowest_wide-number.ensures.digits
    ∙ ap (λ (l : List Bool). ored l c.len-position.result src) c.in_ok-grow.ensures.ok)
    c.len-position.ensures (length-digits c.args.value c.args.width)

pub returns-clause-len : goal.returns-clause-len
returns-clause-len c =
    let src = digits c.args.value c.args.width in
    ap (λ (l : List Bool). length l) (returns-clause-ok c)
    ∙ omega (arith, length-append c.args.self.now src, length-digits c.args.value c.args.width)
