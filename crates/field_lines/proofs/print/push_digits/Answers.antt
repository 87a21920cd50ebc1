use Rattle.std.proofs.Common.{◌++◌, [], ◌∷◌, take, string_bytes, sym, ap, ◌∙◌, append_assoc}
use Rattle.asn1_values.specs.Words.{bits_of}
use Rattle.field_lines.specs.Output.{digits_of_bits}
use Rattle.field_lines.proofs.LineLemmas.{below_128, digits_of_more}
use Rattle.field_lines.proofs.print.push_digits.Goals as goal

pub loop-i-preserved : goal.loop-i-preserved
loop-i-preserved c =
    let list = bits_of c.args.bits in
    let old = string_bytes c.args.text.now in
    let digit = c.digit.result in
    let so_far = digits_of_bits (take c.loop-i.i list) in
    let one = c.in_ok-push.ensures.ascii (below_128 c.get.result digit c.digit.ensures) in
    c.in_ok-push.ensures.bytes
    ∙ ap (λ l. string_bytes c.loop-i.text ++ l) one
    ∙ ap (λ l. l ++ digit ∷ []) c.loop-i.invariant
    ∙ append_assoc old so_far (digit ∷ [])
    ∙ ap (λ l. old ++ l) (sym (digits_of_more list c.loop-i.i c.get.result digit c.get.ensures c.digit.ensures))
