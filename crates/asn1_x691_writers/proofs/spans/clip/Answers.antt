use Rattle.std.proofs.Common.{◌*◌, ◌-◌, [], length, take, drop, sym, ap, ◌∙◌, arith}
use Rattle.std.proofs.lemmas.List.{take_all, drop_all, length-drop}
use Rattle.asn1_bits.specs.Bits.{bits}
use Rattle.asn1_bits.specs.Laws.DigitLaws.{length-bits}
use Rattle.asn1_x691_writers.proofs.spans.clip.Goals as goal

pub returns-then-span-size-clause-same : goal.returns-then-span-size-clause-same
returns-then-span-size-clause-same c =
    let list = bits c.args.source.now in
    let none = drop_all c.args.span.at list (omega (arith, c.if-span-size.true, length-bits c.args.source.now)) in
    sym (ap (take c.args.span.count) none ∙ take_all c.args.span.count [] (omega arith))

pub returns-then-span-size-2-clause-same : goal.returns-then-span-size-2-clause-same
returns-then-span-size-2-clause-same c =
    let list = bits c.args.source.now in
    let at = c.args.span.at in
    let size = 8 * length c.args.source.now in
    let n = length-drop at list in
    let m = length-bits c.args.source.now in
    take_all (size - at) (drop at list) (omega (arith, n, m))
    ∙ sym (take_all c.args.span.count (drop at list) (omega (arith, n, m, c.if-span-size-2.true)))
