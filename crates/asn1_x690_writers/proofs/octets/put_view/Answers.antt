use Rattle.std.proofs.Common.{◌∙◌, sym, ap, length, drop, arith, List, Bool}
use Rattle.std.proofs.lemmas.List.{length-take}
use Rattle.asn1_bits.specs.Bits.{bits}
use Rattle.asn1_bits.specs.Laws.DigitLaws.{length-bits}
use Rattle.asn1_x690_writers.proofs.octets.put_view.Goals as goal

pub octets_at-own-requires-clause-contents : goal.octets_at-own-requires-clause-contents
octets_at-own-requires-clause-contents c = record {
  inside = omega (arith, c.requires.within, length-bits c.args.source.now);
  whole = omega (arith, c.if-count-eq0.true);
}

pub put_octets-requires-clause-own : goal.put_octets-requires-clause-own
put_octets-requires-clause-own c =
    let own = c.octets_at-own.result.now in
    let e = sym (length-bits own)
    ∙ ap (λ (l : List Bool). length l) c.octets_at-own.ensures.bits
    ∙ length-take c.args.count (drop c.args.from (bits c.args.source.now)) in
    omega (arith, e, c.ranges.count.fits)
