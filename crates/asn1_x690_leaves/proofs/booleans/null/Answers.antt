use Rattle.std.proofs.Common.{length, refl, sym, ◌∙◌, ap, inl}
use Rattle.asn1_bits.specs.Bits.{bits}
use Rattle.asn1_x690_leaves.proofs.SpanSteps.{span_size}
use Rattle.asn1_x690_leaves.proofs.booleans.null.Goals as goal

pub returns-then-span-ne0 : goal.returns-then-span-ne0
returns-then-span-ne0 c ranges =
    inl (refl, λ u p. c.if-span-ne0.true (sym (span_size (bits c.args.octets.now) c.args.span c.requires) ∙ ap length p))
