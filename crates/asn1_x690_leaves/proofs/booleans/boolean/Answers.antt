use Rattle.std.proofs.Common.{refl, ◌∙◌, inl, arith}
use Rattle.asn1_bits.specs.Bits.{bits}
use Rattle.asn1_bits.specs.Laws.DigitLaws.{length-bits}
use Rattle.asn1_x690_leaves.proofs.SpanSteps.{truth_size, truth_is, no_truth}
use Rattle.asn1_x690_leaves.proofs.booleans.boolean.Goals as goal

pub returns-then-span-ne8 : goal.returns-then-span-ne8
returns-then-span-ne8 c ranges =
    inl (refl, λ b p. c.if-span-ne8.true (truth_size (bits c.args.octets.now) c.args.span c.requires.contents b p))

pub read_bits-octet-requires-clause-within : goal.read_bits-octet-requires-clause-within
read_bits-octet-requires-clause-within c =
    let i = c.requires.contents.inside in
    let e = c.if-span-ne8.false in
    omega (arith, length-bits c.args.octets.now, i, e)

pub returns : goal.returns
returns c ranges =
    inl (
      refl,
      λ b p.
          no_truth b c.read_bits-octet.result
          (c.read_bits-octet.ensures.number
          ∙ truth_is (bits c.args.octets.now) c.args.span c.requires.contents b c.if-span-ne8.false p)
          c.if-octet-eq0.false c.if-octet-eq255.false,
    )
