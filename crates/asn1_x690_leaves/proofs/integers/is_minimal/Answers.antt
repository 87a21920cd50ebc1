use Rattle.std.proofs.Common.{sym, ◌∙◌, arith}
use Rattle.std.proofs.lemmas.Bool.Decides.{nat_tests}
use Rattle.asn1_bits.specs.Bits.{bits}
use Rattle.asn1_bits.specs.Laws.DigitLaws.{length-bits}
use Rattle.asn1_x690_leaves.proofs.IntegerSteps.{no_octet, one_octet, minimal, not_zero, not_ones, is_far}
use Rattle.asn1_x690_leaves.proofs.integers.is_minimal.Goals as goal

pub returns-then-span-le8-clause-yes : goal.returns-then-span-le8-clause-yes
returns-then-span-le8-clause-yes c e =
    one_octet (bits c.args.octets.now) c.args.span c.requires.contents (grind (arith, nat_tests))

pub returns-then-span-le8-clause-no : goal.returns-then-span-le8-clause-no
returns-then-span-le8-clause-no c e =
    let w = c.requires.contents.whole in
    let few = c.if-span-le8.true in
    no_octet (bits c.args.octets.now) c.args.span c.requires.contents (grind (arith, nat_tests, w, few))

pub read_bits-first-requires-clause-within : goal.read_bits-first-requires-clause-within
read_bits-first-requires-clause-within c =
    let i = c.requires.contents.inside in
    let many = c.if-span-le8.false in
    omega (arith, length-bits c.args.octets.now, i, many)

pub returns-then-first-eq0-clause-no : goal.returns-then-first-eq0-clause-no
returns-then-first-eq0-clause-no c e n p =
    not_zero (bits c.args.octets.now) c.args.span c.requires.contents c.if-span-le8.false n p
    (sym c.read_bits-first.ensures.number ∙ c.if-first-eq0.true)

pub returns-then-first-eq511-clause-no : goal.returns-then-first-eq511-clause-no
returns-then-first-eq511-clause-no c e n p =
    not_ones (bits c.args.octets.now) c.args.span c.requires.contents c.if-span-le8.false n p
    (sym c.read_bits-first.ensures.number ∙ c.if-first-eq511.true)

pub returns-clause-yes : goal.returns-clause-yes
returns-clause-yes c e =
    minimal (bits c.args.octets.now) c.args.span c.requires.contents c.if-span-le8.false
    (λ z. c.if-first-eq0.false (c.read_bits-first.ensures.number ∙ z))
    (λ z. c.if-first-eq511.false (c.read_bits-first.ensures.number ∙ z))

pub returns-clause-fewest : goal.returns-clause-fewest
returns-clause-fewest c e many =
    is_far (bits c.args.octets.now) c.args.span c.requires.contents many
    (λ z. c.if-first-eq0.false (c.read_bits-first.ensures.number ∙ z))
    (λ z. c.if-first-eq511.false (c.read_bits-first.ensures.number ∙ z))
