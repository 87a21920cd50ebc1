use Rattle.std.proofs.Common.{arith}
use Rattle.asn1_bits.specs.Laws.DigitLaws.{length-bits}
use Rattle.asn1_x690_leaves.proofs.identifiers.are_between_octets.Goals as goal

pub are_subidentifiers-requires-clause-inside : goal.are_subidentifiers-requires-clause-inside
are_subidentifiers-requires-clause-inside c = let i = c.requires.contents.inside in omega (arith, length-bits c.args.octets.now, i)
