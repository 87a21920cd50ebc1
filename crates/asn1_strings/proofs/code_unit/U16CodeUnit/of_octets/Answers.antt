use Rattle.std.proofs.Common.{arith, map, ap, ◌∙◌}
use Rattle.std.proofs.lemmas.Grind.{common_steps}
use Rattle.std.specs.Int.{w16, from_be_bytes}
use Rattle.std.proofs.lemmas.List.{take_all}
use Rattle.asn1_strings.proofs.OctetLemmas.{units_of_pairs}
use Rattle.asn1_strings.proofs.code_unit.U16CodeUnit.of_octets.Goals as goal

pub returns-clause-units : goal.returns-clause-units
returns-clause-units c =
    let chunks = c.as_chunks.result.0.now in
    let all = take_all c.loop-pair.pair-index chunks (omega arith) in
    units_of_pairs c.args.octets.now c.loop-pair.units.items
    (c.loop-pair.invariant.items ∙ ap (map (from_be_bytes w16)) (all ∙ c.as_chunks.ensures.front))

pub loop-pair-preserved : goal.loop-pair-preserved
loop-pair-preserved c = grind (arith, common_steps)
