use Rattle.std.proofs.Common.{rules, arith, length, ap}
use Rattle.asn1_number.specs.Octets.{signed}
use Rattle.asn1_number.specs.Laws.ShortestLaws.{shortest_octets_only}
use Rattle.asn1_number.proofs.values.leading_octets_among.Goals as goal

pub returns-then-is_shortest_at_once : goal.returns-then-is_shortest_at_once
returns-then-is_shortest_at_once c =
    let s = c.is_shortest_at_once.ensures (search rules) in
    let e = ap length (shortest_octets_only (signed c.args.octets.now) c.args.octets.now s) in
    omega (arith, e, c.requires.few)
