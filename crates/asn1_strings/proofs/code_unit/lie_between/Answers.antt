use Rattle.std.proofs.Common.{map, ap, ◌∙◌, arith}
use Rattle.std.proofs.lemmas.List.{take_all}
use Rattle.asn1_characters.specs.Sets.{largest}
use Rattle.asn1_strings.proofs.OctetLemmas.{distance_from, near_is_between}
use Rattle.asn1_strings.proofs.code_unit.lie_between.Goals as goal

pub returns : goal.returns
returns c =
    let octets = c.args.octets.now in
    let all = take_all c.loop-octet.octet-index octets (omega arith) in
    let most = c.loop-octet.invariant ∙ ap (λ xs. largest (map (distance_from c.args.first) xs)) all in
    rw most (near_is_between octets c.args.first c.args.last (λ k. (c.type_inv.octets k).fits) c.requires
    c.ranges.last.fits)
