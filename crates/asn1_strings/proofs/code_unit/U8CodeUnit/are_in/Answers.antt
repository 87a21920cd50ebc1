use Rattle.std.proofs.Common.{arith, refl, ap, ◌∙◌}
use Rattle.std.proofs.lemmas.Grind.{common_steps}
use Rattle.std.specs.List.{list_all}
use Rattle.std.proofs.lemmas.List.{take_all}
use Rattle.asn1_characters.specs.Sets.{base_set, has_character}
use Rattle.asn1_strings.proofs.OctetLemmas.{both, ones, all_in, between_in}
use Rattle.asn1_characters.specs.declared.character_set.CharacterSetName.TheVariants.{IA5, Visible}
use Rattle.asn1_strings.proofs.code_unit.U8CodeUnit.are_in.Goals as goal

pub returns : goal.returns
returns c =
    let set = base_set c.args.name in
    let octets = c.args.octets.now in
    let all = take_all c.loop-octet.octet-index octets (omega arith) in
    rw (ones octets) (all_in set octets c.loop-octet.right
    (c.loop-octet.invariant ∙ ap (list_all (has_character set)) all))

pub returns-in-IA5 : goal.returns-in-IA5
returns-in-IA5 c =
    let octets = c.args.octets.now in
    rw (c.in-IA5.is, ones octets) (both c.lie_between.ensures (between_in IA5 0 127 octets refl))

pub returns-in-Visible : goal.returns-in-Visible
returns-in-Visible c =
    let octets = c.args.octets.now in
    rw (c.in-Visible.is, ones octets) (both c.lie_between-in-Visible.ensures (between_in Visible 32 126 octets refl))

pub loop-octet-preserved : goal.loop-octet-preserved
loop-octet-preserved c = grind (arith, common_steps)
