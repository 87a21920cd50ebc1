use Rattle.std.proofs.Common.{rules, ◌-◌, drop, ◌∙◌, arith}
use Rattle.std.proofs.lemmas.List.{take_all, length-drop}
use Rattle.asn1_bits.specs.BitStr.{view_of, bits_of}
use Rattle.asn1_bits.specs.Laws.ViewLaws.{length-list_of}
use Rattle.asn1_bits.proofs.bit_str.BitStr.split_at.Goals as goal

pub returns-clause-back_list : goal.returns-clause-back_list
returns-clause-back_list c =
    let b = c.args.self.now in
    let at = c.args.at in
    let list = bits_of b in
    c.slice-2.ensures.list
    ∙ take_all (b.len - at) (drop at list) (omega (arith, length-drop at list, length-list_of (view_of b) b.within))

pub returns-clause-back : goal.returns-clause-back
returns-clause-back c = search rules
