use Rattle.std.proofs.Common.{rules, ◌≡◌, ℕ, ◌+◌, ◌-◌, ◌*◌, ◌/◌, ◌%◌, drop, ap, ◌∙◌, arith}
use Rattle.std.proofs.lemmas.List.{take_all, length-drop}
use Rattle.asn1_bits.specs.BitStr.{view_of, bits_of}
use Rattle.asn1_bits.specs.View.{list_of}
use Rattle.asn1_bits.specs.Laws.ViewLaws.{list_of-part, length-list_of}
use Rattle.asn1_bits.proofs.bit_str.BitStr.split_at_short.Goals as goal

pub returns-clause-front_list : goal.returns-clause-front_list
returns-clause-front_list c =
    let b = c.args.self.now in
    let first : 8 * b.octet + b.shift ≡ 8 * b.octet + b.shift + 0 = omega arith in
    ap (λ (n : ℕ). list_of (record { storage = b.storage.now; first = n; len = c.args.at })) first
    ∙ list_of-part (view_of b) 0 c.args.at (omega (arith, c.requires))

pub returns-clause-back_list : goal.returns-clause-back_list
returns-clause-back_list c =
    let b = c.args.self.now in
    let at = c.args.at in
    let left = b.len - at in
    let behind = b.shift + at in
    let list = bits_of b in
    let first : 8 * (b.octet + behind / 8) + behind % 8 ≡ 8 * b.octet + b.shift + at = omega arith in
    ap (λ (n : ℕ). list_of (record { storage = b.storage.now; first = n; len = left })) first
    ∙ list_of-part (view_of b) at left (omega (arith, c.requires))
    ∙ take_all left (drop at list) (omega (arith, length-drop at list, length-list_of (view_of b) b.within))

pub returns-clause-back : goal.returns-clause-back
returns-clause-back c = search rules
