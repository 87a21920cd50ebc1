use Rattle.std.proofs.Common.{ℕ, List, Bool, sym, ◌∙◌, subst}
use Rattle.asn1_bits.specs.Bits.{bits}
use Rattle.asn1_schema.specs.declared.tables.Range.{Range}
use Rattle.asn1_x691.specs.Characters.{characters}
use Rattle.asn1_x691_fields.specs.Outcomes.{IsRead}
use Rattle.asn1_x691_fields.specs.Characters.{characters_at}
use Rattle.asn1_x691_fields.proofs.CodeLemmas.{same_characters, read_by}
use Rattle.asn1_x691_fields.proofs.characters.next_of_any.Goals as goal

pub returns-clause-read : goal.returns-clause-read
returns-clause-read c a is ranges variant =
    let list = bits c.args.octets.now in
    let b = c.alphabet_of-alphabet.result in
    let e = c.alphabet_of-alphabet.ensures in
    let k = c.next_each in
    let old = c.args.state.now in
    let new = k.new.state in
    let f = λ (at : ℕ). characters_at b list at c.args.count in
    let g = λ (at : ℕ). characters_at a list at c.args.count in
    read_by (characters c.args.is_aligned c.args.ranges.now c.args.node c.args.count) f g list old new k.result
    (λ at. same_characters b a e.is is (e.ranges ∙ sym ranges) (e.variant ∙ sym variant) list at c.args.count)
    (subst (λ (r : List Range). IsRead (characters c.args.is_aligned r c.args.node c.args.count) f list old new k.result) e.ranges
    (subst (λ (v : Bool). IsRead (characters v b.ranges.now c.args.node c.args.count) f list old new k.result) e.variant k.ensures.read))
