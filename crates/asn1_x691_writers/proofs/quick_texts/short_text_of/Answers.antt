use Rattle.std.proofs.Common.{Bool, IfSome, sym, subst}
use Rattle.asn1_bits.specs.Bits.{bits, digits}
use Rattle.asn1_schema.specs.CharactersOfParts.{characters_of}
use Rattle.asn1_schema.specs.declared.tables.Length.{Length}
use Rattle.asn1_schema.specs.declared.tables.Length.TheVariants.{Between}
use Rattle.asn1_x691.specs.Characters.{text_of}
use Rattle.asn1_x691.specs.Fragments.{most_fragments}
use Rattle.asn1_x691_fields.specs.Characters.{rows_of}
use Rattle.asn1_x691_writers.specs.declared.quick_texts.Short.{Short}
use Rattle.asn1_x691_writers.proofs.quick_texts.short_text_of.Goals as goal

pub returns-in-Between-clause-encoded : goal.returns-in-Between-clause-encoded
returns-in-Between-clause-encoded c node at =
    let r = c.short_text_between.result in
    let table = c.args.table.now in
    let ranges = rows_of table c.args.rows in
    let text = characters_of table (bits c.args.source.now) c.args.text in
    subst (λ (z : Length). IfSome r (λ (s : Short). (text_of most_fragments c.args.is_aligned ranges node z at).encodes text (digits s.value s.width)))
    (sym c.in-Between.is)
    (subst
    (λ (b : Bool).
    IfSome r (λ (s : Short). (text_of most_fragments b ranges node (Between c.in-Between.least c.in-Between.range) at).encodes text (digits s.value s.width)))
    (sym c.if-is_aligned.false) (c.short_text_between.ensures.encoded node at))
