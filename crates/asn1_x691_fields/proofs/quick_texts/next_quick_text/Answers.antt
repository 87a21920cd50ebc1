use Rattle.std.proofs.Common.{Bool, IfSome, sym, subst}
use Rattle.asn1_bits.specs.Bits.{bits}
use Rattle.asn1_schema.specs.Encodings.{Starts}
use Rattle.asn1_schema.specs.declared.tables.Length.{Length}
use Rattle.asn1_schema.specs.declared.tables.Length.TheVariants.{Between}
use Rattle.asn1_x691.specs.Characters.{text_of}
use Rattle.asn1_x691_fields.specs.declared.quick_texts.Found.{Found}
use Rattle.asn1_x691_fields.specs.Characters.{characters_in}
use Rattle.asn1_x691_fields.specs.Outcomes.{position, rest}
use Rattle.asn1_x691_fields.proofs.quick_texts.next_quick_text.Goals as goal

pub returns-in-Between-clause-read : goal.returns-in-Between-clause-read
returns-in-Between-clause-read c node =
    let list = bits c.args.octets.now in
    let ranges = c.args.ranges.now in
    let old = c.args.state.now in
    let new = c.next_quick_between.new.state in
    let P : Bool → Length → Type 0 = λ b z.
    IfSome c.next_quick_between.result (λ (f : Found). Starts (text_of 0 b ranges node z (position old)).encodes (rest list old)
    (characters_in f ranges list) (rest list new)) in
    subst (λ (z : Length). P c.args.is_aligned z) (sym c.in-Between.is)
    (subst (λ (b : Bool). P b (Between c.in-Between.least c.in-Between.range)) (sym c.if-is_aligned.false) (c.next_quick_between.ensures.read node))
