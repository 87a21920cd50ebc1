use Rattle.std.proofs.Common.{◌++◌, inl, refl}
use Rattle.asn1_bits.specs.Bits.{bits}
use Rattle.asn1_schema.specs.CharactersOfParts.{characters_of}
use Rattle.asn1_x691.specs.declared.fault.FaultKind.TheVariants.{InRoot}
use Rattle.asn1_x691.specs.Characters.{characters}
use Rattle.asn1_x691.specs.Fragments.{most_fragments, all_units}
use Rattle.asn1_x691.specs.Strings.{IsOfRoot, IsAddedSize, where_size}
use Rattle.asn1_x691_writers.specs.FieldSteps.{turn_constant}
use Rattle.asn1_x691_writers.proofs.sized_texts.put_added_text.Goals as goal

pub returns : goal.returns
returns c size node added =
    let a = c.args.alphabet.now in
    let text = characters_of c.args.table.now (bits c.args.source.now) c.args.text in
    turn_constant a.is_aligned c.args.octets.now c.put_long_text.new.octets c.args.at c.put_long_text.result
    (all_units (characters a.is_aligned a.ranges.now node) (λ x y. x ++ y) a.is_aligned node most_fragments) (λ v l. l)
    (λ v. where_size (IsAddedSize size) (IsOfRoot size) InRoot node v) (c.args.text.count, text) text (c.put_long_text.ensures node)
    (λ p. inl (added, (refl, refl)))
