use Rattle.std.proofs.Common.{ℕ, List, sym, subst, ap}
use Rattle.asn1_bits.specs.Bits.{bits}
use Rattle.asn1_schema.specs.declared.misfit.MisfitKind.TheVariants.{NoEncoding}
use Rattle.asn1_schema.specs.CharactersOfParts.{characters_of}
use Rattle.asn1_schema.specs.Pieces.{Text}
use Rattle.asn1_x690.specs.Der.{rows_of}
use Rattle.asn1_x690.specs.Leaves.{width_of, AreCharacters, IsText, leaf_of}
use Rattle.asn1_x691_writers.specs.Put.{piece_in}
use Rattle.asn1_x690_writers.specs.PutSteps.{leaf_none, rejected}
use Rattle.asn1_x690_writers.specs.Texts.{AreWithin}
use Rattle.asn1_x690_writers.specs.TextSteps.{within_bits}
use Rattle.asn1_x690_writers.proofs.texts.put_text.Goals as goal

pub returns-then-not-is_text : goal.returns-then-not-is_text
returns-then-not-is_text c =
    let a = c.args in
    let k = c.reject in
    let xs = characters_of a.table.now (bits a.source.now) c.in-Text.text in
    let p = piece_in a.table.now a.source.now a.part in
    let Yes : List ℕ → Type 0 = IsText a.is_extensible a.size (rows_of a.table.now a.alphabet) (rows_of a.table.now a.whole) in
    rejected (⊥) (leaf_of (AreCharacters (width_of a.characters)) Yes Text a.node) p a.octets.now a.state.now k.new.state k.result a.node NoEncoding
    k.ensures.result k.ensures.at k.ensures.next k.ensures.node k.ensures.reason
    (leaf_none (AreCharacters (width_of a.characters)) Yes Text a.node p xs (ap (piece_in a.table.now a.source.now) c.in-Text.is)
    (λ l are permitted. c.is_text.ensures.no c.if-not-is_text.true permitted
    (subst (λ (w : ℕ). AreWithin w xs) (sym c.width_of-width.ensures.value) (within_bits (width_of a.characters) xs l are))))
