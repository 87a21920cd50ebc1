use Rattle.std.proofs.Common.{◌≡◌, Bool, List, refl, ◌∙◌, subst}
use Rattle.asn1_bits.specs.Bits.{bits}
use Rattle.asn1_schema.specs.CharactersOfParts.{characters_of}
use Rattle.asn1_schema.specs.declared.tables.Range.{Range}
use Rattle.asn1_schema.specs.Pieces.{Text}
use Rattle.asn1_x691.specs.Characters.{text_of}
use Rattle.asn1_x691.specs.Fragments.{most_fragments}
use Rattle.asn1_x691_fields.specs.Characters.{rows_of}
use Rattle.asn1_x691_writers.specs.Written.{IsWritten}
use Rattle.asn1_x691_writers.specs.LeafSteps.{leaf_written}
use Rattle.asn1_x691_writers.proofs.texts.put_long_text_of_root.Goals as goal

pub returns-then-are_quickly_copied : goal.returns-then-are_quickly_copied
returns-then-are_quickly_copied c =
    let aligned = c.args.is_aligned in
    let node = c.args.node in
    let size = c.args.size in
    let table = c.args.table.now in
    let text = characters_of table (bits c.args.source.now) c.args.text in
    let ranges = rows_of table c.args.rows in
    let was = c.args.octets.now in
    let now = c.put_copied_text-state.new.octets in
    let old = c.args.state.now.at in
    let new = c.put_copied_text-state.result in
    let a = c.alphabet_of_few-alphabet.result in
    let same : a.ranges.now ≡ ranges = c.alphabet_of_few-alphabet.ensures.ranges ∙ c.ranges_in.ensures in
    let variant : a.is_aligned ≡ aligned = c.alphabet_of_few-alphabet.ensures.variant in
    let w : IsWritten aligned (text_of most_fragments aligned ranges node size) text was old now new =
    subst (λ (r : List Range). IsWritten aligned (text_of most_fragments aligned r node size) text was old now new) same
    (subst (λ (b : Bool). IsWritten b (text_of most_fragments b a.ranges.now node size) text was old now new) variant
    (c.put_copied_text-state.ensures node)) in
    record {
      written = leaf_written (text_of most_fragments aligned ranges node size) Text node aligned text (Text text) was now old new refl w;
      next = refl;
    }
