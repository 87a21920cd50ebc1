use Rattle.std.proofs.Common.{refl}
use Rattle.asn1_bits.specs.Bits.{bits, digits}
use Rattle.asn1_schema.specs.CharactersOfParts.{characters_of}
use Rattle.asn1_schema.specs.declared.misfit.MisfitKind.TheVariants.{NoEncoding}
use Rattle.asn1_schema.specs.Pieces.{Text}
use Rattle.asn1_schema.specs.TypeEncodings.{leaf}
use Rattle.asn1_x691.specs.Characters.{text_of}
use Rattle.asn1_x691.specs.Fragments.{most_fragments}
use Rattle.asn1_x691_fields.specs.Characters.{rows_of}
use Rattle.asn1_x691_writers.specs.Written.{IsWritten}
use Rattle.asn1_x691_writers.specs.LeafSteps.{leaf_written, leaf_none}
use Rattle.asn1_x691_writers.specs.PutSteps.{rejected}
use Rattle.asn1_x691_writers.specs.TextSteps.{length_text}
use Rattle.asn1_x691_writers.specs.TextSizeSteps.{none_added}
use Rattle.asn1_x691_writers.proofs.texts.put_text_of_root.Goals as goal

pub returns-then-not-is_of_root : goal.returns-then-not-is_of_root
returns-then-not-is_of_root c =
    let aligned = c.args.is_aligned in
    let node = c.args.node in
    let size = c.args.size in
    let table = c.args.table.now in
    let list = bits c.args.source.now in
    let text = characters_of table list c.args.text in
    let ranges = rows_of table c.args.rows in
    let A = text_of most_fragments aligned ranges node size in
    rejected aligned (leaf A Text node) (Text text) c.args.octets.now c.args.state.now c.reject.new.state c.reject.result node NoEncoding
    c.reject.ensures.result c.reject.ensures.at c.reject.ensures.next c.reject.ensures.node c.reject.ensures.reason
    (leaf_none A Text node (Text text) text refl
    (λ at p.
    none_added aligned ranges node most_fragments size c.args.text.count at text (length_text table list c.args.text)
    (c.is_of_root.ensures.added c.if-not-is_of_root.true) p))

pub returns-in-Some : goal.returns-in-Some
returns-in-Some c =
    let aligned = c.args.is_aligned in
    let node = c.args.node in
    let table = c.args.table.now in
    let text = characters_of table (bits c.args.source.now) c.args.text in
    let A = text_of most_fragments aligned (rows_of table c.args.rows) node c.args.size in
    let was = c.args.octets.now in
    let now = c.put_number-state.new.octets in
    let old = c.args.state.now.at in
    let new = c.put_number-state.result in
    let w : IsWritten aligned A text was old now new = record {
      list = digits c.in-Some.short.value c.in-Some.short.width;
      encodes = λ at h. c.in-Some.ensures.encoded node at;
      grown = c.put_number-state.ensures;
    } in
    record { written = leaf_written A Text node aligned text (Text text) was now old new refl w; next = refl }
