use Rattle.asn1_bits.specs.Bits.{bits}
use Rattle.asn1_schema.specs.Pieces.{Text}
use Rattle.asn1_schema.specs.TypeEncodings.{leaf}
use Rattle.asn1_x691.specs.Characters.{text_of, added_text, IsAddedText}
use Rattle.asn1_x691_fields.specs.Characters.{rows_of}
use Rattle.asn1_x691_fields.specs.LeafSteps.{bit_taken}
use Rattle.asn1_x691_fields.proofs.texts.next_extensible_text.Goals as goal

pub returns-clause-read : goal.returns-clause-read
returns-clause-read c =
    let list = bits c.args.octets.now in
    let table = c.args.table.now in
    let aligned = c.args.is_aligned in
    let node = c.args.node in
    let size = c.args.size in
    let ranges = rows_of table c.args.alphabet in
    let whole = rows_of table c.args.whole in
    let new = c.next_text_by_bit.new.state in
    bit_taken node (IsAddedText size) (leaf (text_of 0 aligned ranges node size) Text node)
    (leaf (added_text 0 aligned whole node size) Text node) table list c.args.state.now c.next_bit.new.state new
    c.in_ok-is_added.is_added c.next_text_by_bit.result c.requires.within c.in_ok-is_added.ensures.onward
    c.in_ok-is_added.ensures.read c.next_text_by_bit.ensures.read
