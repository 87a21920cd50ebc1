use Rattle.std.proofs.Common.{◌≡◌, Bool, List, ap, sym, subst, ◌∙◌}
use Rattle.asn1_bits.specs.Bits.{bits}
use Rattle.asn1_schema.specs.declared.tables.Range.{Range}
use Rattle.asn1_schema.specs.Encodings.{Starts}
use Rattle.asn1_schema.specs.Pieces.{Text}
use Rattle.asn1_schema.specs.PiecesOfParts.{piece_of}
use Rattle.asn1_x691.specs.Characters.{added_text}
use Rattle.asn1_x691_fields.specs.Characters.{rows_of, characters_at, characters_in}
use Rattle.asn1_x691_fields.specs.Outcomes.{rest, position}
use Rattle.asn1_x691_fields.specs.LeafSteps.{leaf_starts}
use Rattle.asn1_x691_fields.proofs.texts.next_text_of_addition.Goals as goal

pub returns-clause-read : goal.returns-clause-read
returns-clause-read c =
    let list = bits c.args.octets.now in
    let table = c.args.table.now in
    let node = c.args.node in
    let size = c.args.size in
    let old = c.args.state.now in
    let new = c.next_added_text.new.state in
    let a = c.alphabet_of_few-alphabet.result in
    let same : a.ranges.now ≡ rows_of table c.args.rows = c.alphabet_of_few-alphabet.ensures.ranges ∙ c.ranges_in.ensures in
    let text = characters_at a list c.in_ok-count.at c.in_ok-count.count in
    leaf_starts (added_text 0 c.args.is_aligned (rows_of table c.args.rows) node size) Text node (position old) (rest list old) (rest list new)
    text (piece_of table list c.part_of.result) (c.part_of.ensures table list
    ∙ ap Text (ap (λ (r : List Range). characters_in c.found_of.result r list) (sym same) ∙ c.found_of.ensures list))
    (subst (λ (b : Bool). Starts (added_text 0 b (rows_of table c.args.rows) node size (position old)).encodes (rest list old) text (rest list new))
    c.alphabet_of_few-alphabet.ensures.variant
    (subst (λ (r : List Range). Starts (added_text 0 a.is_aligned r node size (position old)).encodes (rest list old) text (rest list new))
    same c.in_ok-count.ensures.read))
