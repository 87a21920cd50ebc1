use Rattle.std.proofs.Common.{inl, refl}
use Rattle.asn1_bits.specs.Bits.{bits}
use Rattle.asn1_schema.specs.Pieces.{Octets}
use Rattle.asn1_schema.specs.PiecesOfParts.{joined, piece_of}
use Rattle.asn1_schema.specs.Encodings.{permitted}
use Rattle.asn1_x691.specs.declared.fault.FaultKind.TheVariants.{Contents}
use Rattle.asn1_x691.specs.Contents.{IsUtf8Text}
use Rattle.asn1_x691.specs.Fragments.{most_fragments, octets}
use Rattle.asn1_x691_fields.specs.Outcomes.{rest, position, fault_of}
use Rattle.asn1_x691_fields.specs.FragmentSteps.{octets_start}
use Rattle.asn1_x691_fields.specs.Steps.{fault_at}
use Rattle.asn1_x691_fields.specs.LeafSteps.{leaf_starts, permitted_starts, permitted_fault}
use Rattle.asn1_x691_fields.proofs.utf8_texts.next_utf8_string.Goals as goal

pub returns-then-not-is_utf8_in_fragments-clause-read : goal.returns-then-not-is_utf8_in_fragments-clause-read
returns-then-not-is_utf8_in_fragments-clause-read c ranges =
    let list = bits c.args.octets.now in
    let node = c.args.node in
    let mid = c.next_in_fragments.new.state in
    let s = c.in_ok-count.ensures in
    let contents = joined 8 list c.in_ok-count.fragments in
    inl (permitted_fault IsUtf8Text (λ l. ¬ (IsUtf8Text l)) Contents node (octets most_fragments c.args.is_aligned node) list
    c.args.state.now mid c.requires.within s.onward contents
    (octets_start list c.args.state.now mid c.requires.within s.onward c.args.is_aligned node (c.in_ok-count.count, contents) s.read)
    (fault_of c.fail.new.state)
    (c.is_utf8_in_fragments.ensures.no c.if-not-is_utf8_in_fragments.true)
    (fault_at list mid c.fail.new.state node Contents s.onward.inside
    c.fail.ensures.at c.fail.ensures.end c.fail.ensures.node c.fail.ensures.kind))

pub returns-clause-read : goal.returns-clause-read
returns-clause-read c ranges =
    let list = bits c.args.octets.now in
    let node = c.args.node in
    let A = octets most_fragments c.args.is_aligned node in
    let mid = c.next_in_fragments.new.state in
    let s = c.in_ok-count.ensures in
    let contents = joined 8 list c.in_ok-count.fragments in
    leaf_starts (permitted IsUtf8Text (λ l. ¬ (IsUtf8Text l)) Contents node A) Octets node (position c.args.state.now)
    (rest list c.args.state.now) (rest list mid) contents (piece_of ranges list c.part_of_octets.result) (c.part_of_octets.ensures ranges list)
    (permitted_starts IsUtf8Text (λ l. ¬ (IsUtf8Text l)) Contents node A list c.args.state.now mid c.requires.within
    s.onward contents
    (octets_start list c.args.state.now mid c.requires.within s.onward c.args.is_aligned node (c.in_ok-count.count, contents) s.read)
    (c.is_utf8_in_fragments.ensures.yes c.if-not-is_utf8_in_fragments.false))
