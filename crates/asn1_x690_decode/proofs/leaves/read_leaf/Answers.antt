use Rattle.std.proofs.Common.{List, length, sym, subst}
use Rattle.asn1_bits.specs.Bits.{bits}
use Rattle.asn1_schema.specs.declared.tables.Node.{Node}
use Rattle.asn1_schema.specs.declared.tables.Range.{Range}
use Rattle.asn1_schema.specs.Pieces.{Null, Integer, Bits, Octets, Text}
use Rattle.asn1_schema.specs.PiecesOfParts.{bits_of}
use Rattle.asn1_x690.specs.Der.{always, rows_of}
use Rattle.asn1_schema.specs.Reals.{IsReal}
use Rattle.asn1_x690.specs.Leaves.{IsNull, IsInteger, IsBitString, IsKept, IsRelativeIdentifier, IsUtf8Text, width_of, AreCharacters, IsTimeText, HasSize, IsBetween, IsAtLeast, AreTrimmed, IsText}
use Rattle.asn1_x690_leaves.specs.Told.{IsTold}
use Rattle.asn1_x690_decode.specs.Tables.{contents_by}
use Rattle.asn1_x690_decode.specs.Decoding.{IsLeaf}
use Rattle.asn1_x690_decode.proofs.LeafSteps.{told_leaf}
use Rattle.asn1_x690_decode.proofs.leaves.read_leaf.Goals as goal

pub returns-in-Null : goal.returns-in-Null
returns-in-Null c depth =
    let contents = bits_of (bits c.args.context.now.octets.now) c.args.span in
    subst (λ (n : Node). IsLeaf c.args.context.now (contents_by c.args.context.now depth c.args.of.now.node c.args.of.now.tags.now n)
    c.args.of.now.node contents c.null.result) (sym c.in-Null.is)
    (told_leaf IsNull always (λ u. Null) c.args.context.now c.args.of.now.node contents c.null.result
    (c.null.ensures c.args.context.now.tables.ranges.now))

pub returns-in-IntegerBetween : goal.returns-in-IntegerBetween
returns-in-IntegerBetween c depth =
    let contents = bits_of (bits c.args.context.now.octets.now) c.args.span in
    subst (λ (n : Node). IsLeaf c.args.context.now (contents_by c.args.context.now depth c.args.of.now.node c.args.of.now.tags.now n)
    c.args.of.now.node contents c.integer_between.result) (sym c.in-IntegerBetween.is)
    (told_leaf IsInteger (IsBetween c.in-IntegerBetween.is_extensible c.in-IntegerBetween.bounds.least c.in-IntegerBetween.bounds.range) Integer c.args.context.now c.args.of.now.node contents c.integer_between.result
    (c.integer_between.ensures c.args.context.now.tables.ranges.now))

pub returns-in-IntegerAtLeast : goal.returns-in-IntegerAtLeast
returns-in-IntegerAtLeast c depth =
    let contents = bits_of (bits c.args.context.now.octets.now) c.args.span in
    subst (λ (n : Node). IsLeaf c.args.context.now (contents_by c.args.context.now depth c.args.of.now.node c.args.of.now.tags.now n)
    c.args.of.now.node contents c.integer_at_least.result) (sym c.in-IntegerAtLeast.is)
    (told_leaf IsInteger (IsAtLeast c.in-IntegerAtLeast.is_extensible c.in-IntegerAtLeast.bound.least) Integer c.args.context.now c.args.of.now.node contents c.integer_at_least.result
    (c.integer_at_least.ensures c.args.context.now.tables.ranges.now))

pub returns-in-Integer : goal.returns-in-Integer
returns-in-Integer c depth =
    let contents = bits_of (bits c.args.context.now.octets.now) c.args.span in
    subst (λ (n : Node). IsLeaf c.args.context.now (contents_by c.args.context.now depth c.args.of.now.node c.args.of.now.tags.now n)
    c.args.of.now.node contents c.integer.result) (sym c.in-Integer.is)
    (told_leaf IsInteger always Integer c.args.context.now c.args.of.now.node contents c.integer.result
    (c.integer.ensures c.args.context.now.tables.ranges.now))

pub returns-in-Enumerated : goal.returns-in-Enumerated
returns-in-Enumerated c depth =
    let contents = bits_of (bits c.args.context.now.octets.now) c.args.span in
    subst (λ (n : Node). IsLeaf c.args.context.now (contents_by c.args.context.now depth c.args.of.now.node c.args.of.now.tags.now n)
    c.args.of.now.node contents c.enumerated_by.result) (sym c.in-Enumerated.is)
    (c.enumerated_by.ensures depth)

pub returns-in-BitString : goal.returns-in-BitString
returns-in-BitString c depth =
    let contents = bits_of (bits c.args.context.now.octets.now) c.args.span in
    subst (λ (n : Node). IsLeaf c.args.context.now (contents_by c.args.context.now depth c.args.of.now.node c.args.of.now.tags.now n)
    c.args.of.now.node contents c.bit_string.result) (sym c.in-BitString.is)
    (told_leaf IsBitString (λ bits. HasSize c.in-BitString.is_extensible c.in-BitString.length (length bits) × AreTrimmed c.in-BitString.has_names c.in-BitString.length bits) Bits c.args.context.now c.args.of.now.node contents c.bit_string.result
    (c.bit_string.ensures c.args.context.now.tables.ranges.now))

pub returns-in-RelativeIdentifier : goal.returns-in-RelativeIdentifier
returns-in-RelativeIdentifier c depth =
    let contents = bits_of (bits c.args.context.now.octets.now) c.args.span in
    subst (λ (n : Node). IsLeaf c.args.context.now (contents_by c.args.context.now depth c.args.of.now.node c.args.of.now.tags.now n)
    c.args.of.now.node contents c.relative_identifier.result) (sym c.in-RelativeIdentifier.is)
    (told_leaf (IsKept IsRelativeIdentifier) always Octets c.args.context.now c.args.of.now.node contents c.relative_identifier.result
    (c.relative_identifier.ensures c.args.context.now.tables.ranges.now))

pub returns-in-Utf8String : goal.returns-in-Utf8String
returns-in-Utf8String c depth =
    let contents = bits_of (bits c.args.context.now.octets.now) c.args.span in
    subst (λ (n : Node). IsLeaf c.args.context.now (contents_by c.args.context.now depth c.args.of.now.node c.args.of.now.tags.now n)
    c.args.of.now.node contents c.utf8_string.result) (sym c.in-Utf8String.is)
    (told_leaf (IsKept IsUtf8Text) always Octets c.args.context.now c.args.of.now.node contents c.utf8_string.result
    (c.utf8_string.ensures c.args.context.now.tables.ranges.now))

pub returns-in-Real : goal.returns-in-Real
returns-in-Real c depth =
    let contents = bits_of (bits c.args.context.now.octets.now) c.args.span in
    subst (λ (n : Node). IsLeaf c.args.context.now (contents_by c.args.context.now depth c.args.of.now.node c.args.of.now.tags.now n)
    c.args.of.now.node contents c.real.result) (sym c.in-Real.is)
    (told_leaf (IsKept IsReal) always Octets c.args.context.now c.args.of.now.node contents c.real.result
    (c.real.ensures c.args.context.now.tables.ranges.now))

pub returns-in-Time : goal.returns-in-Time
returns-in-Time c depth =
    let contents = bits_of (bits c.args.context.now.octets.now) c.args.span in
    subst (λ (n : Node). IsLeaf c.args.context.now (contents_by c.args.context.now depth c.args.of.now.node c.args.of.now.tags.now n)
    c.args.of.now.node contents c.time.result) (sym c.in-Time.is)
    (told_leaf (IsTimeText c.in-Time.kind) always Text c.args.context.now c.args.of.now.node contents c.time.result
    (c.time.ensures c.args.context.now.tables.ranges.now))

pub returns-in-Text : goal.returns-in-Text
returns-in-Text c depth =
    let contents = bits_of (bits c.args.context.now.octets.now) c.args.span in
    let table = c.args.context.now.tables.ranges.now in
    let t = c.in-Text in
    subst (λ (n : Node). IsLeaf c.args.context.now (contents_by c.args.context.now depth c.args.of.now.node c.args.of.now.tags.now n)
    c.args.of.now.node contents c.text.result) (sym c.in-Text.is)
    (told_leaf (AreCharacters (width_of c.args.of.now.tags.now.characters))
    (IsText t.is_extensible t.length (rows_of table t.alphabet) (rows_of table t.whole)) Text c.args.context.now c.args.of.now.node contents
    c.text.result
    (subst (λ (xs : List Range). IsTold (AreCharacters (width_of c.args.of.now.tags.now.characters))
    (IsText t.is_extensible t.length (rows_of table t.alphabet) xs) Text table (bits c.args.context.now.octets.now) contents c.text.result)
    c.ranges_in-in-Text.ensures
    (subst (λ (xs : List Range). IsTold (AreCharacters (width_of c.args.of.now.tags.now.characters))
    (IsText t.is_extensible t.length xs c.ranges_in-in-Text.result.now) Text table (bits c.args.context.now.octets.now) contents c.text.result)
    c.ranges_in.ensures (c.text.ensures table))))
