use Rattle.std.proofs.Common.{◌≡◌, Bool, List, refl, ◌∙◌, sym, subst}
use Rattle.asn1_bits.specs.Bits.{bits}
use Rattle.asn1_schema.specs.CharactersOfParts.{characters_of}
use Rattle.asn1_schema.specs.declared.misfit.MisfitKind.TheVariants.{NoEncoding}
use Rattle.asn1_schema.specs.declared.tables.Range.{Range}
use Rattle.asn1_schema.specs.Pieces.{Text}
use Rattle.asn1_schema.specs.TypeEncodings.{leaf}
use Rattle.asn1_x691.specs.Characters.{text_of}
use Rattle.asn1_x691.specs.Fragments.{most_fragments}
use Rattle.asn1_x691_fields.specs.Characters.{rows_of}
use Rattle.asn1_x691_writers.specs.Written.{IsWritten}
use Rattle.asn1_x691_writers.specs.LeafSteps.{leaf_written, leaf_none}
use Rattle.asn1_x691_writers.specs.PutSteps.{rejected}
use Rattle.asn1_x691_writers.specs.Texts.{AreIn}
use Rattle.asn1_x691_writers.specs.TextSizeSteps.{none_outside}
use Rattle.asn1_x691_writers.proofs.texts.put_any_text_of_root.Goals as goal

pub returns-then-not-are_in : goal.returns-then-not-are_in
returns-then-not-are_in c =
    let aligned = c.args.is_aligned in
    let node = c.args.node in
    let size = c.args.size in
    let table = c.args.table.now in
    let text = characters_of table (bits c.args.source.now) c.args.text in
    let ranges = rows_of table c.args.rows in
    let A = text_of most_fragments aligned ranges node size in
    let same : c.alphabet_of_few-alphabet.result.ranges.now ≡ ranges = c.alphabet_of_few-alphabet.ensures.ranges ∙ c.ranges_in.ensures in
    let k = c.reject in
    rejected aligned (leaf A Text node) (Text text) c.args.octets.now c.args.state.now k.new.state k.result node NoEncoding
    k.ensures.result k.ensures.at k.ensures.next k.ensures.node k.ensures.reason
    (leaf_none A Text node (Text text) text refl
    (λ at p.
    none_outside aligned ranges node most_fragments size at text
    (λ q. c.are_in.ensures.no c.if-not-are_in.true (subst (λ (r : List Range). AreIn r text) (sym same) q)) p))

pub returns : goal.returns
returns c =
    let aligned = c.args.is_aligned in
    let node = c.args.node in
    let size = c.args.size in
    let table = c.args.table.now in
    let text = characters_of table (bits c.args.source.now) c.args.text in
    let ranges = rows_of table c.args.rows in
    let was = c.args.octets.now in
    let now = c.put_text_of-state.new.octets in
    let old = c.args.state.now.at in
    let new = c.put_text_of-state.result in
    let a = c.alphabet_of_few-alphabet.result in
    let same : a.ranges.now ≡ ranges = c.alphabet_of_few-alphabet.ensures.ranges ∙ c.ranges_in.ensures in
    let variant : a.is_aligned ≡ aligned = c.alphabet_of_few-alphabet.ensures.variant in
    let w : IsWritten aligned (text_of most_fragments aligned ranges node size) text was old now new =
    subst (λ (r : List Range). IsWritten aligned (text_of most_fragments aligned r node size) text was old now new) same
    (subst (λ (b : Bool). IsWritten b (text_of most_fragments b a.ranges.now node size) text was old now new) variant
    (c.put_text_of-state.ensures node)) in
    record {
      written = leaf_written (text_of most_fragments aligned ranges node size) Text node aligned text (Text text) was now old new refl w;
      next = refl;
    }
