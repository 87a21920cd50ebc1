use Rattle.std.proofs.Common.{◌≡◌, ℕ, ◌∷◌, Bool, List, true, false, length, refl, ◌∙◌, sym, subst}
use Rattle.asn1_bits.specs.Bits.{bits}
use Rattle.asn1_schema.specs.CharactersOfParts.{characters_of}
use Rattle.asn1_schema.specs.declared.misfit.MisfitKind.TheVariants.{NoEncoding}
use Rattle.asn1_schema.specs.declared.tables.Range.{Range}
use Rattle.asn1_schema.specs.Pieces.{Text}
use Rattle.asn1_schema.specs.TypeEncodings.{leaf}
use Rattle.asn1_x691.specs.Characters.{text_of, added_text, IsAddedText}
use Rattle.asn1_x691.specs.Fragments.{most_fragments}
use Rattle.asn1_x691.specs.Leaves.{text as text_in}
use Rattle.asn1_x691.specs.Strings.{IsAddedSize}
use Rattle.asn1_x691.specs.Laws.StringLaws.{sizes_apart}
use Rattle.asn1_x691_fields.specs.Characters.{rows_of}
use Rattle.asn1_x691_writers.specs.Written.{IsWritten}
use Rattle.asn1_x691_writers.specs.LeafSteps.{leaf_written, leaf_none, bit_written, root_misfit}
use Rattle.asn1_x691_writers.specs.PutSteps.{rejected}
use Rattle.asn1_x691_writers.specs.Texts.{AreIn}
use Rattle.asn1_x691_writers.specs.TextSteps.{length_text}
use Rattle.asn1_x691_writers.specs.TextSizeSteps.{none_outside}
use Rattle.asn1_x691_writers.proofs.texts.put_long_text_after_zero.Goals as goal

pub returns-then-not-are_in : goal.returns-then-not-are_in
returns-then-not-are_in c whole =
    let aligned = c.args.is_aligned in
    let node = c.args.node in
    let size = c.args.size in
    let table = c.args.table.now in
    let list = bits c.args.source.now in
    let text = characters_of table list c.args.text in
    let ranges = rows_of table c.args.rows in
    let A = text_of most_fragments aligned ranges node size in
    let B = added_text most_fragments aligned whole node size in
    let same : c.alphabet_of_few-alphabet.result.ranges.now ≡ ranges = c.alphabet_of_few-alphabet.ensures.ranges ∙ c.ranges_in.ensures in
    rejected aligned (text_in most_fragments aligned node size true ranges whole) (Text text) c.args.octets.now c.args.state.now
    c.reject.new.state c.reject.result node NoEncoding
    c.reject.ensures.result c.reject.ensures.at c.reject.ensures.next c.reject.ensures.node c.reject.ensures.reason
    (root_misfit node (IsAddedText size) (leaf A Text node) (leaf B Text node) (Text text)
    (λ rest. record { node = node; left = length (Text text ∷ rest); kind = NoEncoding })
    (λ q.
    sizes_apart size c.args.text.count (subst (λ (n : ℕ). IsAddedSize size n) (length_text table list c.args.text) q) c.requires.root)
    (leaf_none A Text node (Text text) text refl
    (λ at p.
    none_outside aligned ranges node most_fragments size at text
    (λ q. c.are_in.ensures.no c.if-not-are_in.true (subst (λ (r : List Range). AreIn r text) (sym same) q)) p)))

pub returns : goal.returns
returns c whole =
    let aligned = c.args.is_aligned in
    let node = c.args.node in
    let size = c.args.size in
    let table = c.args.table.now in
    let text = characters_of table (bits c.args.source.now) c.args.text in
    let ranges = rows_of table c.args.rows in
    let A = text_of most_fragments aligned ranges node size in
    let B = added_text most_fragments aligned whole node size in
    let was = c.args.octets.now in
    let mid = c.put_bit-after.new.octets in
    let now = c.put_text_of-state.new.octets in
    let at = c.put_bit-after.result in
    let new = c.put_text_of-state.result in
    let a = c.alphabet_of_few-alphabet.result in
    let same : a.ranges.now ≡ ranges = c.alphabet_of_few-alphabet.ensures.ranges ∙ c.ranges_in.ensures in
    let variant : a.is_aligned ≡ aligned = c.alphabet_of_few-alphabet.ensures.variant in
    let w : IsWritten aligned A text mid at now new =
    subst (λ (r : List Range). IsWritten aligned (text_of most_fragments aligned r node size) text mid at now new) same
    (subst (λ (b : Bool). IsWritten b (text_of most_fragments b a.ranges.now node size) text mid at now new) variant
    (c.put_text_of-state.ensures node)) in
    record {
      written = bit_written node (IsAddedText size) (leaf A Text node) (leaf B Text node) (Text text) aligned false was mid now
          c.args.state.now.at at new (c.put_bit-after.ensures aligned node)
          (leaf_written A Text node aligned text (Text text) mid now at new refl w);
      next = refl;
    }
