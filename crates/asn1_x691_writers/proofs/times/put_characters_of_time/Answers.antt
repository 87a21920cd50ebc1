use Rattle.std.proofs.Common.{ℕ, Bool, List, refl, sym, subst}
use Rattle.asn1_bits.specs.Bits.{bits}
use Rattle.asn1_schema.specs.CharactersOfParts.{characters_of}
use Rattle.asn1_schema.specs.declared.misfit.MisfitKind.TheVariants.{NoEncoding}
use Rattle.asn1_schema.specs.declared.tables.Length.TheVariants.{AtLeast}
use Rattle.asn1_schema.specs.declared.tables.Range.{Range}
use Rattle.asn1_schema.specs.Encodings.{Encoding, permitted}
use Rattle.asn1_schema.specs.Laws.PermittedLaws.{permitted_is, permitted_of}
use Rattle.asn1_schema.specs.Pieces.{Text}
use Rattle.asn1_schema.specs.Times.{IsTime}
use Rattle.asn1_x691.specs.declared.fault.FaultKind.{FaultKind}
use Rattle.asn1_x691.specs.declared.fault.FaultKind.TheVariants.{Contents}
use Rattle.asn1_x691.specs.Characters.{text_of}
use Rattle.asn1_x691.specs.Fragments.{most_fragments}
use Rattle.asn1_x691.specs.Leaves.{visible, time}
use Rattle.asn1_x691_writers.specs.Written.{IsWritten}
use Rattle.asn1_x691_writers.specs.FieldSteps.{permitted_written}
use Rattle.asn1_x691_writers.specs.LeafSteps.{leaf_written, leaf_none}
use Rattle.asn1_x691_writers.specs.PutSteps.{rejected}
use Rattle.asn1_x691_writers.specs.Texts.{AreIn}
use Rattle.asn1_x691_writers.specs.TextSizeSteps.{none_outside}
use Rattle.asn1_x691_writers.proofs.times.put_characters_of_time.Goals as goal

pub returns-then-not-is_time_in : goal.returns-then-not-is_time_in
returns-then-not-is_time_in c =
    let aligned = c.args.is_aligned in
    let node = c.args.node in
    let V = IsTime c.args.kind in
    let N = λ (text : List ℕ). ¬ (V text) in
    let A : ℕ → Encoding FaultKind (List ℕ) = text_of most_fragments aligned visible node (AtLeast 0) in
    let text = characters_of c.args.table.now (bits c.args.source.now) c.args.text in
    rejected aligned (time most_fragments aligned node V) (Text text) c.args.octets.now c.args.state.now c.reject.new.state c.reject.result node
    NoEncoding c.reject.ensures.result c.reject.ensures.at c.reject.ensures.next c.reject.ensures.node c.reject.ensures.reason
    (leaf_none (permitted V N Contents node A) Text node (Text text) text refl
    (λ at p.
    let yes = c.is_time_in.ensures.1 (permitted_is V N Contents node A at text p.list p.encoded) in
    absurd cc))

pub returns-then-not-are_in : goal.returns-then-not-are_in
returns-then-not-are_in c =
    let aligned = c.args.is_aligned in
    let node = c.args.node in
    let V = IsTime c.args.kind in
    let N = λ (text : List ℕ). ¬ (V text) in
    let A : ℕ → Encoding FaultKind (List ℕ) = text_of most_fragments aligned visible node (AtLeast 0) in
    let text = characters_of c.args.table.now (bits c.args.source.now) c.args.text in
    let k = c.reject-then-not-are_in in
    rejected aligned (time most_fragments aligned node V) (Text text) c.args.octets.now c.args.state.now k.new.state k.result node
    NoEncoding k.ensures.result k.ensures.at k.ensures.next k.ensures.node k.ensures.reason
    (leaf_none (permitted V N Contents node A) Text node (Text text) text refl
    (λ at p.
    let q = permitted_of V N Contents node A at text p.list p.encoded in
    none_outside aligned visible node most_fragments (AtLeast 0) at text
    (λ r. c.are_in.ensures.no c.if-not-are_in.true (subst (λ (l : List Range). AreIn l text) (sym c.visible-alphabet.ensures.ranges) r))
    (record { list = q.0; encoded = q.1 })))

pub returns : goal.returns
returns c =
    let aligned = c.args.is_aligned in
    let node = c.args.node in
    let V = IsTime c.args.kind in
    let N = λ (text : List ℕ). ¬ (V text) in
    let A : ℕ → Encoding FaultKind (List ℕ) = text_of most_fragments aligned visible node (AtLeast 0) in
    let text = characters_of c.args.table.now (bits c.args.source.now) c.args.text in
    let was = c.args.octets.now in
    let now = c.put_text_of-state.new.octets in
    let old = c.args.state.now.at in
    let new = c.put_text_of-state.result in
    let a = c.visible-alphabet.result in
    let w : IsWritten aligned A text was old now new =
    subst (λ (r : List Range). IsWritten aligned (text_of most_fragments aligned r node (AtLeast 0)) text was old now new) c.visible-alphabet.ensures.ranges
    (subst (λ (b : Bool). IsWritten b (text_of most_fragments b a.ranges.now node (AtLeast 0)) text was old now new) c.visible-alphabet.ensures.variant
    (c.put_text_of-state.ensures node)) in
    record {
      written = leaf_written (permitted V N Contents node A) Text node aligned text (Text text) was now old new refl
          (permitted_written aligned V N Contents node A text was now old new (c.is_time_in.ensures.0 c.if-not-is_time_in.false) w);
      next = refl;
    }
