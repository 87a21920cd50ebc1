use Rattle.std.proofs.Common.{Ok, Err, ℕ, ◌≡◌, ◌-◌, ◌∷◌, [], Bool, List, length, refl, sym, subst}
use Rattle.std.specs.Prelude.{Result}
use Rattle.asn1_bits.specs.Bits.{bits}
use Rattle.asn1_schema.specs.declared.part.Part.{Part}
use Rattle.asn1_schema.specs.declared.tables.Node.{Node}
use Rattle.asn1_schema.specs.Encodings.{Fault}
use Rattle.asn1_schema.specs.PiecesOfParts.{piece_of, bits_of}
use Rattle.asn1_x690.specs.declared.fault.FaultKind.{FaultKind}
use Rattle.asn1_x690.specs.declared.tables.TypeTags.{TypeTags}
use Rattle.asn1_x690_fields.specs.declared.state.State.{State}
use Rattle.asn1_x690_fields.specs.Outcomes.{rest}
use Rattle.asn1_x690_decode.specs.declared.context.Context.{Context}
use Rattle.asn1_x690_fields.specs.Steps.{rest_length}
use Rattle.asn1_x690_decode.specs.Tables.{contents_by}
use Rattle.asn1_x690_decode.specs.Decoding.{ContentsOutcome, IsLeaf, IsLeafOf, span_of}
use Rattle.asn1_x690_decode.proofs.LeafSteps.{span_rest}
use Rattle.asn1_x690_decode.proofs.leaves.finish_leaf.Goals as goal

is_read : (c : Context) (depth node : ℕ) (tags : TypeTags) (n : Node) (s : State) (r t : Result Part FaultKind) → r ≡ t
    → IsLeafOf c node tags n (span_of s) r → IsLeaf c (contents_by c depth node tags n) node (bits_of (bits c.octets.now) (span_of s)) t
is_read c depth node tags n s r t e h =
    subst (λ (x : Result Part FaultKind). IsLeaf c (contents_by c depth node tags n) node (bits_of (bits c.octets.now) (span_of s)) x) e (h depth)

pub returns-in-Ok-clause-did : goal.returns-in-Ok-clause-did
returns-in-Ok-clause-did c depth =
    let context = c.args.context.now in
    let list = bits context.octets.now in
    let s = c.args.state.now in
    subst (λ (b : Bool). ContentsOutcome context (contents_by context depth c.args.of.now.node c.args.of.now.tags.now c.args.of.now.is.now).contents
    s c.keep.new.state c.args.parts.now c.keep.new.parts b) (sym c.keep.ensures.is)
    (record {
      parts = piece_of context.tables.ranges.now list c.in-Ok.part ∷ [];
      are = subst (λ (l : List Bool). (contents_by context depth c.args.of.now.node c.args.of.now.tags.now c.args.of.now.is.now).contents.fills
          (piece_of context.tables.ranges.now list c.in-Ok.part ∷ []) l) (span_rest list s c.requires.contents) (is_read context depth c.args.of.now.node c.args.of.now.tags.now c.args.of.now.is.now s c.args.read (Ok c.in-Ok.part) c.in-Ok.is c.requires.read);
      grown = c.keep.ensures.grown context.tables.ranges.now list;
    })

pub returns-in-Err-clause-did : goal.returns-in-Err-clause-did
returns-in-Err-clause-did c depth =
    let context = c.args.context.now in
    let list = bits context.octets.now in
    let s = c.args.state.now in
    let new = c.fail.new.state in
    let size = rest_length list s c.requires.contents.inside in
    let e : record { node = new.node; left = new.end - new.at; kind = new.kind }
    ≡ record { node = c.args.of.now.node; left = length (rest list s); kind = c.in-Err.kind } =
    rw (c.fail.ensures.node, c.fail.ensures.kind, c.fail.ensures.at, c.fail.ensures.end, size) refl in
    subst (λ (f : Fault FaultKind). (contents_by context depth c.args.of.now.node c.args.of.now.tags.now c.args.of.now.is.now).contents.fault (rest list s) f)
    (sym e)
    (subst (λ (l : List Bool). (contents_by context depth c.args.of.now.node c.args.of.now.tags.now c.args.of.now.is.now).contents.fault l
    (record { node = c.args.of.now.node; left = length l; kind = c.in-Err.kind })) (span_rest list s c.requires.contents) (is_read context depth c.args.of.now.node c.args.of.now.tags.now c.args.of.now.is.now s c.args.read (Err c.in-Err.kind) c.in-Err.is c.requires.read))
