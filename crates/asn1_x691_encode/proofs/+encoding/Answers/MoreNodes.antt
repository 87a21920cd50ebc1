-- Answers for the encoders of src/encoder.rt: open types, and SEQUENCE with an extension marker.
use Rattle.std.proofs.Common.{◌≡◌, ℕ, ◌-◌, Bool, true, sym, ◌∙◌, ap, subst, arith, Some}
use Rattle.asn1_schema.specs.declared.tables.Node.{Node}
use Rattle.asn1_schema.specs.declared.tables.Node.TheVariants as type
use Rattle.asn1_schema.specs.declared.tables.Presence.TheVariants as presence
use Rattle.asn1_schema.specs.TypeEncodings.{TypeEncoding}
use Rattle.asn1_x691.specs.declared.fault.FaultKind.{FaultKind}
use Rattle.asn1_x691_encode.specs.Encoding.{Outcome, open_in, extensible_sequence_in}
use Rattle.asn1_x691_encode.specs.LeafSteps.{at_node}
use Rattle.asn1_x691_encode.proofs.+encoding.Goals as goal

pub encode_node-returns-in-Open : goal.encoder::encode_node-returns-in-Open
encode_node-returns-in-Open t c =
    let cx = c.args.context.now in
    let k = c.in-Open in
    let last = c.encode_open in
    at_node cx c.args.node c.args.depth (Some (type.Open k.inner))
    (λ (A : ℕ → TypeEncoding FaultKind). Outcome cx A c.args.octets.now c.args.state.now last.new.octets last.new.state last.result)
    (omega (arith, c.if-depth-eq0.false)) (sym c.in-Some.ensures ∙ ap (λ (n : Node). Some n) k.is)
    (λ d r.
    let e : c.args.depth - 1 ≡ d = omega (arith, r) in
    subst
    (λ (n : ℕ). Outcome cx (open_in cx n c.args.node presence.Mandatory k.inner) c.args.octets.now c.args.state.now last.new.octets last.new.state
    last.result) e (last.ensures))

pub encode_node-returns-then-is_extensible : goal.encoder::encode_node-returns-then-is_extensible
encode_node-returns-then-is_extensible t c =
    let cx = c.args.context.now in
    let k = c.in-Sequence in
    let last = c.encode_extensible_sequence in
    at_node cx c.args.node c.args.depth (Some (type.Sequence k.root true k.additions))
    (λ (A : ℕ → TypeEncoding FaultKind). Outcome cx A c.args.octets.now c.args.state.now last.new.octets last.new.state last.result)
    (omega (arith, c.if-depth-eq0.false))
    (sym c.in-Some.ensures ∙ ap (λ (n : Node). Some n) k.is
    ∙ ap (λ (b : Bool). Some (type.Sequence k.root b k.additions)) c.if-is_extensible.true)
    (λ d r.
    let e : c.args.depth - 1 ≡ d = omega (arith, r) in
    subst
    (λ (n : ℕ). Outcome cx (extensible_sequence_in cx n c.args.node k.root k.additions) c.args.octets.now c.args.state.now
    last.new.octets last.new.state last.result) e (last.ensures))
