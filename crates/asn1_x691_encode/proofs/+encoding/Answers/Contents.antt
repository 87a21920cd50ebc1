-- Answers for octets that are kept by their contents, and for characters.
use Rattle.std.proofs.Common.{ℕ, sym, ◌∙◌, ap, arith, Some}
use Rattle.asn1_schema.specs.declared.tables.Node.{Node}
use Rattle.asn1_schema.specs.declared.tables.Node.TheVariants as type
use Rattle.asn1_schema.specs.TypeEncodings.{TypeEncoding}
use Rattle.asn1_x691.specs.declared.fault.FaultKind.{FaultKind}
use Rattle.asn1_x691_encode.specs.Encoding.{Outcome}
use Rattle.asn1_x691_encode.specs.LeafSteps.{at_node}
use Rattle.asn1_x691_encode.proofs.+encoding.Goals as goal

pub encode_node-returns-in-ObjectIdentifier : goal.encoder::encode_node-returns-in-ObjectIdentifier
encode_node-returns-in-ObjectIdentifier t c =
    let cx = c.args.context.now in
    at_node cx c.args.node c.args.depth (Some type.ObjectIdentifier)
    (λ (A : ℕ → TypeEncoding FaultKind). Outcome cx A c.args.octets.now c.args.state.now c.encode_contents.new.octets
    c.encode_contents.new.state c.encode_contents.result)
    (omega (arith, c.if-depth-eq0.false)) (sym c.in-Some.ensures ∙ ap (λ (n : Node). Some n) c.in-ObjectIdentifier.is)
    (λ d r. c.encode_contents.ensures)

pub encode_node-returns-in-RelativeIdentifier : goal.encoder::encode_node-returns-in-RelativeIdentifier
encode_node-returns-in-RelativeIdentifier t c =
    let cx = c.args.context.now in
    at_node cx c.args.node c.args.depth (Some type.RelativeIdentifier)
    (λ (A : ℕ → TypeEncoding FaultKind). Outcome cx A c.args.octets.now c.args.state.now c.encode_contents-in-RelativeIdentifier.new.octets
    c.encode_contents-in-RelativeIdentifier.new.state c.encode_contents-in-RelativeIdentifier.result)
    (omega (arith, c.if-depth-eq0.false)) (sym c.in-Some.ensures ∙ ap (λ (n : Node). Some n) c.in-RelativeIdentifier.is)
    (λ d r. c.encode_contents-in-RelativeIdentifier.ensures)

pub encode_node-returns-in-Utf8String : goal.encoder::encode_node-returns-in-Utf8String
encode_node-returns-in-Utf8String t c =
    let cx = c.args.context.now in
    at_node cx c.args.node c.args.depth (Some type.Utf8String)
    (λ (A : ℕ → TypeEncoding FaultKind). Outcome cx A c.args.octets.now c.args.state.now c.encode_contents-in-Utf8String.new.octets
    c.encode_contents-in-Utf8String.new.state c.encode_contents-in-Utf8String.result)
    (omega (arith, c.if-depth-eq0.false)) (sym c.in-Some.ensures ∙ ap (λ (n : Node). Some n) c.in-Utf8String.is)
    (λ d r. c.encode_contents-in-Utf8String.ensures)

pub encode_node-returns-in-Text : goal.encoder::encode_node-returns-in-Text
encode_node-returns-in-Text t c =
    let cx = c.args.context.now in
    let k = c.in-Text in
    at_node cx c.args.node c.args.depth (Some (type.Text k.length k.is_extensible k.alphabet k.whole))
    (λ (A : ℕ → TypeEncoding FaultKind). Outcome cx A c.args.octets.now c.args.state.now c.encode_text.new.octets
    c.encode_text.new.state c.encode_text.result)
    (omega (arith, c.if-depth-eq0.false)) (sym c.in-Some.ensures ∙ ap (λ (n : Node). Some n) c.in-Text.is)
    (λ d r. c.encode_text.ensures)

pub encode_node-returns-in-Real : goal.encoder::encode_node-returns-in-Real
encode_node-returns-in-Real t c =
    let cx = c.args.context.now in
    at_node cx c.args.node c.args.depth (Some type.Real)
    (λ (A : ℕ → TypeEncoding FaultKind). Outcome cx A c.args.octets.now c.args.state.now c.encode_contents-in-Real.new.octets
    c.encode_contents-in-Real.new.state c.encode_contents-in-Real.result)
    (omega (arith, c.if-depth-eq0.false)) (sym c.in-Some.ensures ∙ ap (λ (n : Node). Some n) c.in-Real.is)
    (λ d r. c.encode_contents-in-Real.ensures)

pub encode_node-returns-in-Time : goal.encoder::encode_node-returns-in-Time
encode_node-returns-in-Time t c =
    let cx = c.args.context.now in
    let k = c.in-Time in
    at_node cx c.args.node c.args.depth (Some (type.Time k.kind))
    (λ (A : ℕ → TypeEncoding FaultKind). Outcome cx A c.args.octets.now c.args.state.now c.encode_time.new.octets
    c.encode_time.new.state c.encode_time.result)
    (omega (arith, c.if-depth-eq0.false)) (sym c.in-Some.ensures ∙ ap (λ (n : Node). Some n) c.in-Time.is)
    (λ d r. c.encode_time.ensures)
