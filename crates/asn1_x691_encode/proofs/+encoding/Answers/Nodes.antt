-- Answers for the encoders of src/encoder.rt.
use Rattle.std.proofs.Common.{◌≡◌, ℕ, ◌-◌, Bool, true, false, sym, ◌∙◌, ap, subst, arith, Some}
use Rattle.asn1_schema.specs.declared.tables.Node.{Node}
use Rattle.asn1_schema.specs.declared.tables.Node.TheVariants as type
use Rattle.asn1_schema.specs.TypeEncodings.{TypeEncoding}
use Rattle.asn1_x691.specs.declared.fault.FaultKind.{FaultKind}
use Rattle.asn1_x691_encode.specs.Encoding.{extensible_choice_in, Outcome, choice_in, list_by, sequence_in}
use Rattle.asn1_x691.specs.Leaves.{bit_string}
use Rattle.asn1_x691_encode.specs.LeafSteps.{at_node, same_limit}
use Rattle.asn1_x691_encode.proofs.+encoding.Goals as goal

pub encode_node-returns-in-Null : goal.encoder::encode_node-returns-in-Null
encode_node-returns-in-Null t c =
    let cx = c.args.context.now in
    let k = c.in-Null in
    at_node cx c.args.node c.args.depth (Some (type.Null))
    (λ (A : ℕ → TypeEncoding FaultKind). Outcome cx A c.args.octets.now c.args.state.now c.encode_null.new.octets c.encode_null.new.state c.encode_null.result)
    (omega (arith, c.if-depth-eq0.false)) (sym c.in-Some.ensures ∙ ap (λ (n : Node). Some n) c.in-Null.is)
    (λ d r. c.encode_null.ensures)

pub encode_node-returns-in-Boolean : goal.encoder::encode_node-returns-in-Boolean
encode_node-returns-in-Boolean t c =
    let cx = c.args.context.now in
    let k = c.in-Boolean in
    at_node cx c.args.node c.args.depth (Some (type.Boolean))
    (λ (A : ℕ → TypeEncoding FaultKind). Outcome cx A c.args.octets.now c.args.state.now c.encode_boolean.new.octets c.encode_boolean.new.state c.encode_boolean.result)
    (omega (arith, c.if-depth-eq0.false)) (sym c.in-Some.ensures ∙ ap (λ (n : Node). Some n) c.in-Boolean.is)
    (λ d r. c.encode_boolean.ensures)

pub encode_node-returns-in-IntegerBetween : goal.encoder::encode_node-returns-in-IntegerBetween
encode_node-returns-in-IntegerBetween t c =
    let cx = c.args.context.now in
    let k = c.in-IntegerBetween in
    at_node cx c.args.node c.args.depth (Some (type.IntegerBetween k.bounds k.is_extensible))
    (λ (A : ℕ → TypeEncoding FaultKind). Outcome cx A c.args.octets.now c.args.state.now c.encode_between.new.octets c.encode_between.new.state c.encode_between.result)
    (omega (arith, c.if-depth-eq0.false)) (sym c.in-Some.ensures ∙ ap (λ (n : Node). Some n) c.in-IntegerBetween.is)
    (λ d r. c.encode_between.ensures)

pub encode_node-returns-in-IntegerAtLeast : goal.encoder::encode_node-returns-in-IntegerAtLeast
encode_node-returns-in-IntegerAtLeast t c =
    let cx = c.args.context.now in
    let k = c.in-IntegerAtLeast in
    at_node cx c.args.node c.args.depth (Some (type.IntegerAtLeast k.bound k.is_extensible))
    (λ (A : ℕ → TypeEncoding FaultKind). Outcome cx A c.args.octets.now c.args.state.now c.encode_at_least.new.octets c.encode_at_least.new.state c.encode_at_least.result)
    (omega (arith, c.if-depth-eq0.false)) (sym c.in-Some.ensures ∙ ap (λ (n : Node). Some n) c.in-IntegerAtLeast.is)
    (λ d r. c.encode_at_least.ensures)

pub encode_node-returns-in-Integer : goal.encoder::encode_node-returns-in-Integer
encode_node-returns-in-Integer t c =
    let cx = c.args.context.now in
    let k = c.in-Integer in
    at_node cx c.args.node c.args.depth (Some (type.Integer))
    (λ (A : ℕ → TypeEncoding FaultKind). Outcome cx A c.args.octets.now c.args.state.now c.encode_integer.new.octets c.encode_integer.new.state c.encode_integer.result)
    (omega (arith, c.if-depth-eq0.false)) (sym c.in-Some.ensures ∙ ap (λ (n : Node). Some n) c.in-Integer.is)
    (λ d r. c.encode_integer.ensures)

pub encode_node-returns-in-Enumerated : goal.encoder::encode_node-returns-in-Enumerated
encode_node-returns-in-Enumerated t c =
    let cx = c.args.context.now in
    let k = c.in-Enumerated in
    at_node cx c.args.node c.args.depth (Some (type.Enumerated k.last k.is_extensible k.additions))
    (λ (A : ℕ → TypeEncoding FaultKind). Outcome cx A c.args.octets.now c.args.state.now c.encode_enumerated.new.octets c.encode_enumerated.new.state c.encode_enumerated.result)
    (omega (arith, c.if-depth-eq0.false)) (sym c.in-Some.ensures ∙ ap (λ (n : Node). Some n) c.in-Enumerated.is)
    (λ d r. c.encode_enumerated.ensures)

pub encode_node-returns-in-BitString : goal.encoder::encode_node-returns-in-BitString
encode_node-returns-in-BitString t c =
    let cx = c.args.context.now in
    let k = c.in-BitString in
    at_node cx c.args.node c.args.depth (Some (type.BitString k.length k.is_extensible k.has_names))
    (λ (A : ℕ → TypeEncoding FaultKind). Outcome cx A c.args.octets.now c.args.state.now c.encode_bits.new.octets c.encode_bits.new.state c.encode_bits.result)
    (omega (arith, c.if-depth-eq0.false)) (sym c.in-Some.ensures ∙ ap (λ (n : Node). Some n) c.in-BitString.is)
    (λ d r.
    subst (λ (n : ℕ). Outcome cx (bit_string n cx.is_aligned c.args.node k.length k.is_extensible k.has_names) c.args.octets.now c.args.state.now
    c.encode_bits.new.octets c.encode_bits.new.state c.encode_bits.result) (same_limit k.has_names) c.encode_bits.ensures)

pub encode_node-returns-in-OctetString : goal.encoder::encode_node-returns-in-OctetString
encode_node-returns-in-OctetString t c =
    let cx = c.args.context.now in
    let k = c.in-OctetString in
    at_node cx c.args.node c.args.depth (Some (type.OctetString k.length k.is_extensible))
    (λ (A : ℕ → TypeEncoding FaultKind). Outcome cx A c.args.octets.now c.args.state.now c.encode_octets.new.octets c.encode_octets.new.state c.encode_octets.result)
    (omega (arith, c.if-depth-eq0.false)) (sym c.in-Some.ensures ∙ ap (λ (n : Node). Some n) c.in-OctetString.is)
    (λ d r. c.encode_octets.ensures)

pub encode_node-returns-in-SequenceOf : goal.encoder::encode_node-returns-in-SequenceOf
encode_node-returns-in-SequenceOf t c =
    let cx = c.args.context.now in
    let k = c.in-SequenceOf in
    let last = c.encode_list_by in
    at_node cx c.args.node c.args.depth (Some (type.SequenceOf k.length k.is_extensible k.item))
    (λ (A : ℕ → TypeEncoding FaultKind). Outcome cx A c.args.octets.now c.args.state.now last.new.octets last.new.state last.result)
    (omega (arith, c.if-depth-eq0.false)) (sym c.in-Some.ensures ∙ ap (λ (n : Node). Some n) c.in-SequenceOf.is)
    (λ d r.
    let e : c.args.depth - 1 ≡ d = omega (arith, r) in
    subst
    (λ (n : ℕ). Outcome cx (list_by cx n c.args.node k.is_extensible false k.length k.item) c.args.octets.now c.args.state.now last.new.octets
    last.new.state last.result) e last.ensures)

pub encode_node-returns-in-SetOf : goal.encoder::encode_node-returns-in-SetOf
encode_node-returns-in-SetOf t c =
    let cx = c.args.context.now in
    let k = c.in-SetOf in
    let last = c.encode_list_by-in-SetOf in
    at_node cx c.args.node c.args.depth (Some (type.SetOf k.length k.is_extensible k.item))
    (λ (A : ℕ → TypeEncoding FaultKind). Outcome cx A c.args.octets.now c.args.state.now last.new.octets last.new.state last.result)
    (omega (arith, c.if-depth-eq0.false)) (sym c.in-Some.ensures ∙ ap (λ (n : Node). Some n) c.in-SetOf.is)
    (λ d r.
    let e : c.args.depth - 1 ≡ d = omega (arith, r) in
    subst
    (λ (n : ℕ). Outcome cx (list_by cx n c.args.node k.is_extensible true k.length k.item) c.args.octets.now c.args.state.now last.new.octets
    last.new.state last.result) e last.ensures)

pub encode_node-returns-else-is_extensible-2 : goal.encoder::encode_node-returns-else-is_extensible-2
encode_node-returns-else-is_extensible-2 t c =
    let cx = c.args.context.now in
    let k = c.in-Choice in
    at_node cx c.args.node c.args.depth (Some (type.Choice k.alternatives false k.additions))
    (λ (A : ℕ → TypeEncoding FaultKind). Outcome cx A c.args.octets.now c.args.state.now c.encode_choice.new.octets c.encode_choice.new.state
    c.encode_choice.result)
    (omega (arith, c.if-depth-eq0.false))
    (sym c.in-Some.ensures ∙ ap (λ (n : Node). Some n) c.in-Choice.is
    ∙ ap (λ (b : Bool). Some (type.Choice k.alternatives b k.additions)) c.if-is_extensible-2.false)
    (λ d r.
    let e : c.args.depth - 1 ≡ d = omega (arith, r) in
    subst
    (λ (n : ℕ). Outcome cx (choice_in cx n c.args.node k.alternatives) c.args.octets.now c.args.state.now c.encode_choice.new.octets
    c.encode_choice.new.state c.encode_choice.result) e (c.encode_choice.ensures))

pub encode_node-returns-then-is_extensible-2 : goal.encoder::encode_node-returns-then-is_extensible-2
encode_node-returns-then-is_extensible-2 t c =
    let cx = c.args.context.now in
    let k = c.in-Choice in
    let last = c.encode_extensible_choice in
    at_node cx c.args.node c.args.depth (Some (type.Choice k.alternatives true k.additions))
    (λ (A : ℕ → TypeEncoding FaultKind). Outcome cx A c.args.octets.now c.args.state.now last.new.octets last.new.state last.result)
    (omega (arith, c.if-depth-eq0.false))
    (sym c.in-Some.ensures ∙ ap (λ (n : Node). Some n) c.in-Choice.is
    ∙ ap (λ (b : Bool). Some (type.Choice k.alternatives b k.additions)) c.if-is_extensible-2.true)
    (λ d r.
    let e : c.args.depth - 1 ≡ d = omega (arith, r) in
    subst
    (λ (n : ℕ). Outcome cx (extensible_choice_in cx n c.args.node k.alternatives k.additions) c.args.octets.now c.args.state.now
    last.new.octets last.new.state last.result) e (last.ensures))

pub encode_node-returns-else-is_extensible : goal.encoder::encode_node-returns-else-is_extensible
encode_node-returns-else-is_extensible t c =
    let cx = c.args.context.now in
    let k = c.in-Sequence in
    let last = c.encode_sequence in
    at_node cx c.args.node c.args.depth (Some (type.Sequence k.root false k.additions))
    (λ (A : ℕ → TypeEncoding FaultKind). Outcome cx A c.args.octets.now c.args.state.now last.new.octets last.new.state last.result)
    (omega (arith, c.if-depth-eq0.false))
    (sym c.in-Some.ensures ∙ ap (λ (n : Node). Some n) c.in-Sequence.is
    ∙ ap (λ (b : Bool). Some (type.Sequence k.root b k.additions)) c.if-is_extensible.false)
    (λ d r.
    let e : c.args.depth - 1 ≡ d = omega (arith, r) in
    subst
    (λ (n : ℕ). Outcome cx (sequence_in cx n c.args.node k.root) c.args.octets.now c.args.state.now last.new.octets last.new.state
    last.result) e (last.ensures))
