-- Answers for the encoders of src/node.rt.
use Rattle.std.proofs.Common.{◌≡◌, ◌-◌, List, Bool, true, false, sym, ap, ◌∙◌, subst, arith}
use Rattle.asn1_schema.specs.declared.tables.Node.{Node}
use Rattle.asn1_schema.specs.declared.tables.Node.TheVariants as type
use Rattle.asn1_x690.specs.declared.fault.FaultKind.{FaultKind}
use Rattle.asn1_x690.specs.declared.tables.Identifier.{Identifier}
use Rattle.asn1_x690.specs.declared.tables.Tag.{Tag}
use Rattle.asn1_x690.specs.TypeContents.{ByHeader}
use Rattle.asn1_x690_encode.specs.Encoding.{ElementOutcome, ContentsOutcome, around_in, tagged_in, contents_in, headed_by}
use Rattle.asn1_x690_encode.specs.NodeSteps.{at_node, by_headed, by_tagged}
use Rattle.asn1_x690_encode.proofs.+encoding.Goals as goal

pub encode_node_here-returns-then-is_headed : goal.node::encode_node_here-returns-then-is_headed
encode_node_here-returns-then-is_headed t c =
    let a = c.args in
    let cx = a.context.now in
    let d = a.depth - 1 in
    let n = c.in-Some.kind.now in
    let y = c.in-Some-type_tags_at.types.now in
    let k = c.encode_around in
    let P : ByHeader FaultKind Identifier → Type 0 = λ B. ElementOutcome cx B a.octets.now a.state.now k.new.octets k.new.state k.result in
    at_node cx a.node n y P a.depth (omega (arith, c.if-depth-eq0.false)) (sym c.in-Some.ensures) (sym c.in-Some-type_tags_at.ensures)
    (by_headed cx d a.node y y.is_any n P (sym c.is_headed.ensures ∙ c.if-is_headed.true)
    (subst (λ (l : List Tag). P (around_in cx d a.node y n l)) c.tags_in-tags.ensures.value k.ensures))

pub encode_node_here-returns : goal.node::encode_node_here-returns
encode_node_here-returns t c =
    let a = c.args in
    let cx = a.context.now in
    let d = a.depth - 1 in
    let n = c.in-Some.kind.now in
    let y = c.in-Some-type_tags_at.types.now in
    let k = c.encode_tagged in
    let P : ByHeader FaultKind Identifier → Type 0 = λ B. ElementOutcome cx B a.octets.now a.state.now k.new.octets k.new.state k.result in
    at_node cx a.node n y P a.depth (omega (arith, c.if-depth-eq0.false)) (sym c.in-Some.ensures) (sym c.in-Some-type_tags_at.ensures)
    (by_tagged cx d a.node y y.is_any n P (sym c.is_headed.ensures ∙ c.if-is_headed.false)
    (subst (λ (l : List Tag). P (tagged_in cx d a.node y n l)) c.tags_in-tags.ensures.value k.ensures))

pub encode_contents-returns-else-is_extensible : goal.node::encode_contents-returns-else-is_extensible
encode_contents-returns-else-is_extensible t c =
    let a = c.args in
    let cx = a.context.now in
    let i = c.in-Sequence in
    let k = c.encode_sequence in
    let is : a.kind.now ≡ type.Sequence i.root false i.additions = i.is ∙ ap (λ (b : Bool). type.Sequence i.root b i.additions) c.if-is_extensible.false in
    subst
    (λ (n : Node). ContentsOutcome cx (contents_in cx a.depth a.node a.types.now n) a.octets.now a.state.now k.new.octets k.new.state k.result)
    (sym is) (k.ensures i.additions)

pub encode_contents-returns-in-SequenceOf : goal.node::encode_contents-returns-in-SequenceOf
encode_contents-returns-in-SequenceOf t c =
    let a = c.args in
    let cx = a.context.now in
    let i = c.in-SequenceOf in
    let k = c.encode_list in
    subst
    (λ (n : Node). ContentsOutcome cx (contents_in cx a.depth a.node a.types.now n) a.octets.now a.state.now k.new.octets k.new.state k.result)
    (sym i.is) k.ensures

pub encode_contents-returns-then-is_extensible : goal.node::encode_contents-returns-then-is_extensible
encode_contents-returns-then-is_extensible t c =
    let a = c.args in
    let cx = a.context.now in
    let i = c.in-Sequence in
    let k = c.encode_extensible_sequence in
    let is : a.kind.now ≡ type.Sequence i.root true i.additions = i.is ∙ ap (λ (b : Bool). type.Sequence i.root b i.additions) c.if-is_extensible.true in
    subst
    (λ (n : Node). ContentsOutcome cx (contents_in cx a.depth a.node a.types.now n) a.octets.now a.state.now k.new.octets k.new.state k.result)
    (sym is) k.ensures

pub encode_contents-returns-in-SetOf : goal.node::encode_contents-returns-in-SetOf
encode_contents-returns-in-SetOf t c =
    let a = c.args in
    let cx = a.context.now in
    let i = c.in-SetOf in
    let k = c.encode_list-in-SetOf in
    subst
    (λ (n : Node). ContentsOutcome cx (contents_in cx a.depth a.node a.types.now n) a.octets.now a.state.now k.new.octets k.new.state k.result)
    (sym i.is) k.ensures

pub encode_headed-returns-then-types : goal.node::encode_headed-returns-then-types
encode_headed-returns-then-types t c =
    let a = c.args in
    let cx = a.context.now in
    let k = c.encode_any in
    subst
    (λ (b : Bool). ElementOutcome cx (headed_by cx a.depth a.node b a.kind.now) a.octets.now a.state.now k.new.octets k.new.state k.result)
    (sym c.if-types.true) k.ensures

pub encode_headed-returns-in-Choice : goal.node::encode_headed-returns-in-Choice
encode_headed-returns-in-Choice t c =
    let a = c.args in
    let cx = a.context.now in
    let i = c.in-Choice in
    let k = c.encode_choice in
    subst
    (λ (b : Bool). ElementOutcome cx (headed_by cx a.depth a.node b a.kind.now) a.octets.now a.state.now k.new.octets k.new.state k.result)
    (sym c.if-types.false)
    (subst
    (λ (n : Node). ElementOutcome cx (headed_by cx a.depth a.node false n) a.octets.now a.state.now k.new.octets k.new.state k.result)
    (sym i.is) k.ensures)
