-- Answers for the encoders of src/sequence.rt, of what follows components and of extension markers.
use Rattle.std.proofs.Common.{◌≡◌, ◌+◌, [], ◌∷◌, Bool, false, length, refl, sym, ap, ◌∙◌, subst, Some, None}
use Rattle.asn1_schema.specs.declared.misfit.MisfitKind.TheVariants.{OtherPart}
use Rattle.asn1_schema.specs.declared.part.Part.{Part}
use Rattle.asn1_schema.specs.Pieces.{Parts, Piece, Additions, Sequence}
use Rattle.asn1_x690.specs.Der as der
use Rattle.asn1_x690.specs.Der.{BeginsWith as MayBegin}
use Rattle.asn1_x690.specs.declared.fault.FaultKind.TheVariants.{NotPermitted}
use Rattle.asn1_x690.specs.TypeContents.{told}
use Rattle.asn1_x691_writers.specs.Put.{piece_in}
use Rattle.asn1_x690_encode.specs.declared.sequence.Tail.{Tail}
use Rattle.asn1_x690_encode.specs.declared.sequence.Tail.TheVariants.{Extension}
use Rattle.asn1_x690_encode.specs.Encoding.{ContentsOutcome, ToldOutcome, after_root, added_in, extension_in, tape, components_in, told_of}
use Rattle.asn1_x691_writers.specs.GrownSteps.{grown_none}
use Rattle.asn1_x690_encode.specs.AdditionSteps.{no_additions}
use Rattle.asn1_x690_encode.specs.Steps.{part_next, stopped_here}
use Rattle.asn1_x690_encode.specs.ToldSteps.{told_done, told_other}
use Rattle.asn1_x690_encode.proofs.+encoding.Goals as goal

-- ---- what follows components

pub encode_tail-returns-in-End : goal.sequence::encode_tail-returns-in-End
encode_tail-returns-in-End t c =
    let a = c.args in
    let cx = a.context.now in
    subst
    (λ (t : Tail). ToldOutcome cx (after_root cx a.depth a.node t) (told_of t) a.octets.now a.state.now a.octets.now a.state.now (Some None))
    (sym c.in-End.is) (record {
      parts = [];
      list = [];
      fills = ((refl, refl), refl);
      whole = refl;
      grown = grown_none a.octets.now a.state.now.at;
      taken = refl;
    })

pub encode_tail-returns-then-not-is_extended : goal.sequence::encode_tail-returns-then-not-is_extended
encode_tail-returns-then-not-is_extended t c =
    let a = c.args in
    let cx = a.context.now in
    let i = c.in-Extension in
    subst
    (λ (t : Tail). ToldOutcome cx (after_root cx a.depth a.node t) (told_of t) a.octets.now a.state.now a.octets.now a.state.now (Some None))
    (sym i.is)
    (subst
    (λ (b : Bool). ToldOutcome cx (extension_in cx a.depth a.node i.known) b a.octets.now a.state.now a.octets.now a.state.now (Some None))
    (sym c.if-not-is_extended.true) (no_additions cx a.node
    (told Additions der.always NotPermitted a.node (added_in cx a.depth a.node (record { rows = i.known; known = i.known.count; count = 0 })))
    a.octets.now a.state.now (grown_none a.octets.now a.state.now.at)))

pub encode_tail-returns-else-not-is_extended : goal.sequence::encode_tail-returns-else-not-is_extended
encode_tail-returns-else-not-is_extended t c =
    let a = c.args in
    let cx = a.context.now in
    let i = c.in-Extension in
    let k = c.encode_additions in
    subst
    (λ (t : Tail). ToldOutcome cx (after_root cx a.depth a.node t) (told_of t) a.octets.now a.state.now k.new.octets k.new.state k.result)
    (sym i.is)
    (subst
    (λ (b : Bool). ToldOutcome cx (extension_in cx a.depth a.node i.known) b a.octets.now a.state.now k.new.octets k.new.state k.result)
    (sym c.if-not-is_extended.false) k.ensures)

pub encode_tail-returns-in-Additions : goal.sequence::encode_tail-returns-in-Additions
encode_tail-returns-in-Additions t c =
    let a = c.args in
    let cx = a.context.now in
    let k = c.encode_known in
    subst
    (λ (t : Tail). ToldOutcome cx (after_root cx a.depth a.node t) (told_of t) a.octets.now a.state.now k.new.octets k.new.state k.result)
    (sym c.in-Additions.is) k.ensures

-- ---- with an extension marker

pub encode_extensible_sequence-returns-in-None-extended_by : goal.sequence::encode_extensible_sequence-returns-in-None-extended_by
encode_extensible_sequence-returns-in-None-extended_by t c =
    let a = c.args in
    let cx = a.context.now in
    let F = components_in cx a.depth a.node a.root.count a.root.from (Extension a.known false) in
    let is : Bool → Piece = Sequence a.root.count in
    let T = told is der.always NotPermitted a.node F in
    let l = c.reject-in-None-extended_by in
    let p = piece_in cx.tables.ranges.now cx.source.now c.in-Some.part.now in
    let e = part_next cx a.state.now.next c.in-Some.part.now (sym c.in-Some.ensures) in
    stopped_here cx T.misfit a.octets.now a.octets.now a.state.now l.new.state l.result a.node OtherPart T.contents.fills l.ensures.result l.ensures.next
    l.ensures.node l.ensures.reason
    (subst (λ (k : Parts). T.misfit k (record { node = a.node; left = length k; kind = OtherPart })) (sym e)
    (told_other cx is a.node F false a.octets.now a.state.now a.octets.now l.new.state p (tape cx (a.state.now.next + 1))
    (c.in-None-extended_by.ensures cx.tables.ranges.now cx.source.now)))

pub encode_extensible_sequence-returns-in-Some-extended_by : goal.sequence::encode_extensible_sequence-returns-in-Some-extended_by
encode_extensible_sequence-returns-in-Some-extended_by t c =
    let a = c.args in
    let cx = a.context.now in
    let b = c.in-Some-extended_by.is_extended in
    let F = components_in cx a.depth a.node a.root.count a.root.from (Extension a.known b) in
    let is : Bool → Piece = Sequence a.root.count in
    let T = told is der.always NotPermitted a.node F in
    let k = c.encode_components in
    let old = a.state.now in
    let e : tape cx old.next ≡ Sequence a.root.count b ∷ tape cx (old.next + 1) =
    part_next cx old.next c.in-Some.part.now (sym c.in-Some.ensures)
    ∙ ap (λ (p : Part). piece_in cx.tables.ranges.now cx.source.now p ∷ tape cx (old.next + 1)) c.in-Some-extended_by.ensures in
    subst (λ (r : Bool). ContentsOutcome cx T a.octets.now old k.new.octets k.new.state r) (sym c.is_some.ensures)
    (told_done cx is a.node F b a.octets.now old k.new.octets k.new.state (record old { next = old.next + 1 }) k.result e refl k.ensures)
