use Rattle.std.proofs.Common.{ap, refl, List, Bool, sym, ◌∙◌, ◌∷◌, ◌+◌}
use Rattle.asn1_bits.specs.Bits.{bits}
use Rattle.asn1_schema.specs.PiecesOfParts.{bits_of}
use Rattle.asn1_x690_encode.specs.Any.{piece_by}
use Rattle.asn1_x690_encode.specs.AnySteps.{any_done, any_none}
use Rattle.asn1_x690_encode.specs.Encoding.{tape}
use Rattle.asn1_x690_encode.proofs.any.encode_element.Goals as goal

pub returns-in-None : goal.returns-in-None
returns-in-None c =
    let a = c.args in
    let cx = a.context.now in
    let l = c.reject in
    let list = bits_of (bits cx.source.now) c.clip-inside.result in
    let is = c.requires.next ∙ ap (λ (x : List Bool). piece_by a.kind x ∷ tape cx (a.state.now.next + 1)) (sym c.clip-inside.ensures.same) in
    any_none cx a.node a.kind list a.octets.now a.state.now a.octets.now l.new.state is c.in-None.ensures l.ensures.next l.ensures.node l.ensures.reason

pub returns-in-Some : goal.returns-in-Some
returns-in-Some c =
    let a = c.args in
    let cx = a.context.now in
    let k = c.put_span-state in
    let list = bits_of (bits cx.source.now) c.clip-inside.result in
    let is = c.requires.next ∙ ap (λ (x : List Bool). piece_by a.kind x ∷ tape cx (a.state.now.next + 1)) (sym c.clip-inside.ensures.same) in
    any_done cx a.node a.kind list a.octets.now a.state.now k.new.octets (record a.state.now { at = k.result; next = a.state.now.next + 1 }) is
    c.in-Some.found c.in-Some.ensures refl k.ensures
