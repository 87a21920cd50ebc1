use Rattle.std.proofs.Common.{◌*◌, length, true, false, refl, sym, arith}
use Rattle.asn1_bits.specs.Bits.{bits}
use Rattle.asn1_bits.specs.Laws.DigitLaws.{length-bits}
use Rattle.asn1_x690.specs.declared.fault.FaultKind.TheVariants.{Short}
use Rattle.asn1_x690_fields.specs.declared.state.State.{State}
use Rattle.asn1_x690_elements.specs.Elements.{levels}
use Rattle.asn1_x690_elements.proofs.WalkSteps.{are_elements, is_first_fault, by_outcome}
use Rattle.asn1_x690_elements.proofs.elements.decode_elements.Goals as goal

pub decode_level-requires-clause-within : goal.decode_level-requires-clause-within
decode_level-requires-clause-within c =
    let size = length-bits c.args.octets.now in
    record { ends = omega arith; inside = omega (arith, size) }

pub returns-then-decode_level-clause-ok : goal.returns-then-decode_level-clause-ok
returns-then-decode_level-clause-ok c =
    let octets = c.args.octets.now in
    let first : State = record { at = 0; end = 8 * length octets; count = 0; node = 0; kind = Short } in
    let d = c.decode_level in
    are_elements octets c.args.depth first d.new.state c.args.elements.now d.new.room refl (sym (length-bits octets)) refl
    (by_outcome (bits octets) (levels c.args.depth) first d.new.state c.args.elements.now d.new.room d.result true
    c.if-decode_level.true d.ensures.did)

pub returns-clause-err : goal.returns-clause-err
returns-clause-err c =
    let octets = c.args.octets.now in
    let first : State = record { at = 0; end = 8 * length octets; count = 0; node = 0; kind = Short } in
    let d = c.decode_level in
    is_first_fault octets c.args.depth first d.new.state c.args.elements.now d.new.room refl (sym (length-bits octets))
    (record { at = d.new.state.at; kind = d.new.state.kind }) d.ensures.moved.same_end refl refl
    (by_outcome (bits octets) (levels c.args.depth) first d.new.state c.args.elements.now d.new.room d.result false
    c.if-decode_level.false d.ensures.did)
