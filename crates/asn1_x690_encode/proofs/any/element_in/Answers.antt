use Rattle.std.proofs.Common.{◌+◌, refl, arith}
use Rattle.asn1_bits.specs.Bits.{bits}
use Rattle.asn1_bits.specs.Laws.DigitLaws.{length-bits}
use Rattle.asn1_x690.specs.declared.fault.FaultKind.TheVariants.{Short}
use Rattle.asn1_x690_fields.specs.declared.state.State.{State}
use Rattle.asn1_x690_fields.specs.Outcomes.{fault_of}
use Rattle.asn1_x690_encode.specs.AnySteps.{no_header, more_after, one_element}
use Rattle.asn1_x690_encode.proofs.any.element_in.Goals as goal

pub next_header-requires-clause-within : goal.next_header-requires-clause-within
next_header-requires-clause-within c = record {
  ends = omega arith;
  inside = omega (arith, c.requires.inside, length-bits c.args.source.now);
}

pub returns-in-None : goal.returns-in-None
returns-in-None c =
    let s = c.args.span in
    let begun : State = record { at = s.at; end = s.at + s.count; count = 0; node = 0; kind = Short } in
    no_header (bits c.args.source.now) s begun c.next_header.new.state refl refl (fault_of c.next_header.new.state) c.in-None.ensures.read

pub returns-then-state : goal.returns-then-state
returns-then-state c =
    let e = c.in-Some.ensures in
    more_after (bits c.args.source.now) c.args.span _ c.next_header.new.state refl refl e.onward e.read.0 e.read.2 c.if-state.true

pub returns-else-state : goal.returns-else-state
returns-else-state c =
    let e = c.in-Some.ensures in
    one_element (bits c.args.source.now) c.args.span _ c.next_header.new.state refl refl e.onward e.read.0 e.read.2 c.in-Some.header e.read.1
    (omega (arith, c.if-state.false))
