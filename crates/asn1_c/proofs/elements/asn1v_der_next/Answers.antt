use Rattle.std.proofs.Common.{ℕ, sym, subst, arith}
use Rattle.asn1_c.specs.Elements.{IsElementFaultAt}
use Rattle.asn1_c.proofs.ElementLemmas.{within, fault_at, large_at, element_at}
use Rattle.asn1_c.proofs.elements.asn1v_der_next.Goals as goal

pub next_header-requires-clause-within : goal.next_header-requires-clause-within
next_header-requires-clause-within c =
    within c.args.octets.now c.args.position (omega (arith, c.if-position-octets.false))

pub returns-in_default-clause-fault : goal.returns-in_default-clause-fault
returns-in_default-clause-fault c = λ a b d e.
    subst (λ (code : ℕ). IsElementFaultAt c.args.octets.now c.args.position code) (sym c.code_of.ensures.code)
    (fault_at c.args.octets.now c.args.position c.next_header.new.state c.in_default.ensures.read)

pub returns-in_default-number-clause-large : goal.returns-in_default-number-clause-large
returns-in_default-number-clause-large c = λ _.
    large_at c.args.octets.now c.args.position c.next_header.new.state c.in-Some.header c.in-Some.ensures.read c.in_default-number.is

pub returns-clause-element : goal.returns-clause-element
returns-clause-element c = λ _.
    element_at c.args.octets.now c.args.position c.number_of_class.result c.in-Some-number.number c.next_header.new.state
    c.in-Some.header (omega (arith, c.if-position-octets.false)) c.in-Some.ensures.ordered c.in-Some.ensures.ends
    c.next_header.ensures.onward c.in-Some.ensures.read c.in-Some-number.is c.number_of_class.ensures
