use Rattle.std.proofs.Common.{subst}
use Rattle.asn1_bits.specs.Bits.{bits}
use Rattle.asn1_x690.specs.declared.tables.Identifier.{Identifier}
use Rattle.asn1_x690.specs.Der.{HasTag}
use Rattle.asn1_x690.specs.Laws.ElementLaws.{identifier_sound}
use Rattle.asn1_x690_fields.specs.Outcomes.{rest, fault_of}
use Rattle.asn1_x690_decode.proofs.sequence.begins_with_octets.Goals as goal

pub returns-in-None-clause-no : goal.returns-in-None-clause-no
returns-in-None-clause-no c e p =
    (identifier_sound 0).names.excludes (rest (bits c.args.context.now.octets.now) c.args.state.now) (fault_of c.next_identifier.new.state)
    c.in-None.ensures.read (record { value = p.value; rest = p.rest; starts = p.starts })

pub returns-in-Some-clause-no : goal.returns-in-Some-clause-no
returns-in-Some-clause-no c e p =
    let list = bits c.args.context.now.octets.now in
    let r = c.in-Some.ensures.read in
    let same = (identifier_sound 0).one.one (rest list c.args.state.now) p.value r.0 p.rest (rest list c.next_identifier.new.state)
    p.starts r.2 in
    c.has_tag.ensures.no e r.0 r.1
    (subst (λ (id : Identifier). HasTag c.args.context.now.tags.tags.now c.args.first.now id) same.0 p.holds)
