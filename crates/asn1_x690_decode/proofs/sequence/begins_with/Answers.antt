use Rattle.std.proofs.Common.{◌+◌, take, drop, subst}
use Rattle.asn1_bits.specs.Bits.{bits}
use Rattle.asn1_x690.specs.declared.tables.Identifier.{Identifier}
use Rattle.asn1_x690.specs.Der.{HasTag}
use Rattle.asn1_x690.specs.Laws.ElementLaws.{identifier_sound}
use Rattle.asn1_x690_fields.specs.Outcomes.{rest}
use Rattle.asn1_x690_decode.proofs.sequence.begins_with.Goals as goal

pub returns-in-Some-clause-yes : goal.returns-in-Some-clause-yes
returns-in-Some-clause-yes c e =
    let r = c.in-Some.ensures 0 in
    record { value = r.0; rest = _; starts = r.2; holds = c.has_tag.ensures.yes e r.0 r.1 }

pub returns-in-Some-clause-no : goal.returns-in-Some-clause-no
returns-in-Some-clause-no c e p =
    let list = bits c.args.context.now.octets.now in
    let s = c.args.state.now in
    let r = c.in-Some.ensures 0 in
    let same = (identifier_sound 0).one.one (rest list s) p.value r.0 p.rest (drop (s.at + 8) (take s.end list)) p.starts r.2 in
    c.has_tag.ensures.no e r.0 r.1
    (subst (λ (id : Identifier). HasTag c.args.context.now.tags.tags.now c.args.first.now id) same.0 p.holds)
