use Rattle.std.proofs.Common.{rules, ◌∙◌, length, refl, ap, arith}
use Rattle.std.proofs.lemmas.List.{length-take}
use Rattle.asn1_oid.specs.Laws.ReadingLaws.{contents_read, arcs_from_reading, one_list_of_arcs}
use Rattle.asn1_oid.specs.Laws.WritingLaws.{contents_octets}
use Rattle.asn1_c.proofs.identifiers.asn1v_oid_arcs.Goals as goal

pub write_arcs-requires : goal.write_arcs-requires
write_arcs-requires c =
    let some = c.in-Ok.ensures.ok.0 refl in
    (some.0, contents_read some.0 c.args.octets.now (contents_octets some.0 c.args.octets.now some.1) some.1 some.2)

pub returns-in-Some-clause-written : goal.returns-in-Some-clause-written
returns-in-Some-clause-written c = λ done.
    let some = c.in-Ok.ensures.ok.0 refl in
    (arcs_from_reading _ c.args.octets.now (contents_octets some.0 c.args.octets.now some.1)
    c.in-Some.ensures.written).0

pub returns-then-needed-room-clause-count : goal.returns-then-needed-room-clause-count
returns-then-needed-room-clause-count c = λ code arcs contents.
    let some = c.in-Ok.ensures.ok.0 refl in
    let is = contents_read some.0 c.args.octets.now (contents_octets some.0 c.args.octets.now some.1) some.1 some.2 in
    c.count_arcs-needed.ensures.counted some.0 is
    ∙ ap length (one_list_of_arcs some.0 arcs c.args.octets.now some.1 contents)

pub unreachable-requires : goal.unreachable-requires
unreachable-requires c =
    let some = c.in-Ok.ensures.ok.0 refl in
    let is = contents_read some.0 c.args.octets.now (contents_octets some.0 c.args.octets.now some.1) some.1 some.2 in
    let counted = c.count_arcs-needed.ensures.counted some.0 is in
    let more = c.in-None.ensures.none some.0 is in
    let fits = c.if-needed-room.false in
    omega arith

pub returns-in-Some-clause-most : goal.returns-in-Some-clause-most
returns-in-Some-clause-most c = λ either.
    let counted = c.count_arcs-needed.ensures.counted _ c.in-Some.ensures.written in
    omega (
      arith,
      counted,
      length-take c.in-Some.written c.write_arcs.new.room,
      c.in-Some.ensures.within,
      c.count_arcs-needed.ensures.most,
    )

pub returns-then-needed-room-clause-room : goal.returns-then-needed-room-clause-room
returns-then-needed-room-clause-room c = search rules
