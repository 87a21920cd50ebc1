use Rattle.std.proofs.Common.{◌≡◌, ◌++◌, length, take, drop, ap, sym, subst, ◌∙◌, arith}
use Rattle.std.proofs.lemmas.List.{take_at, drop_at}
use Rattle.asn1_oid.specs.DottedText.{IsDottedText}
use Rattle.asn1_oid.specs.Laws.DottedLaws.{one_text}
use Rattle.asn1_c.proofs.text.asn1v_oid_from_text.Goals as goal

pub returns-then-found-room-clause-count : goal.returns-then-found-room-clause-count
returns-then-found-room-clause-count c = λ code arcs is.
    let found = c.in-Some.ensures.some in
    found.2 ∙ ap length (one_text found.0 arcs c.args.text.now found.1 is)

pub returns-clause-count : goal.returns-clause-count
returns-clause-count c = λ code arcs is.
    let found = c.in-Some.ensures.some in
    found.2 ∙ ap length (one_text found.0 arcs c.args.text.now found.1 is)

pub returns-clause-written : goal.returns-clause-written
returns-clause-written c = λ done.
    let found = c.in-Some.ensures.some in
    let read = c.in-Some-parse_arcs.ensures.some in
    let same : c.in-Some.found ≡ length read.0 = found.2
    ∙ ap length (one_text found.0 read.0 c.args.text.now found.1 read.1) in
    let room : c.parse_arcs-2.new.room ≡ read.0 ++ drop c.in-Some-parse_arcs.field-0 c.args.room.now =
    read.3 (omega (arith, same, read.2, c.if-found-room.false)) in
    let written : take c.in-Some.found c.parse_arcs-2.new.room ≡ read.0 = ap (take c.in-Some.found) room
    ∙ take_at read.0 (drop c.in-Some-parse_arcs.field-0 c.args.room.now) c.in-Some.found (sym same) in
    subst (λ l. IsDottedText l c.args.text.now) (sym written) read.1

pub returns-clause-rest : goal.returns-clause-rest
returns-clause-rest c = λ done.
    let found = c.in-Some.ensures.some in
    let read = c.in-Some-parse_arcs.ensures.some in
    let same : c.in-Some.found ≡ length read.0 = found.2
    ∙ ap length (one_text found.0 read.0 c.args.text.now found.1 read.1) in
    let room : c.parse_arcs-2.new.room ≡ read.0 ++ drop c.in-Some-parse_arcs.field-0 c.args.room.now =
    read.3 (omega (arith, same, read.2, c.if-found-room.false)) in
    let count : c.in-Some-parse_arcs.field-0 ≡ c.in-Some.found = omega (arith, same, read.2) in
    ap (drop c.in-Some.found) room
    ∙ drop_at read.0 (drop c.in-Some-parse_arcs.field-0 c.args.room.now) c.in-Some.found (sym same)
    ∙ ap (λ k. drop k c.args.room.now) count
