use Rattle.std.proofs.Common.{arith}
use Rattle.asn1_c.proofs.IdentifierFieldLemmas.{identifier_read, identifier_refused, identifier_empty, identifier_short}
use Rattle.asn1_c.proofs.identifier_fields.read_identifier.Goals as goal

pub returns-then-count-eq0-clause-refused : goal.returns-then-count-eq0-clause-refused
returns-then-count-eq0-clause-refused c =
    identifier_empty _ c.args.count c.with.result c.if-count-eq0.true c.with.ensures.code c.with.ensures.number

pub returns-in-0-clause-read : goal.returns-in-0-clause-read
returns-in-0-clause-read c =
    let found = c.code_at.ensures.done.0 c.in-0.is in
    identifier_read c.args.octets.now c.args.at c.args.count c.in-Ok.ensures.enough c.in-Ok.place found.0
    c.in-Ok.ensures.bits.0 c.in-Ok.ensures.bits.1 c.in-Ok.ensures.no_number.0 c.in-Ok.ensures.no_number.1 found.1 found.2

pub returns-in_default-clause-refused : goal.returns-in_default-clause-refused
returns-in_default-clause-refused c =
    identifier_refused c.args.octets.now c.args.at c.args.count c.in-Ok.ensures.enough c.with-in_default.result
    c.code_at.result (let ne = c.if-count-eq0.false in omega arith) c.with-in_default.ensures.code
    c.with-in_default.ensures.number (let other = c.in_default in λ z. omega arith) c.code_at.ensures.codes
    (c.code_at.ensures.arc_too_large.0) (c.code_at.ensures.malformed.0)

pub returns-in-Err-clause-refused : goal.returns-in-Err-clause-refused
returns-in-Err-clause-refused c =
    identifier_short c.args.octets.now c.args.at c.args.count c.in-Err.refusal
    (let ne = c.if-count-eq0.false in omega arith) c.requires.within
    c.in-Err.ensures.code.0 c.in-Err.ensures.short.0 c.in-Err.ensures.short.1
