use Rattle.std.proofs.Common.{[]}
use Rattle.asn1_bits.specs.Bits.{bits}
use Rattle.asn1_schema.specs.PiecesOfParts.{bits_of}
use Rattle.asn1_x690_writers.specs.EnumeratedSteps.{told_known, told_unknown, told_none}
use Rattle.asn1_x690_writers.proofs.enumerations.is_unknown.Goals as goal

pub returns-in-Ok-clause-no : goal.returns-in-Ok-clause-no
returns-in-Ok-clause-no c e q =
    let h = c.in-Ok.ensures [] in
    told_known c.args.numbers.now (bits_of (bits c.args.source.now) c.args.span) h.0 h.1 h.2 q

pub returns-in-Err-clause-yes : goal.returns-in-Err-clause-yes
returns-in-Err-clause-yes c e =
    told_unknown c.args.numbers.now (bits_of (bits c.args.source.now) c.args.span) c.in-Err.kind (c.in-Err.ensures [])
    (c.is_outside.ensures.yes e)

pub returns-in-Err-clause-no : goal.returns-in-Err-clause-no
returns-in-Err-clause-no c e q =
    told_none c.args.numbers.now (bits_of (bits c.args.source.now) c.args.span) c.in-Err.kind (c.in-Err.ensures [])
    (c.is_outside.ensures.no e) q
