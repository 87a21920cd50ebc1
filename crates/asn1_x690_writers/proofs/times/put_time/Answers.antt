use Rattle.asn1_bits.specs.Bits.{bits}
use Rattle.asn1_schema.specs.CharactersOfParts.{characters_of}
use Rattle.asn1_x690_writers.specs.TimeSteps.{time_within}
use Rattle.asn1_x690_writers.proofs.times.put_time.Goals as goal

pub put_characters-state-requires-clause-below : goal.put_characters-state-requires-clause-below
put_characters-state-requires-clause-below c =
    time_within c.args.kind (characters_of c.args.table.now (bits c.args.source.now) c.in-Text.text)
    (c.is_time.ensures.0 c.if-not-is_time.false)
