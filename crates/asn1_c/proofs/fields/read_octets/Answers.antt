use Rattle.asn1_c.proofs.FieldLemmas.{octets_taken, octets_refused}
use Rattle.asn1_c.proofs.fields.read_octets.Goals as goal

pub returns-clause-read : goal.returns-clause-read
returns-clause-read c =
    octets_taken c.args.octets.now c.args.at c.args.count c.field_at.result c.field_at.ensures.bits c.field_at.ensures.no_number
    c.field_at.ensures.enough

pub returns-clause-refused : goal.returns-clause-refused
returns-clause-refused c =
    octets_refused c.args.octets.now c.args.at c.args.count c.args.field c.field_at.result c.requires.within
    c.field_at.ensures.code c.field_at.ensures.short
