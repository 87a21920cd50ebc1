use Rattle.std.proofs.Common.{Err, refl, ap}
use Rattle.asn1_values.specs.declared.bit_fields.error.ReadError.{ReadError}
use Rattle.asn1_bits.specs.BitReader.{bits_left}
use Rattle.asn1_values.specs.Plain.{plain_shapes, plain_fields}
use Rattle.asn1_values.proofs.HeadlineLemmas.{refusal, can_begin, found, only, one_list, none_begins_another, each_alone}
use Rattle.asn1_values.proofs.OneRefusal.{one_read_refusal, begun_unnamed, begun_is_memory}
use Rattle.asn1_values.proofs.OneSpelling.{in_one_code, written_again, equally_long, moved}
use Rattle.asn1_values.proofs.bit_fields.read.read_fields.Goals as goal

pub returns-in-Ok-clause-found : goal.returns-in-Ok-clause-found
returns-in-Ok-clause-found c =
    found (bits_left c.args.reader.now) c.args.shapes.now (plain_fields c.in-Ok.fields.items)
    (bits_left c.collect.new.reader) c.in-Ok.ensures.fields

pub returns-in-Ok-clause-only : goal.returns-in-Ok-clause-only
returns-in-Ok-clause-only c =
    only (bits_left c.args.reader.now) c.args.shapes.now (plain_fields c.in-Ok.fields.items)
    (bits_left c.collect.new.reader) c.in-Ok.ensures.fields

pub returns-in-Ok-clause-front_read : goal.returns-in-Ok-clause-front_read
returns-in-Ok-clause-front_read c =
    written_again (plain_fields c.in-Ok.fields.items) (bits_left c.args.reader.now)
    (bits_left c.collect.new.reader) (plain_shapes c.args.shapes.now)
    (found (bits_left c.args.reader.now) c.args.shapes.now (plain_fields c.in-Ok.fields.items)
    (bits_left c.collect.new.reader) c.in-Ok.ensures.fields)

pub returns-in-Ok-clause-one_spelling : goal.returns-in-Ok-clause-one_spelling
returns-in-Ok-clause-one_spelling c =
    let b =
    found (bits_left c.args.reader.now) c.args.shapes.now (plain_fields c.in-Ok.fields.items)
    (bits_left c.collect.new.reader) c.in-Ok.ensures.fields in
    in_one_code (plain_fields c.in-Ok.fields.items) (plain_shapes c.args.shapes.now) b.of_shapes

pub returns-in-Ok-clause-moved : goal.returns-in-Ok-clause-moved
returns-in-Ok-clause-moved c =
    let b =
    found (bits_left c.args.reader.now) c.args.shapes.now (plain_fields c.in-Ok.fields.items)
    (bits_left c.collect.new.reader) c.in-Ok.ensures.fields in
    moved (plain_shapes c.args.shapes.now) (plain_fields c.in-Ok.fields.items) (bits_left c.args.reader.now)
    (bits_left c.collect.new.reader) b

pub returns-in-Ok-clause-none_begins_another : goal.returns-in-Ok-clause-none_begins_another
returns-in-Ok-clause-none_begins_another c = none_begins_another c.args.shapes.now

pub returns-in-Ok-clause-one_list : goal.returns-in-Ok-clause-one_list
returns-in-Ok-clause-one_list c = one_list c.args.shapes.now

pub returns-in-Ok-clause-each_alone : goal.returns-in-Ok-clause-each_alone
returns-in-Ok-clause-each_alone c = each_alone c.args.shapes.now

pub returns-in-Ok-clause-equally_long : goal.returns-in-Ok-clause-equally_long
returns-in-Ok-clause-equally_long c = equally_long (plain_shapes c.args.shapes.now)

pub returns-in-Err-clause-none_begins_another : goal.returns-in-Err-clause-none_begins_another
returns-in-Err-clause-none_begins_another c = none_begins_another c.args.shapes.now

pub returns-in-Err-clause-one_list : goal.returns-in-Err-clause-one_list
returns-in-Err-clause-one_list c = one_list c.args.shapes.now

pub returns-in-Err-clause-each_alone : goal.returns-in-Err-clause-each_alone
returns-in-Err-clause-each_alone c = each_alone c.args.shapes.now

pub returns-in-Err-clause-equally_long : goal.returns-in-Err-clause-equally_long
returns-in-Err-clause-equally_long c = equally_long (plain_shapes c.args.shapes.now)

pub returns-in-Ok-clause-named : goal.returns-in-Ok-clause-named
returns-in-Ok-clause-named c = λ e ne is.
    absurd (begun_unnamed (bits_left c.args.reader.now) (plain_shapes c.args.shapes.now) e
    (can_begin (bits_left c.args.reader.now) c.args.shapes.now (rw c.in-Ok.ensures.fields refl)) ne is)

pub refusal_of-requires : goal.refusal_of-requires
refusal_of-requires c = λ ne.
    refusal (bits_left c.args.reader.now) c.args.shapes.now c.in-Err.met (c.in-Err.ensures.err ne)

pub returns-in-Err-clause-accepted : goal.returns-in-Err-clause-accepted
returns-in-Err-clause-accepted c = λ can.
    begun_is_memory (bits_left c.args.reader.now) (plain_shapes c.args.shapes.now) c.refusal_of.result can
    c.refusal_of.ensures

pub returns-in-Err-clause-named : goal.returns-in-Err-clause-named
returns-in-Err-clause-named c = λ e ne is.
    ap (λ (x : ReadError). Err x)
    (one_read_refusal (bits_left c.args.reader.now) (plain_shapes c.args.shapes.now) c.refusal_of.result e ne
    c.refusal_of.ensures is)

pub returns-in-Err-clause-unchanged : goal.returns-in-Err-clause-unchanged
returns-in-Err-clause-unchanged c = refl
