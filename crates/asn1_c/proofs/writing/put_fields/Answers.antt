use Rattle.std.proofs.Common.{◌≤◌, ◌++◌, ◌∙◌, [], refl, sym, length, get_or, arith}
use Rattle.std.proofs.lemmas.List.{length-append}
use Rattle.asn1_bits.specs.Bits.{bits}
use Rattle.asn1_bits.specs.Laws.DigitLaws.{length-bits}
use Rattle.asn1_bits.specs.Laws.OverwrittenLaws.{overwritten-none}
use Rattle.asn1_c.specs.Writing.{planned}
use Rattle.asn1_c.proofs.WritingLemmas.{no_shape, no_field, named_more, named_all, named_at, front_fits, put_more, as_many, unnamed_wrong}
use Rattle.asn1_c.proofs.writing.put_fields.Goals as goal

pub loop-i-init : goal.loop-i-init
loop-i-init c =
    record {
      written = ([], refl, sym (overwritten-none (bits c.args.target.now) c.args.position), omega arith);
      kept = refl;
    }

pub bounds-fields-i : goal.bounds-fields-i
bounds-fields-i c =
    let all = c.requires.named in
    omega (
      arith,
      as_many c.args.source.now c.args.alphabets.now c.args.shapes.now c.args.fields.now all.0 all.1,
      c.loop-i-test.true,
    )

pub put-at-requires-clause-within : goal.put-at-requires-clause-within
put-at-requires-clause-within c =
    let inv = c.loop-i.invariant in
    let all = c.requires.named in
    let fits =
    front_fits c.args.source.now c.args.alphabets.now c.args.shapes.now c.args.fields.now c.loop-i.i no_shape no_field
    all.0 inv.written.0 (planned c.args.source.now c.in-Ok.plan) all.1 c.loop-i-test.true inv.written.1
    c.in-Ok.ensures.named in
    omega (arith, inv.written.3, fits, all.2, inv.kept)

pub put-at-requires-clause-fits : goal.put-at-requires-clause-fits
put-at-requires-clause-fits c =
    let inv = c.loop-i.invariant in
    let all = c.requires.named in
    let fits =
    front_fits c.args.source.now c.args.alphabets.now c.args.shapes.now c.args.fields.now c.loop-i.i no_shape no_field
    all.0 inv.written.0 (planned c.args.source.now c.in-Ok.plan) all.1 c.loop-i-test.true inv.written.1
    c.in-Ok.ensures.named in
    omega (arith, inv.written.3, fits, all.3)

pub unreachable-requires : goal.unreachable-requires
unreachable-requires c =
    let all = c.requires.named in
    let here =
    named_at c.args.source.now c.args.alphabets.now c.args.shapes.now c.args.fields.now all.0 c.loop-i.i no_shape
    no_field all.1 c.loop-i-test.true in
    unnamed_wrong c.args.source.now c.args.alphabets.now (get_or c.args.shapes.now c.loop-i.i no_shape)
    (get_or c.args.fields.now c.loop-i.i no_field) c.in-Err.field-0 here.0 c.in-Err.ensures.wrong here.1

pub loop-i-preserved : goal.loop-i-preserved
loop-i-preserved c =
    let inv = c.loop-i.invariant in
    let all = c.requires.named in
    let part = planned c.args.source.now c.in-Ok.plan in
    let same = as_many c.args.source.now c.args.alphabets.now c.args.shapes.now c.args.fields.now all.0 all.1 in
    let within : c.args.position ≤ length (bits c.args.target.now) =
    omega (arith, all.2, length-bits c.args.target.now) in
    record {
      written = (
        inv.written.0 ++ part,
        named_more c.args.source.now c.args.alphabets.now c.args.shapes.now c.args.fields.now c.loop-i.i no_shape
            no_field inv.written.0 part same c.loop-i-test.true inv.written.1 c.in-Ok.ensures.named,
        put_more c.args.source.now c.args.alphabets.now c.loop-i.at c.args.position (bits c.args.target.now)
            (bits c.loop-i.target) (bits c.put-at.new.target) inv.written.0 part within inv.written.3 inv.written.2
            c.put-at.ensures.written,
        omega (arith, inv.written.3, c.put-at.ensures.end, length-append inv.written.0 part),
      );
      kept = c.put-at.auto.target ∙ inv.kept;
    }

pub returns : goal.returns
returns c =
    let inv = c.loop-i.invariant in
    let all = c.requires.named in
    let same = as_many c.args.source.now c.args.alphabets.now c.args.shapes.now c.args.fields.now all.0 all.1 in (
      inv.written.0,
      named_all c.args.source.now c.args.alphabets.now c.args.shapes.now c.args.fields.now c.loop-i.i inv.written.0
          same c.loop-i-test.false inv.written.1,
      inv.written.2,
      inv.written.3,
    )
