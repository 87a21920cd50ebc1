use Rattle.std.proofs.Common.{◌++◌, [], refl, arith}
use Rattle.std.proofs.lemmas.List.{length-append}
use Rattle.asn1_c.specs.Writing.{planned}
use Rattle.asn1_c.proofs.PlanLemmas.{length-planned}
use Rattle.asn1_c.proofs.WritingLemmas.{no_shape, no_field, named_more, named_all, refused_at}
use Rattle.asn1_c.proofs.writing.length_of.Goals as goal

pub loop-i-init : goal.loop-i-init
loop-i-init c = record { named = ([], refl, refl); bounded = omega arith }

pub overflow_add-total : goal.overflow_add-total
overflow_add-total c =
    let inv = c.loop-i.invariant in
    let sound = c.in-Ok.ensures.sound in
    omega (arith, inv.bounded, sound.few, c.len-total.ensures)

pub returns-in-Err-clause-refused : goal.returns-in-Err-clause-refused
returns-in-Err-clause-refused c =
    let inv = c.loop-i.invariant.named in
    refused_at c.args.source.now c.args.alphabets.now c.args.shapes.now c.args.fields.now c.loop-i.i no_shape no_field
    c.in-Err.refusal inv.0 c.requires.same c.loop-i-test.true c.in-Err.ensures.place inv.1 c.in-Err.ensures.wrong

pub loop-i-preserved : goal.loop-i-preserved
loop-i-preserved c =
    let inv = c.loop-i.invariant in
    let sound = c.in-Ok.ensures.sound in
    let part = planned c.args.source.now c.in-Ok.plan in
    record {
      named = (
        inv.named.0 ++ part,
        named_more c.args.source.now c.args.alphabets.now c.args.shapes.now c.args.fields.now c.loop-i.i no_shape
            no_field inv.named.0 part c.requires.same c.loop-i-test.true inv.named.1 c.in-Ok.ensures.named,
        omega (
          arith,
          inv.named.2,
          c.len-total.ensures,
          length-append inv.named.0 part,
          length-planned c.args.source.now c.in-Ok.plan sound.within,
        ),
      );
      bounded = omega (arith, inv.bounded, sound.few, c.len-total.ensures);
    }

pub returns-clause-named : goal.returns-clause-named
returns-clause-named c =
    let inv = c.loop-i.invariant.named in (
      inv.0,
      named_all c.args.source.now c.args.alphabets.now c.args.shapes.now c.args.fields.now c.loop-i.i inv.0
          c.requires.same c.loop-i-test.false inv.1,
      inv.2,
    )

pub returns-clause-bounded : goal.returns-clause-bounded
returns-clause-bounded c =
    let inv = c.loop-i.invariant in
    let end = c.loop-i.auto.i-end in
    omega (arith, inv.bounded)
