use Rattle.std.proofs.Common.{refl, arith}
use Rattle.asn1_bits.proofs.OverwriteLemmas.{word-replaced}
use Rattle.asn1_bits.proofs.target.stores.replaced.Goals as goal

pub overflow_sub-result : goal.overflow_sub-result
overflow_sub-result c =
    omega (
      arith,
      (word-replaced c.args.old c.args.word c.args.shift c.args.width _ _ c.requires.within c.ranges.old.fits refl refl).0,
    )

pub overflow_add-result : goal.overflow_add-result
overflow_add-result c =
    omega (
      arith,
      (word-replaced c.args.old c.args.word c.args.shift c.args.width _ _ c.requires.within c.ranges.old.fits refl refl).1,
    )

pub returns : goal.returns
returns c =
    (word-replaced c.args.old c.args.word c.args.shift c.args.width _ _ c.requires.within c.ranges.old.fits refl refl).2
