use Rattle.std.proofs.Common.{◌∙◌, ◌+◌, ℕ, refl, ap, arith}
use Rattle.asn1_bits.specs.Bits.{bits, digits, overwritten}
use Rattle.asn1_bits.specs.BitStr.{view_of}
use Rattle.asn1_bits.specs.Laws.DigitLaws.{length-bits}
use Rattle.asn1_c.proofs.PlanLemmas.{length-planned, put_all, view_cut}
use Rattle.asn1_c.proofs.plans.Plan.put.Goals as goal

pub overwrite_number-requires-clause-room : goal.overwrite_number-requires-clause-room
overwrite_number-requires-clause-room c =
    omega (
      arith,
      c.requires.within,
      length-planned c.args.source.now c.args.self.now c.requires.sound.within,
    )

pub overwrite_number-requires-clause-fits : goal.overwrite_number-requires-clause-fits
overwrite_number-requires-clause-fits c =
    omega (
      arith,
      c.requires.fits,
      length-planned c.args.source.now c.args.self.now c.requires.sound.within,
    )

pub overflow_add-behind : goal.overflow_add-behind
overflow_add-behind c =
    omega (
      arith,
      c.requires.fits,
      length-planned c.args.source.now c.args.self.now c.requires.sound.within,
    )

pub overwrite_number-requires-2-clause-room : goal.overwrite_number-requires-2-clause-room
overwrite_number-requires-2-clause-room c =
    omega (
      arith,
      c.requires.within,
      c.overwrite_number.auto.dst,
      length-planned c.args.source.now c.args.self.now c.requires.sound.within,
    )

pub overwrite_number-requires-2-clause-fits : goal.overwrite_number-requires-2-clause-fits
overwrite_number-requires-2-clause-fits c =
    omega (
      arith,
      c.requires.fits,
      length-planned c.args.source.now c.args.self.now c.requires.sound.within,
    )

pub overflow_add-last : goal.overflow_add-last
overflow_add-last c =
    omega (
      arith,
      c.requires.fits,
      length-planned c.args.source.now c.args.self.now c.requires.sound.within,
    )

pub overwrite_bitslice-requires-clause-room : goal.overwrite_bitslice-requires-clause-room
overwrite_bitslice-requires-clause-room c =
    omega (
      arith,
      c.requires.within,
      c.overwrite_number.auto.dst,
      c.overwrite_number-2.auto.dst,
      ap (λ v. v.len) c.in-Some.ensures.some,
      length-planned c.args.source.now c.args.self.now c.requires.sound.within,
    )

pub overwrite_bitslice-requires-clause-fits : goal.overwrite_bitslice-requires-clause-fits
overwrite_bitslice-requires-clause-fits c =
    omega (
      arith,
      c.requires.fits,
      ap (λ v. v.len) c.in-Some.ensures.some,
      length-planned c.args.source.now c.args.self.now c.requires.sound.within,
    )

pub overflow_add-result : goal.overflow_add-result
overflow_add-result c =
    omega (
      arith,
      c.requires.fits,
      length-planned c.args.source.now c.args.self.now c.requires.sound.within,
    )

pub returns-clause-end : goal.returns-clause-end
returns-clause-end c =
    omega (
      arith,
      length-planned c.args.source.now c.args.self.now c.requires.sound.within,
    )

pub returns-clause-written : goal.returns-clause-written
returns-clause-written c =
    put_all c.args.source.now c.args.self.now c.args.at _ _ (bits c.args.target.now) (bits c.overwrite_number.new.dst)
    (bits c.overwrite_number-2.new.dst) (bits c.overwrite_bitslice.new.dst)
    (omega (
      arith,
      c.requires.within,
      length-bits c.args.target.now,
      length-planned c.args.source.now c.args.self.now c.requires.sound.within,
    ))
    refl refl
    (c.overwrite_number.ensures.bits
    ∙ ap (λ (k : ℕ). overwritten (bits c.args.target.now) c.args.at (digits k c.args.self.now.lead)) c.from.ensures)
    c.overwrite_number-2.ensures.bits
    (c.overwrite_bitslice.ensures.bits
    ∙ ap (overwritten (bits c.overwrite_number-2.new.dst) (c.args.at + c.args.self.now.lead + c.args.self.now.width))
    (view_cut (view_of c.in-Some.view) c.args.source.now c.args.self.now.first c.args.self.now.length
    c.in-Some.ensures.some))
