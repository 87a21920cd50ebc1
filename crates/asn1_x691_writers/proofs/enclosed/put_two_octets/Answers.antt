use Rattle.std.proofs.Common.{◌+◌, ◌/◌, arith}
use Rattle.asn1_bits.specs.Bits.{digits}
use Rattle.asn1_bits.specs.Laws.DigitLaws.{length-digits}
use Rattle.asn1_x691_writers.specs.EnclosedSteps.{moved_short, moved_grown}
use Rattle.asn1_x691_writers.proofs.enclosed.put_two_octets.Goals as goal

pub returns-then-end-octets-clause-grown : goal.returns-then-end-octets-clause-grown
returns-then-end-octets-clause-grown c was contents size g =
    let two = digits (32768 + c.args.count) 16 in
    moved_short was c.args.octets.now c.args.octets.now c.args.at c.args.count two contents c.requires.start size
    (length-digits (32768 + c.args.count) 16) c.if-end-octets.true

pub returns-clause-grown : goal.returns-clause-grown
returns-clause-grown c was contents size g =
    let two = digits (32768 + c.args.count) 16 in
    let m = c.args.count + (c.args.at + 7) / 8 in
    let moved = c.move_octets.new.octets in
    let now = c.overwrite_number.new.dst in
    moved_grown was c.args.octets.now now c.args.at c.args.count two contents c.requires.start size (length-digits (32768 + c.args.count) 16)
    moved m (omega arith) (omega (arith, c.move_octets.auto.octets, c.overwrite_number.auto.dst)) c.move_octets.ensures.first
    c.move_octets.ensures.moved c.overwrite_number.ensures.bits g
