use Rattle.std.proofs.Common.{refl}
use Rattle.asn1_bits.specs.Bits.{digits}
use Rattle.asn1_x691_writers.specs.SetSteps.{set_past, set_inside}
use Rattle.asn1_x691_writers.proofs.reserves.set_bit.Goals as goal

pub returns-then-at-octets : goal.returns-then-at-octets
returns-then-at-octets c was old new xs ys b index g =
    set_past was c.args.octets.now c.args.octets.now old c.args.at new xs ys b c.requires refl index g c.if-at-octets.true refl

pub returns : goal.returns
unfolding digits
returns c was old new xs ys b index g =
    set_inside was c.args.octets.now c.overwrite_number.new.dst old c.args.at new xs ys b c.requires c.overwrite_number.auto.dst index g
    c.overwrite_number.ensures.bits
