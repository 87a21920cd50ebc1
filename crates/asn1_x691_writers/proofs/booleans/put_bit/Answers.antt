use Rattle.std.proofs.Common.{Bool, true, false, sym, subst}
use Rattle.asn1_bits.specs.Bits.{digits}
use Rattle.asn1_schema.specs.Encodings.{anywhere}
use Rattle.asn1_x691.specs.Strings.{bit}
use Rattle.asn1_x691_writers.specs.Written.{IsWritten}
use Rattle.asn1_x691_writers.specs.LeafSteps.{bit_is}
use Rattle.asn1_x691_writers.proofs.booleans.put_bit.Goals as goal

pub returns-then-is_one : goal.returns-then-is_one
unfolding digits
returns-then-is_one c aligned node =
    subst (λ (b : Bool). IsWritten aligned (anywhere (bit node)) b c.args.octets.now c.args.at c.put_number.new.octets c.put_number.result)
    (sym c.if-is_one.true)
    (bit_is aligned node true c.args.octets.now c.put_number.new.octets c.args.at c.put_number.result c.put_number.ensures)

pub returns : goal.returns
unfolding digits
returns c aligned node =
    subst (λ (b : Bool). IsWritten aligned (anywhere (bit node)) b c.args.octets.now c.args.at c.put_number-2.new.octets c.put_number-2.result)
    (sym c.if-is_one.false)
    (bit_is aligned node false c.args.octets.now c.put_number-2.new.octets c.args.at c.put_number-2.result c.put_number-2.ensures)
