use Rattle.asn1_bits.specs.Bits.{bits}
use Rattle.asn1_bits.proofs.WindowLemmas.{ored-no_digits}
use Rattle.asn1_bits.proofs.window.put_few.Goals as goal

pub returns-then-width-eq0 : goal.returns-then-width-eq0
returns-then-width-eq0 c =
    rw c.if-width-eq0.true (ored-no_digits (bits c.args.dst.now) c.args.position c.args.word)
