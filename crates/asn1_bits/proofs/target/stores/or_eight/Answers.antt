use Rattle.std.proofs.Common.{take, drop, sym, arith}
use Rattle.std.proofs.lemmas.List.{length-take}
use Rattle.asn1_bits.specs.Bits.{bits}
use Rattle.asn1_bits.specs.Laws.DigitLaws.{length-bits}
use Rattle.asn1_bits.proofs.EightLemmas.{words-or, eight-ored}
use Rattle.asn1_bits.proofs.target.stores.or_eight.Goals as goal

pub returns : goal.returns
returns c =
    let octets = take 8 (drop c.args.at c.args.src.now) in
    eight-ored c.args.dst.now c.store_octets.new.dst c.to_ne_bytes.result (bits octets) c.args.first c.store_octets.ensures
    c.requires.room
    (omega (arith, length-bits octets, length-take 8 (drop c.args.at c.args.src.now)))
    (words-or (take 8 (drop c.args.first c.args.dst.now)) octets c.to_ne_bytes.result c.load_native.result
    c.load_native-2.result (sym c.load_native.ensures) (sym c.load_native-2.ensures) c.to_ne_bytes.ensures)
