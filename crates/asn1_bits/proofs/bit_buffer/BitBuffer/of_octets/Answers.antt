use Rattle.std.proofs.Common.{◌≡◌, ℕ, ◌*◌, List, length, sym, arith}
use Rattle.std.proofs.lemmas.List.{append-nil}
use Rattle.asn1_bits.specs.Bits.{bits}
use Rattle.asn1_bits.specs.BitBuffer.{bits_shown, IsFilled}
use Rattle.asn1_bits.specs.Laws.DigitLaws.{length-bits}
use Rattle.asn1_bits.proofs.BufferLemmas.{filled_by}
use Rattle.asn1_bits.proofs.bit_buffer.BitBuffer.of_octets.Goals as goal

filled : (octets : List ℕ) (len : ℕ) → len ≡ length octets * 8 → IsFilled octets len
    × (bits_shown octets len ≡ bits octets)
filled octets len e =
    filled_by octets len (bits octets) 0 (sym (append-nil (bits octets))) (omega (arith, length-bits octets))
    (omega arith) (omega arith)

pub invariant_of-result : goal.invariant_of-result
invariant_of-result c = let v =
    c.args.bytes in (filled v.items (c.len-len.result * 8) (omega (arith, c.len-len.ensures, v.ok.0))).0

pub returns : goal.returns
returns c = let v = c.args.bytes in (filled v.items (c.len-len.result * 8) (omega (arith, c.len-len.ensures, v.ok.0))).1
