use Rattle.std.proofs.Common.{length, arith, ap, sym, ◌∙◌}
use Rattle.asn1_bits.specs.BitStr.{bits_of}
use Rattle.asn1_bits.specs.Bits.{number}
use Rattle.asn1_strings.specs.Laws.PieceLaws.{piece_within}
use Rattle.asn1_strings.proofs.PieceLemmas.{get_or-pieces, length-numbers}
use Rattle.asn1_strings.proofs.pieces.BitPieces.character.Goals as goal

pub overflow_mul-i : goal.overflow_mul-i
overflow_mul-i c =
    let bits = bits_of c.args.self.now.bits in
    let within = rw (length-numbers number c.args.self.now.width bits) at c.requires in
    let room = piece_within c.args.self.now.width (length bits) c.args.i within in
    omega (arith, c.len-len.ensures.list)

pub slice-piece-requires : goal.slice-piece-requires
slice-piece-requires c =
    let bits = bits_of c.args.self.now.bits in
    let within = rw (length-numbers number c.args.self.now.width bits) at c.requires in
    let room = piece_within c.args.self.now.width (length bits) c.args.i within in
    omega (arith, c.len-len.ensures.list, c.len-len.ensures.len)

pub returns : goal.returns
returns c =
    let bits = bits_of c.args.self.now.bits in
    let within = rw (length-numbers number c.args.self.now.width bits) at c.requires in
    c.read_u128.ensures.number ∙ ap number c.slice-piece.ensures.list
    ∙ sym (get_or-pieces number c.args.self.now.width bits c.args.i within)
