use Rattle.std.proofs.Common.{Bool, false, List, length, replicate, sym, ap, ◌∙◌, arith}
use Rattle.std.proofs.lemmas.List.{length-append, length-replicate}
use Rattle.asn1_bits.specs.Bits.{ored}
use Rattle.asn1_bits.specs.BitStr.{bits_of}
use Rattle.asn1_bits.proofs.OredLemmas.{length-ored, ored-onto}
use Rattle.asn1_bits.proofs.bit_buffer.BitBuffer.extend_from_bitslice.Goals as goal

pub returns-clause-ok : goal.returns-clause-ok
returns-clause-ok c =
    let src = bits_of c.args.src in
    ored-onto c.args.self.now c.write_at.new.self src c.len-position.result c.len.result
    (c.write_at.ensures.list ∙ ap (λ (l : List Bool). ored l c.len-position.result src) c.in_ok-grow.ensures.ok)
    c.len-position.ensures (sym c.len.ensures.list)

pub returns-clause-len : goal.returns-clause-len
returns-clause-len c =
    let zeros = replicate c.len.result false in
    let after = ap (λ (l : List Bool). length l) c.write_at.ensures.list in
    let grown = ap (λ (l : List Bool). length l) c.in_ok-grow.ensures.ok in
    omega (
      arith,
      after,
      grown,
      c.len.ensures.len,
      length-ored c.grow.new.self c.len-position.result
          (bits_of c.args.src),
      length-append c.args.self.now zeros,
      length-replicate c.len.result false,
    )
