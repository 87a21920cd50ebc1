use Rattle.std.proofs.Common.{Bool, true, List, set, sym, ap, ◌∙◌, arith}
use Rattle.asn1_bits.proofs.BufferLemmas.{set-zeros}
use Rattle.asn1_bits.proofs.bit_buffer.BitBuffer.resize.Goals as goal

pub loop-index-preserved : goal.loop-index-preserved
loop-index-preserved c =
    c.set.ensures
    ∙ ap (λ (l : List Bool). set l c.loop-index.index true) c.loop-index.invariant
    ∙ set-zeros c.args.self.now c.len-position.result c.loop-index.index c.args.new_len (sym c.len-position.ensures)
    (omega arith) (omega arith)
