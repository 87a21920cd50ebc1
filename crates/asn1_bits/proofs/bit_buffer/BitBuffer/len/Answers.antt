use Rattle.std.proofs.Common.{Bool, List, length, sym, ap, ◌∙◌}
use Rattle.asn1_bits.proofs.BufferLemmas.{length-bits_shown}
use Rattle.asn1_bits.proofs.bit_buffer.BitBuffer.len.Goals as goal

pub returns : goal.returns
returns c =
    let b = c.self.inside in
    sym (length-bits_shown b.bytes.items b.len c.self.invariant) ∙ ap (λ (l : List Bool). length l) c.self.view_is
