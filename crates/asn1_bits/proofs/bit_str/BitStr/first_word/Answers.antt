use Rattle.std.proofs.Common.{◌+◌, ◌*◌, drop, sym, ap, ◌∙◌}
use Rattle.std.proofs.lemmas.List.{take-take}
use Rattle.asn1_bits.specs.Bits.{bits, number}
use Rattle.asn1_bits.specs.View.{list_of}
use Rattle.asn1_bits.proofs.bit_str.BitStr.first_word.Goals as goal

pub returns : goal.returns
unfolding list_of
returns c =
    let b = c.args.self.now in
    c.read_64.ensures
    ∙ ap number (sym (take-take 64 b.len (drop (8 * b.octet + b.shift) (bits b.storage.now)) c.requires))
