use Rattle.std.proofs.Common.{◌+◌, ◌-◌, ◌*◌, ◌/◌, ◌%◌, ap, ◌∙◌, arith}
use Rattle.asn1_bits.specs.Bits.{bits, ored}
use Rattle.asn1_bits.specs.BitStr.{view_of}
use Rattle.asn1_bits.specs.Laws.ViewLaws.{list_of-run}
use Rattle.asn1_bits.proofs.bit_str.BitStr.or_words.Goals as goal

pub returns-then-low-eq0-clause-bits : goal.returns-then-low-eq0-clause-bits
returns-then-low-eq0-clause-bits c =
    let b = c.args.self.now in
    let at = 64 - c.args.spill in
    let octet = b.octet + (b.shift + 8 - c.args.spill) / 8 + 7 in
    c.or_words.ensures.bits
    ∙ ap (ored (bits c.args.dst.now.octets.now) (8 * c.args.first))
    (list_of-run (view_of b) at octet 0 (64 * c.args.count) c.from_octet-src.result.now c.from_octet-src.ensures
    (omega (arith, c.if-low-eq0.true, c.requires.spill)) c.requires.within)

pub returns-else-low-eq0-clause-bits : goal.returns-else-low-eq0-clause-bits
returns-else-low-eq0-clause-bits c =
    let b = c.args.self.now in
    let at = 64 - c.args.spill in
    let low = b.shift + 8 - c.args.spill in
    let octet = b.octet + low / 8 in
    c.or_shifted_words.ensures.bits
    ∙ ap (ored (bits c.args.dst.now.octets.now) (8 * c.args.first))
    (list_of-run (view_of b) at octet (56 + low % 8) (64 * c.args.count) c.from_octet-src-else-low-eq0.result.now
    c.from_octet-src-else-low-eq0.ensures (omega (arith, c.requires.spill)) c.requires.within)
