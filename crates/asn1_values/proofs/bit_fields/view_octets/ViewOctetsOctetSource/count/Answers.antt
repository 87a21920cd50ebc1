use Rattle.std.proofs.Common.{◌/◌, sym, arith}
use Rattle.asn1_bits.specs.BitStr.{view_of, bits_of}
use Rattle.asn1_bits.specs.Laws.ViewLaws.{length-list_of}
use Rattle.asn1_values.proofs.OctetLemmas.{length-octets_of, octets-octets_of}
use Rattle.asn1_values.proofs.bit_fields.view_octets.ViewOctetsOctetSource.count.Goals as goal

pub returns-clause-count : goal.returns-clause-count
returns-clause-count c =
    let b = c.args.self.now.bits in
    rw c.len.ensures.len (sym (length-octets_of ((view_of b).len / 8) (bits_of b)))

pub returns-clause-octets : goal.returns-clause-octets
returns-clause-octets c =
    let b = c.args.self.now.bits in
    octets-octets_of ((view_of b).len / 8) (bits_of b) (omega (arith, length-list_of (view_of b) b.within))
