use Rattle.std.proofs.Common.{sym, drop}
use Rattle.asn1_bits.specs.Bits.{bits}
use Rattle.asn1_c.proofs.OctetLemmas.{length-octets_of, are_octets_at}
use Rattle.asn1_c.proofs.octets_at.OctetsAtOctetSource.count.Goals as goal

pub returns-clause-count : goal.returns-clause-count
returns-clause-count c =
    let s = c.args.self.now in
    sym (length-octets_of s.count (drop s.first (bits s.octets.now)))

pub returns-clause-octets : goal.returns-clause-octets
returns-clause-octets c =
    let s = c.args.self.now in
    are_octets_at s.octets.now s.first s.count s.within
