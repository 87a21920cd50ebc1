use Rattle.std.proofs.Common.{◌<◌, ◌∙◌, sym, drop, arith}
use Rattle.asn1_bits.specs.Bits.{bits}
use Rattle.asn1_c.proofs.OctetLemmas.{length-octets_of, octet_of_place}
use Rattle.asn1_c.proofs.octets_at.OctetsAtOctetSource.octet.Goals as goal

pub overflow_mul-i : goal.overflow_mul-i
overflow_mul-i c =
    let s = c.args.self.now in
    omega (arith, c.requires, length-octets_of s.count (drop s.first (bits s.octets.now)), s.few, s.within)

pub overflow_add-self : goal.overflow_add-self
overflow_add-self c =
    let s = c.args.self.now in
    omega (arith, c.requires, length-octets_of s.count (drop s.first (bits s.octets.now)), s.few, s.within)

pub octet_at-requires : goal.octet_at-requires
octet_at-requires c =
    let s = c.args.self.now in
    omega (arith, c.requires, length-octets_of s.count (drop s.first (bits s.octets.now)), s.within)

pub returns : goal.returns
returns c =
    let s = c.args.self.now in
    let lt : c.args.i < s.count = omega (arith, c.requires, length-octets_of s.count (drop s.first (bits s.octets.now))) in
    c.octet_at.ensures ∙ sym (octet_of_place s.octets.now s.first s.count s.within c.args.i lt)
