-- The laws of `specs/StatedLaws`, and each of them in the form that a proof cites.
use Rattle.asn1_number.specs.Octets.{signed}
use Rattle.asn1_number.specs.Shortest.{shortest_octets}
use Rattle.asn1_number.specs.Readings.{SignedOf, UnsignedOf, Unbounded}
use Rattle.asn1_number.specs.StatedLaws.{EachNumberHasOneShortestList, ComputedAreShortest, ShortestByNineBits, ShortestKeepOrder, ShortestAreReadBack}
use Rattle.asn1_number.specs.Laws.OctetLaws.{nine_bits_from_shortest, shortest_from_nine_bits}
use Rattle.asn1_number.specs.Laws.OctetOrderLaws.{shortest_order}
use Rattle.asn1_number.specs.Laws.ShortestLaws.{shortest_octets_are, shortest_octets_only}
use Rattle.asn1_number.specs.Laws.ReadingLaws.{signed_law, unsigned_law, unbounded_law}

pub one_shortest_list : EachNumberHasOneShortestList
one_shortest_list n = (shortest_octets n, shortest_octets_are n, λ other s. shortest_octets_only n other s)

pub computed_are_shortest : ComputedAreShortest
computed_are_shortest n = shortest_octets_are n

pub shortest_by_nine_bits : ShortestByNineBits
shortest_by_nine_bits o octets some =
    (λ s. nine_bits_from_shortest (signed o) o s, λ d. shortest_from_nine_bits o octets d)

pub shortest_keep_order : ShortestKeepOrder
shortest_keep_order m n a b s t = shortest_order m n a b s t

pub shortest_are_read_back : ShortestAreReadBack
shortest_are_read_back (SignedOf size) n o sized r s = signed_law size n o sized r s
shortest_are_read_back (UnsignedOf size) n o sized r s = unsigned_law size n o sized r s
shortest_are_read_back Unbounded n o sized r s = unbounded_law n o s
