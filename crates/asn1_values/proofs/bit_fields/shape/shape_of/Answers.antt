use Rattle.std.proofs.Common.{length, sym}
use Rattle.asn1_number.specs.Laws.LawsHold.{one_shortest_list}
use Rattle.asn1_alphabets.specs.AlphabetView.{alphabet_of}
use Rattle.asn1_values.specs.Fields.{OfNumber, OfOctets, OfInteger, OfCharacter, OfIdentifier}
use Rattle.asn1_values.proofs.OneSpelling.{length-spelled}
use Rattle.asn1_values.proofs.bit_fields.shape.shape_of.Goals as goal

pub returns-in-Number-clause-need : goal.returns-in-Number-clause-need
returns-in-Number-clause-need c = length-spelled (OfNumber c.in-Number.width)

pub returns-in-Octets-clause-need : goal.returns-in-Octets-clause-need
returns-in-Octets-clause-need c = length-spelled (OfOctets (length c.as_ref.result.now))

pub returns-in-Integer-clause-shape : goal.returns-in-Integer-clause-shape
returns-in-Integer-clause-shape c =
    let one = one_shortest_list c.in-Integer.number in
    rw c.in-Integer.is (one.0, one.1, sym (c.signed_len.ensures one.0 one.1))

pub returns-in-Integer-clause-need : goal.returns-in-Integer-clause-need
returns-in-Integer-clause-need c = length-spelled (OfInteger c.signed_len.result)

pub returns-in-Character-clause-need : goal.returns-in-Character-clause-need
returns-in-Character-clause-need c = length-spelled (OfCharacter (alphabet_of c.in-Character.alphabet))

pub returns-in-Oid-clause-need : goal.returns-in-Oid-clause-need
returns-in-Oid-clause-need c = length-spelled (OfIdentifier c.unwrap_or.result)
