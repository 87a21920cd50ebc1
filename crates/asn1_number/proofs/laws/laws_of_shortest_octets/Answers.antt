use Rattle.asn1_number.specs.Laws.LawsHold.{one_shortest_list, computed_are_shortest, shortest_by_nine_bits, shortest_keep_order, shortest_are_read_back}
use Rattle.asn1_number.proofs.laws.laws_of_shortest_octets.Goals as goal

pub returns : goal.returns
returns c = record {
  one_list = one_shortest_list;
  computed = computed_are_shortest;
  nine_bits = shortest_by_nine_bits;
  order = shortest_keep_order;
  read_back = shortest_are_read_back;
}
