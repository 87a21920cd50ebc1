use Rattle.std.proofs.Common.{◌≡◌, ◌≤◌, ◌+◌, ◌*◌, drop}
use Rattle.std.specs.List.{AllByRecursion}
use Rattle.asn1_bits.specs.Bits.{bits}
use Rattle.asn1_schema.specs.CharactersOfParts.{numbers_in}
use Rattle.asn1_x691_fields.proofs.code_words.are_in.Given as goal

abbrev pub invariant-loop-left : goal.invariant-loop-left
invariant-loop-left l = record {
  index : l.next + l.width * l.left ≡ l.at + l.width * l.count;
  others : AllByRecursion (λ n. (l.interval.least ≤ n) × (n ≤ l.interval.least + l.interval.range)) (numbers_in l.width l.left (drop l.next (bits l.octets)))
      → AllByRecursion (λ n. (l.interval.least ≤ n) × (n ≤ l.interval.least + l.interval.range)) (numbers_in l.width l.count (drop l.at (bits l.octets)));
  not_before : AllByRecursion (λ n. (l.interval.least ≤ n) × (n ≤ l.interval.least + l.interval.range)) (numbers_in l.width l.count (drop l.at (bits l.octets)))
      → AllByRecursion (λ n. (l.interval.least ≤ n) × (n ≤ l.interval.least + l.interval.range)) (numbers_in l.width l.left (drop l.next (bits l.octets)));
}

abbrev pub decreases-loop-left : goal.decreases-loop-left
decreases-loop-left l = l.left
