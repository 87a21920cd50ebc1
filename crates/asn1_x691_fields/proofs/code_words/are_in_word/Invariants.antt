use Rattle.std.proofs.Common.{◌<◌, ◌≤◌, ◌+◌, ◌*◌, ◌^◌}
use Rattle.std.specs.List.{AllByRecursion}
use Rattle.asn1_bits.specs.Bits.{digits}
use Rattle.asn1_schema.specs.CharactersOfParts.{numbers_in}
use Rattle.asn1_x691_fields.proofs.code_words.are_in_word.Given as goal

abbrev pub invariant-loop-left : goal.invariant-loop-left
invariant-loop-left l = record {
  few : l.left ≤ l.count;
  below : l.word < 2 ^ (l.width * l.left);
  others : AllByRecursion (λ n. (l.interval.least ≤ n) × (n ≤ l.interval.least + l.interval.range)) (numbers_in l.width l.left (digits l.word (l.width * l.left)))
      → AllByRecursion (λ n. (l.interval.least ≤ n) × (n ≤ l.interval.least + l.interval.range)) (numbers_in l.width l.count (digits l.fn.word (l.width * l.count)));
  not_before : AllByRecursion (λ n. (l.interval.least ≤ n) × (n ≤ l.interval.least + l.interval.range)) (numbers_in l.width l.count (digits l.fn.word (l.width * l.count)))
      → AllByRecursion (λ n. (l.interval.least ≤ n) × (n ≤ l.interval.least + l.interval.range)) (numbers_in l.width l.left (digits l.word (l.width * l.left)));
}

abbrev pub decreases-loop-left : goal.decreases-loop-left
decreases-loop-left l = l.left
