use Rattle.std.proofs.Common.{◌≡◌, ◌+◌, ◌*◌, ◌/◌, length, arith, ap, ◌∙◌}
use Rattle.std.proofs.lemmas.Int.{ints}
use Rattle.std.specs.Int.Count.{count_leading_zeros}
use lib.Signed.{mag}
use borrow.Author.Differences.{mag_is}
use Rattle.asn1_number.specs.Shortest.{shortest_octets}
use Rattle.asn1_number.specs.Laws.OctetLaws.{one_part}
use Rattle.asn1_number.proofs.SpellingLemmas.{spare_octets}
use Rattle.asn1_number.proofs.values.spare_of_eight.Goals.{then-number-lt0, else-number-lt0}
use Rattle.asn1_number.proofs.values.spare_of_eight.Goals as goal

pub returns : goal.returns
returns c =
    let m : c.cast_unsigned.result ≡ mag c.args.number = elim c.if-number-lt0.branch [
      | then-number-lt0 w ↦ omega (arith, ints, mag_is c.args.number, one_part c.args.number)
      | else-number-lt0 w ↦ omega (arith, ints, mag_is c.args.number, one_part c.args.number)
    ] in
    ap (λ x. count_leading_zeros 64 (2 * x + 1) / 8 + length (shortest_octets c.args.number)) m
    ∙ spare_octets 8 c.args.number (omega (arith, ints, mag_is c.args.number))
