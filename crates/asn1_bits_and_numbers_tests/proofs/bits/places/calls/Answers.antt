use Rattle.std.proofs.Common.{ℕ, ap, arith}
use Rattle.std.proofs.lemmas.List.{length-replicate}
use Rattle.asn1_bits.specs.View.{View}
use Rattle.asn1_bits.specs.Laws.DigitLaws.{length-bits}
use Rattle.asn1_bits_and_numbers_tests.proofs.bits.places.calls.Goals as goal

pub place_bits-requires-clause-within : goal.place_bits-requires-clause-within
place_bits-requires-clause-within c =
    omega (arith, length-bits, length-replicate {A = ℕ}, ap (λ (v : View). v.len) c.split_at.ensures.front)
