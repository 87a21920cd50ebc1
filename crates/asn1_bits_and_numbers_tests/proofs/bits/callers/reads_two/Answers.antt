use Rattle.std.proofs.Common.{Bool, List, take, drop, ap, ◌∙◌, arith}
use Rattle.std.proofs.lemmas.List.{take-take}
use Rattle.asn1_bits.specs.BitReader.{bits_left}
use Rattle.asn1_bits_and_numbers_tests.proofs.bits.callers.reads_two.Goals as goal

pub returns-clause-first : goal.returns-clause-first
returns-clause-first c =
    c.first_u128.ensures.digits
    ∙ ap (λ (l : List Bool). take 3 l) c.in_ok-first.ensures.front_list
    ∙ take-take 3 3 (bits_left c.args.reader.now) (omega arith)

pub returns-clause-second : goal.returns-clause-second
returns-clause-second c =
    let list = bits_left c.args.reader.now in
    c.first_u128-2.ensures.digits
    ∙ ap (λ (l : List Bool). take 16 l)
    (c.in_ok-second.ensures.front_list ∙ ap (λ (l : List Bool). take 16 l) c.in_ok-first.ensures.rest_list)
    ∙ take-take 16 16 (drop 3 list) (omega arith)
