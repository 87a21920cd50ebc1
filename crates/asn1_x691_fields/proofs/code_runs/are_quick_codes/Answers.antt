use Rattle.std.proofs.Common.{◌≤◌, ◌+◌, drop}
use Rattle.asn1_bits.specs.Bits.{bits}
use Rattle.asn1_schema.specs.CharactersOfParts.{numbers_in}
use Rattle.asn1_x691_fields.proofs.CodeLemmas.{all_codes}
use Rattle.asn1_x691_fields.proofs.code_runs.are_quick_codes.Goals as goal

pub returns-in-Some : goal.returns-in-Some
returns-in-Some c e =
    let a = c.args.alphabet.now in
    let v = c.in-Some.interval in
    all_codes a (λ n. (v.least ≤ n) × (n ≤ v.least + v.range)) (λ i h. c.in-Some.ensures.codes i h.0 h.1)
    (numbers_in a.width c.args.count (drop c.args.at (bits c.args.octets.now))) (c.are_in.ensures.0 e)
