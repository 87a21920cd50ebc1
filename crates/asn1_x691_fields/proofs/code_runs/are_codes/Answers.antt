use Rattle.std.proofs.Common.{◌≤◌, ◌+◌, drop}
use Rattle.asn1_bits.specs.Bits.{bits}
use Rattle.asn1_schema.specs.CharactersOfParts.{numbers_in}
use Rattle.asn1_x691_fields.proofs.CodeLemmas.{all_codes, codes_all}
use Rattle.asn1_x691_fields.proofs.code_runs.are_codes.Goals as goal

pub returns-in-Some-clause-yes : goal.returns-in-Some-clause-yes
returns-in-Some-clause-yes c e =
    let a = c.args.alphabet.now in
    let v = c.in-Some.interval in
    all_codes a (λ n. (v.least ≤ n) × (n ≤ v.least + v.range)) (λ i h. c.in-Some.ensures.codes i h.0 h.1)
    (numbers_in a.width c.args.count (drop c.args.at (bits c.args.octets.now))) (c.are_in.ensures.0 e)

pub returns-in-Some-clause-no : goal.returns-in-Some-clause-no
returns-in-Some-clause-no c e p =
    let a = c.args.alphabet.now in
    let v = c.in-Some.interval in
    let all = codes_all a (λ n. (v.least ≤ n) × (n ≤ v.least + v.range)) (λ i d h. c.in-Some.ensures.no_others i d h)
    (numbers_in a.width c.args.count (drop c.args.at (bits c.args.octets.now))) p in
    let is = c.are_in.ensures.1 all in
    cc (is, e)
