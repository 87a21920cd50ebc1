use Rattle.std.proofs.Common.{rules, arith, ◌≡◌, ◌-◌, length, drop, take, get_or, refl}
use Rattle.std.proofs.lemmas.Grind.{common_steps}
use Rattle.asn1_number.specs.Laws.ReadingLaws.{spells_u128}
use Rattle.asn1_c.proofs.WideLemmas.{no_u128}
use Rattle.asn1_c.proofs.wide_integers.u128_of.Goals as goal

pub returns-in-0 : goal.returns-in-0
returns-in-0 c =
    let zero : get_or c.args.octets.now 0 0 ≡ 0 = omega arith in
    let rest : take (length c.args.octets.now - 1) (drop 1 c.args.octets.now) ≡ drop 1 c.args.octets.now =
    grind (arith, common_steps) in
    spells_u128 _ c.args.octets.now c.args.octets.now _ c.unsigned_value.result refl refl (omega arith) zero rest
    c.unsigned_value.ensures c.unsigned_value.type_inv

pub returns-in_default-2 : goal.returns-in_default-2
returns-in_default-2 c = λ r.
    let rest : length (take (length c.args.octets.now - 1) (drop 1 c.args.octets.now)) ≡ length c.args.octets.now - 1 =
    grind (arith, common_steps) in
    no_u128 _ c.args.octets.now c.requires (omega arith) (λ seventeen _. omega (arith, rest)) r

pub returns-in_default-3 : goal.returns-in_default-3
returns-in_default-3 c = λ r.
    no_u128 _ c.args.octets.now c.requires (omega arith) (λ _ zero. search rules) r
