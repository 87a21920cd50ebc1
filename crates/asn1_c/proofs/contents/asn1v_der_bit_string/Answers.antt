use Rattle.std.proofs.Common.{Bool, List, [], subst, rules, arith}
use Rattle.std.specs.Bool.{⊤}
use Rattle.asn1_schema.specs.Pieces.{Bits}
use Rattle.asn1_x690.specs.Leaves.{IsBitString}
use Rattle.asn1_c.proofs.ContentLemmas.{are_octets, all_bits, nothing_told, tells}
use Rattle.asn1_c.proofs.contents.asn1v_der_bit_string.Goals as goal

pub bit_string-requires-clause-contents : goal.bit_string-requires-clause-contents
bit_string-requires-clause-contents c = are_octets c.args.octets.now c.whole.result c.whole.ensures.at c.whole.ensures.count

pub returns-in_default-clause-invalid : goal.returns-in_default-clause-invalid
returns-in_default-clause-invalid c = λ _.
    nothing_told IsBitString (λ x. ⊤ × ⊤) Bits c.args.octets.now c.whole.result c.in_default.field-0 c.whole.ensures.at
    c.whole.ensures.count (λ x. (tt, tt)) (c.in_default.ensures [])

pub overflow_sub-count : goal.overflow_sub-count
overflow_sub-count c =
    let x = c.in-Ok.ensures [] in
    (tells c.args.octets.now x.0 (λ i. (c.type_inv.octets i).fits)
    (subst (λ (l : List Bool). IsBitString x.0 l) (all_bits c.args.octets.now c.whole.result c.whole.ensures.at c.whole.ensures.count) x.1)).some

pub bounds-octets-0 : goal.bounds-octets-0
bounds-octets-0 c =
    let x = c.in-Ok.ensures [] in
    let some = (tells c.args.octets.now x.0 (λ i. (c.type_inv.octets i).fits)
    (subst (λ (l : List Bool). IsBitString x.0 l) (all_bits c.args.octets.now c.whole.result c.whole.ensures.at c.whole.ensures.count) x.1)).some in
    search rules

pub overflow_sub-count-2 : goal.overflow_sub-count-2
overflow_sub-count-2 c =
    let x = c.in-Ok.ensures [] in
    (tells c.args.octets.now x.0 (λ i. (c.type_inv.octets i).fits)
    (subst (λ (l : List Bool). IsBitString x.0 l) (all_bits c.args.octets.now c.whole.result c.whole.ensures.at c.whole.ensures.count) x.1)).few

pub returns-clause-read : goal.returns-clause-read
returns-clause-read c = λ _.
    let x = c.in-Ok.ensures [] in
    (tells c.args.octets.now x.0 (λ i. (c.type_inv.octets i).fits)
    (subst (λ (l : List Bool). IsBitString x.0 l) (all_bits c.args.octets.now c.whole.result c.whole.ensures.at c.whole.ensures.count) x.1)).is

pub returns-clause-within : goal.returns-clause-within
returns-clause-within c = λ _.
    let x = c.in-Ok.ensures [] in
    let some = (tells c.args.octets.now x.0 (λ i. (c.type_inv.octets i).fits)
    (subst (λ (l : List Bool). IsBitString x.0 l) (all_bits c.args.octets.now c.whole.result c.whole.ensures.at c.whole.ensures.count) x.1)).some in
    omega arith
