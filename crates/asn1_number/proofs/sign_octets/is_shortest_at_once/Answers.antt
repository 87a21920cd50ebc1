use Rattle.std.proofs.Common.{rules, arith, ℕ, ◌<◌, ◌+◌, ◌%◌, get_or, ap, ⊎_elim}
use Rattle.asn1_number.specs.Laws.OctetLaws.{octets_from_places, nine_bits_by_places, shortest_from_nine_bits}
use Rattle.asn1_number.proofs.sign_octets.is_shortest_at_once.Goals as goal

pub returns-else-octets-eq1 : goal.returns-else-octets-eq1
returns-else-octets-eq1 c = λ yes.
    let o = c.args.octets.now in
    let plain : 1 < (get_or o 0 0 + 1) % 256 = search rules in
    shortest_from_nine_bits o (octets_from_places o (λ i. omega (arith, c.type_inv.octets i)))
    (nine_bits_by_places o c.requires
    (λ _ r. ⊎_elim (λ zero. omega (arith, plain, ap (λ (k : ℕ). (k + 1) % 256) zero.0))
    (λ ones. omega (arith, plain, ap (λ (k : ℕ). (k + 1) % 256) ones.0)) r))
