use Rattle.std.proofs.Common.{ℕ, ◌*◌, ◌≤◌, length, subst, arith}
use Rattle.asn1_bits.specs.Bits.{bits, digits}
use Rattle.asn1_bits.specs.Laws.DigitLaws.{length-bits, length-digits}
use Rattle.asn1_number.specs.Laws.LawsHold.{one_shortest_list}
use Rattle.asn1_values.specs.Steps.{WritesOver}
use Rattle.asn1_values.proofs.OverLemmas.{over_same, counted_reached, counted_over}
use Rattle.asn1_values.proofs.bit_fields.counted_integer.overwrite.Goals as goal

pub overwrite_digits-next-requires : goal.overwrite_digits-next-requires
overwrite_digits-next-requires c =
    let one = one_shortest_list c.args.number.now in
    let r =
    (counted_reached c.args.number.now one.0 (8 * length c.args.target.now) c.args.position one.1 c.requires.fits
    c.requires.within).1 in
    record { few = omega arith; within = (omega (arith, r.0), omega (arith, r.1)) }

pub overwrite_shortest-requires : goal.overwrite_shortest-requires
overwrite_shortest-requires c = λ octets s.
    let r =
    (counted_reached c.args.number.now octets (8 * length c.args.target.now) c.args.position s c.requires.fits
    c.requires.within).1 in
    let first = c.overwrite_digits-next.ensures in
    let n = length-digits c.signed_len.result 8 in
    let same =
    over_same c.args.target.now c.overwrite_digits-next.new.target (digits c.signed_len.result 8) c.args.position
    c.overwrite_digits-next.result first (omega (arith, n, r.0)) in
    (omega (arith, r.0, n, same, first.end), omega (arith, r.1, n, first.end))

pub returns : goal.returns
returns c =
    let n = c.args.number.now in
    let old = bits c.args.target.now in
    let place = c.args.position in
    let now = bits c.overwrite_digits-next.new.target in
    let mid = c.overwrite_digits-next.result in
    let one = one_shortest_list n in
    let p = counted_reached n one.0 (8 * length c.args.target.now) place one.1 c.requires.fits c.requires.within in
    let within : place ≤ length old = omega (arith, p.1.0, length-bits c.args.target.now) in
    counted_over n one.0 place mid c.overwrite_shortest.result old now (bits c.overwrite_shortest.new.target) one.1 p.0
    (subst (λ (k : ℕ). WritesOver (digits k 8) place old now mid) (c.signed_len.ensures one.0 one.1)
    c.overwrite_digits-next.ensures)
    (c.overwrite_shortest.ensures one.0 one.1) within
