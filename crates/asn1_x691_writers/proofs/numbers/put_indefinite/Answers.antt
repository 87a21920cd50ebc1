use Rattle.std.proofs.Common.{◌≡◌, ℕ, ◌+◌, ◌-◌, ◌/◌, ◌^◌, ◌<◌, ◌≤◌, true, inl, refl, sym, ap, ◌∙◌, subst, arith}
use Rattle.asn1_schema.specs.Encodings.{anywhere, constant}
use Rattle.asn1_x691.specs.Fields.{on_octet, width_to, octets_needed, in_bits, octet_count, minimal_octets, minimal_up_to, up_to}
use Rattle.asn1_x691_writers.specs.Written.{IsWritten}
use Rattle.asn1_x691_writers.specs.FieldSteps.{turn_written, then_constant, octet_written}
use Rattle.asn1_x691_writers.proofs.WidthLemmas.{width_enough}
use Rattle.asn1_x691_writers.proofs.numbers.put_indefinite.Goals as goal

pub put_in_bits-after-requires-clause-below : goal.put_in_bits-after-requires-clause-below
put_in_bits-after-requires-clause-below c =
    let few = c.octets_of-count.ensures.fewest c.args.range c.requires.most in
    let greatest = c.saturating_sub-greatest.result / 8 in
    let le : c.octets_of-count.result - 1 ≤ greatest = omega (arith, few, c.saturating_sub-greatest.ensures, c.width_to.ensures.value) in
    subst (λ (w : ℕ). c.octets_of-count.result - 1 < 2 ^ w) (sym c.width_to-2.ensures.value) (width_enough _ greatest le)

pub returns : goal.returns
returns c node =
    let range = c.args.range in
    let n = c.args.n in
    let count = c.octets_of-count.result in
    let was = c.args.octets.now in
    let mid = c.put_in_bits-after.new.octets in
    let next = c.put_start-start.new.octets in
    let now = c.put_minimal.new.octets in
    let new = c.put_minimal.result in
    let most = octets_needed (width_to range) in
    let few = c.octets_of-count.ensures.fewest range c.requires.most in
    let e : c.saturating_sub-greatest.result / 8 ≡ most - 1 = omega (arith, c.saturating_sub-greatest.ensures, c.width_to.ensures.value) in
    let le : count - 1 ≤ most - 1 = omega (arith, few) in
    let first = subst (λ (w : ℕ). IsWritten true (anywhere (in_bits w (most - 1) node)) (count - 1) was c.args.at mid c.put_in_bits-after.result)
    (c.width_to-2.ensures.value ∙ ap width_to e) (c.put_in_bits-after.ensures true (most - 1) node le) in
    let counted : IsWritten true (anywhere (octet_count most node)) count was c.args.at mid c.put_in_bits-after.result =
    then_constant true was mid c.args.at c.put_in_bits-after.result (in_bits (width_to (most - 1)) (most - 1) node) (λ d m. m)
    (λ d. constant (d + 1)) (count - 1) count first (omega (arith, c.octets_of-count.ensures.some), refl) in
    let number : IsWritten true (anywhere (minimal_up_to count range node)) n next c.put_start-start.result now new =
    then_constant true next now c.put_start-start.result new (minimal_octets count node) (λ d m. m) (λ d. up_to range node d) n n
    (c.put_minimal.ensures true node) (inl (c.requires.most, (refl, refl))) in
    turn_written true (anywhere (octet_count most node)) (λ octets m. m) (λ octets. on_octet true node (minimal_up_to octets range node))
    count n was mid now c.args.at c.put_in_bits-after.result new counted
    (octet_written node (minimal_up_to count range node) n mid next now c.put_in_bits-after.result c.put_start-start.result new true
    c.put_start-start.ensures number)
