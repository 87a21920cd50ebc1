use Rattle.std.proofs.Common.{◌≡◌, ℕ, ◌+◌, ◌-◌, ◌/◌, true, ap, ◌∙◌, subst}
use Rattle.asn1_bits.specs.Bits.{bits}
use Rattle.asn1_schema.specs.Encodings.{Starts, anywhere}
use Rattle.asn1_x691.specs.Fields.{on_octet, octet_count, octets_needed, width_to, minimal_up_to}
use Rattle.asn1_x691_fields.specs.Outcomes.{rest}
use Rattle.asn1_x691_fields.specs.NumberSteps.{turn_read}
use Rattle.asn1_x691_fields.proofs.numbers.next_indefinite.Goals as goal

pub returns-clause-read : goal.returns-clause-read
returns-clause-read c =
    let list = bits c.args.octets.now in
    let few : c.saturating_sub.result / 8 + 1 ≡ octets_needed (width_to c.args.range) =
    ap (λ (n : ℕ). n / 8 + 1) (c.saturating_sub.ensures ∙ ap (λ (n : ℕ). n - 1) c.width_to.ensures.value) in
    let P : ℕ → Type 0 = λ most.
    Starts (octet_count most c.args.node).encodes (rest list c.args.state.now) c.in_ok-count.count (rest list c.next_octet_count.new.state) in
    turn_read (bits c.args.octets.now) c.args.state.now c.next_octet_count.new.state c.next_counted.new.state c.in_ok-count.count (λ n. n)
    (anywhere (octet_count (octets_needed (width_to c.args.range)) c.args.node)) (λ octets n. n)
    (λ octets. on_octet true c.args.node (minimal_up_to octets c.args.range c.args.node)) c.next_counted.result
    c.requires.within c.in_ok-count.ensures.onward (subst P few c.in_ok-count.ensures.read) c.next_counted.ensures.read
