use Rattle.std.proofs.Common.{◌≡◌, ℕ, ◌^◌, ◌<◌, true, false, sym, subst, ◌∙◌, inl, inr}
use Rattle.asn1_schema.specs.Encodings.{anywhere}
use Rattle.asn1_x691.specs.Fields.{in_bits}
use Rattle.asn1_x691_writers.specs.Written.{IsWritten}
use Rattle.asn1_x691_writers.specs.NumberSteps.{constrained_in_bits, constrained_on_octet}
use Rattle.asn1_x691_writers.proofs.WidthLemmas.{width_enough}
use Rattle.asn1_x691_writers.proofs.numbers.put_constrained.Goals as goal

pub returns-then-range-ge255 : goal.returns-then-range-ge255
returns-then-range-ge255 c node =
    constrained_on_octet c.args.range node c.args.n c.args.octets.now c.put_on_octet.new.octets c.args.at c.put_on_octet.result
    c.args.is_aligned c.if-is_aligned.true c.if-range-ge255.true (c.put_on_octet.ensures node)

pub put_in_bits-requires-clause-below : goal.put_in_bits-requires-clause-below
put_in_bits-requires-clause-below c =
    subst (λ (w : ℕ). c.args.n < 2 ^ w) (sym c.width_to.ensures.value) (width_enough c.args.n c.args.range c.requires.most)

pub returns : goal.returns
returns c node =
    let range = c.args.range in
    let n = c.args.n in
    let was = c.args.octets.now in
    let now = c.put_in_bits.new.octets in
    let few : c.args.is_aligned ≡ true → range < 255 =
    elim c.else-is_aligned.either [ inl p ↦ λ e. p.1 | inr p ↦ λ e. absurd (let q : true ≡ false = sym e ∙ p in cc) ] in
    constrained_in_bits range node n was now c.args.at c.put_in_bits.result c.args.is_aligned few
    (subst (λ (w : ℕ). IsWritten c.args.is_aligned (anywhere (in_bits w range node)) n was c.args.at now c.put_in_bits.result)
    c.width_to.ensures.value (c.put_in_bits.ensures c.args.is_aligned range node c.requires.most))
