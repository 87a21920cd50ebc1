use Rattle.std.proofs.Common.{◌≡◌, ℕ, ◌+◌, ◌-◌, ◌*◌, ◌/◌, ◌^◌, ◌<◌, ◌≤◌, length, refl, sym, ◌∙◌, subst, inl, inr, arith}
use Rattle.asn1_bits.specs.Bits.{digits}
use Rattle.asn1_bits.specs.Laws.DigitLaws.{length-digits}
use Rattle.asn1_x691.specs.OpenTypes.{padding_of}
use Rattle.asn1_x691_writers.specs.Written.{IsIndex, IsGrown}
use Rattle.asn1_x691_encode.specs.CompleteSteps.{padded_whole}
use Rattle.asn1_x691_encode.proofs.padding.pad.Goals as goal

-- a small index is exact
exact : (at n : ℕ) → IsIndex at n → at < 2 ^ 20 → at ≡ n
exact at n (inl e) few = e
exact at n (inr p) few = absurd (omega (arith, p.0, few))

near : (at n : ℕ) → IsIndex at n → n < 2 ^ 21 → at ≡ n
near at n (inl e) few = e
near at n (inr p) few = absurd (omega (arith, p.0, p.1, few))

pub overflow_add-whole : goal.overflow_add-whole
overflow_add-whole c = omega (arith, c.zeros_after.ensures.few, c.if-at-start.false)

pub returns : goal.returns
returns c n h =
    let at = c.args.at in
    let start = c.args.start in
    let few : at < 2 ^ 20 = omega (arith, c.if-at-start.false, c.requires.start) in
    let here : at ≡ start + n = exact at (start + n) h few in
    let count : c.saturating_sub-count.result ≡ n = omega (arith, here, c.saturating_sub-count.ensures) in
    let pad : c.zeros_after.result ≡ padding_of n = c.zeros_after.ensures.value n (inl count) in
    let total : c.saturating_sub-count.result + c.zeros_after.result ≡ n + padding_of n = omega (arith, count, pad) in
    let whole = n + padding_of n in
    let size : whole ≡ 8 * (whole / 8) = omega (arith, padded_whole n) in
    let zeros : c.saturating_sub-count.result + c.zeros_after.result - c.saturating_sub-count.result ≡ padding_of n = omega (arith, pad) in
    let eight : 8 * ((c.saturating_sub-count.result + c.zeros_after.result) / 8) ≡ whole = omega (arith, total, size) in
    let was = c.args.octets.now in
    let now = c.put_zeros.new.octets in
    let k = c.put_zeros.result in
    let g = subst (λ (j : ℕ). IsGrown was at now k (digits 0 j)) zeros c.put_zeros.ensures in
    let i : IsIndex k (at + length (digits 0 (padding_of n))) = g.index at (inl refl) in
    let low : padding_of n ≤ 8 = omega (arith, pad, c.zeros_after.ensures.few) in
    let end : k ≡ start + 8 * ((c.saturating_sub-count.result + c.zeros_after.result) / 8) =
    near k (at + length (digits 0 (padding_of n))) i (omega (arith, few, low, length-digits 0 (padding_of n)))
    ∙ (let e : at + length (digits 0 (padding_of n)) ≡ start + 8 * ((c.saturating_sub-count.result + c.zeros_after.result) / 8) =
    omega (arith, here, eight, length-digits 0 (padding_of n)) in e) in
    record {
      few = omega (arith, c.if-whole-ge-MANY.false);
      size = sym eight;
      grown = subst (λ (j : ℕ). IsGrown was at now j (digits 0 (padding_of n))) end g;
    }
