use Rattle.std.proofs.Common.{◌≡◌, ℕ, ◌+◌, ◌*◌, ◌%◌, ◌^◌, ◌≤◌, ap, arith}
use Rattle.std.proofs.Math.Nat.{mod-eq_of_lt}
use Rattle.std.proofs.Math.Pow.{pow_mono}
use Rattle.asn1_x690_writers.specs.HeaderSteps.{long_length, shifted_few}
use Rattle.asn1_x690_writers.proofs.lengths.long_length_of.Goals as goal

pub returns-clause-encodes : goal.returns-clause-encodes
returns-clause-encodes c =
    let n = c.args.count in
    let more = c.octets_of-more.result in
    let k = c.octets_of-more.ensures in
    let few : 2 ^ (8 * more) ≤ 2 ^ 64 = pow_mono (let h : 8 * more ≤ 64 = omega (arith, k.few) in h) in
    let e : (128 + more) * 2 ^ (8 * more) % 2 ^ 128 ≡ (128 + more) * 2 ^ (8 * more) =
    mod-eq_of_lt (shifted_few more (2 ^ (8 * more)) few k.few) in
    long_length n more ((128 + more) * 2 ^ (8 * more) % 2 ^ 128 + n) c.requires k.some k.few k.holds k.least
    (ap (λ (j : ℕ). j + n) e)
