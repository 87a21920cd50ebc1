use Rattle.std.proofs.Common.{◌≡◌, ℕ, ◌+◌, ◌-◌, ◌∙◌, ap, arith}
use Rattle.asn1_x691.specs.Types.{optional_count}
use Rattle.asn1_x691_encode.proofs.PresenceSteps.{optional_step, all_optional}
use Rattle.asn1_x691_encode.proofs.presence.count_optional.Goals as goal

pub loop-index-preserved : goal.loop-index-preserved
loop-index-preserved c =
    let members = c.args.members.now in
    let n = c.args.rows.count - c.loop-index.index in
    let at = c.args.rows.from + c.loop-index.index in
    let a : n - 1 ≡ c.args.rows.count - (c.loop-index.index + 1) = omega arith in
    let b : at + 1 ≡ c.args.rows.from + (c.loop-index.index + 1) = omega arith in
    let e = optional_step members c.member_in-member.result n at
    (omega (arith, c.loop-index-test.true, c.known_of-known.ensures.few)) c.member_in-member.ensures in
    let f = ap (λ (k : ℕ). optional_count members k (at + 1)) a
    ∙ ap (λ (k : ℕ). optional_count members (c.args.rows.count - (c.loop-index.index + 1)) k) b in (
      omega (arith, c.loop-index.invariant.0, c.presence_bits-count.ensures.few),
      omega (arith, c.loop-index.invariant.1, e, f, c.presence_bits-count.ensures.value),
    )

pub returns : goal.returns
returns c = all_optional c.args.members.now c.args.rows.count c.args.rows.from c.loop-index.index c.known_of-known.result
    c.loop-index.count c.known_of-known.ensures.few
    (omega (arith, c.loop-index-test.false, c.loop-index.auto.index-end)) c.known_of-known.ensures.all c.loop-index.invariant.1
