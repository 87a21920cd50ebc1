use Rattle.std.proofs.Common.{◌≤◌, ◌<◌, length, arith}
use Rattle.asn1_schema_values.proofs.ExtentLemmas.{goes_on, never_end, no_values, one_more}
use Rattle.asn1_schema_values.proofs.extent.values_from.Goals as goal

pub loop-at-init : goal.loop-at-init
loop-at-init c =
    let within : c.args.from ≤ length c.args.parts.now = omega arith in
    record { before = no_values c.args.parts.now c.args.from within; few = omega arith; within = within }

pub returns-in_err-at : goal.returns-in_err-at
returns-in_err-at c =
    let inside : c.loop-at.at < length c.args.parts.now = omega arith in
    rw c.from_residual.ensures (never_end c.args.parts.now c.args.from c.loop-at.count c.loop-at.at c.loop-at.invariant.before
    inside c.in_err-at.ensures)

pub loop-at-preserved : goal.loop-at-preserved
loop-at-preserved c =
    let value = c.in_ok-at.ensures in
    let few = c.loop-at.invariant.few in
    let onward = goes_on c.args.parts.now c.loop-at.at c.in_ok-at.at value in
    let within = value.within in
    record {
      before = one_more c.args.parts.now c.args.from c.loop-at.count c.loop-at.at c.in_ok-at.at c.loop-at.invariant.before value;
      few = omega arith;
      within = within;
    }
