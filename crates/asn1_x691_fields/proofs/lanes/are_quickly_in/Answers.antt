use Rattle.std.proofs.Common.{◌*◌, ◌≤◌, arith}
use Rattle.std.specs.List.{AllByRecursion}
use Rattle.asn1_bits.specs.Bits.{digits}
use Rattle.asn1_schema.specs.CharactersOfParts.{numbers_in}
use Rattle.asn1_x691_fields.proofs.LaneLemmas.{all_between, all_from_zero}
use Rattle.asn1_x691_fields.proofs.lanes.are_quickly_in.Goals as goal
use Rattle.asn1_x691_fields.proofs.lanes.are_quickly_in.Goals.{else-interval-gt0-via-then-interval-gt0+else-not-are_from, else-interval-gt0-via-else-interval-gt0}

pub returns : goal.returns
returns c e =
    let least = c.args.interval.least in
    let ns = numbers_in c.args.width c.args.count (digits c.args.word (c.args.width * c.args.count)) in
    let low : AllByRecursion (λ n. least ≤ n) ns = elim c.else-interval-gt0.branch [
      | else-interval-gt0-via-then-interval-gt0+else-not-are_from w ↦ w.are_from.ensures w.if-not-are_from.false
      | else-interval-gt0-via-else-interval-gt0 w ↦ all_from_zero least ns (omega (arith, w.if-interval-gt0.false))
    ] in
    all_between least c.args.interval.range c.saturating_add-greatest.result ns (omega (arith, c.saturating_add-greatest.ensures)) low
    (c.are_up_to.ensures e)
