use Rattle.std.proofs.Common.{◌+◌, ◌*◌, ◌≤◌, length, arith}
use Rattle.asn1_values.specs.Steps.{IsReached}
use Rattle.asn1_values.proofs.OverLemmas.{octets_none, octets_within, octets_more}
use Rattle.asn1_values.proofs.bit_fields.identifier.overwrite_each.Goals as goal

pub loop-octet-init : goal.loop-octet-init
loop-octet-init c = octets_none c.into_iter-octet-iterator.result c.args.target.now c.args.position

pub overwrite_digits-next-requires : goal.overwrite_digits-next-requires
overwrite_digits-next-requires c =
    let all : IsReached (8 * length c.args.target.now)
    (c.args.position + 8 * length c.into_iter-octet-iterator.result) =
    rw c.into_iter-octet-iterator.ensures.into_iter_gives c.requires in
    record {
      few = omega arith;
      within =
          octets_within c.into_iter-octet-iterator.result c.loop-octet.octet-iterator c.next.new.self c.args.target.now
          c.loop-octet.target c.in-Some.octet c.args.position c.loop-octet.next c.loop-octet.invariant
          c.in-Some.ensures.steps all;
    }

pub loop-octet-preserved : goal.loop-octet-preserved
loop-octet-preserved c =
    let within : c.args.position ≤ 8 * length c.args.target.now = omega (arith, c.requires.0) in
    octets_more c.into_iter-octet-iterator.result c.loop-octet.octet-iterator c.next.new.self c.args.target.now
    c.loop-octet.target c.overwrite_digits-next.new.target c.in-Some.octet c.args.position
    c.loop-octet.next c.overwrite_digits-next.result c.loop-octet.invariant c.in-Some.ensures.steps within
    (rw c.from.ensures at c.overwrite_digits-next.ensures)
