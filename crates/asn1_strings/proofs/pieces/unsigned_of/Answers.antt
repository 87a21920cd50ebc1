use Rattle.std.proofs.Common.{◌<◌, ◌*◌, ◌+◌, ap, ◌∙◌, arith}
use Rattle.std.proofs.lemmas.List.{take_all}
use Rattle.std.proofs.lemmas.List.Sums.{fold_more}
use Rattle.asn1_strings.proofs.PieceLemmas.{gathered, unsigned-gathered, octet_fits, octet_step}
use Rattle.asn1_strings.proofs.pieces.unsigned_of.Goals as goal

pub overflow_mul-n : goal.overflow_mul-n
overflow_mul-n c =
    omega (
      arith,
      octet_fits c.loop-octet.octet-index c.loop-octet.n 0 (omega arith) c.loop-octet.invariant.1
          (omega arith),
    )

pub overflow_add-n : goal.overflow_add-n
overflow_add-n c =
    let small : c.from.result < 256 = omega (arith, c.type_inv.octets c.loop-octet.octet-index) in
    omega (
      arith,
      octet_fits c.loop-octet.octet-index c.loop-octet.n c.from.result (omega arith)
          c.loop-octet.invariant.1 small,
    )

pub loop-octet-preserved : goal.loop-octet-preserved
loop-octet-preserved c =
    let small : c.from.result < 256 = omega (arith, c.type_inv.octets c.loop-octet.octet-index) in
    let more = fold_more (λ n octet. 256 * n + octet) 0 c.args.octets.now c.loop-octet.octet-index 0 (omega arith) in
    let value = c.loop-octet.invariant.0 in
    let octet = c.from.ensures in (
      cc,
      octet_step c.loop-octet.octet-index c.loop-octet.n c.from.result c.loop-octet.invariant.1 small,
    )

pub returns : goal.returns
returns c =
    let octets = c.args.octets.now in
    c.loop-octet.invariant.0 ∙ ap gathered (take_all c.loop-octet.octet-index octets (omega arith))
    ∙ unsigned-gathered octets
