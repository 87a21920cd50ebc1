use Rattle.std.proofs.Common.{◌<◌, ◌^◌, arith}
use Rattle.asn1_values.proofs.SpellingLemmas.{number_fits, below_width, at_128}
use Rattle.asn1_values.proofs.bit_fields.number.fitting_wide.Goals as goal
use Rattle.asn1_values.proofs.bit_fields.number.fitting_wide.Goals.{else-width-lt128-via-then-width-lt128+else-value-width-ne0, else-width-lt128-via-else-width-lt128}

pub returns : goal.returns
returns c =
    let le = c.if-width-gt128.false in
    let lt : c.args.value < 2 ^ c.args.width = elim c.else-width-lt128.branch [
      | else-width-lt128-via-then-width-lt128+else-value-width-ne0 w ↦ below_width c.args.value c.args.width
          w.if-value-width-ne0.false
      | else-width-lt128-via-else-width-lt128 w ↦ at_128 c.args.value c.args.width le w.if-width-lt128.false
          (omega arith)
    ] in
    record { ok = number_fits c.args.value c.args.width le lt; err = tt }
