use Rattle.std.proofs.Common.{rules}
use Rattle.asn1_values.proofs.GatherLemmas.{no_digits}
use Rattle.asn1_values.proofs.bit_fields.gathered.Gathered.push.Goals as goal

pub returns-then-digits-eq0 : goal.returns-then-digits-eq0
returns-then-digits-eq0 c =
    let old = c.args.self.now in
    no_digits c.args.appender.now old.word old.width c.none.result.width c.args.turns.now.count c.if-digits-eq0.true
    c.none.ensures

pub returns : goal.returns
returns c = search rules
