use Rattle.std.proofs.Common.{◌≡◌, suc, ◌+◌, ◌-◌, arith}
use Rattle.asn1_x691_writers.specs.TextSteps.{first_apart, drop_capped}
use Rattle.asn1_x691_writers.proofs.characters.other_characters.Goals as goal

pub returns-clause-characters : goal.returns-clause-characters
returns-clause-characters c table list few =
    let text = c.args.text in
    let e : text.count ≡ suc (text.count - 1) = omega (arith, c.requires) in
    first_apart table list text (text.count - 1) c.saturating_add.result e
    (drop_capped list (text.at + text.width) c.saturating_add.result few c.saturating_add.ensures)
