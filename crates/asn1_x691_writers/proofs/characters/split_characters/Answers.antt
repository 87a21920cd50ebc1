use Rattle.std.proofs.Common.{◌≡◌, ◌+◌, ◌-◌, ◌*◌, ◌^◌, min, arith}
use Rattle.asn1_x691_writers.specs.TextSteps.{characters_apart, drop_capped}
use Rattle.asn1_x691_writers.proofs.characters.split_characters.Goals as goal

pub returns-clause-characters : goal.returns-clause-characters
returns-clause-characters c table list few =
    let text = c.args.text in
    let count = c.args.count in
    let e : text.count ≡ count + (text.count - count) = omega (arith, c.requires) in
    let f : c.saturating_add.result ≡ min (text.at + text.width * count) (2 ^ 64 - 1) =
    omega (arith, c.saturating_add.ensures, c.saturating_mul.ensures) in
    characters_apart table list text count (text.count - count) c.saturating_add.result e
    (drop_capped list (text.at + text.width * count) c.saturating_add.result few f)
