use Rattle.std.proofs.Common.{arith, ◌<◌, length, map}
use Rattle.std.proofs.lemmas.Grind.{common_steps}
use Rattle.asn1_strings.specs.Pieces.{pieces, unsigned}
use Rattle.asn1_strings.proofs.static_permitted_alphabet.copy_of_pieces.Goals as goal

pub push_char-requires : goal.push_char-requires
push_char-requires g c =
    let within : c.loop-i.i < length (map unsigned (pieces c.args.source.width c.args.source.octets.now)) =
    omega (arith, c.count-count.ensures) in
    rw c.character.ensures (c.requires c.loop-i.i 0 within)

pub loop-i-preserved : goal.loop-i-preserved
loop-i-preserved g c = grind (arith, common_steps)
