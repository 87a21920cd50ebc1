use Rattle.std.proofs.Common.{◌≡◌, take, map}
use Rattle.asn1_strings.specs.Pieces.{pieces, unsigned}
use Rattle.asn1_strings.proofs.static_permitted_alphabet.copy_of_pieces.Given as goal

abbrev pub invariant-loop-i : goal.invariant-loop-i
invariant-loop-i g l =
    g.S.StaticPermittedAlphabet.characters l.string ≡ take l.i (map unsigned (pieces l.source.width l.source.octets.now))
