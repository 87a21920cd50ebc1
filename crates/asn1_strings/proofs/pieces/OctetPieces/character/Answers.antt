use Rattle.std.proofs.Common.{ap, sym, ◌∙◌, arith}
use Rattle.std.proofs.lemmas.List.{length-map, length-take}
use Rattle.asn1_strings.specs.Pieces.{pieces, unsigned}
use Rattle.asn1_strings.specs.Laws.PieceLaws.{length-pieces}
use Rattle.asn1_strings.proofs.PieceLemmas.{get_or-pieces}
use Rattle.asn1_strings.proofs.pieces.OctetPieces.character.Goals as goal

pub piece_of-requires : goal.piece_of-requires
piece_of-requires c =
    rw (
      length-map (pieces c.args.self.now.width c.args.self.now.octets.now) unsigned,
      length-pieces
          c.args.self.now.width c.args.self.now.octets.now,
    ) at c.requires

pub unsigned_of-requires : goal.unsigned_of-requires
unsigned_of-requires c = rw (c.piece_of.ensures, length-take) (omega (arith, c.args.self.now.small))

pub returns : goal.returns
returns c =
    let within =
    rw (
      length-map (pieces c.args.self.now.width c.args.self.now.octets.now) unsigned,
      length-pieces
          c.args.self.now.width c.args.self.now.octets.now,
    ) at c.requires in
    c.unsigned_of.ensures ∙ ap unsigned c.piece_of.ensures
    ∙ sym (get_or-pieces unsigned c.args.self.now.width c.args.self.now.octets.now c.args.i within)
