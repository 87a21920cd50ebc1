use Rattle.std.proofs.Common.{ap, sym, subst}
use Rattle.asn1_schema.specs.Pieces.{Piece}
use Rattle.asn1_x691_writers.specs.Put.{piece_in}
use Rattle.asn1_x691_encode.specs.Alternatives.{IsAlternative}
use Rattle.asn1_x691_encode.proofs.added_choice.alternative_of.Goals as goal

pub returns-in-UnknownChosen : goal.returns-in-UnknownChosen
returns-in-UnknownChosen c ranges =
    subst (λ (p : Piece). IsAlternative c.args.last c.args.known p c.unknown_alternative.result)
    (sym (ap (piece_in ranges c.args.source.now) c.in-UnknownChosen.is)) (c.unknown_alternative.ensures c.args.last)
