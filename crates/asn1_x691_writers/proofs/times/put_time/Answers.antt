use Rattle.std.proofs.Common.{sym, ap, subst}
use Rattle.asn1_schema.specs.Pieces.{Piece}
use Rattle.asn1_schema.specs.Times.{IsTime}
use Rattle.asn1_x691.specs.Fragments.{most_fragments}
use Rattle.asn1_x691.specs.Leaves.{time}
use Rattle.asn1_x691_writers.specs.Put.{IsPut, piece_in}
use Rattle.asn1_x691_writers.proofs.times.put_time.Goals as goal

pub returns-in-Text : goal.returns-in-Text
returns-in-Text c =
    let put = c.put_characters_of_time in
    subst
    (λ (p : Piece). IsPut c.args.is_aligned (time most_fragments c.args.is_aligned c.args.node (IsTime c.args.kind)) p c.args.octets.now
    c.args.state.now put.new.octets put.new.state put.result)
    (sym (ap (piece_in c.args.table.now c.args.source.now) c.in-Text.is)) put.ensures
