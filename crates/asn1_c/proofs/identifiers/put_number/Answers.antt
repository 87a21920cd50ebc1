use Rattle.std.proofs.Common.{ℕ, List, ap, sym, ◌∙◌, ◌∷◌, ◌-◌, ◌*◌, [], arith}
use Rattle.asn1_c.specs.Arcs.{more_arcs}
use Rattle.asn1_c.proofs.ArcLemmas.{two_written, none_before}
use Rattle.asn1_c.proofs.identifiers.put_number.Goals as goal

pub returns-clause-written : goal.returns-clause-written
returns-clause-written c =
    two_written c.args.room.now c.min-x.result (c.args.number - 40 * c.min-x.result) c.if-room-lt2.false
    ∙ ap (λ (k : ℕ). k ∷ (c.args.number - 40 * k) ∷ []) c.min-x.ensures
    ∙ ap (λ (l : List ℕ). more_arcs l c.args.number) (sym (none_before c.args.room.now c.args.count (omega arith)))
