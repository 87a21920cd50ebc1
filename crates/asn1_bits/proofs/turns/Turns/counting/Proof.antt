-- A counter has no bytes and owns nothing, so one may be made at any number.
use Rattle.asn1_bits.proofs.WalkSteps.{List, [], ◌∷◌, refl, proved, ftrue, Val, vstruct, vnil, ‵, raw, prop, Sq, ◌$◌, ◌∵◌, !, qed, done, drop, fjoin, feq_i, fpack, suffices, enter, no_more, returns, alloc_all, pass_all, free_all, look_at, sets, agg, nothing, shape, within, on_entry, Stays, walk_of, says, ends_at}
use Rattle.asn1_bits.specs.contracts.turns.Turns.{the_type}
use Rattle.asn1_bits.specs.contracts.turns.Turns.counting as contract
use Rattle.asn1_bits.proofs.turns.Turns.counting.Statement.{statement}
use Rattle.asn1_bits.proofs.turns.Turns.counting.Code as made

-- there are no parameters
abbrev none : Stays contract.ended.signature.params contract.ended.kept
none = tt

-- the machine's value
abbrev bytes : List Val
bytes = vstruct vnil ∷ []

pub counting_spec : {M : Type 1} → statement M
counting_spec resources logic tables routines linked =
    let clauses = contract.clauses logic tables.mem routines.returns in
    let ending = walk_of logic contract.ended none clauses in
    proved logic contract.ended none clauses tables routines tt contract.Key.name made.function
    (made.unfolded resources logic.H tables routines linked)
    (λ _. tt) (λ _. tt) (λ lifetimes shares alive args number _.
    let chosen : ending.Ghost = ((lifetimes, shares, alive, args, tt), number) in
    -- What the caller gets: the clause, and a counter that owns no bytes and nothing beside them. It gets no token.
    let given : Sq logic [] (prop (ending.post chosen (vstruct vnil))) =
    suffices ! _ (ends_at logic contract.ended none clauses chosen (vstruct vnil) (record { count = number }) tt tt) $
    says ! refl $
    nothing ! $ nothing ! $ feq_i ! (List Val) bytes bytes refl $ fjoin ! $ fpack ! (Unit {0})
    (within (shape the_type) tt bytes) tt $ fjoin ! $
    nothing ! $ nothing ! $ done ! in
    -- The struct of no fields has its type and fits.
    let typed : Unit {0} × Unit {0} = (tt, tt) in
    -- The body: one local, the result, is set to it.
    qed logic (raw (on_entry logic contract.signature lifetimes shares args tt) ∷ ‵ ftrue ∷ []) ∵
    drop ! $ drop ! $ enter ! _ _ _ _ _ $ alloc_all !
    (λ locals. pass_all ! refl tt $ sets ! (agg ! (no_more !)) refl typed $
    returns ! (look_at ! 0 refl) $ free_all ! refl $ given))
