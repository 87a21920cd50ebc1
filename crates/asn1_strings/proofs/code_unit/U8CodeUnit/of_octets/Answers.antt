use Rattle.std.proofs.Common.{◌≡◌, ℕ, [], map, Result, Ok, Err, true, false, sym, ◌∙◌}
use Rattle.std.specs.Prelude.{OnErr}
use Rattle.std.proofs.lemmas.List.{map-id}
use Rattle.std.proofs.lemmas.Result.{IfOk-weaker}
use Rattle.asn1_strings.specs.Pieces.{pieces, unsigned}
use Rattle.asn1_strings.proofs.OctetLemmas.{ones}
use Rattle.asn1_strings.proofs.code_unit.U8CodeUnit.of_octets.Goals as goal

-- what holds at all, holds on an error
on_err : {T E P : Type 0} (r : Result T E) → P → OnErr r P
on_err (Ok x) p = tt
on_err (Err e) p = p

pub returns-clause-units : goal.returns-clause-units
returns-clause-units c =
    let octets = c.args.octets.now in
    IfOk-weaker c.from_slice.result (λ v. v.items ≡ octets)
    (λ v. map (λ (unit : ℕ). unit) v.items ≡ map unsigned (pieces 1 octets))
    (λ v is. map-id v.items ∙ is ∙ sym (ones octets))
    c.from_slice.ensures.items

pub returns-clause-memory : goal.returns-clause-memory
returns-clause-memory c =
    let octets = c.args.octets.now in
    on_err c.from_slice.result (λ (none : map unsigned (pieces 1 octets) ≡ []).
    let e : octets ≡ [] = sym (ones octets) ∙ none in
    let filled = c.if-is_empty.ensures in
    let no : false ≡ true = rw e at filled in
    cc)
