use Rattle.std.proofs.Common.{◌≡◌, true, Result, Ok, Err, ap}
use Rattle.std.specs.Prelude.{is_ok}
use Rattle.std.proofs.lemmas.Result.{err_from_is_err_and}
use Rattle.asn1_oid.specs.declared.contents.ContentsError.{ContentsError}
use Rattle.asn1_oid.specs.declared.contents.ContentsError.TheVariants.{Malformed, ArcTooLarge, Memory}
use Rattle.asn1_oid.specs.declared.object_identifier.ObjectIdentifier.{ObjectIdentifier}
use Rattle.asn1_oid.proofs.ReadingLemmas.{large_iff, none_iff, some_arcs, none_large, not_malformed, not_refused}
use Rattle.asn1_oid.specs.Reading.{contents_reading}
use Rattle.asn1_oid.specs.Laws.ReadingLaws.{no_want_of_memory, arcs_from_reading, one_list_of_arcs}
use Rattle.asn1_oid.proofs.object_identifier.ObjectIdentifier.from_contents.Goals as goal

abbrev Answer : Type 0
Answer = Result ObjectIdentifier ContentsError

refusal_is : (x y : ContentsError) → ◌≡◌ {A = Answer} (Err x) (Err y) → x ≡ y
refusal_is x y e = cc

no_refusal : (o : ObjectIdentifier) (x : ContentsError) → ◌≡◌ {A = Answer} (Ok o) (Err x) → ⊥
no_refusal o x e = cc

not_large : Memory ≡ ArcTooLarge → ⊥
not_large e = cc

not_none : Memory ≡ Malformed → ⊥
not_none e = cc

pub returns-in_err-examine-clause-accepted : goal.returns-in_err-examine-clause-accepted
returns-in_err-examine-clause-accepted g c = λ arcs is fit.
    absurd (not_refused (g.S.OctetSource.list c.args.source.now) arcs c.in_err-examine.field-0.0
    c.in_err-examine.ensures.octets c.in_err-examine.ensures.reading is fit)

pub returns-in_err-examine-clause-arc_too_large : goal.returns-in_err-examine-clause-arc_too_large
returns-in_err-examine-clause-arc_too_large g c =
    let p = err_from_is_err_and c.from_residual.result c.from_residual.ensures.1 in
    rw (p.1, p.2) (large_iff (g.S.OctetSource.list c.args.source.now) (Err c.in_err-examine.field-0.0)
    c.in_err-examine.ensures.octets c.in_err-examine.ensures.reading)

pub returns-in_err-examine-clause-malformed : goal.returns-in_err-examine-clause-malformed
returns-in_err-examine-clause-malformed g c =
    let p = err_from_is_err_and c.from_residual.result c.from_residual.ensures.1 in
    rw (p.1, p.2) (none_iff (g.S.OctetSource.list c.args.source.now) (Err c.in_err-examine.field-0.0)
    c.in_err-examine.ensures.octets c.in_err-examine.ensures.reading)

pub returns-in_err-examine-clause-memory : goal.returns-in_err-examine-clause-memory
returns-in_err-examine-clause-memory g c = λ is.
    let p = err_from_is_err_and c.from_residual.result c.from_residual.ensures.1 in
    let same = refusal_is c.in_err-examine.field-0.0 Memory (rw (p.1, p.2) at is) in
    absurd (no_want_of_memory (g.S.OctetSource.list c.args.source.now) c.in_err-examine.ensures.octets
    (rw same at c.in_err-examine.ensures.reading))

pub returns-in_default-clause-arc_too_large : goal.returns-in_default-clause-arc_too_large
returns-in_default-clause-arc_too_large g c = (
  λ is. absurd (not_large (refusal_is Memory ArcTooLarge is)),
  λ some. absurd (none_large (g.S.OctetSource.list c.args.source.now) c.in_ok-examine.ensures.octets
      c.in_ok-examine.ensures.reading some),
)

pub returns-in_default-clause-malformed : goal.returns-in_default-clause-malformed
returns-in_default-clause-malformed g c = (
  λ is. absurd (not_none (refusal_is Memory Malformed is)),
  λ none. absurd (not_malformed (g.S.OctetSource.list c.args.source.now) c.in_ok-examine.ensures.octets
      c.in_ok-examine.ensures.reading none),
)

pub returns-in_default-clause-memory : goal.returns-in_default-clause-memory
returns-in_default-clause-memory g c =
    λ is. some_arcs (g.S.OctetSource.list c.args.source.now) c.in_ok-examine.ensures.octets
    c.in_ok-examine.ensures.reading

pub invariant_of-result : goal.invariant_of-result
invariant_of-result g c =
    (arcs_from_reading c.in-Some.arcs.items (g.S.OctetSource.list c.args.source.now) c.in-Some.ensures.octets
    c.in-Some.ensures.arcs).0.valid

pub returns-clause-contents : goal.returns-clause-contents
returns-clause-contents g c =
    arcs_from_reading c.in-Some.arcs.items (g.S.OctetSource.list c.args.source.now) c.in-Some.ensures.octets
    c.in-Some.ensures.arcs

pub returns-clause-only : goal.returns-clause-only
returns-clause-only g c = λ arcs is.
    let octets = g.S.OctetSource.list c.args.source.now in
    let read = arcs_from_reading c.in-Some.arcs.items octets c.in-Some.ensures.octets c.in-Some.ensures.arcs in
    one_list_of_arcs c.in-Some.arcs.items arcs octets read.0 is

pub returns-clause-arc_too_large : goal.returns-clause-arc_too_large
returns-clause-arc_too_large g c =
    let octets = g.S.OctetSource.list c.args.source.now in
    let ok : is_ok (contents_reading octets) ≡ true = ap is_ok c.in-Some.ensures.arcs in
    (λ is. absurd (no_refusal _ ArcTooLarge is), λ some. absurd (none_large octets c.in-Some.ensures.octets ok some))

pub returns-clause-malformed : goal.returns-clause-malformed
returns-clause-malformed g c =
    let octets = g.S.OctetSource.list c.args.source.now in
    let ok : is_ok (contents_reading octets) ≡ true = ap is_ok c.in-Some.ensures.arcs in
    (λ is. absurd (no_refusal _ Malformed is), λ none. absurd (not_malformed octets c.in-Some.ensures.octets ok none))
