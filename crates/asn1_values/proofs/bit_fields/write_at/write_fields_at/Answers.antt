use Rattle.std.proofs.Common.{◌≡◌, ◌+◌, ◌*◌, length, Err, ap, refl, sym, ◌∙◌, arith, inl, inr}
use Rattle.std.proofs.lemmas.Result.{err_from_is_err_and}
use Rattle.asn1_bits.specs.Bits.{bits, overwritten}
use Rattle.asn1_values.specs.Plain.{plain_fields}
use Rattle.asn1_values.specs.declared.bit_fields.error.WriteError.{WriteError}
use Rattle.asn1_values.proofs.OneRefusal.{one_write_at_refusal, only_past}
use Rattle.asn1_values.specs.Laws.SpellingLaws.{all_one}
use Rattle.asn1_values.proofs.SpellingLemmas.{names_none}
use Rattle.asn1_values.proofs.bit_fields.write_at.write_fields_at.Goals as goal
use Rattle.asn1_values.proofs.bit_fields.write_at.write_fields_at.Goals.{then-end-via-then-end, then-end-via-else-end+then-end-octets}

pub returns-in_err-end-clause-too_long : goal.returns-in_err-end-clause-too_long
returns-in_err-end-clause-too_long c =
    λ list s past. absurd (names_none (plain_fields c.args.fields.now) c.in_err-end.field-0.0 list
    c.in_err-end.ensures.err s)

pub returns-in_err-end-clause-accepted : goal.returns-in_err-end-clause-accepted
returns-in_err-end-clause-accepted c =
    λ list s le lt. absurd (names_none (plain_fields c.args.fields.now) c.in_err-end.field-0.0 list
    c.in_err-end.ensures.err s)

pub returns-in_err-end-clause-named : goal.returns-in_err-end-clause-named
returns-in_err-end-clause-named c = λ e is.
    let p = err_from_is_err_and c.from_residual.result c.from_residual.ensures.1 in
    rw (p.1, p.2)
    (ap (λ (x : WriteError). Err x)
    (one_write_at_refusal (8 * length c.args.octets.now) c.args.position (plain_fields c.args.fields.now)
    c.in_err-end.field-0.0 e c.in_err-end.ensures.err is))

pub returns-then-end-clause-named : goal.returns-then-end-clause-named
returns-then-end-clause-named c = λ e is.
    let ends = c.in_ok-end.ensures.ok in
    let past =
    only_past (8 * length c.args.octets.now) c.args.position (plain_fields c.args.fields.now) ends.list e
    ends.joined is in
    ap (λ (x : WriteError). Err x) (sym past.3)

pub returns-clause-one : goal.returns-clause-one
returns-clause-one c = λ codes list s.
    let p = c.overwrite_all.ensures in
    p.2.written ∙ ap (overwritten (bits c.args.octets.now) c.args.position)
    (all_one (plain_fields c.args.fields.now) p.0 list codes p.1 s)

pub returns-clause-named : goal.returns-clause-named
returns-clause-named c = λ e is.
    let ends = c.in_ok-end.ensures.ok in
    let past =
    only_past (8 * length c.args.octets.now) c.args.position (plain_fields c.args.fields.now) ends.list e
    ends.joined is in
    let end : c.args.position + length past.0 ≡ ends.end = ends.each past.0 past.1 in
    let capped = ends.capped in
    elim past.2 [ inl lt ↦ absurd (omega arith) | inr le ↦ absurd (omega arith) ]

pub returns-clause-written : goal.returns-clause-written
returns-clause-written c =
    let p = c.overwrite_all.ensures in
    (p.0, p.1, p.2.written, p.2.end)

pub overwrite_all-requires : goal.overwrite_all-requires
overwrite_all-requires c =
    let ends = c.in_ok-end.ensures.ok in
    let capped = ends.capped in
    record {
      list = ends.list;
      spelled = ends.joined;
      within = λ others s. (omega (arith, ends.each others s), omega (arith, ends.each others s));
    }

pub returns-then-end-clause-accepted : goal.returns-then-end-clause-accepted
returns-then-end-clause-accepted c = λ list s le lt.
    let ends = c.in_ok-end.ensures.ok in
    let capped = ends.capped in
    let end = ends.each list s in
    elim c.then-end.branch [
      | then-end-via-then-end w ↦ absurd (omega (arith, w.if-end.true))
      | then-end-via-else-end+then-end-octets w ↦ absurd (omega (arith, w.if-end-octets.true))
    ]

pub returns-then-end-clause-refused : goal.returns-then-end-clause-refused
returns-then-end-clause-refused c =
    let ends = c.in_ok-end.ensures.ok in
    let capped = ends.capped in
    let end = ends.each ends.list ends.joined in (
      ends.list,
      ends.joined,
      elim c.then-end.branch [
        | then-end-via-then-end w ↦ inr (omega (arith, w.if-end.true))
        | then-end-via-else-end+then-end-octets w ↦ inl (omega (arith, w.if-end-octets.true))
      ],
    )

pub returns-then-end-clause-unchanged : goal.returns-then-end-clause-unchanged
returns-then-end-clause-unchanged c = refl
