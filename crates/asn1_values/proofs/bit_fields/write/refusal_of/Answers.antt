use Rattle.std.proofs.Common.{sym, refl, arith, rules}
use Rattle.asn1_values.specs.Plain.{plain_fields}
use Rattle.asn1_values.proofs.OneRefusal.{one_write_refusal, only_too_long}
use Rattle.asn1_values.proofs.SpellingLemmas.{names_none}
use Rattle.asn1_values.proofs.bit_fields.write.refusal_of.Goals as goal

-- a field doesn't fit
pub returns-in-Err : goal.returns-in-Err
returns-in-Err c =
    let fields = plain_fields c.args.fields.now in
    let named = c.in-Err.ensures.err in
    record {
      refusal = search rules;
      named = λ e ne is. one_write_refusal c.args.len fields c.in-Err.misfit e named ne is;
      too_long = λ list s le. absurd (names_none fields c.in-Err.misfit list named s);
      memory = λ list s lt. absurd (names_none fields c.in-Err.misfit list named s);
    }

-- all fit, and the new length does not
pub returns-in-Ok : goal.returns-in-Ok
returns-in-Ok c =
    let fields = plain_fields c.args.fields.now in
    let ends = c.in-Ok.ensures.ok in
    record {
      refusal = search rules;
      named = λ e ne is. sym (only_too_long c.args.len fields ends.list e ends.joined ne is).3;
      too_long = λ list s le. refl;
      memory = λ list s lt.
          let end = ends.each list s in
          let capped = ends.capped in
          absurd (omega arith);
    }

-- all fit
pub returns-in-Ok-2 : goal.returns-in-Ok-2
returns-in-Ok-2 c =
    let fields = plain_fields c.args.fields.now in
    let ends = c.in-Ok.ensures.ok in
    let capped = ends.capped in
    record {
      refusal = search rules;
      named = λ e ne is.
          let far = only_too_long c.args.len fields ends.list e ends.joined ne is in
          let long = far.2 in
          let end = ends.each far.0 far.1 in
          absurd (omega arith);
      too_long = λ list s le. let end = ends.each list s in absurd (omega arith);
      memory = λ list s lt. refl;
    }
