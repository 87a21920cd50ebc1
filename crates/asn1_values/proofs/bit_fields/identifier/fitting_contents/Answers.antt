use Rattle.std.proofs.Common.{arith}
use Rattle.std.proofs.lemmas.Grind.{common_steps}
use Rattle.std.proofs.lemmas.List.{get_or_default}
use Rattle.asn1_oid.specs.Contents.{FitU32}
use Rattle.asn1_values.proofs.SpellingLemmas.{identifier_fits}
use Rattle.asn1_values.proofs.bit_fields.identifier.fitting_contents.Goals as goal

pub returns-in-Some : goal.returns-in-Some
returns-in-Some c =
    let p = rw c.as_oid.ensures at c.in-Some.ensures.len in
    let fit : FitU32 c.as_ref-arcs.result.now = λ k d lt.
    rw (get_or_default c.as_ref-arcs.result.now k d 0 lt) (grind (arith, common_steps)) in
    record {
      ok = rw p.2 (identifier_fits c.args.oid.now p.0 p.1 (rw c.as_ref-arcs.ensures.arcs at fit));
      err = tt;
    }
