use Rattle.std.proofs.Common.{◌≡◌, ℕ, List, subst}
use Rattle.asn1_oid.specs.Contents.{IsContents, FitU32}
use Rattle.asn1_c.proofs.identifier_fields.code_at.Goals as goal

pub returns-clause-done : goal.returns-clause-done
returns-clause-done c =
    subst (λ (o : List ℕ). (c.code_of_contents.result ≡ 0 → (arcs : List ℕ) × IsContents arcs o × FitU32 arcs)
    × (((arcs : List ℕ) × IsContents arcs o × FitU32 arcs) → c.code_of_contents.result ≡ 0)) c.new.ensures.list
    c.code_of_contents.ensures.done

pub returns-clause-arc_too_large : goal.returns-clause-arc_too_large
returns-clause-arc_too_large c =
    subst (λ (o : List ℕ). (c.code_of_contents.result ≡ 7 → (arcs : List ℕ) × IsContents arcs o × ¬ (FitU32 arcs))
    × (((arcs : List ℕ) × IsContents arcs o × ¬ (FitU32 arcs)) → c.code_of_contents.result ≡ 7)) c.new.ensures.list
    c.code_of_contents.ensures.arc_too_large
