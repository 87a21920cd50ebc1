use Rattle.std.proofs.Common.{◌≡◌, ◌≢◌, ◌+◌, ◌⊎◌, inl, inr, refl, arith}
use Rattle.asn1_x690_writers.specs.HeaderSteps.{first_left}
use Rattle.asn1_x690_writers.proofs.identifiers.digit_at.Goals as goal
use Rattle.asn1_x690_writers.proofs.identifiers.digit_at.Goals.{then-left-eq0, else-left-eq0}

pub returns-clause-first : goal.returns-clause-first
returns-clause-first c =
    let k = c.args.left in
    let more = c.if-left-eq0.more in
    let bit : ((k ≡ 0) × (more ≡ 0)) ⊎ ((k ≢ 0) × (more ≡ 128)) =
    elim c.if-left-eq0.branch [
      | then-left-eq0 w ↦ inl (omega arith, omega arith)
      | else-left-eq0 w ↦ inr (λ e. absurd (omega arith), omega arith)
    ] in
    first_left c.args.number (k + 1) k more refl bit
