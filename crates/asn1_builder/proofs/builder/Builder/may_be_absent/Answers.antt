use Rattle.std.proofs.Common.{◌≡◌, ◌≤◌, ◌≢◌, ℕ, Some, inl, inr, sym, subst, arith}
use Rattle.std.proofs.Math.Nat.{eq-or-lt_of_le}
use Rattle.asn1_schema.specs.declared.tables.Member.{Member}
use Rattle.asn1_schema.specs.declared.tables.Presence.TheVariants.{Mandatory}
use Rattle.asn1_builder.specs.Drafts.{draft_of}
use Rattle.asn1_builder.specs.Steps.{member_of}
use Rattle.asn1_builder.proofs.builder.Builder.may_be_absent.Goals as goal

pub loop-index-preserved : goal.loop-index-preserved
loop-index-preserved c = λ k low high.
    let here = c.is_optional.ensures.0 c.if-not-is_optional.false in
    let within : k ≤ c.loop-index.index = omega arith in
    elim (eq-or-lt_of_le within) [
      | inl same ↦
          let P : ℕ → Type 0 =
          λ i. (m : Member) × (member_of (draft_of c.args.self.now) c.args.root i ≡ Some m) × (m.presence ≢ Mandatory) in
          subst P (sym same) here
      | inr less ↦ c.loop-index.invariant k low less
    ]
