use Rattle.std.proofs.Common.{◌≡◌, ℕ, ◌+◌, ◌<◌, sym, subst, arith, inl, inr}
use Rattle.std.specs.Prelude.{◌⊎◌}
use Rattle.std.proofs.lemmas.Bool.{cases_lt}
use Rattle.asn1_x690_decode.specs.Alternatives.{IsOther}
use Rattle.asn1_x690_decode.proofs.choice.find_alternative.Goals as goal

before_or_at : (i n : ℕ) → i < n + 1 → (i < n) ⊎ (n ≡ i)
before_or_at i n lt = elim (cases_lt i n) [ inl p ↦ inl p | inr p ↦ inr (omega (arith, lt, p)) ]

pub loop-index-preserved : goal.loop-index-preserved
loop-index-preserved c id is i lt = elim (before_or_at i c.loop-index.index lt) [
  | inl p ↦ c.loop-index.invariant id is i p
  | inr e ↦
      subst (λ (n : ℕ). IsOther c.args.context.now id (c.args.rows.from + n)) e
      (record {
        member = c.in-Some.member.now;
        first = c.in-Some-first_at.first.now;
        is_member = sym c.in-Some.ensures;
        is_first = sym c.in-Some-first_at.ensures;
        has_not = c.has_tag.ensures.no c.if-has_tag.false id is;
      })
]
