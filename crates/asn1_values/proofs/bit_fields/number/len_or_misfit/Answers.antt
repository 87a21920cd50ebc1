use Rattle.std.proofs.Common.{◌≡◌, ℕ, ◌+◌, ◌-◌, ◌/◌, ◌^◌, sym, ap, ◌∙◌, arith}
use Rattle.std.proofs.lemmas.Nat.{shr-shr}
use Rattle.asn1_values.proofs.SpellingLemmas.{number_fits, below_width}
use Rattle.asn1_values.proofs.bit_fields.number.len_or_misfit.Goals as goal

pub returns-then-value-width-eq0 : goal.returns-then-value-width-eq0
returns-then-value-width-eq0 c =
    let width = c.args.width in
    record {
      ok =
          number_fits c.args.value width (omega (arith, c.if-width-lt64.true))
          (below_width c.args.value width c.if-value-width-eq0.true);
      err = tt;
    }

pub returns-then-value-width-eq0-2 : goal.returns-then-value-width-eq0-2
returns-then-value-width-eq0-2 c =
    let value = c.args.value in
    let width = c.args.width in
    let e : 64 + (width - 64) ≡ width = omega (arith, c.if-width-lt64.false) in
    let none : value / 2 ^ width ≡ 0 = ap (λ (k : ℕ). value / 2 ^ k) (sym e) ∙ sym (shr-shr value 64 (width - 64))
    ∙ c.if-value-width-eq0-2.true in
    record {
      ok =
          number_fits value width (omega (arith, c.if-width-lt128.true)) (below_width value width none);
      err = tt;
    }
