-- Steps over members that may have a presence bit.
use Rattle.std.proofs.Common.{◌≡◌, ℕ, zero, suc, ◌+◌, ◌-◌, ◌<◌, ◌≤◌, List, length, refl, sym, ◌∙◌, ap, arith, Some, Option, inl, inr}
use Rattle.std.specs.Prelude.{slice_get}
use Rattle.std.proofs.Math.Nat.{eq-or-lt_of_le}
use Rattle.std.proofs.lemmas.Option.{slice_get_past}
use Rattle.asn1_schema.specs.declared.tables.Member.{Member}
use Rattle.asn1_x691.specs.Types.{optional_count, is_optional, presence_bits}

pub optional_step : (members : List Member) (m : Member) (n at : ℕ) → 0 < n → slice_get members at ≡ Some m
    → optional_count members n at ≡ presence_bits m.presence + optional_count members (n - 1) (at + 1)
optional_step members m zero at some e = absurd (omega (arith, some))
optional_step members m (suc n) at some e =
    let k : suc n - 1 ≡ n = omega arith in
    ap (λ (o : Option Member). is_optional o + optional_count members n (at + 1)) e
    ∙ ap (λ (k : ℕ). presence_bits m.presence + optional_count members k (at + 1)) (sym k)

pub none_optional : (members : List Member) (n at : ℕ) → length members ≤ at → optional_count members n at ≡ 0
none_optional members zero at past = refl
none_optional members (suc n) at past =
    ap (λ (o : Option Member). is_optional o + optional_count members n (at + 1)) (slice_get_past members at past)
    ∙ ap (λ (k : ℕ). 0 + k) (none_optional members n (at + 1) (omega (arith, past)))

pub no_optional : (members : List Member) (n at : ℕ) → n ≡ 0 → optional_count members n at ≡ 0
no_optional members zero at e = refl
no_optional members (suc n) at e = absurd (omega (arith, e))

-- all members of rows were counted
pub all_optional : (members : List Member) (count from index known done : ℕ) → known ≤ count → index ≡ known
    → (known < count → length members ≤ from + known) → done + optional_count members (count - index) (from + index) ≡ optional_count members count from
    → done ≡ optional_count members count from
all_optional members count from index known done few end past e =
    elim (eq-or-lt_of_le few) [
      | inl same ↦ omega (arith, e, no_optional members (count - index) (from + index) (omega (arith, same, end)))
      | inr lt ↦ omega (arith, e, none_optional members (count - index) (from + index) (omega (arith, past lt, end)))
    ]
