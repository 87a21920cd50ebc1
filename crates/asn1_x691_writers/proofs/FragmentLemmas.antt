-- Fragments that were written one after another.
use Rattle.std.proofs.Common.{◌≡◌, ℕ, zero, suc, ◌+◌, ◌*◌, ◌-◌, ◌^◌, ◌<◌, ◌≤◌, List, ◌++◌, Bool, refl, sym, ap, ◌∙◌, subst, arith}
use Rattle.std.proofs.Math.Nat.{mul-le-mul_left}
use Rattle.asn1_schema.specs.PiecesOfParts.{bits_at}
use Rattle.asn1_x691.specs.Fragments.{most_fragments, bits_of_units, all_units}
use Rattle.asn1_x691_writers.specs.Written.{IsWritten}
use Rattle.asn1_x691_writers.specs.Units.{AreUnits}
use Rattle.asn1_x691_writers.specs.StringSteps.{bits_apart, full_units}

-- `total` units are a first part and the others
pub units_apart : (list : List Bool) (at unit m n total : ℕ) → m + n ≡ total
    → ◌≡◌ {A = ℕ × List Bool} (m + n, bits_at list at (unit * m) ++ bits_at list (at + unit * m) (unit * n)) (total, bits_at list at (unit * total))
units_apart list at unit m n total e =
    let f : unit * m + unit * n ≡ unit * total = omega (arith, ap (λ (k : ℕ). unit * k) e) in
    let P : List Bool → ℕ × List Bool = λ l. (m + n, l) in
    let Q : ℕ → ℕ × List Bool = λ k. (k, bits_at list at (unit * total)) in
    ap P (sym (bits_apart list at (unit * m) (unit * n)) ∙ ap (λ (k : ℕ). bits_at list at k) f)
    ∙ ap Q e

-- of `count` units these are left; what is written of them is written of all
pub record IsFragmented (aligned : Bool) (unit : ℕ) (list : List Bool) (was : List ℕ) (old from count : ℕ) (now : List ℕ)
    (at first left : ℕ) : Type 0 where
  pub more : ℕ
  pub fuel : left < 65536 * more
  pub size : first + unit * left ≡ from + unit * count
  pub onward : (node : ℕ) (end : List ℕ) (new : ℕ)
      → IsWritten aligned (all_units (bits_of_units unit node) (λ a b. a ++ b) aligned node more) (left, bits_at list first (unit * left)) now at
      end new
      → IsWritten aligned (all_units (bits_of_units unit node) (λ a b. a ++ b) aligned node most_fragments)
      (count, bits_at list from (unit * count)) was old end new

module _ (aligned : Bool) (unit : ℕ) (list : List Bool) (was : List ℕ) (old from count : ℕ) where
  pub fragmented_first : count < 2 ^ 64 → IsFragmented aligned unit list was old from count was old from count
  unfolding most_fragments
  fragmented_first few = record {
    more = most_fragments;
    fuel = omega (arith, few);
    size = refl;
    onward = λ node end new a. a;
  }

  module _ (now mid : List ℕ) (at next first left : ℕ) (many : 65536 ≤ left) where
    step : (more : ℕ) → left < 65536 * more → first + unit * left ≡ from + unit * count
        → ((node : ℕ) (end : List ℕ) (new : ℕ)
        → IsWritten aligned (all_units (bits_of_units unit node) (λ a b. a ++ b) aligned node more)
        (left, bits_at list first (unit * left)) now at end new
        → IsWritten aligned (all_units (bits_of_units unit node) (λ a b. a ++ b) aligned node most_fragments)
        (count, bits_at list from (unit * count)) was old end new)
        → ((node : ℕ) → AreUnits aligned unit node 65536 (bits_at list first (unit * 65536)) now at mid next)
        → IsFragmented aligned unit list was old from count mid next (first + unit * 65536) (left - 65536)
    step zero fuel size onward a = absurd (omega (arith, fuel))
    step (suc more) fuel size onward a =
        let e : 65536 + (left - 65536) ≡ left = omega (arith, many) in
        let f : unit * 65536 + unit * (left - 65536) ≡ unit * left = omega (arith, ap (λ (k : ℕ). unit * k) e) in record {
          more = more;
          fuel = omega (arith, fuel, many);
          size = omega (arith, size, f);
          onward = λ node end new b.
              onward node end new
              (subst
              (λ (v : ℕ × List Bool).
              IsWritten aligned (all_units (bits_of_units unit node) (λ a b. a ++ b) aligned node (suc more)) v now at end new)
              (units_apart list first unit 65536 (left - 65536) left e)
              (full_units (bits_of_units unit node) (λ a b. a ++ b) aligned node 65536 (bits_at list first (unit * 65536)) now mid end at next new (a node) (left - 65536)
              (bits_at list (first + unit * 65536) (unit * (left - 65536))) more (omega arith) b));
        }

    pub fragmented_next : IsFragmented aligned unit list was old from count now at first left
        → ((node : ℕ) → AreUnits aligned unit node 65536 (bits_at list first (unit * 65536)) now at mid next)
        → IsFragmented aligned unit list was old from count mid next (first + unit * 65536) (left - 65536)
    fragmented_next h a = step h.more h.fuel h.size h.onward a

    pub units_before : unit * 65536 ≤ unit * left
    units_before = mul-le-mul_left unit many

  module _ (now end : List ℕ) (at first left new node : ℕ) where
    last : (more : ℕ) → left < 65536 * more
        → (IsWritten aligned (all_units (bits_of_units unit node) (λ a b. a ++ b) aligned node more)
        (left, bits_at list first (unit * left)) now at end new
        → IsWritten aligned (all_units (bits_of_units unit node) (λ a b. a ++ b) aligned node most_fragments)
        (count, bits_at list from (unit * count)) was old end new)
        → ((node more : ℕ)
        → IsWritten aligned (all_units (bits_of_units unit node) (λ a b. a ++ b) aligned node (suc more))
        (left, bits_at list first (unit * left)) now at end new)
        → IsWritten aligned (all_units (bits_of_units unit node) (λ a b. a ++ b) aligned node most_fragments)
        (count, bits_at list from (unit * count)) was old end new
    last zero fuel onward a = absurd (omega (arith, fuel))
    last (suc more) fuel onward a = onward (a node more)

    pub fragmented_last : IsFragmented aligned unit list was old from count now at first left
        → ((node more : ℕ)
        → IsWritten aligned (all_units (bits_of_units unit node) (λ a b. a ++ b) aligned node (suc more))
        (left, bits_at list first (unit * left)) now at end new)
        → IsWritten aligned (all_units (bits_of_units unit node) (λ a b. a ++ b) aligned node most_fragments)
        (count, bits_at list from (unit * count)) was old end new
    fragmented_last h a = last h.more h.fuel (h.onward node end new) a
