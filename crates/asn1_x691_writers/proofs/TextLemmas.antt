-- Fragments of characters that were written one after another.
use Rattle.std.proofs.Common.{◌≡◌, ℕ, zero, suc, ◌+◌, ◌-◌, ◌*◌, ◌^◌, ◌<◌, ◌≤◌, List, ◌++◌, Bool, ap, ◌∙◌, sym, subst, arith}
use Rattle.asn1_schema.specs.declared.part.Characters.{Characters}
use Rattle.asn1_schema.specs.declared.tables.Range.{Range}
use Rattle.asn1_schema.specs.CharactersOfParts.{characters_of}
use Rattle.asn1_x691.specs.Characters.{characters}
use Rattle.asn1_x691.specs.Fragments.{most_fragments, all_units}
use Rattle.asn1_x691_fields.specs.declared.alphabets.Alphabet.{Alphabet}
use Rattle.asn1_x691_writers.specs.Written.{IsWritten}
use Rattle.asn1_x691_writers.specs.Units.{AreUnitsOf}
use Rattle.asn1_x691_writers.specs.StringSteps.{full_units}
use Rattle.asn1_x691_writers.specs.TextSteps.{in_both}
use Rattle.asn1_x691_writers.specs.Texts.{AreIn}

-- `total` characters are a first part and the others
pub same_pair : (m n total : ℕ) (xs ys whole : List ℕ) → m + n ≡ total → whole ≡ xs ++ ys
    → ◌≡◌ {A = ℕ × List ℕ} (m + n, xs ++ ys) (total, whole)
same_pair m n total xs ys whole e f =
    let P : List ℕ → ℕ × List ℕ = λ l. (m + n, l) in
    let Q : ℕ → ℕ × List ℕ = λ k. (k, whole) in
    ap P (sym f) ∙ ap Q e

-- of some characters these are left; what is written of them is written of all
pub record AreFragmented (a : Alphabet) (table : List Range) (list : List Bool) (all : Characters) (was : List ℕ) (old : ℕ)
    (now : List ℕ) (at : ℕ) (left : Characters) : Type 0 where
  pub more : ℕ
  pub fuel : left.count < 65536 * more
  pub within : AreIn a.ranges.now (characters_of table list left)
  pub onward : (node : ℕ) (end : List ℕ) (new : ℕ)
      → IsWritten a.is_aligned (all_units (characters a.is_aligned a.ranges.now node) (λ x y. x ++ y) a.is_aligned node more)
      (left.count, characters_of table list left) now at end new
      → IsWritten a.is_aligned (all_units (characters a.is_aligned a.ranges.now node) (λ x y. x ++ y) a.is_aligned node most_fragments)
      (all.count, characters_of table list all) was old end new

module _ (a : Alphabet) (table : List Range) (list : List Bool) (all : Characters) (was : List ℕ) (old : ℕ) where
  pub fragmented_first : all.count < 2 ^ 64 → AreIn a.ranges.now (characters_of table list all)
      → AreFragmented a table list all was old was old all
  unfolding most_fragments
  fragmented_first few p = record {
    more = most_fragments;
    fuel = omega (arith, few);
    within = p;
    onward = λ node end new w. w;
  }

  module _ (now mid : List ℕ) (at next : ℕ) (left first others : Characters) (many : 65536 ≤ left.count) (size : first.count ≡ 65536)
      (rest : others.count ≡ left.count - 65536)
      (parts : characters_of table list left ≡ characters_of table list first ++ characters_of table list others) where
    step : (more : ℕ) → left.count < 65536 * more → AreIn a.ranges.now (characters_of table list left)
        → ((node : ℕ) (end : List ℕ) (new : ℕ)
        → IsWritten a.is_aligned (all_units (characters a.is_aligned a.ranges.now node) (λ x y. x ++ y) a.is_aligned node more)
        (left.count, characters_of table list left) now at end new
        → IsWritten a.is_aligned (all_units (characters a.is_aligned a.ranges.now node) (λ x y. x ++ y) a.is_aligned node most_fragments)
        (all.count, characters_of table list all) was old end new)
        → ((node : ℕ) → AreUnitsOf (characters a.is_aligned a.ranges.now node) a.is_aligned node first.count (characters_of table list first)
        now at mid next)
        → AreFragmented a table list all was old mid next others
    step zero fuel within onward w = absurd (omega (arith, fuel))
    step (suc more) fuel within onward w =
        let both = in_both a.ranges.now (characters_of table list first) (characters_of table list others)
        (subst (λ (l : List ℕ). AreIn a.ranges.now l) parts within) in record {
          more = more;
          fuel = omega (arith, fuel, many, rest);
          within = both.1;
          onward = λ node end new b.
              onward node end new
              (subst
              (λ (v : ℕ × List ℕ).
              IsWritten a.is_aligned (all_units (characters a.is_aligned a.ranges.now node) (λ x y. x ++ y) a.is_aligned node (suc more)) v now
              at end new)
              (same_pair first.count others.count left.count (characters_of table list first) (characters_of table list others)
              (characters_of table list left) (omega (arith, size, rest, many)) parts)
              (full_units (characters a.is_aligned a.ranges.now node) (λ x y. x ++ y) a.is_aligned node first.count
              (characters_of table list first) now mid end at next new (w node) others.count (characters_of table list others) more
              (omega (arith, size)) b));
        }

    pub fragmented_next : AreFragmented a table list all was old now at left
        → ((node : ℕ) → AreUnitsOf (characters a.is_aligned a.ranges.now node) a.is_aligned node first.count (characters_of table list first)
        now at mid next)
        → AreFragmented a table list all was old mid next others
    fragmented_next h w = step h.more h.fuel h.within h.onward w

  module _ (now end : List ℕ) (at new node : ℕ) (left : Characters) where
    last : (more : ℕ) → left.count < 65536 * more
        → (IsWritten a.is_aligned (all_units (characters a.is_aligned a.ranges.now node) (λ x y. x ++ y) a.is_aligned node more)
        (left.count, characters_of table list left) now at end new
        → IsWritten a.is_aligned (all_units (characters a.is_aligned a.ranges.now node) (λ x y. x ++ y) a.is_aligned node most_fragments)
        (all.count, characters_of table list all) was old end new)
        → ((node more : ℕ)
        → IsWritten a.is_aligned (all_units (characters a.is_aligned a.ranges.now node) (λ x y. x ++ y) a.is_aligned node (suc more))
        (left.count, characters_of table list left) now at end new)
        → IsWritten a.is_aligned (all_units (characters a.is_aligned a.ranges.now node) (λ x y. x ++ y) a.is_aligned node most_fragments)
        (all.count, characters_of table list all) was old end new
    last zero fuel onward w = absurd (omega (arith, fuel))
    last (suc more) fuel onward w = onward (w node more)

    pub fragmented_last : AreFragmented a table list all was old now at left
        → ((node more : ℕ)
        → IsWritten a.is_aligned (all_units (characters a.is_aligned a.ranges.now node) (λ x y. x ++ y) a.is_aligned node (suc more))
        (left.count, characters_of table list left) now at end new)
        → IsWritten a.is_aligned (all_units (characters a.is_aligned a.ranges.now node) (λ x y. x ++ y) a.is_aligned node most_fragments)
        (all.count, characters_of table list all) was old end new
    fragmented_last h w = last h.more h.fuel (h.onward node end new) w
