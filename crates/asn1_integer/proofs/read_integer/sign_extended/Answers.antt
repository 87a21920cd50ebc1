use Rattle.std.proofs.Common.{rules, ◌≡◌, ◌-◌, ◌^◌, ℕ, ℤ, pos, negsuc, ◌-ℤ◌, arith, ◌∙◌, to_z-of_z}
use Rattle.std.specs.Int.{w128}
use mir.Val.{SFits, of_z, to_z}
use Rattle.std.proofs.lemmas.Int.{to_z_pos, ints}
use Rattle.asn1_integer.specs.Laws.WordLaws.{twice}
use Rattle.asn1_integer.proofs.NativeLemmas.{half_within}
use Rattle.asn1_integer.proofs.read_integer.sign_extended.Goals as goal

pub overflow_cast-result : goal.overflow_cast-result
overflow_cast-result c =
    let less =
    rw c.half_of-half.ensures at c.if-word-half.true in
    omega (arith, ints, less, half_within c.args.width 127 c.requires.few)

pub overflow_cast-result-else-word-half : goal.overflow_cast-result-else-word-half
overflow_cast-result-else-word-half c =
    rw c.half_of-half.ensures
    (omega (arith, ints, half_within c.args.width 127 c.requires.few))

pub returns-then-word-half-clause-low : goal.returns-then-word-half-clause-low
returns-then-word-half-clause-low c =
    λ less. to_z_pos w128 c.args.word (omega (arith, less, half_within c.args.width 127 c.requires.few))

pub returns-else-word-half-clause-high : goal.returns-else-word-half-clause-high
returns-else-word-half-clause-high c = λ le.
    let half : ℕ = 2 ^ (c.args.width - 1) in
    let fits = half_within c.args.width 127 c.requires.few in
    let below = c.requires.below in
    let two = twice c.args.width (omega (arith, c.requires.many)) in
    let k : ℕ = half - 1 - (c.args.word - half) in
    let value : ℤ = negsuc 0 -ℤ pos k in
    let fit : SFits w128 value = omega (arith, ints, fits) in
    let kept : to_z w128 (of_z w128 value) ≡ value = to_z-of_z fit in
    let is : value ≡ pos c.args.word -ℤ pos (2 ^ c.args.width) = omega (arith, ints, le, two, below) in
    rw (
      c.half_of-half.ensures,
      to_z_pos w128 k
          (omega (arith, fits)),
    ) (kept ∙ is)

pub overflow_sub-result-else-word-half-3 : goal.overflow_sub-result-else-word-half-3
overflow_sub-result-else-word-half-3 c = search rules
