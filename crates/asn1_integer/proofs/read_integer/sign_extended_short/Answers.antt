use Rattle.std.proofs.Common.{◌≡◌, ◌-◌, ◌^◌, ℕ, ℤ, pos, negsuc, ◌-ℤ◌, arith, ◌∙◌, to_z-of_z}
use Rattle.std.specs.Int.{w64}
use mir.Val.{SFits, of_z, to_z}
use Rattle.std.proofs.lemmas.Nat.{one_shl}
use Rattle.std.proofs.lemmas.Int.{to_z_pos, ints}
use Rattle.asn1_integer.specs.Laws.WordLaws.{twice}
use Rattle.asn1_integer.proofs.NativeLemmas.{half_within}
use Rattle.asn1_integer.proofs.read_integer.sign_extended_short.Goals as goal

pub overflow_cast-result : goal.overflow_cast-result
overflow_cast-result c =
    let less =
    rw (one_shl (c.args.width - 1) 64 (omega (arith, c.requires.some, c.requires.few))) at c.if-word-half.true in
    omega (arith, ints, less, half_within c.args.width 63 c.requires.few)

pub overflow_cast-result-else-word-half : goal.overflow_cast-result-else-word-half
overflow_cast-result-else-word-half c =
    rw (one_shl (c.args.width - 1) 64 (omega (arith, c.requires.some, c.requires.few)))
    (omega (arith, ints, half_within c.args.width 63 c.requires.few))

pub returns-then-word-half-clause-low : goal.returns-then-word-half-clause-low
returns-then-word-half-clause-low c =
    λ less. to_z_pos w64 c.args.word (omega (arith, less, half_within c.args.width 63 c.requires.few))

pub returns-else-word-half-clause-high : goal.returns-else-word-half-clause-high
returns-else-word-half-clause-high c = λ le.
    let half : ℕ = 2 ^ (c.args.width - 1) in
    let fits = half_within c.args.width 63 c.requires.few in
    let below = c.requires.below in
    let two = twice c.args.width c.requires.some in
    let k : ℕ = half - 1 - (c.args.word - half) in
    let value : ℤ = negsuc 0 -ℤ pos k in
    let fit : SFits w64 value = omega (arith, ints, fits) in
    let kept : to_z w64 (of_z w64 value) ≡ value = to_z-of_z fit in
    let is : value ≡ pos c.args.word -ℤ pos (2 ^ c.args.width) = omega (arith, ints, le, two, below) in
    rw (
      one_shl (c.args.width - 1) 64 (omega (arith, c.requires.some, c.requires.few)),
      to_z_pos w64 k
          (omega (arith, fits)),
    ) (kept ∙ is)
