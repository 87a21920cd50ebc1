use Rattle.std.proofs.Common.{◌≡◌, ℕ, ◌-◌, ◌*◌, ◌%◌, ◌^◌, ◌≤◌, subst, arith}
use Rattle.std.proofs.lemmas.Nat.{one_shl, pow_pos}
use Rattle.std.specs.List.{AllByRecursion}
use Rattle.asn1_bits.specs.Bits.{digits}
use Rattle.asn1_schema.specs.CharactersOfParts.{numbers_in}
use Rattle.asn1_x691_fields.proofs.LaneLemmas.{all_from}
use Rattle.asn1_x691_fields.proofs.lanes.are_from.Goals as goal

pub are_up_to-requires-clause-below : goal.are_up_to-requires-clause-below
are_up_to-requires-clause-below c =
    let k = c.args.width * c.args.count in
    let power = one_shl k 64 (omega (arith, c.requires.few)) in
    let some = pow_pos k in
    omega (arith, power, some)

pub returns : goal.returns
returns c e =
    let w = c.args.width in
    let k = w * c.args.count in
    let one : 1 * 2 ^ w % 2 ^ 64 ≡ 2 ^ w = one_shl w 64 (omega (arith, c.requires.narrow)) in
    let all : 1 * 2 ^ k % 2 ^ 64 ≡ 2 ^ k = one_shl k 64 (omega (arith, c.requires.few)) in
    let P : ℕ → ℕ → Type 0 = λ p q. AllByRecursion (λ m. m ≤ p - 1 - c.args.least) (numbers_in w c.args.count (digits (q - 1 - c.args.word) k)) in
    let test : P (1 * 2 ^ w % 2 ^ 64) (1 * 2 ^ k % 2 ^ 64) = c.are_up_to.ensures e in
    all_from w c.args.least c.args.count c.args.word (omega (arith, one, c.if-least-top.false)) c.requires.below
    (subst (λ (p : ℕ). P p (2 ^ k)) one (subst (λ (q : ℕ). P (1 * 2 ^ w % 2 ^ 64) q) all test))
