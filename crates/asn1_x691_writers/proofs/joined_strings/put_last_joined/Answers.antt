use Rattle.std.proofs.Common.{◌≡◌, ℕ, suc, ◌+◌, ◌*◌, ◌/◌, ◌%◌, ◌^◌, ◌<◌, ◌++◌, List, Bool, length, subst, ap, arith}
use Rattle.asn1_bits.specs.Bits.{bits}
use Rattle.asn1_bits.specs.Laws.DigitLaws.{length-bits}
use Rattle.asn1_schema.specs.PiecesOfParts.{bits_at}
use Rattle.asn1_x691.specs.Fragments.{bits_of_units, all_units}
use Rattle.asn1_x691_writers.specs.Joined.{bits_in}
use Rattle.asn1_x691_writers.specs.JoinedSteps.{few_in}
use Rattle.asn1_x691_writers.specs.Written.{IsWritten}
use Rattle.asn1_x691_writers.specs.StringSteps.{few_units, few_last, part_units}
use Rattle.asn1_x691_writers.proofs.FragmentLemmas.{units_apart}
use Rattle.asn1_x691_writers.proofs.joined_strings.put_last_joined.Goals as goal

pub returns-then-times-eq0 : goal.returns-then-times-eq0
returns-then-times-eq0 c node more =
    few_units (bits_of_units c.args.joined.now.unit node) (λ a b. a ++ b) c.args.is_aligned node c.args.count (bits_at (bits_in (bits c.args.source.now) c.args.joined.now) c.args.from (c.args.joined.now.unit * c.args.count))
    c.args.octets.now c.put_few_joined.new.octets c.args.at c.put_few_joined.result (c.put_few_joined.ensures node) more (omega (arith, c.if-times-eq0.true))

pub put_few_joined-requires-2-clause-within : goal.put_few_joined-requires-2-clause-within
put_few_joined-requires-2-clause-within c =
    let e : 16384 * (c.args.count / 16384) + c.args.count % 16384 ≡ c.args.count = omega arith in
    omega (arith, ap (λ (k : ℕ). c.args.joined.now.unit * k) e, c.requires.within)

pub returns : goal.returns
returns c node more =
    let aligned = c.args.is_aligned in
    let unit = c.args.joined.now.unit in
    let count = c.args.count in
    let list = bits_in (bits c.args.source.now) c.args.joined.now in
    let from = c.args.from in
    let n = 16384 * (count / 16384) in
    let m = count % 16384 in
    let was = c.args.octets.now in
    let mid = c.put_joined_fragment-after.new.octets in
    let now = c.put_few_joined-2.new.octets in
    let at = c.put_joined_fragment-after.result in
    let new = c.put_few_joined-2.result in
    let e : n + m ≡ count = omega arith in
    subst (λ (v : ℕ × List Bool). IsWritten aligned (all_units (bits_of_units unit node) (λ a b. a ++ b) aligned node (suc more)) v was c.args.at now new)
    (units_apart list from unit n m count e)
    (part_units (bits_of_units unit node) (λ a b. a ++ b) aligned node n (bits_at list from (unit * n)) was mid now c.args.at at new (c.put_joined_fragment-after.ensures node) m
    (bits_at list (from + unit * n) (unit * m)) more (omega (arith, c.if-times-eq0.false)) (omega (arith, c.requires.few))
    (few_last (bits_of_units unit node) (λ a b. a ++ b) aligned node m (bits_at list (from + unit * n) (unit * m)) mid now at new (c.put_few_joined-2.ensures node) (omega arith)))

pub overflow_add-from : goal.overflow_add-from
overflow_add-from c =
    let few : length (bits c.args.source.now) < 2 ^ 64 = omega (arith, length-bits c.args.source.now, c.requires.source) in
    let most = few_in (bits c.args.source.now) c.args.joined.now c.requires.inside few in
    omega (arith, most, c.requires.within)
