use Rattle.std.proofs.Common.{◌≡◌, ℕ, ◌+◌, ◌-◌, ◌*◌, ◌<◌, ◌≤◌, ◌^◌, List, Bool, length, take, drop, ◌∙◌, ap, arith}
use Rattle.std.specs.Prelude.{slice_index}
use Rattle.std.proofs.lemmas.List.{drop-drop, length-take}
use Rattle.asn1_bits.specs.Bits.{bits, number}
use Rattle.asn1_bits.specs.Laws.NumberLaws.{number-below}
use Rattle.asn1_schema.specs.Laws.NumberLaws.{numbers_count, number_of_index}
use Rattle.asn1_x691_fields.specs.NumberSources.{numbers_of}
use Rattle.asn1_x691_fields.specs.declared.number_sources.NumbersAt.{NumbersAt}
use Rattle.asn1_x691_fields.proofs.number_sources.NumbersAtNumberSource.number.Goals as goal

-- a number of an index below the count is inside
inside : (s : NumbersAt) (index : ℕ) → index < length (numbers_of s) → s.at + s.width * s.count ≤ 8 * length s.octets.now
    → s.at + s.width * index + s.width ≤ 8 * length s.octets.now
inside s index h all =
    let more = s.count - (index + 1) in
    let size = numbers_count s.width s.count (drop s.at (bits s.octets.now)) in
    let e : s.count ≡ index + 1 + more = omega (arith, h, size) in
    let f : s.width * (index + 1 + more) ≡ s.width * index + s.width + s.width * more = grind arith in
    let g : s.width * s.count ≡ s.width * index + s.width + s.width * more = ap (λ (n : ℕ). s.width * n) e ∙ f in
    omega (arith, g, all)

pub overflow_mul-self : goal.overflow_mul-self
overflow_mul-self c = let i = inside c.args.self.now c.args.index c.requires c.args.self.now.inside in omega (arith, i, c.args.self.now.size)

pub overflow_add-self : goal.overflow_add-self
overflow_add-self c = let i = inside c.args.self.now c.args.index c.requires c.args.self.now.inside in omega (arith, i, c.args.self.now.size)

pub number_at-requires-clause-within : goal.number_at-requires-clause-within
number_at-requires-clause-within c = inside c.args.self.now c.args.index c.requires c.args.self.now.inside

pub returns : goal.returns
returns c =
    let s = c.args.self.now in
    let list = bits s.octets.now in
    let size = numbers_count s.width s.count (drop s.at list) in
    let front = take s.width (drop (s.at + s.width * c.args.index) list) in
    let few : number front < 2 ^ 32 =
    number-below front 32 (omega (arith, length-take s.width (drop (s.at + s.width * c.args.index) list), c.args.self.now.narrow)) in
    let same : slice_index (numbers_of s) c.args.index ≡ number front =
    number_of_index s.width s.count c.args.index (drop s.at list) (omega (arith, c.requires, size))
    ∙ ap (λ (l : List Bool). number (take s.width l)) (drop-drop (s.width * c.args.index) s.at list) in
    omega (arith, few, same, c.number_at.ensures)
