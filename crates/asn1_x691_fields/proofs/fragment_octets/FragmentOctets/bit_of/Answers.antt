use Rattle.std.proofs.Common.{◌≡◌, ℕ, ◌*◌, ◌+◌, ◌-◌, ◌/◌, ◌%◌, ◌<◌, ◌≤◌, length, arith}
use Rattle.asn1_bits.specs.Bits.{bits}
use Rattle.asn1_bits.specs.Laws.DigitLaws.{length-bits}
use Rattle.asn1_schema.specs.PiecesOfParts.{joined}
use Rattle.asn1_x691_fields.specs.FragmentOctetSteps.{whole_inside, in_whole, in_middle, in_last, fits_last}
use Rattle.asn1_x691_fields.proofs.fragment_octets.FragmentOctets.bit_of.Goals as goal

pub overflow_mul-result : goal.overflow_mul-result
overflow_mul-result c =
    let s = c.args.self.now in
    omega (arith, whole_inside (bits s.octets.now) s.fragments s.inside, length-bits s.octets.now, s.size, c.if-index-fragments.true)

pub overflow_add-result : goal.overflow_add-result
overflow_add-result c =
    let s = c.args.self.now in
    omega (arith, whole_inside (bits s.octets.now) s.fragments s.inside, length-bits s.octets.now, s.size, c.if-index-fragments.true)

pub overflow_add-result-then-index-fragments : goal.overflow_add-result-then-index-fragments
overflow_add-result-then-index-fragments c =
    let s = c.args.self.now in
    omega (arith, whole_inside (bits s.octets.now) s.fragments s.inside, length-bits s.octets.now, s.size, c.if-index-fragments.true)

pub returns-then-index-fragments-clause-inside : goal.returns-then-index-fragments-clause-inside
returns-then-index-fragments-clause-inside c =
    let s = c.args.self.now in
    omega (arith, whole_inside (bits s.octets.now) s.fragments s.inside, length-bits s.octets.now, c.if-index-fragments.true)

pub returns-then-index-fragments-clause-same : goal.returns-then-index-fragments-clause-same
returns-then-index-fragments-clause-same c =
    let s = c.args.self.now in
    in_whole (bits s.octets.now) s.fragments s.inside c.args.index c.if-index-fragments.true

pub overflow_mul-result-then-after-middle : goal.overflow_mul-result-then-after-middle
overflow_mul-result-then-after-middle c =
    let s = c.args.self.now in
    omega (arith, s.inside.middle.inside, length-bits s.octets.now, s.size, c.if-after-middle.true)

pub overflow_add-result-then-after-middle : goal.overflow_add-result-then-after-middle
overflow_add-result-then-after-middle c =
    let s = c.args.self.now in
    omega (arith, s.inside.middle.inside, length-bits s.octets.now, s.size, c.if-after-middle.true)

pub returns-then-after-middle-clause-inside : goal.returns-then-after-middle-clause-inside
returns-then-after-middle-clause-inside c =
    let s = c.args.self.now in
    omega (arith, s.inside.middle.inside, length-bits s.octets.now, c.if-after-middle.true)

pub returns-then-after-middle-clause-same : goal.returns-then-after-middle-clause-same
returns-then-after-middle-clause-same c =
    let s = c.args.self.now in
    in_middle (bits s.octets.now) s.fragments s.inside c.args.index (omega (arith, c.if-index-fragments.false)) c.if-after-middle.true

pub overflow_mul-result-2 : goal.overflow_mul-result-2
overflow_mul-result-2 c =
    let s = c.args.self.now in
    let fits = fits_last (bits s.octets.now) s.fragments s.inside c.args.index (omega (arith, c.if-index-fragments.false))
    (omega (arith, c.if-after-middle.false)) (omega (arith, s.all, c.requires)) in
    omega (arith, fits, s.inside.last.inside, length-bits s.octets.now, s.size)

pub overflow_add-result-2 : goal.overflow_add-result-2
overflow_add-result-2 c =
    let s = c.args.self.now in
    let fits = fits_last (bits s.octets.now) s.fragments s.inside c.args.index (omega (arith, c.if-index-fragments.false))
    (omega (arith, c.if-after-middle.false)) (omega (arith, s.all, c.requires)) in
    omega (arith, fits, s.inside.last.inside, length-bits s.octets.now, s.size)

pub returns-clause-inside : goal.returns-clause-inside
returns-clause-inside c =
    let s = c.args.self.now in
    let fits = fits_last (bits s.octets.now) s.fragments s.inside c.args.index (omega (arith, c.if-index-fragments.false))
    (omega (arith, c.if-after-middle.false)) (omega (arith, s.all, c.requires)) in
    omega (arith, fits, s.inside.last.inside, length-bits s.octets.now)

pub returns-clause-same : goal.returns-clause-same
returns-clause-same c =
    let s = c.args.self.now in
    in_last (bits s.octets.now) s.fragments s.inside c.args.index (omega (arith, c.if-index-fragments.false))
    (omega (arith, c.if-after-middle.false)) (omega (arith, s.all, c.requires))
