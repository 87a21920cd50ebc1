use Rattle.std.proofs.Common.{ℕ, ◌+◌, ◌-◌, take, drop, sym, ◌∙◌, ap, subst, arith}
use Rattle.asn1_bits.specs.Bits.{bits, number}
use Rattle.asn1_bits.specs.Laws.DigitLaws.{length-bits}
use Rattle.asn1_schema.specs.PiecesOfParts.{bits_at, bits_of}
use Rattle.asn1_x690.specs.Leaves.{IsBitString}
use Rattle.asn1_x690_leaves.proofs.BitStringSteps.{string_size, unused_is, are_bits, zeros_are}
use Rattle.asn1_x690_leaves.proofs.bit_strings.bits_in.Goals as goal

pub returns-then-span-eq0-clause-none : goal.returns-then-span-eq0-clause-none
returns-then-span-eq0-clause-none c e x p =
    let size = string_size (bits c.args.octets.now) c.args.span c.requires.contents x p in
    let none = c.if-span-eq0.true in
    omega (arith, size, none)

pub read_bits-unused-requires-clause-within : goal.read_bits-unused-requires-clause-within
read_bits-unused-requires-clause-within c =
    let i = c.requires.contents.inside in
    let w = c.requires.contents.whole in
    let some = c.if-span-eq0.false in
    omega (arith, length-bits c.args.octets.now, i, w, some)

pub returns-then-unused-gt7-clause-none : goal.returns-then-unused-gt7-clause-none
returns-then-unused-gt7-clause-none c e x p =
    let list = bits c.args.octets.now in
    let w = c.requires.contents.whole in
    let none = c.if-span-eq0.false in
    let same = unused_is list c.args.span c.requires.contents (omega (arith, w, none)) x p in
    let is = c.read_bits-unused.ensures.number in
    let few = p.few in
    let many = c.if-unused-gt7.true in
    omega (arith, same, is, few, many)

pub returns-then-span-unused-clause-none : goal.returns-then-span-unused-clause-none
returns-then-span-unused-clause-none c e x p =
    let list = bits c.args.octets.now in
    let w = c.requires.contents.whole in
    let none = c.if-span-eq0.false in
    let size = string_size list c.args.span c.requires.contents x p in
    let same = unused_is list c.args.span c.requires.contents (omega (arith, w, none)) x p in
    let is = c.read_bits-unused.ensures.number in
    let short = c.if-span-unused.true in
    omega (arith, same, is, size, short)

pub overflow_add-span : goal.overflow_add-span
overflow_add-span c =
    let i = c.requires.contents.inside in
    let short = c.if-span-unused.false in
    let most = c.requires.size in
    record { fits = omega (arith, length-bits c.args.octets.now, i, short, most) }

pub overflow_add-span-2 : goal.overflow_add-span-2
overflow_add-span-2 c =
    let i = c.requires.contents.inside in
    let short = c.if-span-unused.false in
    let most = c.requires.size in
    record { fits = omega (arith, length-bits c.args.octets.now, i, short, most) }

pub read_bits-requires-clause-within : goal.read_bits-requires-clause-within
read_bits-requires-clause-within c =
    let i = c.requires.contents.inside in
    let short = c.if-span-unused.false in
    omega (arith, length-bits c.args.octets.now, i, short)

pub overflow_add-result : goal.overflow_add-result
overflow_add-result c =
    let i = c.requires.contents.inside in
    let short = c.if-span-unused.false in
    let most = c.requires.size in
    record { fits = omega (arith, length-bits c.args.octets.now, i, short, most) }

pub returns-then-read_bits-ne0-clause-none : goal.returns-then-read_bits-ne0-clause-none
returns-then-read_bits-ne0-clause-none c e x p =
    let list = bits c.args.octets.now in
    let s = c.args.span in
    let w = c.requires.contents.whole in
    let none = c.if-span-eq0.false in
    let short = c.if-span-unused.false in
    let is = c.read_bits-unused.ensures.number in
    let zeros = zeros_are list s c.requires.contents (omega (arith, w, none)) (omega (arith, short, is)) x p in
    c.if-read_bits-ne0.true
    (c.read_bits.ensures.number
    ∙ ap (λ (n : ℕ). number (take n (drop (s.at + 8 + (s.count - 8 - n)) list))) is ∙ zeros)

pub returns-clause-some : goal.returns-clause-some
returns-clause-some c =
    let list = bits c.args.octets.now in
    let s = c.args.span in
    let w = c.requires.contents.whole in
    let none = c.if-span-eq0.false in
    let short = c.if-span-unused.false in
    let few = c.if-unused-gt7.false in
    let is = c.read_bits-unused.ensures.number in
    let zeros = sym (ap (λ (n : ℕ). number (take n (drop (s.at + 8 + (s.count - 8 - n)) list))) is)
    ∙ sym c.read_bits.ensures.number ∙ c.if-read_bits-ne0.false in
    subst (λ (n : ℕ). IsBitString (bits_at list (s.at + 8) (s.count - 8 - n)) (bits_of list s)) (sym is)
    (are_bits list s c.requires.contents (omega (arith, w, none)) (omega (arith, short, is)) (omega (arith, few, is)) zeros)

pub returns-clause-inside : goal.returns-clause-inside
returns-clause-inside c =
    let i = c.requires.contents.inside in
    let short = c.if-span-unused.false in
    omega (arith, length-bits c.args.octets.now, i, short)
