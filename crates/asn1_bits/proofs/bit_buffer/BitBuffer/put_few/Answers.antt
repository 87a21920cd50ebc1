use Rattle.std.proofs.Common.{◌≡◌, ℕ, Bool, List, length, ap, ◌∙◌, arith}
use Rattle.std.proofs.lemmas.List.{with_items_is}
use Rattle.asn1_bits.specs.Bits.{bits, digits, ored}
use Rattle.asn1_bits.specs.Laws.DigitLaws.{length-digits}
use Rattle.asn1_bits.specs.BitBuffer.{bits_shown, IsFilled}
use Rattle.asn1_bits.proofs.BufferLemmas.{length-bits_shown, len_fits, filled-ored, zeros-shown}
use Rattle.asn1_bits.proofs.bit_buffer.BitBuffer.put_few.Goals as goal

pub put_few-requires-clause-zeros : goal.put_few-requires-clause-zeros
put_few-requires-clause-zeros c =
    let b = c.self.inside in
    rw c.as_mut_slice.ensures.value
    (zeros-shown b.bytes.items b.len c.args.position c.args.self.now c.self.invariant c.self.view_is
    c.requires.zeros)

pub put_few-requires-clause-within : goal.put_few-requires-clause-within
put_few-requires-clause-within c =
    let b = c.self.inside in
    let shows = ap (λ (l : List Bool). length l) c.self.view_is in
    omega (
      arith,
      length-bits_shown b.bytes.items b.len c.self.invariant,
      len_fits b.bytes.items b.len c.self.invariant,
      ap (λ (l : List ℕ). length l) c.as_mut_slice.ensures.value,
      shows,
    )

filled : (c : goal.After-self-1) → IsFilled c.put_few.new.dst c.self.inside.len
    × (bits_shown c.put_few.new.dst c.self.inside.len ≡ ored c.args.self.now c.args.position
    (digits c.args.number c.args.width))
filled c =
    let b = c.self.inside in
    let src = digits c.args.number c.args.width in
    let shows = ap (λ (l : List Bool). length l) c.self.view_is in
    let f = filled-ored b.bytes.items c.put_few.new.dst b.len c.args.position src c.self.invariant
    (c.put_few.ensures ∙ ap (λ (l : List ℕ). ored (bits l) c.args.position src) c.as_mut_slice.ensures.value)
    (omega (arith, c.put_few.auto.dst, c.as_mut_slice.ensures.len, b.bytes.ok.0))
    (omega (
      arith,
      length-bits_shown b.bytes.items b.len c.self.invariant,
      shows,
      length-digits c.args.number c.args.width,
    )) in
    (f.0, f.1 ∙ ap (λ (l : List Bool). ored l c.args.position src) c.self.view_is)

same_len : (c : goal.After-self-1) → length c.put_few.new.dst ≡ c.self.inside.bytes.len
same_len c = omega (arith, c.put_few.auto.dst, c.as_mut_slice.ensures.len)

pub invariant_of-self : goal.invariant_of-self
invariant_of-self c = rw (with_items_is c.self.inside.bytes c.put_few.new.dst (same_len c)) (filled c).0

pub returns : goal.returns
returns c = rw (with_items_is c.self.inside.bytes c.put_few.new.dst (same_len c)) (filled c).1
