use Rattle.std.proofs.Common.{◌≡◌, ℕ, Bool, List, length, set, ap, ◌∙◌, arith}
use Rattle.std.proofs.lemmas.List.{with_items_is}
use Rattle.asn1_bits.specs.Bits.{bits}
use Rattle.asn1_bits.specs.BitBuffer.{bits_shown, IsFilled}
use Rattle.asn1_bits.proofs.BufferLemmas.{length-bits_shown, len_fits, filled-set}
use Rattle.asn1_bits.proofs.bit_buffer.BitBuffer.set.Goals as goal

pub set_bit-requires : goal.set_bit-requires
set_bit-requires c =
    let b = c.self.inside in
    let shows = ap (λ (l : List Bool). length l) c.self.view_is in
    omega (
      arith,
      length-bits_shown b.bytes.items b.len c.self.invariant,
      len_fits b.bytes.items b.len c.self.invariant,
      ap (λ (l : List ℕ). length l) c.as_mut_slice.ensures.value,
      shows,
    )

filled : (c : goal.After-self-1) → IsFilled c.set_bit.new.octets c.self.inside.len
    × (bits_shown c.set_bit.new.octets c.self.inside.len ≡ set c.args.self.now c.args.index c.args.bit)
filled c =
    let b = c.self.inside in
    let shows = ap (λ (l : List Bool). length l) c.self.view_is in
    let f = filled-set b.bytes.items c.set_bit.new.octets b.len c.args.index c.args.bit c.self.invariant
    (c.set_bit.ensures ∙ ap (λ (l : List ℕ). set (bits l) c.args.index c.args.bit) c.as_mut_slice.ensures.value)
    (omega (arith, c.set_bit.auto.octets, c.as_mut_slice.ensures.len, b.bytes.ok.0))
    (omega (arith, length-bits_shown b.bytes.items b.len c.self.invariant, shows)) in
    (f.0, f.1 ∙ ap (λ (l : List Bool). set l c.args.index c.args.bit) c.self.view_is)

same_len : (c : goal.After-self-1) → length c.set_bit.new.octets ≡ c.self.inside.bytes.len
same_len c = omega (arith, c.set_bit.auto.octets, c.as_mut_slice.ensures.len)

pub invariant_of-self : goal.invariant_of-self
invariant_of-self c = rw (with_items_is c.self.inside.bytes c.set_bit.new.octets (same_len c)) (filled c).0

pub returns : goal.returns
returns c = rw (with_items_is c.self.inside.bytes c.set_bit.new.octets (same_len c)) (filled c).1
