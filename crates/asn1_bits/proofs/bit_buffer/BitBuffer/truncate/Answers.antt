use Rattle.std.proofs.Common.{◌≡◌, ℕ, Bool, List, length, take, sym, ap, ◌∙◌, arith}
use Rattle.std.proofs.lemmas.List.{with_items_is, take_all, length-take}
use Rattle.asn1_bits.specs.BitBuffer.{bits_shown, IsFilled}
use Rattle.asn1_bits.proofs.BufferLemmas.{length-bits_shown, filled-cut}
use Rattle.asn1_bits.proofs.bit_buffer.BitBuffer.truncate.Goals as goal

pub returns-then-len-self : goal.returns-then-len-self
returns-then-len-self c =
    let b = c.self.inside in
    sym (take_all c.args.len c.args.self.now
    (omega (
      arith,
      length-bits_shown b.bytes.items b.len c.self.invariant,
      ap (λ (l : List Bool). length l)
          c.self.view_is,
    )))

pub clear_from-requires : goal.clear_from-requires
clear_from-requires c =
    let b = c.self.inside in
    ap (λ (l : List ℕ). length l) (c.as_mut_slice.ensures.value ∙ c.truncate.ensures.items)
    ∙ omega (arith, length-take c.div_ceil.result b.bytes.items, c.div_ceil.ensures, c.self.invariant.count)

filled : (c : goal.After-self-2-1) → IsFilled c.clear_from.new.octets c.args.len
    × (bits_shown c.clear_from.new.octets c.args.len ≡ take c.args.len c.args.self.now)
filled c =
    let b = c.self.inside in
    let cut = c.as_mut_slice.result.now in
    let f = filled-cut b.bytes.items cut c.clear_from.new.octets b.len c.args.len c.self.invariant (omega arith)
    (c.as_mut_slice.ensures.value ∙ c.truncate.ensures.items ∙ ap (λ (n : ℕ). take n b.bytes.items) c.div_ceil.ensures)
    c.clear_from.ensures c.clear_from.auto.octets in
    (f.0, f.1 ∙ ap (take c.args.len) c.self.view_is)

same_len : (c : goal.After-self-2-1) → length c.clear_from.new.octets ≡ c.truncate.new.self.len
same_len c = omega (arith, c.clear_from.auto.octets, c.as_mut_slice.ensures.len)

pub invariant_of-self : goal.invariant_of-self
invariant_of-self c = rw (with_items_is c.truncate.new.self c.clear_from.new.octets (same_len c)) (filled c).0

pub returns : goal.returns
returns c = rw (with_items_is c.truncate.new.self c.clear_from.new.octets (same_len c)) (filled c).1
