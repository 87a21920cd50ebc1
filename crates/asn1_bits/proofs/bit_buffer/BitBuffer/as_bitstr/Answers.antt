use Rattle.std.proofs.Common.{◌≡◌, ◌-◌, ◌*◌, Bool, false, List, length, take, replicate, sym, ap, ◌∙◌, arith}
use Rattle.std.proofs.lemmas.List.{take_at}
use Rattle.asn1_bits.specs.Bits.{bits, octets_for}
use Rattle.asn1_bits.specs.View.{View}
use Rattle.asn1_bits.proofs.BufferLemmas.{length-bits_shown}
use Rattle.asn1_bits.proofs.bit_buffer.BitBuffer.as_bitstr.Goals as goal

pub part_of-requires : goal.part_of-requires
part_of-requires c =
    let b = c.self.inside in
    omega (
      arith,
      length-bits_shown b.bytes.items b.len c.self.invariant,
      ap (λ (l : List Bool). length l)
          c.self.view_is,
      c.as_bytes.ensures.count,
    )

pub returns-clause-list : goal.returns-clause-list
returns-clause-list c =
    let b = c.self.inside in
    let list = c.args.self.now in
    let n : b.len ≡ length list = sym (length-bits_shown b.bytes.items b.len c.self.invariant)
    ∙ ap (λ (l : List Bool). length l) c.self.view_is in
    c.part_of.ensures.list
    ∙ ap (take b.len) c.as_bytes.ensures.spelled
    ∙ take_at list (replicate (8 * octets_for (length list) - length list) false) b.len (sym n)

pub returns-clause-len : goal.returns-clause-len
returns-clause-len c =
    let b = c.self.inside in
    ap (λ (v : View). v.len) c.part_of.ensures.view
    ∙ sym (length-bits_shown b.bytes.items b.len c.self.invariant) ∙ ap (λ (l : List Bool). length l) c.self.view_is

pub returns-clause-first : goal.returns-clause-first
returns-clause-first c = ap (λ (v : View). v.first) c.part_of.ensures.view

pub returns-clause-storage : goal.returns-clause-storage
returns-clause-storage c = ap (λ (v : View). bits v.storage) c.part_of.ensures.view ∙ c.as_bytes.ensures.spelled
