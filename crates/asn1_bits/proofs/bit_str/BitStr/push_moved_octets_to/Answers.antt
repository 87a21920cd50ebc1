use Rattle.std.proofs.Common.{◌≡◌, ℕ, ◌-◌, ◌/◌, Bool, List, ◌++◌, length, take, drop, replicate, sym, ap, ◌∙◌, arith}
use Rattle.std.proofs.lemmas.List.{append-nil, take_at, length-append}
use Rattle.asn1_bits.specs.Bits.{bits}
use Rattle.asn1_bits.specs.BitStr.{view_of, bits_of}
use Rattle.asn1_bits.proofs.BufferLemmas.{bits-lengthened}
use Rattle.asn1_bits.specs.Laws.ViewLaws.{length-list_of, list_of-none}
use Rattle.asn1_bits.proofs.bit_str.BitStr.push_moved_octets_to.Goals as goal

pub returns-then-count-eq0-clause-ok : goal.returns-then-count-eq0-clause-ok
returns-then-count-eq0-clause-ok c =
    let octets = c.args.octets.now.items in
    sym (ap (λ (l : List Bool). bits octets ++ l) (list_of-none (view_of c.args.self.now) (omega arith))
    ∙ append-nil (bits octets))

pub returns-clause-ok : goal.returns-clause-ok
returns-clause-ok c =
    let v = c.args.octets.now in
    let b = c.args.self.now in
    let grown = c.resize.new.self in
    let needed = c.in-Some.needed in
    let front = c.split_at_mut-room.result.0.now in
    let room = c.split_at_mut-room.result.1.now in
    let dst = c.write_bitslice.new.dst in
    let n : c.len-front.result ≡ length v.items = omega (arith, c.len-front.ensures, v.ok.0) in
    let len : length (front ++ dst) ≡ grown.len =
    omega (
      arith,
      length-append front dst,
      c.write_bitslice.auto.dst,
      c.split_at_mut-room.ensures.front_len,
      c.split_at_mut-room.ensures.back_len,
      c.as_mut_slice.ensures.len,
    ) in
    ap bits (take_at (front ++ dst) (drop (length (front ++ dst)) grown.items) grown.len len)
    ∙ bits-lengthened v.items grown.items front room dst (bits_of b) c.len-front.result c.in-Some.needed (b.len / 8)
    (c.in_ok-resize.ensures.items ∙ ap (λ (k : ℕ). take needed v.items ++ replicate (needed - k) 0)
    (sym c.len-front.ensures)) n c.in-Some.ensures.1
    (c.split_at_mut-room.ensures.front ∙ ap (λ (l : List ℕ). take c.len-front.result l) c.as_mut_slice.ensures.value)
    (c.split_at_mut-room.ensures.back ∙ ap (λ (l : List ℕ). drop c.len-front.result l) c.as_mut_slice.ensures.value)
    c.write_bitslice.ensures.bits
    (length-list_of (view_of b) b.within ∙ omega (arith, c.requires))
