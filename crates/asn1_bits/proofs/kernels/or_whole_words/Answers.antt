use Rattle.std.proofs.Common.{◌≡◌, ℕ, ◌+◌, ◌-◌, ◌*◌, ◌/◌, ◌%◌, ◌^◌, length, take, drop, sym, ap, ◌∙◌, arith}
use Rattle.std.proofs.lemmas.List.{take_all, length-take}
use Rattle.asn1_bits.specs.Bits.{bits, digits, number, ored}
use Rattle.asn1_bits.specs.BitStr.{bits_of}
use Rattle.asn1_bits.specs.Laws.NumberLaws.{digits_of-number}
use Rattle.asn1_bits.proofs.ReadWideLemmas.{read-top}
use Rattle.asn1_bits.specs.Laws.DigitLaws.{length-bits}
use Rattle.asn1_bits.proofs.RunLemmas.{words-placed}
use Rattle.asn1_bits.proofs.kernels.or_whole_words.Goals as goal

pub returns-clause-bits : goal.returns-clause-bits
returns-clause-bits c =
    let len = c.len-len.result in
    let place = c.args.position in
    let count = len / 64 in
    let spill = place % 8 in
    let src = bits_of c.args.src in
    let old = bits c.args.dst.now.octets.now in
    let all = c.len-len.ensures in
    let width = 64 - spill in
    let word = c.first_word.result in
    let list : length src ≡ len = omega (arith, all.list) in
    let down : 64 - width ≡ spill = omega arith in
    let whole : digits word 64 ≡ take 64 src =
    ap (λ (n : ℕ). digits n 64) c.first_word.ensures
    ∙ digits_of-number (take 64 src) 64 (omega (arith, length-take 64 src, list, c.requires.some, all.len)) in
    let top : word / 2 ^ spill ≡ number (take width src) =
    sym (ap (λ (k : ℕ). word / 2 ^ k) down)
    ∙ read-top src 64 width word (omega arith) (omega (arith, c.first_word.type_inv)) whole in
    let front : digits (word / 2 ^ spill) width ≡ take width src =
    ap (λ (n : ℕ). digits n width) top
    ∙ digits_of-number (take width src) width
    (omega (arith, length-take width src, list, c.requires.some, all.len)) in
    words-placed old (bits c.or_begun-rest.new.self.octets.now) (bits c.or_words.new.dst.octets.now) (bits c.or_edge.new.dst.octets.now) src place count spill
    (8 * (place / 8 + 8)) (8 * (place / 8 + len / 8))
    (omega (arith, c.requires.some, all.len)) (omega arith) (omega (arith, all.list))
    (omega (arith, length-bits c.args.dst.now.octets.now, all.len, c.requires.room))
    (c.or_begun-rest.ensures.bits ∙ ap (ored old place) front) c.or_words.ensures.bits (omega arith)
    (c.or_edge.ensures.bits
    ∙ ap (λ (k : ℕ). ored (bits c.or_words.new.dst.octets.now) (8 * (place / 8 + len / 8)) (take spill (drop (k - spill) src)))
    (omega (arith, c.requires.whole, all.len)))
    (omega (arith, c.requires.some, c.requires.whole, all.len))
    ∙ ap (ored old place) (take_all (64 * count) src (omega (arith, all.list, all.len, c.requires.whole)))
