use Rattle.std.proofs.Common.{◌≡◌, ℕ, ◌+◌, ◌-◌, ◌*◌, take, drop, sym, ap, ◌∙◌, arith}
use Rattle.std.proofs.lemmas.List.{drop-drop, drop-take}
use Rattle.asn1_bits.specs.Bits.{bits, digits, ored}
use Rattle.asn1_bits.specs.BitStr.{bits_of}
use Rattle.asn1_bits.proofs.OredLemmas.{ored-none}
use Rattle.asn1_bits.proofs.WindowLemmas.{low-part}
use Rattle.asn1_bits.proofs.bit_str.BitStr.or_edge.Goals as goal

pub returns-then-width-gt0-clause-bits : goal.returns-then-width-gt0-clause-bits
returns-then-width-gt0-clause-bits c =
    let b = c.args.self.now in
    let list = bits_of b in
    let width = c.args.width in
    let s = 64 - width in
    let all : 64 ≡ s + width = omega (arith, c.requires.width) in
    let at : b.len - 64 + s ≡ b.len - width = omega (arith, c.requires.width, c.requires.some) in
    let word = c.last_word.result in
    let low : digits word width ≡ take width (drop (b.len - width) list) =
    sym (low-part word s width)
    ∙ ap (λ (k : ℕ). drop s (digits word k)) (sym all)
    ∙ ap (drop s) (c.last_word.ensures ∙ ap (λ (k : ℕ). take k (drop (b.len - 64) list)) all)
    ∙ drop-take s width (drop (b.len - 64) list)
    ∙ ap (take width) (drop-drop s (b.len - 64) list ∙ ap (λ (k : ℕ). drop k list) at) in
    c.or_rest.ensures.bits ∙ ap (ored (bits c.args.dst.now.octets.now) (8 * c.args.octet)) low

pub returns-else-width-gt0-clause-bits : goal.returns-else-width-gt0-clause-bits
returns-else-width-gt0-clause-bits c =
    let none : c.args.width ≡ 0 = omega (arith, c.if-width-gt0.false) in
    rw none (sym (ored-none (bits c.args.dst.now.octets.now) (8 * c.args.octet)))
