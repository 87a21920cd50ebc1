use Rattle.std.proofs.Common.{◌≡◌, ℕ, ◌/◌, ◌<◌, Bool, List, [], ◌∷◌, take, drop, refl, sym, ap, ◌∙◌, arith}
use Rattle.std.specs.Int.{to_le_bytes, w64}
use Rattle.std.proofs.lemmas.Nat.{le_bytes_8, or_lt}
use Rattle.asn1_bits.specs.Bits.{bits, digits, ored}
use Rattle.asn1_bits.specs.Laws.ByteLaws.{bits-bytes}
use Rattle.asn1_bits.specs.Laws.DigitLaws.{length-digits, length-bits}
use Rattle.asn1_bits.proofs.EightLemmas.{words-or, eight-ored, begun-bits, begun-small, begun-sum, turned-octets}
use Rattle.asn1_bits.proofs.PutLemmas.{zeros-behind_begun}
use Rattle.asn1_bits.proofs.target.stores.add_octets.Goals as goal

pub overflow_add-begun : goal.overflow_add-begun
overflow_add-begun c =
    let o = c.from-begun.result in
    let turned = c.from_le_bytes-turned.result in
    let small : o < 256 = omega (arith, c.from-begun.ensures) in
    omega (
      arith,
      begun-sum c.args.dst.now c.to_be_bytes.result o turned c.args.word c.args.position c.from-begun.ensures small
          c.requires.zeros c.requires.eight c.to_be_bytes.ensures c.from_le_bytes-turned.ensures c.requires.below,
      or_lt 64 o turned (omega (arith, small)) (omega arith),
    )

pub returns : goal.returns
returns c =
    let old = c.args.dst.now in
    let first = c.args.position / 8 in
    let o = c.from-begun.result in
    let turned = c.from_le_bytes-turned.result in
    let small : o < 256 = omega (arith, c.from-begun.ensures) in
    let begun = o ∷ 0 ∷ 0 ∷ 0 ∷ 0 ∷ 0 ∷ 0 ∷ 0 ∷ [] in
    let octets = c.to_be_bytes.result in
    let whole : bits octets ≡ digits c.args.word 64 = ap bits c.to_be_bytes.ensures ∙ bits-bytes 8 c.args.word in
    let zeros = zeros-behind_begun c.args.position (bits old) c.requires.zeros
    (omega (arith, length-bits old, c.requires.eight)) in
    eight-ored old c.store_octets.new.dst c.to_le_bytes.result (digits c.args.word 64) first c.store_octets.ensures
    c.requires.eight (omega (arith, length-digits c.args.word 64))
    (words-or begun octets c.to_le_bytes.result o turned
    (sym (le_bytes_8 begun o refl (begun-small o small) (omega arith)))
    (sym (turned-octets octets c.args.word turned c.to_be_bytes.ensures c.from_le_bytes-turned.ensures))
    (c.to_le_bytes.ensures
    ∙ ap (to_le_bytes w64) (sym (begun-sum old octets o turned c.args.word c.args.position c.from-begun.ensures small
    c.requires.zeros c.requires.eight c.to_be_bytes.ensures c.from_le_bytes-turned.ensures c.requires.below)))
    ∙ ap (λ (l : List Bool). ored l 0 (bits octets))
    (begun-bits old begun first (ap (λ (n : ℕ). n ∷ 0 ∷ 0 ∷ 0 ∷ 0 ∷ 0 ∷ 0 ∷ 0 ∷ []) c.from-begun.ensures) zeros
    c.requires.eight)
    ∙ ap (ored (bits (take 8 (drop first old))) 0) whole)
