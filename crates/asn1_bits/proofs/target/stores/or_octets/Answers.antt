use Rattle.std.proofs.Common.{◌≡◌, ℕ, ◌*◌, List, length, ap, ◌∙◌, arith}
use Rattle.std.proofs.lemmas.List.{take_all}
use Rattle.asn1_bits.specs.Bits.{bits, ored}
use Rattle.asn1_bits.specs.Laws.ByteLaws.{bits-bytes}
use Rattle.asn1_bits.proofs.target.stores.or_octets.Goals as goal

pub returns : goal.returns
returns c =
    let octets = c.to_be_bytes.result in
    let n : length octets ≡ 8 = ap (λ (l : List ℕ). length l) c.to_be_bytes.ensures in
    c.or_eight.ensures
    ∙ ap (ored (bits c.args.dst.now) (8 * c.args.first))
    (ap bits (take_all 8 octets (omega (arith, n)) ∙ c.to_be_bytes.ensures) ∙ bits-bytes 8 c.args.word)
