use Rattle.std.proofs.Common.{ℕ, List, ◌/◌, length, refl, ap, ◌∙◌}
use Rattle.asn1_bits.specs.Bits.{bits}
use Rattle.asn1_bits.specs.Laws.ByteLaws.{bits-bytes}
use Rattle.asn1_bits.proofs.OverwriteLemmas.{word-written}
use Rattle.asn1_bits.proofs.target.stores.set_within_eight.Goals as goal

pub returns : goal.returns
returns c =
    word-written c.args.dst.now c.store_octets.new.dst c.to_be_bytes.result c.load.result c.args.word (c.args.position / 8)
    c.args.position c.args.width c.store_octets.ensures (ap (λ (l : List ℕ). length l) c.to_be_bytes.ensures) c.requires.eight refl
    c.requires.width c.load.ensures
    (ap bits c.to_be_bytes.ensures ∙ bits-bytes 8 c.replaced-new.result ∙ c.replaced-new.ensures)
