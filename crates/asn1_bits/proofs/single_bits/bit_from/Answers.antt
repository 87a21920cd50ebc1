use Rattle.std.proofs.Common.{ℕ, ◌+◌, ◌-◌, ◌*◌, ◌/◌, ◌%◌, ◌∙◌, ap, sym, eqb, arith}
use Rattle.std.proofs.lemmas.Nat.Bits.{shr_and_one}
use Rattle.asn1_bits.specs.Laws.DigitLaws.{get_or-bits_at}
use Rattle.asn1_bits.proofs.single_bits.bit_from.Goals as goal

pub returns : goal.returns
returns c =
    let octet = c.args.octet in let i = c.args.i in let low = c.args.shift + i % 8 in
    ap (λ (m : ℕ). eqb m 1) (shr_and_one _ (7 - low % 8))
    ∙ sym (get_or-bits_at c.args.octets.now (8 * octet + c.args.shift + i) (octet + i / 8 + low / 8) (low % 8)
    (7 - low % 8) (omega arith) (omega arith))
