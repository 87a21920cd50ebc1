use Rattle.std.proofs.Common.{◌≡◌, ℕ, ◌+◌, ◌*◌, ap, ◌∙◌, arith}
use Rattle.asn1_bits.specs.BitStr.{view_of}
use Rattle.asn1_bits.specs.View.{list_of}
use Rattle.asn1_bits.specs.Laws.ViewLaws.{list_of-part}
use Rattle.asn1_bits.proofs.bit_str.BitStr.front.Goals as goal

pub returns-clause-list : goal.returns-clause-list
returns-clause-list c =
    let b = c.args.self.now in
    let first : 8 * b.octet + b.shift ≡ 8 * b.octet + b.shift + 0 = omega arith in
    ap (λ (n : ℕ). list_of (record { storage = b.storage.now; first = n; len = c.args.len })) first
    ∙ list_of-part (view_of b) 0 c.args.len (omega (arith, c.requires))
