use Rattle.std.proofs.Common.{rules, ◌≡◌, ℕ, ◌+◌, ◌*◌, ◌/◌, ◌%◌, ap, ◌∙◌, arith}
use Rattle.asn1_bits.specs.BitStr.{view_of}
use Rattle.asn1_bits.specs.View.{list_of}
use Rattle.asn1_bits.specs.Laws.ViewLaws.{list_of-part}
use Rattle.asn1_bits.proofs.bit_str.BitStr.slice.Goals as goal

pub returns-clause-list : goal.returns-clause-list
returns-clause-list c =
    let b = c.args.self.now in
    let from = c.args.from in
    let low = b.shift + from % 8 in
    let first : 8 * (b.octet + from / 8 + low / 8) + low % 8 ≡ 8 * b.octet + b.shift + from = omega arith in
    ap (λ (n : ℕ). list_of (record { storage = b.storage.now; first = n; len = c.args.len })) first
    ∙ list_of-part (view_of b) from c.args.len c.requires

pub returns-clause-view : goal.returns-clause-view
returns-clause-view c = search rules
