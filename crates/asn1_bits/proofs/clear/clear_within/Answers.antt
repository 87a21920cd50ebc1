use Rattle.std.proofs.Common.{◌<◌, ℕ, ◌/◌, ◌%◌, false, replicate, sym, ap, ◌∙◌, arith}
use Rattle.std.proofs.lemmas.List.{length-replicate}
use Rattle.asn1_bits.specs.Bits.{digits, bits, overwritten}
use Rattle.asn1_bits.specs.Laws.OverwrittenLaws.{overwritten-none}
use Rattle.asn1_bits.proofs.OverwriteLemmas.{octet-cleared, octet-put}
use Rattle.asn1_bits.proofs.clear.clear_within.Goals as goal

pub returns-then-count-eq0 : goal.returns-then-count-eq0
returns-then-count-eq0 c =
    sym (ap (λ (n : ℕ). overwritten (bits c.args.dst.now) c.args.position (replicate n false)) c.if-count-eq0.true
    ∙ overwritten-none (bits c.args.dst.now) c.args.position)

pub overflow_cast-dst : goal.overflow_cast-dst
overflow_cast-dst c =
    let o = c.from-octet.result in
    let small : o < 256 = omega (arith, c.from-octet.ensures) in
    omega (arith, (octet-cleared o (c.args.position % 8) c.args.count small c.requires.octet).0)

pub returns : goal.returns
returns c =
    let octets = c.args.dst.now in
    let place = c.args.position in
    let o = c.from-octet.result in
    let zeros = replicate c.args.count false in
    let n = length-replicate c.args.count false in
    let small : o < 256 = omega (arith, c.from-octet.ensures) in
    octet-put octets (place / 8) _ (place % 8) place zeros (omega (arith, c.requires.room, c.if-count-eq0.false))
    (omega (arith, n, c.requires.octet)) (omega arith)
    ((octet-cleared o (place % 8) c.args.count small c.requires.octet).1
    ∙ ap (λ (m : ℕ). overwritten (digits m 8) (place % 8) zeros) c.from-octet.ensures)
