use Rattle.std.proofs.Common.{◌≡◌, ◌<◌, ◌+◌, ◌*◌, ◌^◌, ◌∷◌, ◌++◌, ℕ, List, [], take, drop, sym, ◌∙◌, ap, arith}
use Rattle.std.proofs.lemmas.List.{length-take, take_more_set}
use Rattle.asn1_bits.specs.Bits.{bits, number}
use Rattle.asn1_bits.specs.Laws.NumberLaws.{number-below}
use Rattle.asn1_schema.specs.CharactersOfParts.{numbers_in}
use Rattle.asn1_schema.specs.PiecesOfParts.{bits_at, joined}
use Rattle.asn1_x691_fields.specs.Utf8Steps.{one_more_octet}
use Rattle.asn1_x691_fields.proofs.utf8_fragments.copy_octets.Goals as goal

pub overflow_cast-octets : goal.overflow_cast-octets
overflow_cast-octets c =
    let s = c.args.source.now in
    let list = joined 8 (bits s.octets.now) s.fragments in
    let front = bits_at list (8 * (c.args.at + c.loop-i.i)) 8 in
    let few : number front < 2 ^ 8 =
    number-below front 8 (omega (arith, length-take 8 (drop (8 * (c.args.at + c.loop-i.i)) list))) in
    omega (arith, few, c.octet.ensures)

pub loop-i-preserved : goal.loop-i-preserved
loop-i-preserved c =
    let s = c.args.source.now in
    let list = joined 8 (bits s.octets.now) s.fragments in
    let at = c.args.at in
    let i = c.loop-i.i in
    let e : 8 * (at + i) ≡ 8 * at + 8 * i = omega arith in
    take_more_set c.loop-i.octets i c.octet.result (omega (arith, c.loop-i-test.true))
    ∙ ap (λ (l : List ℕ). l ++ c.octet.result ∷ []) c.loop-i.invariant
    ∙ ap (λ (n : ℕ). numbers_in 8 i (drop (8 * at) list) ++ n ∷ []) (c.octet.ensures ∙ ap (λ (k : ℕ). number (bits_at list k 8)) e)
    ∙ sym (one_more_octet i (8 * at) list)
