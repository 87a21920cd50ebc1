use Rattle.std.proofs.Common.{◌≡◌, ℕ, ◌+◌, ◌*◌, ◌<◌, ◌≤◌, true, false, length, arith}
use Rattle.std.proofs.lemmas.Bool.{le-leb}
use Rattle.std.proofs.lemmas.Slice.Eq.{slice_eq-Decides}
use Rattle.std.specs.Bool.{beq}
use Rattle.std.specs.Cmp.{booleans_Decides}
use Rattle.asn1_bits.specs.BitStr.{view_of, bits_of}
use Rattle.asn1_x691_fields.proofs.CompareSteps.{view_bits, are_default}
use Rattle.asn1_x691_fields.proofs.compare.are_bits.Goals as goal

differ : true ≡ false → ⊥
differ e = cc

not_more : (m n : ℕ) → (n < m → ⊥) → m ≤ n
not_more m n f = omega (arith, f)

pub returns-in-Some : goal.returns-in-Some
returns-in-Some c =
    let octets = c.args.octets.now in
    let span = c.args.span in
    let found = c.in-Some.found in
    let inside : span.at + span.count ≤ 8 * length octets = not_more (span.at + span.count) (8 * length octets) (λ h. differ (c.in-Some.ensures.none.1 h)) in
    are_default octets span (bits_of found) (bits_of c.args.bits) c.eq.result
    (le-leb (span.at + span.count) (8 * length octets) inside) (view_bits (view_of found) octets span c.in-Some.ensures.some)
    (slice_eq-Decides {E = beq} booleans_Decides (bits_of found) (bits_of c.args.bits) c.eq.result c.eq.ensures)
