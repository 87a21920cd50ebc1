use Rattle.std.proofs.Common.{rules, arith, ◌≡◌, refl}
use Rattle.asn1_number.specs.Octets.{signed}
use Rattle.asn1_number.specs.Laws.OctetLaws.{nine_bits_from_shortest}
use Rattle.asn1_number.specs.Laws.ReadingLaws.{past_sixteen}
use Rattle.asn1_number.proofs.integer.Integer.from_long_octets_in_memory.Goals as goal

pub returns-in_default-clause-memory : goal.returns-in_default-clause-memory
returns-in_default-clause-memory c =
    let s = c.without_redundant_sign_octets_fast-kept.ensures in
    let e : signed c.without_redundant_sign_octets_fast-kept.result.now ≡ signed c.args.octets.now = s.value in (
      refl,
      λ r. past_sixteen c.without_redundant_sign_octets_fast-kept.result.now s.octets (nine_bits_from_shortest _ _ s) (omega arith) (rw e r),
    )

pub invariant_of-result : goal.invariant_of-result
invariant_of-result c = search rules
