use Rattle.std.proofs.Common.{rules, arith, ◌≡◌, ◌<◌, ◌^◌, ◌∷◌, length, pos, refl, sym, ap, subst, ◌∙◌, IfOk, IfErr}
use Rattle.std.proofs.lemmas.Grind.{common_steps}
use Rattle.std.proofs.lemmas.Int.{to_z_pos}
use Rattle.std.specs.Int.{w128}
use Rattle.asn1_number.specs.declared.error.IntegerError.TheVariants.{Memory}
use Rattle.asn1_number.specs.Octets.{signed}
use Rattle.asn1_number.specs.Readings.{FitsI128}
use Rattle.asn1_number.specs.Laws.OctetLaws.{octets_from_places, copy_is_shortest, nine_bits_from_shortest}
use Rattle.asn1_number.specs.Laws.WidthLaws.{fits_by_parts}
use Rattle.asn1_number.specs.Laws.ReadingLaws.{low_value, zero_in_front, fifteen_fit, past_sixteen}
use Rattle.asn1_number.proofs.integer.Integer.from_unsigned_octets.Goals as goal

pub returns-then-octets-lt128-clause-value : goal.returns-then-octets-lt128-clause-value
returns-then-octets-lt128-clause-value c =
    subst (λ z. IfOk c.from_signed_octets.result (λ n. n ≡ z))
    (low_value c.args.octets.now (search rules) c.if-octets-lt128.true) c.from_signed_octets.ensures.value

pub returns-then-octets-lt128-clause-memory : goal.returns-then-octets-lt128-clause-memory
returns-then-octets-lt128-clause-memory c = λ some.
    subst (λ z. IfErr c.from_signed_octets.result (λ e. (e ≡ Memory) × ¬ (FitsI128 z)))
    (low_value c.args.octets.now (search rules) c.if-octets-lt128.true) (c.from_signed_octets.ensures.memory some)

pub overflow_cast-unsigned_value : goal.overflow_cast-unsigned_value
overflow_cast-unsigned_value c =
    let h = octets_from_places c.args.octets.now (λ i. omega (arith, c.type_inv.octets i)) in
    fits_by_parts (pos c.unsigned_value.result)
    (omega (arith, c.unsigned_value.ensures, fifteen_fit c.args.octets.now h c.if-octets-lt16.true)) (omega arith)

pub returns-then-octets-lt16-clause-value : goal.returns-then-octets-lt16-clause-value
returns-then-octets-lt16-clause-value c =
    let h = octets_from_places c.args.octets.now (λ i. omega (arith, c.type_inv.octets i)) in
    let small : c.unsigned_value.result < 2 ^ 127 =
    omega (arith, c.unsigned_value.ensures, fifteen_fit c.args.octets.now h c.if-octets-lt16.true) in
    c.inline.ensures ∙ (to_z_pos w128 c.unsigned_value.result small ∙ ap pos c.unsigned_value.ensures)

pub returns-in_default-clause-memory : goal.returns-in_default-clause-memory
returns-in_default-clause-memory c = λ _.
    let some : 0 < length c.args.octets.now = search rules in
    let h = octets_from_places c.args.octets.now (λ i. omega (arith, c.type_inv.octets i)) in
    let s = zero_in_front c.args.octets.now h some c.if-octets-lt128.false in (
      refl,
      λ r. past_sixteen (0 ∷ c.args.octets.now) s.octets (nine_bits_from_shortest _ _ s) (omega arith)
          (subst FitsI128 (sym s.value) r),
    )

pub invariant_of-result : goal.invariant_of-result
invariant_of-result c =
    let some : 0 < length c.args.octets.now = search rules in
    let h = octets_from_places c.args.octets.now (λ i. omega (arith, c.type_inv.octets i)) in
    let s = zero_in_front c.args.octets.now h some c.if-octets-lt128.false in
    let e : c.extend_from_slice.new.self.items ≡ 0 ∷ c.args.octets.now = grind (arith, common_steps) in
    (copy_is_shortest _ _ _ s e, omega (arith, ap length e))

pub returns-clause-value : goal.returns-clause-value
returns-clause-value c =
    let some : 0 < length c.args.octets.now = search rules in
    let h = octets_from_places c.args.octets.now (λ i. omega (arith, c.type_inv.octets i)) in
    let s = zero_in_front c.args.octets.now h some c.if-octets-lt128.false in
    let e : c.extend_from_slice.new.self.items ≡ 0 ∷ c.args.octets.now = grind (arith, common_steps) in
    ap signed e ∙ s.value
