use Rattle.std.proofs.Common.{rules, arith, ◌≡◌, ℕ, ℤ, pos, List, ◌-◌, ◌^◌, ◌<◌, ◌+ℤ◌, ◌*ℤ◌, length, take, drop, sym, ap, subst, ◌∙◌, to_z, of_z, to_z-of_z, SFits, length-take}
use Rattle.std.proofs.lemmas.List.{length-drop, take-append-drop}
use Rattle.std.specs.Int.{w128}
use Rattle.asn1_number.specs.Octets.{unsigned, signed}
use Rattle.asn1_number.specs.Laws.OctetLaws.{octets_from_places, octets-drop}
use Rattle.asn1_number.specs.Laws.WidthLaws.{octets-take, sixteen_fit}
use Rattle.asn1_number.proofs.WordLemmas.{signed-eight_more, word_times_fits}
use Rattle.asn1_number.proofs.values.signed_value.Goals as goal

pub overflow_mul-result : goal.overflow_mul-result
overflow_mul-result c =
    let o = c.args.octets.now in
    let at = length o - 8 in
    let all = octets_from_places o (λ i. omega (arith, c.type_inv.octets i)) in
    let n : length (take at o) ≡ at = length-take at o ∙ omega arith in
    let some : 0 < length c.split_at.result.0.now = search rules in
    let f : SFits w128 c.signed_front.result = search rules in
    let e : c.signed_front.result ≡ signed (take at o) = c.signed_front.ensures ∙ ap signed c.split_at.ensures.front in
    subst (λ (z : ℤ). SFits w128 (z *ℤ pos (2 ^ 64))) (sym (to_z-of_z f ∙ e))
    (word_times_fits (take at o) (octets-take at o all)
    (omega (arith, n, some, c.split_at.ensures.front_len)) (omega (arith, n, c.requires.few)))

pub returns : goal.returns
returns c =
    let o = c.args.octets.now in
    let at = length o - 8 in
    let all = octets_from_places o (λ i. omega (arith, c.type_inv.octets i)) in
    let a = c.signed_front.result in
    let b = c.from-2.result in
    let k : ℤ = pos (2 ^ 64) in
    let n : length (take at o) ≡ at = length-take at o ∙ omega arith in
    let some : 0 < length c.split_at.result.0.now = search rules in
    let front : 0 < length (take at o) = omega (arith, n, some, c.split_at.ensures.front_len) in
    let w : length (drop at o) ≡ 8 = length-drop at o ∙ omega (arith, c.if-count-lt8.false) in
    let f : SFits w128 a = search rules in
    let g : SFits w128 b = search rules in
    let e : a ≡ signed (take at o) = c.signed_front.ensures ∙ ap signed c.split_at.ensures.front in
    let v : b ≡ pos (unsigned (drop at o)) =
    c.from-2.ensures ∙ ap pos c.word_of_eight-word.ensures.value
    ∙ ap (λ (l : List ℕ). pos (unsigned l)) c.split_at.ensures.back in
    let m : SFits w128 (a *ℤ k) =
    subst (λ (z : ℤ). SFits w128 (z *ℤ k)) (sym e)
    (word_times_fits (take at o) (octets-take at o all) front (omega (arith, n, c.requires.few))) in
    let total : a *ℤ k +ℤ b ≡ signed o =
    ap (λ (z : ℤ). z *ℤ k +ℤ b) e ∙ ap (λ (z : ℤ). signed (take at o) *ℤ k +ℤ z) v
    ∙ sym (signed-eight_more (take at o) (drop at o) front (octets-take at o all) (octets-drop at o all) w)
    ∙ ap signed (take-append-drop at o) in
    let t : SFits w128 (a *ℤ k +ℤ b) =
    subst (λ (z : ℤ). SFits w128 z) (sym total) (sixteen_fit o all c.requires.some c.requires.few) in
    let product : to_z w128 (of_z w128 (to_z w128 (of_z w128 a) *ℤ k)) ≡ a *ℤ k =
    ap (λ (z : ℤ). to_z w128 (of_z w128 (z *ℤ k))) (to_z-of_z f) ∙ to_z-of_z m in
    ap (λ (z : ℤ). to_z w128 (of_z w128 (z +ℤ to_z w128 (of_z w128 b)))) product
    ∙ ap (λ (z : ℤ). to_z w128 (of_z w128 (a *ℤ k +ℤ z))) (to_z-of_z g)
    ∙ to_z-of_z t ∙ total

pub overflow_add-result : goal.overflow_add-result
overflow_add-result c = search rules
