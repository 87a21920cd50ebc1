use Rattle.std.proofs.Common.{◌≡◌, ℕ, ◌/◌, ◌*◌, ◌<◌, List, Bool, take, drop, sym, ◌∙◌, ap, subst, arith}
use Rattle.std.specs.Prelude.{All}
use Rattle.std.proofs.lemmas.Grind.{get_or_default_zero}
use Rattle.std.proofs.lemmas.List.Elements.{All-take, All-drop}
use Rattle.asn1_bits.specs.Bits.{bits}
use Rattle.asn1_bits.specs.Laws.DigitLaws.{bits-take, bits-drop, length-bits}
use Rattle.asn1_x690_leaves.proofs.octets.octets_at.Goals as goal

pub split_at-requires : goal.split_at-requires
split_at-requires c = let i = c.requires.contents.inside in omega (arith, i, length-bits c.args.octets.now)

pub split_at-requires-2 : goal.split_at-requires-2
split_at-requires-2 c =
    let i = c.requires.contents.inside in
    omega (arith, i, length-bits c.args.octets.now, c.split_at.ensures.back_len, c.requires.begins)

pub returns-clause-bits : goal.returns-clause-bits
returns-clause-bits c =
    let own = c.args.octets.now in
    let list = bits own in
    let p = c.args.span.at / 8 in
    let q = c.args.span.count / 8 in
    let first : 8 * p ≡ c.args.span.at = omega (arith, c.requires.begins) in
    let many : 8 * q ≡ c.args.span.count = let w = c.requires.contents.whole in omega (arith, w) in
    ap bits (c.split_at-2.ensures.front ∙ ap (λ (l : List ℕ). take q l) c.split_at.ensures.back)
    ∙ bits-take q (drop p own)
    ∙ ap (λ (l : List Bool). take (8 * q) l) (bits-drop p own)
    ∙ ap (λ (n : ℕ). take (8 * q) (drop n list)) first
    ∙ ap (λ (n : ℕ). take n (drop c.args.span.at list)) many

pub returns-clause-octets : goal.returns-clause-octets
returns-clause-octets c =
    let own = c.args.octets.now in
    let p = c.args.span.at / 8 in
    let q = c.args.span.count / 8 in
    subst (λ (l : List ℕ). All (λ o. o < 256) l) (sym (c.split_at-2.ensures.front ∙ ap (λ (l : List ℕ). take q l) c.split_at.ensures.back))
    (All-take (λ o. o < 256) q (drop p own) (All-drop (λ o. o < 256) p own (λ k d h. omega (arith, c.type_inv.octets k, get_or_default_zero own k d h))))
