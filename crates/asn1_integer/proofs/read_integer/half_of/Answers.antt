use Rattle.std.proofs.Common.{◌≡◌, ℕ, ◌-◌, ◌+◌, ◌*◌, ◌^◌, ap, sym, ◌∙◌, arith}
use Rattle.std.proofs.lemmas.Nat.{one_shl, pow-add}
use Rattle.asn1_integer.proofs.NativeLemmas.{half_within}
use Rattle.asn1_integer.proofs.read_integer.half_of.Goals as goal

pub returns : goal.returns
returns c =
    let width = c.args.width in
    let above : ℕ = width - 65 in
    let word : c.from.result ≡ 2 ^ above = c.from.ensures
    ∙ one_shl above 64 (omega (arith, c.requires.few, c.requires.many)) in
    let e : above + 64 ≡ width - 1 = omega (arith, c.requires.many) in
    let half : 2 ^ above * 2 ^ 64 ≡ 2 ^ (width - 1) = sym (pow-add 2 above 64) ∙ ap (λ (k : ℕ). 2 ^ k) e in
    let fits = half_within width 127 c.requires.few in
    omega (arith, word, half, fits)
