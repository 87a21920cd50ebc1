use Rattle.std.proofs.Common.{◌≡◌, ℕ, ◌+◌, ◌-◌, ◌∷◌, ◌++◌, List, Bool, take, drop, nat_eq, sym, ◌∙◌, ap, arith}
use Rattle.std.proofs.lemmas.List.{drop-drop}
use Rattle.std.proofs.Math.Seq.{take-add}
use Rattle.asn1_bits.specs.Bits.{bits}
use Rattle.asn1_x691_fields.specs.Steps.{one_bit}
use Rattle.asn1_x691_decode.proofs.presence.next_presence.Goals as goal

pub returns-clause-told : goal.returns-clause-told
returns-clause-told c =
    let list = drop c.args.presence.now.at (bits c.args.octets.now) in
    let left = c.args.presence.now.left in
    let e : left ≡ 1 + (left - 1) = omega (arith, c.if-presence-eq0.false) in
    ap (λ (n : ℕ). take n list) e
    ∙ take-add 1 (left - 1) list
    ∙ ap (λ (l : List Bool). l ++ take (left - 1) (drop 1 list))
    (sym c.read_bits.ensures.digits ∙ one_bit c.read_bits.result c.read_bits.ensures.below)
    ∙ ap (λ (l : List Bool). nat_eq c.read_bits.result 1 ∷ take (left - 1) l) (drop-drop 1 c.args.presence.now.at (bits c.args.octets.now))
