use Rattle.std.proofs.Common.{◌≡◌, ℕ, ◌+◌, ◌-◌, ◌*◌, Bool, false, List, [], ◌++◌, length, take, drop, set, replicate, ap, ◌∙◌, arith}
use Rattle.std.proofs.lemmas.List.{append-nil, drop_all}
use Rattle.asn1_bits.specs.Bits.{bits}
use Rattle.asn1_bits.specs.Laws.DigitLaws.{length-bits}
use Rattle.asn1_bits.proofs.BufferLemmas.{cleared-more}
use Rattle.asn1_bits.proofs.single_bits.clear_from.Goals as goal

pub loop-k-preserved : goal.loop-k-preserved
loop-k-preserved c =
    let old = bits c.args.octets.now in
    c.set_bit.ensures
    ∙ ap (λ (l : List Bool). set l (c.args.from + c.loop-k.k) false) c.loop-k.invariant
    ∙ cleared-more old c.args.from c.loop-k.k (omega (arith, length-bits c.args.octets.now))

pub returns : goal.returns
returns c =
    let old = bits c.args.octets.now in
    let from = c.args.from in
    let k = c.loop-k.k in
    let front = take from old in
    let n : k ≡ 8 * length c.args.octets.now - from = omega arith in
    let rest : drop (from + k) old ≡ [] = drop_all (from + k) old (omega (arith, length-bits c.args.octets.now)) in
    c.loop-k.invariant
    ∙ ap (λ (l : List Bool). (front ++ replicate k false) ++ l) rest
    ∙ append-nil (front ++ replicate k false)
    ∙ ap (λ (m : ℕ). front ++ replicate m false) n
