use Rattle.std.proofs.Common.{◌≡◌, ℕ, ◌+◌, ◌-◌, List, ◌++◌, length, take, drop, replicate, ap, ◌∙◌, arith}
use Rattle.std.proofs.lemmas.List.{drop-drop, length-take, length-drop}
use borrow.Rule.Slice.PartMut.{put_mid}
use Rattle.asn1_bits.specs.Bits.{bits}
use Rattle.asn1_bits.proofs.OverwriteLemmas.{octets-cleared}
use Rattle.asn1_bits.proofs.clear.clear_octets.Goals as goal

pub returns : goal.returns
returns c =
    let old = c.args.dst.now in
    let first = c.args.first in
    let count = c.args.count in
    let n : first + count - first ≡ count = omega arith in
    let len : length (take (first + count - first) (drop first old)) ≡ count =
    omega (arith, length-take (first + count - first) (drop first old), length-drop first old, c.requires) in
    let zeros : c.fill.new.self ≡ replicate count 0 = c.fill.ensures.after (λ y e. e)
    ∙ ap (λ (k : ℕ). replicate k 0) len in
    ap bits
    (ap (λ (k : ℕ). put_mid first k old c.fill.new.self) n
    ∙ ap (λ (l : List ℕ). take first old ++ (l ++ drop count (drop first old))) zeros
    ∙ ap (λ (l : List ℕ). take first old ++ (replicate count 0 ++ l)) (drop-drop count first old))
    ∙ octets-cleared old first count
