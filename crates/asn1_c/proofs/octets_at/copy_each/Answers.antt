use Rattle.std.proofs.Common.{◌≡◌, ◌<◌, ◌∙◌, ℕ, subst, take, drop, take_all, arith}
use Rattle.std.proofs.lemmas.List.{drop-set-lt}
use Rattle.asn1_bits.specs.Bits.{bits}
use Rattle.asn1_c.specs.Octets.{octets_at}
use Rattle.asn1_c.proofs.OctetLemmas.{length-octets_of, one_more}
use Rattle.asn1_c.proofs.octets_at.copy_each.Goals as goal

pub loop-i-preserved : goal.loop-i-preserved
loop-i-preserved c =
    let inv = c.loop-i.invariant in
    let kept = c.loop-i.auto.room in
    let lt : c.loop-i.i < c.args.count = c.loop-i-test.true in
    record {
      copied =
          one_more c.args.octets.now c.args.first c.args.count c.requires.within c.loop-i.room c.loop-i.i _ lt
          (omega (arith, c.requires.room)) c.octet_at.ensures inv.copied;
      rest = drop-set-lt c.args.count c.loop-i.room c.loop-i.i _ lt ∙ inv.rest;
    }

pub returns-clause-copied : goal.returns-clause-copied
returns-clause-copied c =
    let inv = c.loop-i.invariant in
    let end = c.loop-i.auto.i-end in
    let all : c.loop-i.i ≡ c.args.count = omega (arith, c.loop-i-test.false) in
    let o = octets_at c.args.octets.now c.args.first c.args.count in
    let n = length-octets_of c.args.count (drop c.args.first (bits c.args.octets.now)) in
    subst (λ (k : ℕ). take k c.loop-i.room ≡ take k o) all inv.copied ∙ take_all c.args.count o (omega (arith, n))
