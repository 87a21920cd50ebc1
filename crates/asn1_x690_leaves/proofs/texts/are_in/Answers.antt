use Rattle.std.specs.Prelude.{All, ◌<◌, ◌≤◌}
use Rattle.asn1_schema.specs.PiecesOfParts.{bits_of}
use Rattle.asn1_x690_leaves.specs.Told.{AreOctetsOf}
use Rattle.std.proofs.Common.{◌≡◌, ℕ, ◌+◌, ◌*◌, ◌/◌, List, length, drop, sym, ◌∙◌, ap, subst, arith}
use Rattle.asn1_bits.specs.Bits.{bits}
use Rattle.asn1_bits.specs.Laws.DigitLaws.{length-bits}
use Rattle.asn1_schema.specs.CharactersOfParts.{numbers_in}
use Rattle.asn1_x690.specs.Leaves.{AreIn}
use Rattle.asn1_x690_leaves.proofs.SpanSteps.{own_octets}
use Rattle.asn1_x690_leaves.proofs.texts.are_in.Goals as goal

are_own : (octets : List ℕ) (at count width : ℕ) → width ≡ 8 → at + width * count ≤ 8 * length octets → (own : List ℕ)
    → All (λ octet. octet < 256) own → bits own ≡ bits_of (bits octets) (record { at = at; count = 8 * count })
    → own ≡ numbers_in width count (drop at (bits octets))
are_own octets at count width eight inside own below e =
    let list = bits octets in
    let n : 8 * count / 8 ≡ count = omega arith in
    let many : width * count ≡ 8 * count = ap (λ (n : ℕ). n * count) eight in
    let h : AreOctetsOf list (record { at = at; count = 8 * count }) = record {
      inside = omega (arith, inside, many, length-bits octets);
      whole = omega arith;
    } in
    sym (own_octets list (record { at = at; count = 8 * count }) h own below e)
    ∙ ap (λ (k : ℕ). numbers_in 8 k (drop at list)) n
    ∙ ap (λ (k : ℕ). numbers_in k count (drop at list)) (sym eight)

pub returns-in-Some-clause-yes : goal.returns-in-Some-clause-yes
returns-in-Some-clause-yes c e =
    let a = c.args in
    let is = are_own a.octets.now a.text.at a.text.count a.text.width c.if-text-eq8.true c.requires.inside c.in-Some.own.now
    c.in-Some.ensures.octets c.in-Some.ensures.bits in
    subst (λ (l : List ℕ). AreIn a.ranges.now l) is (c.are_octets_in.ensures.yes e)

pub returns-in-Some-clause-no : goal.returns-in-Some-clause-no
returns-in-Some-clause-no c e p =
    let a = c.args in
    let is = are_own a.octets.now a.text.at a.text.count a.text.width c.if-text-eq8.true c.requires.inside c.in-Some.own.now
    c.in-Some.ensures.octets c.in-Some.ensures.bits in
    c.are_octets_in.ensures.no e (subst (λ (l : List ℕ). AreIn a.ranges.now l) (sym is) p)
