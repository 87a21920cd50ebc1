use Rattle.std.proofs.Common.{◌≡◌, ℕ, ◌+◌, ◌%◌, ◌-◌, ◌<◌, ◌++◌, List, Bool, length, take, ◌∙◌, ap, subst, refl, arith}
use Rattle.std.proofs.lemmas.List.{length-append}
use Rattle.std.proofs.Math.Seq.{take-length}
use Rattle.asn1_bits.specs.Bits.{bits, digits}
use Rattle.asn1_bits.specs.Laws.DigitLaws.{length-digits}
use Rattle.asn1_schema.specs.PiecesOfParts.{joined}
use Rattle.asn1_x691_writers.specs.GrownSteps.{grown_both}
use Rattle.asn1_x691_writers.specs.Written.{IsGrown}
use Rattle.asn1_x690_writers.proofs.bits_in_fragments.put_joined.Goals as goal

pub put_first-end-requires-clause-within : goal.put_first-end-requires-clause-within
put_first-end-requires-clause-within c = omega (arith, c.requires.all, ap length c.all_of-all.ensures.same)

pub returns : goal.returns
returns c =
    let a = c.args in
    let u : ℕ = (8 - a.count % 8) % 8 in
    let x : List Bool = joined 1 (bits a.source.now) a.fragments in
    let front = c.put_number-first in
    let middle = c.put_first-end in
    let back = c.put_number in
    let few : u < 8 = omega arith in
    let whole : (a.count + u) % 8 ≡ 0 = omega arith in
    let all = ap (λ (l : List Bool). take a.count l) c.all_of-all.ensures.same ∙ ap (λ (n : ℕ). take n x) c.requires.all ∙ take-length x in
    record {
      list = digits u 8 ++ (x ++ digits 0 u);
      encodes = record { unused = u; few = few; whole = omega (arith, c.requires.all, whole); are = refl };
      whole = omega (
        arith,
        c.requires.all,
        whole,
        length-append (digits u 8) (x ++ digits 0 u),
        length-append x (digits 0 u),
        length-digits u 8,
        length-digits 0 u,
      );
      grown = grown_both a.octets.now front.new.octets back.new.octets a.at front.result back.result (digits u 8) (x ++ digits 0 u)
          front.ensures
          (grown_both front.new.octets middle.new.octets back.new.octets front.result middle.result back.result x (digits 0 u)
          (subst (λ (l : List Bool). IsGrown front.new.octets front.result middle.new.octets middle.result l) all middle.ensures) back.ensures);
    }
