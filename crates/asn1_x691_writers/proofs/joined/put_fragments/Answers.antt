use Rattle.std.proofs.Common.{ℕ, List, Bool, take, ap, ◌∙◌, subst}
use Rattle.std.proofs.Math.Seq.{take-length}
use Rattle.asn1_bits.specs.Bits.{bits}
use Rattle.asn1_schema.specs.PiecesOfParts.{joined}
use Rattle.asn1_x691_writers.specs.Written.{IsGrown}
use Rattle.asn1_x691_writers.proofs.joined.put_fragments.Goals as goal

pub returns : goal.returns
returns c =
    let a = c.args in
    let k = c.put_joined in
    let all = joined 8 (bits a.source.now) a.fragments in
    subst (λ (l : List Bool). IsGrown a.octets.now a.at k.new.octets k.result l)
    (ap (λ (l : List Bool). take a.count l) c.joined_of-joined.ensures.same ∙ ap (λ (n : ℕ). take n all) c.requires.all ∙ take-length all) k.ensures
