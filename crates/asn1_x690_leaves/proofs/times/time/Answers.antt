use Rattle.std.proofs.Common.{ℕ, ◌/◌, ◌<◌, List, drop, refl, ap, subst, inl, arith}
use Rattle.std.proofs.lemmas.List.{map-id}
use Rattle.asn1_bits.specs.Bits.{bits}
use Rattle.asn1_bits.specs.Laws.DigitLaws.{length-bits}
use Rattle.asn1_schema.specs.CharactersOfParts.{numbers_in}
use Rattle.asn1_schema.specs.Pieces.{Text}
use Rattle.asn1_schema.specs.PiecesOfParts.{bits_of}
use Rattle.asn1_schema.specs.Times.{IsTime}
use Rattle.asn1_x690.specs.Laws.LeafLaws.{characters_one}
use Rattle.asn1_x690_leaves.specs.TextSteps.{characters}
use Rattle.asn1_x690_leaves.proofs.times.time.Goals as goal

eight : 0 < 8
eight = omega arith

pub is_time_at-requires-clause-inside : goal.is_time_at-requires-clause-inside
is_time_at-requires-clause-inside c =
    let i = c.requires.contents.inside in omega (arith, length-bits c.args.octets.now, i)

pub returns-then-not-is_time_at : goal.returns-then-not-is_time_at
returns-then-not-is_time_at c ranges =
    let list = bits c.args.octets.now in
    let s = c.args.span in
    let text = numbers_in 8 (s.count / 8) (drop s.at list) in
    let are = characters list s 8 c.requires.contents eight c.requires.contents.whole in
    inl (
      refl,
      λ x p.
          let same = (characters_one 8 eight).fills.one (bits_of list s) x text p.0 are in
          let yes = c.is_time_at.ensures.1 (subst (λ (t : List ℕ). IsTime c.args.kind t) same p.1) in
          absurd cc,
    )

pub returns : goal.returns
returns c ranges =
    let list = bits c.args.octets.now in
    let s = c.args.span in
    let text = numbers_in 8 (s.count / 8) (drop s.at list) in (
      text,
      (characters list s 8 c.requires.contents eight c.requires.contents.whole, c.is_time_at.ensures.0 c.if-not-is_time_at.false),
      tt,
      ap Text (map-id text),
    )
