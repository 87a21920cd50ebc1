use Rattle.std.proofs.Common.{◌-◌, ◌++◌}
use Rattle.asn1_bits.specs.Bits.{bits}
use Rattle.asn1_schema.specs.CharactersOfParts.{characters_of}
use Rattle.asn1_x691.specs.Characters.{characters}
use Rattle.asn1_x691.specs.Fragments.{most_fragments}
use Rattle.asn1_x691_writers.specs.StringSteps.{few_units}
use Rattle.asn1_x691_writers.proofs.long_texts.put_long_text.Goals as goal

pub returns-then-text-lt16384 : goal.returns-then-text-lt16384
unfolding most_fragments
returns-then-text-lt16384 c node =
    let a = c.args.alphabet.now in
    few_units (characters a.is_aligned a.ranges.now node) (λ x y. x ++ y) a.is_aligned node c.args.text.count
    (characters_of c.args.table.now (bits c.args.source.now) c.args.text) c.args.octets.now c.put_few_characters.new.octets c.args.at
    c.put_few_characters.result (c.put_few_characters.ensures node) (most_fragments - 1) c.if-text-lt16384.true
