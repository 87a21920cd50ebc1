use Rattle.std.proofs.Common.{rules, ◌≡◌, ◌∙◌}
use Rattle.asn1_strings.proofs.OctetLemmas.{string_of_whole}
use Rattle.asn1_strings.proofs.static_permitted_alphabet.StaticPermittedAlphabet.try_from_slice_with_width.Goals as goal

pub copied_octets-requires : goal.copied_octets-requires
copied_octets-requires g c = rw c.CHARACTER_SET_NAME-name.ensures at (c.are_in.ensures.0 c.if-are_in.true)

pub returns-then-are_in : goal.returns-then-are_in
returns-then-are_in g c =
    let width : c.args.width ≡ g.Self.T.CodeUnit.OCTETS = c.if-width-OCTETS.true ∙ c.OCTETS.ensures in
    let right = rw (c.CHARACTER_SET_NAME-name.ensures, ← width) at (c.are_in.ensures.0 c.if-are_in.true) in
    rw (
      string_of_whole g.Self.HasCharacterSet.CHARACTER_SET_NAME c.args.width c.args.input.now
          c.if-width-eq0.false c.if-input-width-ne0.false right,
      width,
    ) c.copied_octets.ensures

pub returns : goal.returns
returns g c = search rules
