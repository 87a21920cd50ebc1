use Rattle.std.proofs.Common.{◌≡◌, ℕ, ◌+◌, ◌-◌, ◌*◌, sym, ◌∙◌, ap, arith}
use Rattle.asn1_bits.specs.Laws.DigitLaws.{length-bits}
use Rattle.asn1_bits.specs.Bits.{bits}
use Rattle.asn1_x691.specs.Characters.{characters}
use Rattle.asn1_x691_fields.specs.Characters.{characters_at}
use Rattle.asn1_x691_fields.specs.Outcomes.{fault_of}
use Rattle.asn1_x691_fields.specs.Steps.{moved_on, within_after}
use Rattle.asn1_x691_fields.specs.StringSteps.{none_read}
use Rattle.asn1_x691_fields.specs.TextSteps.{characters_go_on, characters_fault}
use Rattle.asn1_x691_fields.proofs.characters.next_each.Goals as goal

one_more : (width left more : ℕ) → more + 1 ≡ left → width * left ≡ width * more + width
one_more width left more e =
    let f : width * (more + 1) ≡ width * more + width = omega arith in
    ap (λ (n : ℕ). width * n) (sym e) ∙ f

pub returns-clause-inside : goal.returns-clause-inside
returns-clause-inside c =
    let l = c.loop-left in
    let none : l.left ≡ 0 = omega (arith, c.loop-left-test.false) in
    let zero_left : c.args.alphabet.now.width * l.left ≡ c.args.alphabet.now.width * 0 = ap (λ (n : ℕ). c.args.alphabet.now.width * n) none in
    let zero_bits : c.args.alphabet.now.width * 0 ≡ 0 = omega arith in
    omega (arith, l.invariant.place, zero_left, zero_bits, l.invariant.onward.ends, l.invariant.onward.inside, length-bits c.args.octets.now)

pub loop-left-preserved : goal.loop-left-preserved
loop-left-preserved c =
    let list = bits c.args.octets.now in
    let l = c.loop-left in
    let new = c.next_character.new.state in
    let onward = c.next_character.ensures.onward in
    record {
      within = within_after list l.state new l.invariant.within (moved_on list l.state new onward);
      onward = record {
        same_first = omega (arith, l.invariant.onward.same_first, onward.same_first);
        same_end = omega (arith, l.invariant.onward.same_end, onward.same_end);
        same_count = omega (arith, l.invariant.onward.same_count, onward.same_count);
        on = omega (arith, l.invariant.onward.on, onward.on);
        ends = onward.ends;
        inside = onward.inside;
      };
      place = omega (arith, l.invariant.place, c.in_ok-next_character.ensures.at, one_more c.args.alphabet.now.width l.left (l.left - 1) (omega (arith, c.loop-left-test.true)));
      going = characters_go_on c.args.alphabet.now c.args.node list c.args.count l.left (l.left - 1) c.args.state.now l.state new
          (omega (arith, c.loop-left-test.true)) l.invariant.going c.in_ok-next_character.ensures.at c.in_ok-next_character.ensures.read;
    }

pub returns-in_err-next_character-clause-read : goal.returns-in_err-next_character-clause-read
returns-in_err-next_character-clause-read c =
    let list = bits c.args.octets.now in
    let a = c.args.alphabet.now in
    let l = c.loop-left in
    let new = c.next_character.new.state in
    none_read (characters a.is_aligned a.ranges.now c.args.node c.args.count) (λ at. characters_at a list at c.args.count) list
    c.args.state.now new c.from_residual.result c.from_residual.ensures
    (characters_fault a c.args.node list c.args.count l.left c.args.state.now l.state (fault_of new) (omega (arith, c.loop-left-test.true))
    l.invariant.going c.in_err-next_character.ensures.read)
