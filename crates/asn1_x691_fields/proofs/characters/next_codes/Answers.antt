use Rattle.std.proofs.Common.{◌≡◌, ℕ, ◌+◌, ◌*◌, ◌++◌, ◌≤◌, length, take, drop, sym, ◌∙◌, ap, arith}
use Rattle.std.proofs.lemmas.List.{length-drop}
use Rattle.asn1_bits.specs.Bits.{bits}
use Rattle.asn1_bits.specs.Laws.DigitLaws.{length-bits}
use Rattle.asn1_x691_fields.specs.Steps.{split}
use Rattle.asn1_x691_fields.specs.TextSteps.{codes_encode}
use Rattle.asn1_x691_fields.proofs.characters.next_codes.Goals as goal

pub are_quick_codes-requires-clause-inside : goal.are_quick_codes-requires-clause-inside
are_quick_codes-requires-clause-inside c =
    let size = c.in-Some.ensures.1 in
    omega (arith, size, c.if-size-state.true, c.requires.within.ends, c.requires.within.inside, length-bits c.args.octets.now)

pub returns-else-not-are_quick_codes-clause-inside : goal.returns-else-not-are_quick_codes-clause-inside
returns-else-not-are_quick_codes-clause-inside c =
    let size = c.in-Some.ensures.1 in
    omega (arith, size, c.if-size-state.true, c.requires.within.ends, c.requires.within.inside, length-bits c.args.octets.now)

pub returns-else-not-are_quick_codes-clause-read : goal.returns-else-not-are_quick_codes-clause-read
returns-else-not-are_quick_codes-clause-read c node =
    let list = bits c.args.octets.now in
    let a = c.args.alphabet.now in
    let s = c.args.state.now in
    let size : c.in-Some.size ≡ a.width * c.args.count = c.in-Some.ensures.1 in
    let within : s.at + a.width * c.args.count ≤ s.end = omega (arith, size, c.if-size-state.true, c.requires.within.ends) in
    let some : a.width * c.args.count ≤ length (drop s.at list) = omega (arith, within, c.requires.within.inside, length-drop s.at list) in
    record {
      front = take (a.width * c.args.count) (drop s.at list);
      encoded = codes_encode a node c.args.count (drop s.at list) c.requires.alphabet.width some (c.are_quick_codes.ensures c.if-not-are_quick_codes.false);
      parts = split list s.at (a.width * c.args.count) s.end within
          ∙ ap (λ (n : ℕ). take (a.width * c.args.count) (drop s.at list) ++ drop (s.at + n) (take s.end list)) (sym size);
    }
