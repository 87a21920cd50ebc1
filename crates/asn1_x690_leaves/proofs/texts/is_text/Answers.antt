use Rattle.std.proofs.Common.{ℕ, Bool, false, drop, sym, subst}
use Rattle.asn1_bits.specs.Bits.{bits}
use Rattle.asn1_schema.specs.CharactersOfParts.{numbers_in}
use Rattle.asn1_x690.specs.Leaves.{HasSize, IsText}
use Rattle.asn1_x690_leaves.specs.TextSteps.{numbers_count}
use Rattle.asn1_x690_leaves.proofs.texts.is_text.Goals as goal

pub returns-then-has_size-clause-yes : goal.returns-then-has_size-clause-yes
returns-then-has_size-clause-yes c e =
    let xs = numbers_in c.args.text.width c.args.text.count (drop c.args.text.at (bits c.args.octets.now)) in
    let size = numbers_count c.args.text.width c.args.text.count (drop c.args.text.at (bits c.args.octets.now)) in
    subst (λ (b : Bool). IsText b c.args.size c.args.alphabet.now c.args.whole.now xs) (sym c.if-is_extensible.false) (
      c.are_in-then-has_size.ensures.yes e,
      subst (λ (n : ℕ). HasSize false c.args.size n) (sym size) (c.has_size.ensures.yes c.if-has_size.true),
    )

pub returns-else-has_size-clause-no : goal.returns-else-has_size-clause-no
returns-else-has_size-clause-no c e p =
    let xs = numbers_in c.args.text.width c.args.text.count (drop c.args.text.at (bits c.args.octets.now)) in
    let size = numbers_count c.args.text.width c.args.text.count (drop c.args.text.at (bits c.args.octets.now)) in
    let q = subst (λ (b : Bool). IsText b c.args.size c.args.alphabet.now c.args.whole.now xs) c.if-is_extensible.false p in
    c.has_size.ensures.no c.if-has_size.false (subst (λ (n : ℕ). HasSize false c.args.size n) size q.1)
