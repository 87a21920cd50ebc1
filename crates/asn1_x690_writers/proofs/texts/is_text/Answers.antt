use Rattle.std.proofs.Common.{ℕ, Bool, false, List, sym, subst}
use Rattle.asn1_bits.specs.Bits.{bits}
use Rattle.asn1_schema.specs.CharactersOfParts.{characters_of}
use Rattle.asn1_schema.specs.declared.tables.Range.{Range}
use Rattle.asn1_x690.specs.Der.{rows_of}
use Rattle.asn1_x690.specs.Leaves.{AreIn, HasSize, IsText}
use Rattle.asn1_x691_writers.specs.TextSteps.{length_text}
use Rattle.asn1_x690_writers.proofs.texts.is_text.Goals as goal

pub returns-then-not-has_size-clause-no : goal.returns-then-not-has_size-clause-no
returns-then-not-has_size-clause-no c e p q =
    let a = c.args in
    let xs = characters_of a.table.now (bits a.source.now) a.text in
    let t = subst (λ (b : Bool). IsText b a.size (rows_of a.table.now a.alphabet) (rows_of a.table.now a.whole) xs) c.if-is_extensible.false p in
    c.has_size.ensures.no c.if-not-has_size.true
    (subst (λ (n : ℕ). HasSize false a.size n) (length_text a.table.now (bits a.source.now) a.text) t.1)

pub returns-clause-yes : goal.returns-clause-yes
returns-clause-yes c e =
    let a = c.args in
    let xs = characters_of a.table.now (bits a.source.now) a.text in
    subst (λ (b : Bool). IsText b a.size (rows_of a.table.now a.alphabet) (rows_of a.table.now a.whole) xs) (sym c.if-is_extensible.false) (
      subst (λ (rs : List Range). AreIn rs xs) c.ranges_in-2.ensures (c.are_permitted-2.ensures.alphabet e),
      subst (λ (n : ℕ). HasSize false a.size n) (sym (length_text a.table.now (bits a.source.now) a.text))
          (c.has_size.ensures.yes c.if-not-has_size.false),
    )
