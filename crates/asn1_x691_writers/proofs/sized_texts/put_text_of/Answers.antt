use Rattle.std.proofs.Common.{◌≡◌, ℕ, ◌+◌, ◌-◌, ◌<◌, ◌≤◌, ◌++◌, inl, refl, sym, subst, arith}
use Rattle.asn1_bits.specs.Bits.{bits}
use Rattle.asn1_schema.specs.CharactersOfParts.{characters_of}
use Rattle.asn1_schema.specs.declared.tables.Length.{Length}
use Rattle.asn1_schema.specs.declared.tables.Length.TheVariants.{AtLeast, Between}
use Rattle.asn1_x691.specs.declared.fault.FaultKind.TheVariants.{BelowLeast}
use Rattle.asn1_x691.specs.Characters.{characters, sized_characters, text_of}
use Rattle.asn1_x691.specs.Fields.{constrained}
use Rattle.asn1_x691.specs.Fragments.{most_fragments, all_units}
use Rattle.asn1_x691.specs.Strings.{IsOfRoot, where_size}
use Rattle.asn1_x691_writers.specs.Written.{IsWritten}
use Rattle.asn1_x691_writers.specs.FieldSteps.{turn_constant, turn_written}
use Rattle.asn1_x691_writers.proofs.sized_texts.put_text_of.Goals as goal

pub returns-in-AtLeast : goal.returns-in-AtLeast
returns-in-AtLeast c node =
    let a = c.args.alphabet.now in
    let aligned = a.is_aligned in
    let was = c.args.octets.now in
    let now = c.put_long_text.new.octets in
    let new = c.put_long_text.result in
    let text = characters_of c.args.table.now (bits c.args.source.now) c.args.text in
    let least = c.in-AtLeast.least in
    let enough : IsOfRoot (AtLeast least) c.args.text.count =
    subst (λ (s : Length). IsOfRoot s c.args.text.count) c.in-AtLeast.is c.requires.root in
    subst (λ (s : Length). IsWritten aligned (text_of most_fragments aligned a.ranges.now node s) text was c.args.at now new)
    (sym c.in-AtLeast.is)
    (turn_constant aligned was now c.args.at new
    (all_units (characters aligned a.ranges.now node) (λ x y. x ++ y) aligned node most_fragments) (λ v l. l)
    (λ v. where_size (λ n. least ≤ n) (λ n. n < least) BelowLeast node v) (c.args.text.count, text) text (c.put_long_text.ensures node)
    (λ p. inl (enough, (refl, refl))))

pub returns-in-Between : goal.returns-in-Between
returns-in-Between c node =
    let a = c.args.alphabet.now in
    let aligned = a.is_aligned in
    let count = c.args.text.count in
    let was = c.args.octets.now in
    let mid = c.put_constrained-after.new.octets in
    let now = c.put_sized_characters.new.octets in
    let new = c.put_sized_characters.result in
    let text = characters_of c.args.table.now (bits c.args.source.now) c.args.text in
    let least = c.in-Between.least in
    let range = c.in-Between.range in
    let within : IsOfRoot (Between least range) count = subst (λ (s : Length). IsOfRoot s count) c.in-Between.is c.requires.root in
    let e : count ≡ least + (count - least) = omega (arith, within.0) in
    subst (λ (s : Length). IsWritten aligned (text_of most_fragments aligned a.ranges.now node s) text was c.args.at now new)
    (sym c.in-Between.is)
    (turn_written aligned (constrained aligned range node) (λ d l. l)
    (λ d. sized_characters aligned a.ranges.now node least range (least + d))
    (count - least) text was mid now c.args.at c.put_constrained-after.result new (c.put_constrained-after.ensures node)
    (subst
    (λ (n : ℕ). IsWritten aligned (sized_characters aligned a.ranges.now node least range n) text mid c.put_constrained-after.result now new)
    e (c.put_sized_characters.ensures node)))
