use Rattle.std.proofs.Common.{◌≡◌, ℕ, Bool, true, List, drop, map, inl, ◌∙◌, ap, subst}
use Rattle.std.proofs.lemmas.List.{map-id}
use Rattle.asn1_bits.specs.Bits.{bits}
use Rattle.asn1_schema.specs.declared.tables.Length.TheVariants.{AtLeast}
use Rattle.asn1_schema.specs.declared.tables.Range.{Range}
use Rattle.asn1_schema.specs.CharactersOfParts.{numbers_in}
use Rattle.asn1_schema.specs.Encodings.{Encoding, Starts, permitted}
use Rattle.asn1_schema.specs.Pieces.{Text}
use Rattle.asn1_schema.specs.Times.{IsTime}
use Rattle.asn1_x691.specs.declared.fault.FaultKind.{FaultKind}
use Rattle.asn1_x691.specs.declared.fault.FaultKind.TheVariants.{Contents}
use Rattle.asn1_x691.specs.Characters.{text_of}
use Rattle.asn1_x691.specs.Leaves.{visible}
use Rattle.asn1_x691_fields.specs.declared.alphabets.Alphabet.{Alphabet}
use Rattle.asn1_x691_fields.specs.Characters.{character_by, characters_at}
use Rattle.asn1_x691_fields.specs.Outcomes.{rest, position, fault_of}
use Rattle.asn1_x691_fields.specs.Steps.{fault_at}
use Rattle.asn1_x691_fields.specs.LeafSteps.{leaf_starts, permitted_starts, permitted_fault}
use Rattle.asn1_x691_fields.proofs.times.next_time.Goals as goal

-- where codes are numbers, the characters are these numbers
codes_are_characters : (a : Alphabet) (list : List Bool) (at count : ℕ) → a.are_numbers ≡ true
    → characters_at a list at count ≡ numbers_in a.width count (drop at list)
codes_are_characters a list at count e =
    ap (λ (b : Bool). map (character_by b a.ranges.now) (numbers_in a.width count (drop at list))) e
    ∙ map-id (numbers_in a.width count (drop at list))

-- the characters that were read are numbers one after another
read_as_numbers : (a : Alphabet) (aligned : Bool) (node at count place : ℕ) (list before after : List Bool) → a.ranges.now ≡ visible
    → a.is_aligned ≡ aligned → a.are_numbers ≡ true
    → Starts (text_of 0 a.is_aligned a.ranges.now node (AtLeast 0) place).encodes before (characters_at a list at count) after
    → Starts (text_of 0 aligned visible node (AtLeast 0) place).encodes before (numbers_in a.width count (drop at list)) after
read_as_numbers a aligned node at count place list before after ranges variant numbers s =
    subst (λ (b : Bool). Starts (text_of 0 b visible node (AtLeast 0) place).encodes before (numbers_in a.width count (drop at list)) after) variant
    (subst (λ (r : List Range). Starts (text_of 0 a.is_aligned r node (AtLeast 0) place).encodes before (numbers_in a.width count (drop at list)) after) ranges
    (subst (λ (text : List ℕ). Starts (text_of 0 a.is_aligned a.ranges.now node (AtLeast 0) place).encodes before text after)
    (codes_are_characters a list at count numbers) s))

pub returns-then-not-is_time_at-clause-read : goal.returns-then-not-is_time_at-clause-read
returns-then-not-is_time_at-clause-read c ranges =
    let list = bits c.args.octets.now in
    let node = c.args.node in
    let aligned = c.args.is_aligned in
    let V = IsTime c.args.kind in
    let N = λ (text : List ℕ). ¬ (V text) in
    let A : ℕ → Encoding FaultKind (List ℕ) = text_of 0 aligned visible node (AtLeast 0) in
    let a = c.visible-alphabet in
    let old = c.args.state.now in
    let mid = c.next_long_text.new.state in
    let s = c.in_ok-count.ensures in
    let text = numbers_in a.result.width c.in_ok-count.count (drop c.in_ok-count.at list) in
    inl (permitted_fault V N Contents node A list old mid c.requires.within s.onward text
    (read_as_numbers a.result aligned node c.in_ok-count.at c.in_ok-count.count (position old) list (rest list old) (rest list mid) a.ensures.ranges
    a.ensures.variant a.ensures.numbers s.read) (fault_of c.fail.new.state)
    (λ v. let yes = c.is_time_at.ensures.1 v in absurd cc)
    (fault_at list mid c.fail.new.state node Contents s.onward.inside c.fail.ensures.at c.fail.ensures.end c.fail.ensures.node
    c.fail.ensures.kind))

pub returns-clause-read : goal.returns-clause-read
returns-clause-read c ranges =
    let list = bits c.args.octets.now in
    let node = c.args.node in
    let aligned = c.args.is_aligned in
    let V = IsTime c.args.kind in
    let N = λ (text : List ℕ). ¬ (V text) in
    let A : ℕ → Encoding FaultKind (List ℕ) = text_of 0 aligned visible node (AtLeast 0) in
    let a = c.visible-alphabet in
    let old = c.args.state.now in
    let mid = c.next_long_text.new.state in
    let s = c.in_ok-count.ensures in
    let text = numbers_in a.result.width c.in_ok-count.count (drop c.in_ok-count.at list) in
    leaf_starts (permitted V N Contents node A) Text node (position old) (rest list old) (rest list mid) text
    (Text (map (λ (n : ℕ). n) text)) (ap Text (map-id text))
    (permitted_starts V N Contents node A list old mid c.requires.within s.onward text
    (read_as_numbers a.result aligned node c.in_ok-count.at c.in_ok-count.count (position old) list (rest list old) (rest list mid) a.ensures.ranges
    a.ensures.variant a.ensures.numbers s.read) (c.is_time_at.ensures.0 c.if-not-is_time_at.false))
