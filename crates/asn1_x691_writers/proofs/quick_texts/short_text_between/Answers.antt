use Rattle.std.proofs.Common.{◌≡◌, ℕ, ◌+◌, ◌-◌, ◌*◌, ◌%◌, ◌^◌, ◌<◌, ◌≤◌, List, ◌++◌, Bool, false, take, drop, sym, ◌∙◌, ap, subst, arith}
use Rattle.std.proofs.Math.Pow.{pow_mono}
use Rattle.asn1_bits.specs.Bits.{bits, digits}
use Rattle.asn1_schema.specs.CharactersOfParts.{characters_of}
use Rattle.asn1_schema.specs.declared.tables.Range.{Range}
use Rattle.asn1_schema.specs.Encodings.{each}
use Rattle.asn1_x691.specs.Characters.{character, sized_text}
use Rattle.asn1_x691.specs.Fields.{width_to}
use Rattle.asn1_x691_fields.specs.Characters.{rows_of}
use Rattle.asn1_x691_writers.specs.CopiedSteps.{copied_encode}
use Rattle.asn1_x691_writers.proofs.QuickLemmas.{AreJoined, joined, sized_encodes}
use Rattle.asn1_x691_writers.proofs.WidthLemmas.{width_enough}
use Rattle.asn1_x691_writers.proofs.quick_texts.short_text_between.Goals as goal

-- the number of the characters and their codes
parts : (more range first codes size : ℕ) → more ≤ range → first ≡ width_to range → codes < 2 ^ size → first + size ≤ 56
    → AreJoined more first codes size
parts more range first codes size few is low fits =
    joined more first codes size (subst (λ (w : ℕ). more < 2 ^ w) (sym is) (width_enough more range few)) low (omega (arith, fits))

pub overflow_add-result : goal.overflow_add-result
overflow_add-result c =
    let j = parts (c.args.text.count - c.args.least) c.args.range c.width_to_few-first.result c.in_ok-codes.codes.value c.in_ok-codes.codes.width
    (omega (arith, c.requires.root)) c.width_to_few-first.ensures.value c.in_ok-codes.ensures.below c.if-first-codes-gt56.false in
    let up : 2 ^ (c.width_to_few-first.result + c.in_ok-codes.codes.width) ≤ 2 ^ 56 = pow_mono c.if-first-codes-gt56.false in
    omega (arith, j.whole, j.below, up)

pub returns-clause-below : goal.returns-clause-below
returns-clause-below c =
    let j = parts (c.args.text.count - c.args.least) c.args.range c.width_to_few-first.result c.in_ok-codes.codes.value c.in_ok-codes.codes.width
    (omega (arith, c.requires.root)) c.width_to_few-first.ensures.value c.in_ok-codes.ensures.below c.if-first-codes-gt56.false in
    omega (arith, j.whole, j.below)

pub returns-clause-encoded : goal.returns-clause-encoded
returns-clause-encoded c node at =
    let a = c.in_ok-alphabet.alphabet in
    let table = c.args.table.now in
    let text = c.args.text in
    let list = bits c.args.source.now in
    let ranges = rows_of table c.args.rows in
    let least = c.args.least in
    let range = c.args.range in
    let more = text.count - least in
    let first = c.width_to_few-first.result in
    let codes = c.in_ok-codes.codes.value in
    let size = c.in_ok-codes.codes.width in
    let few : more ≤ range = omega (arith, c.requires.root) in
    let j = parts more range first codes size few c.width_to_few-first.ensures.value c.in_ok-codes.ensures.below c.if-first-codes-gt56.false in
    let whole : digits (more * 2 ^ size % 2 ^ 64 + codes) (first + size) ≡ digits more (width_to range) ++ digits codes size =
    ap (λ (n : ℕ). digits (n + codes) (first + size)) j.whole ∙ j.parts
    ∙ ap (λ (w : ℕ). digits more w ++ digits codes size) c.width_to_few-first.ensures.value in
    let characters = characters_of table list text in
    let same : a.ranges.now ≡ ranges = c.in_ok-alphabet.ensures.ranges ∙ c.ranges_in.ensures in
    let count : text.count ≡ least + more = omega (arith, c.requires.root) in
    let P : Bool → List Range → ℕ → List Bool → Type 0 = λ b r n l. (each (character b r node) n).encodes characters l in
    let copied : P a.is_aligned a.ranges.now text.count (take (a.width * text.count) (drop text.at list)) =
    copied_encode a c.args.source.now table text c.in_ok-codes.ensures.copied c.in_ok-alphabet.ensures.is node in
    let by_variant = subst (λ (b : Bool). P b a.ranges.now text.count (take (a.width * text.count) (drop text.at list))) c.in_ok-alphabet.ensures.variant copied in
    let by_ranges = subst (λ (r : List Range). P false r text.count (take (a.width * text.count) (drop text.at list))) same by_variant in
    let by_count = subst (λ (n : ℕ). P false ranges n (take (a.width * text.count) (drop text.at list))) count by_ranges in
    let by_width = subst (λ (w : ℕ). P false ranges (least + more) (take w (drop text.at list))) (sym c.in_ok-codes.ensures.width) by_count in
    let all = subst (λ (l : List Bool). P false ranges (least + more) l) (sym c.in_ok-codes.ensures.codes) by_width in
    subst (λ (l : List Bool). (sized_text false ranges node least range at).encodes characters l) (sym whole)
    (sized_encodes ranges node least range more at characters (digits codes size) few all)
