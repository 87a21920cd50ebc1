use Rattle.std.proofs.Common.{◌≤◌, ℕ, List, length, take, sym, ◌∙◌, ap, subst, arith}
use Rattle.std.specs.Str.{IsUtf8}
use Rattle.asn1_bits.specs.Bits.{bits}
use Rattle.asn1_x691_fields.specs.ContentSteps.{numbers_length}
use Rattle.asn1_x691_fields.specs.Utf8Steps.{take_octets, no_text}
use Rattle.asn1_x690_writers.specs.Fragments.{bits_left}
use Rattle.asn1_x690_writers.proofs.utf8_strings.front_len.Goals as goal

pub returns-clause-text : goal.returns-clause-text
returns-clause-text c =
    let list = bits_left 8 (bits c.args.source.now) c.args.rest in
    let many = length c.split_at_mut-octets.result.0.now in
    let copied = c.copy_octets.ensures in
    let few : c.text_len.result ≤ many = omega (arith, c.text_len.ensures.few, ap length copied, numbers_length many list) in
    subst IsUtf8 (ap (λ (l : List ℕ). take c.text_len.result l) copied ∙ take_octets c.text_len.result many list few)
    c.text_len.ensures.text

pub returns-clause-none : goal.returns-clause-none
returns-clause-none c z =
    let list = bits_left 8 (bits c.args.source.now) c.args.rest in
    let many = length c.split_at_mut-octets.result.0.now in
    let copied = c.copy_octets.ensures in
    let size = numbers_length many list in
    no_text list many c.args.count c.requires.some (c.split_at_mut-octets.ensures.front_len ∙ c.min.ensures)
    (λ k some few u. c.text_len.ensures.none z k some (omega (arith, few, ap length copied, size))
    (subst IsUtf8 (sym (ap (λ (l : List ℕ). take k l) copied ∙ take_octets k many list few)) u))
