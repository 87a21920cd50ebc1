use Rattle.std.proofs.Common.{[], drop, sym, subst, arith, refl}
use Rattle.std.specs.Str.{IsUtf8}
use Rattle.asn1_bits.specs.Bits.{bits}
use Rattle.asn1_bits.specs.Laws.DigitLaws.{length-bits}
use Rattle.asn1_x691_fields.specs.ContentSteps.{no_octets}
use Rattle.asn1_x691_fields.specs.Utf8Steps.{text_goes_on, text_joins, is_text, is_no_text}
use Rattle.asn1_x691_fields.proofs.utf8_texts.is_utf8.Goals as goal

pub returns-then-count-eq0-clause-no : goal.returns-then-count-eq0-clause-no
returns-then-count-eq0-clause-no c e =
    is_no_text (bits c.args.message.now) c.args.span (omega (arith, c.requires.inside, length-bits c.args.message.now)) c.requires.whole
    (λ u. c.front_len-count.ensures.none c.if-count-eq0.true (c.loop-left.invariant.of_rest u))

pub loop-left-preserved : goal.loop-left-preserved
loop-left-preserved c =
    let list = bits c.args.message.now in
    let l = c.loop-left in
    let count = c.front_len-count.result in
    let f = c.front_len-count.ensures in
    record {
      place = omega (arith, l.invariant.place, f.few);
      from_rest = λ u. l.invariant.from_rest (text_joins count l.left l.at list f.few f.text u);
      of_rest = λ u. text_goes_on count l.left l.at list f.few f.text (l.invariant.of_rest u);
    }

pub returns-clause-yes : goal.returns-clause-yes
returns-clause-yes c e =
    let list = bits c.args.message.now in
    let l = c.loop-left in
    is_text list c.args.span (omega (arith, c.requires.inside, length-bits c.args.message.now)) c.requires.whole
    (l.invariant.from_rest (subst IsUtf8 (sym (no_octets l.left (drop l.at list) (omega (arith, c.loop-left-test.false)))) ([], (refl, refl))))
