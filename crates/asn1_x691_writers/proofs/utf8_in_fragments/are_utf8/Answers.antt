use Rattle.std.proofs.Common.{◌≡◌, ℕ, ◌-◌, ◌*◌, [], drop, sym, subst, arith, refl}
use Rattle.std.specs.Str.{IsUtf8}
use Rattle.asn1_bits.specs.Bits.{bits}
use Rattle.asn1_schema.specs.CharactersOfParts.{numbers_in}
use Rattle.asn1_x691_writers.specs.Joined.{bits_in}
use Rattle.asn1_x691_fields.specs.ContentSteps.{no_octets}
use Rattle.asn1_x691_fields.specs.Utf8Steps.{rest_is_text, rest_joins, all_text, no_text_of_all}
use Rattle.asn1_x691_writers.proofs.utf8_in_fragments.are_utf8.Goals as goal

pub loop-at-init : goal.loop-at-init
loop-at-init c =
    let list = bits_in (bits c.args.source.now) c.args.joined.now in
    let e : c.args.count - 0 ≡ c.args.count = omega arith in
    record {
      few = omega arith;
      from_rest = λ u. subst (λ (n : ℕ). IsUtf8 (numbers_in 8 n list)) e u;
      of_rest = λ u. subst (λ (n : ℕ). IsUtf8 (numbers_in 8 n list)) (sym e) u;
    }

pub loop-at-preserved : goal.loop-at-preserved
loop-at-preserved c =
    let list = bits_in (bits c.args.source.now) c.args.joined.now in
    let l = c.loop-at in
    let f = c.front_len-text.ensures in
    record {
      few = f.few;
      from_rest = λ u. l.invariant.from_rest (rest_joins list c.args.count l.at c.front_len-text.result f.few f.text u);
      of_rest = λ u. rest_is_text list c.args.count l.at c.front_len-text.result f.few f.text (l.invariant.of_rest u);
    }

pub returns-then-text-eq0-clause-no : goal.returns-then-text-eq0-clause-no
returns-then-text-eq0-clause-no c e =
    no_text_of_all (bits_in (bits c.args.source.now) c.args.joined.now) c.args.count c.requires.all
    (λ u. c.front_len-text.ensures.none c.if-text-eq0.true (c.loop-at.invariant.of_rest u))

pub returns-clause-yes : goal.returns-clause-yes
returns-clause-yes c e =
    let list = bits_in (bits c.args.source.now) c.args.joined.now in
    let l = c.loop-at in
    all_text list c.args.count c.requires.all
    (l.invariant.from_rest (subst IsUtf8 (sym (no_octets (c.args.count - l.at) (drop (8 * l.at) list) (omega (arith, c.loop-at-test.false))))
    ([], (refl, refl))))
