use Rattle.std.proofs.Common.{◌≡◌, ℕ, ◌-◌, ◌*◌, [], drop, sym, subst, arith, refl}
use Rattle.std.specs.Str.{IsUtf8}
use Rattle.asn1_bits.specs.Bits.{bits}
use Rattle.asn1_schema.specs.CharactersOfParts.{numbers_in}
use Rattle.asn1_schema.specs.PiecesOfParts.{joined}
use Rattle.asn1_x691_fields.specs.ContentSteps.{no_octets}
use Rattle.asn1_x691_fields.specs.Utf8Steps.{rest_is_text, rest_joins, all_text, no_text_of_all}
use Rattle.asn1_x691_fields.proofs.utf8_fragments.are_utf8.Goals as goal

pub loop-at-init : goal.loop-at-init
loop-at-init c =
    let s = c.args.source.now in
    let list = joined 8 (bits s.octets.now) s.fragments in
    let e : s.count - 0 ≡ s.count = omega arith in
    record {
      few = omega arith;
      from_rest = λ u. subst (λ (n : ℕ). IsUtf8 (numbers_in 8 n list)) e u;
      of_rest = λ u. subst (λ (n : ℕ). IsUtf8 (numbers_in 8 n list)) (sym e) u;
    }

pub loop-at-preserved : goal.loop-at-preserved
loop-at-preserved c =
    let s = c.args.source.now in
    let list = joined 8 (bits s.octets.now) s.fragments in
    let l = c.loop-at in
    let f = c.front_len-count.ensures in
    record {
      few = f.few;
      from_rest = λ u. l.invariant.from_rest (rest_joins list s.count l.at c.front_len-count.result f.few f.text u);
      of_rest = λ u. rest_is_text list s.count l.at c.front_len-count.result f.few f.text (l.invariant.of_rest u);
    }

pub returns-then-count-eq0-clause-no : goal.returns-then-count-eq0-clause-no
returns-then-count-eq0-clause-no c e =
    let s = c.args.source.now in
    no_text_of_all (joined 8 (bits s.octets.now) s.fragments) s.count s.all
    (λ u. c.front_len-count.ensures.none c.if-count-eq0.true (c.loop-at.invariant.of_rest u))

pub returns-clause-yes : goal.returns-clause-yes
returns-clause-yes c e =
    let s = c.args.source.now in
    let list = joined 8 (bits s.octets.now) s.fragments in
    let l = c.loop-at in
    all_text list s.count s.all
    (l.invariant.from_rest (subst IsUtf8 (sym (no_octets (s.count - l.at) (drop (8 * l.at) list) (omega (arith, c.loop-at-test.false))))
    ([], (refl, refl))))
