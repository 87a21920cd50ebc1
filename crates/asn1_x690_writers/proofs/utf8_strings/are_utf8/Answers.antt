use Rattle.std.proofs.Common.{◌≡◌, ℕ, ◌+◌, ◌-◌, ◌*◌, ◌≤◌, List, Bool, [], length, drop, sym, ap, ◌∙◌, subst, arith, refl}
use Rattle.std.proofs.lemmas.List.{drop-drop, length-drop}
use Rattle.std.specs.Str.{IsUtf8}
use Rattle.asn1_bits.specs.Bits.{bits}
use Rattle.asn1_schema.specs.CharactersOfParts.{numbers_in}
use Rattle.asn1_schema.specs.PiecesOfParts.{joined}
use Rattle.asn1_x691_fields.specs.ContentSteps.{no_octets}
use Rattle.asn1_x691_fields.specs.Utf8Steps.{rest_is_text, rest_joins, all_text, no_text_of_all}
use Rattle.asn1_x690_writers.proofs.utf8_strings.are_utf8.Goals as goal

pub loop-at-init : goal.loop-at-init
loop-at-init c =
    let list = joined 8 (bits c.args.source.now) c.args.fragments in
    let e : c.args.count - 0 ≡ c.args.count = omega arith in
    record {
      few = omega arith;
      inside = c.all_of-rest.ensures.inside;
      same = c.all_of-rest.ensures.same;
      from_rest = λ u. subst (λ (n : ℕ). IsUtf8 (numbers_in 8 n list)) e u;
      of_rest = λ u. subst (λ (n : ℕ). IsUtf8 (numbers_in 8 n list)) (sym e) u;
    }

pub front_len-text-requires-clause-all : goal.front_len-text-requires-clause-all
front_len-text-requires-clause-all c =
    let list = joined 8 (bits c.args.source.now) c.args.fragments in
    let l = c.loop-at in
    omega (arith, ap length l.invariant.same, length-drop (8 * l.at) list, c.requires.all)

pub skip-rest-requires-clause-within : goal.skip-rest-requires-clause-within
skip-rest-requires-clause-within c =
    let list = joined 8 (bits c.args.source.now) c.args.fragments in
    let l = c.loop-at in
    omega (arith, ap length l.invariant.same, length-drop (8 * l.at) list, c.requires.all, c.front_len-text.ensures.few)

pub loop-at-preserved : goal.loop-at-preserved
loop-at-preserved c =
    let list = joined 8 (bits c.args.source.now) c.args.fragments in
    let l = c.loop-at in
    let f = c.front_len-text.ensures in
    let text = c.front_len-text.result in
    let few : l.at + text ≤ c.args.count = omega (arith, f.few, l.invariant.few) in
    let e : 8 * l.at + 8 * text ≡ 8 * (l.at + text) = omega arith in
    let front = subst (λ (x : List Bool). IsUtf8 (numbers_in 8 text x)) l.invariant.same f.text in
    record {
      few = few;
      inside = c.skip-rest.ensures.inside;
      same = c.skip-rest.ensures.same ∙ ap (drop (8 * text)) l.invariant.same ∙ drop-drop (8 * text) (8 * l.at) list
          ∙ ap (λ (n : ℕ). drop n list) e;
      from_rest = λ u. l.invariant.from_rest (rest_joins list c.args.count l.at text few front u);
      of_rest = λ u. rest_is_text list c.args.count l.at text few front (l.invariant.of_rest u);
    }

pub returns-then-text-eq0-clause-no : goal.returns-then-text-eq0-clause-no
returns-then-text-eq0-clause-no c e =
    let list = joined 8 (bits c.args.source.now) c.args.fragments in
    let l = c.loop-at in
    no_text_of_all list c.args.count c.requires.all
    (λ u. c.front_len-text.ensures.none c.if-text-eq0.true
    (subst (λ (x : List Bool). IsUtf8 (numbers_in 8 (c.args.count - l.at) x)) (sym l.invariant.same) (l.invariant.of_rest u)))

pub returns-clause-yes : goal.returns-clause-yes
returns-clause-yes c e =
    let list = joined 8 (bits c.args.source.now) c.args.fragments in
    let l = c.loop-at in
    all_text list c.args.count c.requires.all
    (l.invariant.from_rest (subst IsUtf8 (sym (no_octets (c.args.count - l.at) (drop (8 * l.at) list) (omega (arith, c.loop-at-test.false))))
    ([], (refl, refl))))
