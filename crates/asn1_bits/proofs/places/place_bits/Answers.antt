use Rattle.std.proofs.Common.{rules, ◌≡◌, ℕ, ◌+◌, ◌-◌, ◌*◌, ◌/◌, Bool, List, length, take, drop, refl, sym, ap, ◌∙◌, arith}
use Rattle.std.proofs.Math.Seq.{take-add}
use Rattle.std.proofs.lemmas.List.{length-take, length-drop, take_all}
use Rattle.asn1_bits.specs.Bits.{ored}
use Rattle.asn1_bits.specs.BitStr.{view_of, bits_of}
use Rattle.asn1_bits.specs.View.{View, list_of, part}
use Rattle.asn1_bits.specs.Laws.ViewLaws.{list_of-part}
use Rattle.asn1_bits.proofs.OredLemmas.{length-ored, ored-none, ored-append}
use Rattle.asn1_bits.proofs.places.place_bits.Goals as goal

pub loop-k-init : goal.loop-k-init
loop-k-init g c = record {
  bits = sym (ored-none (g.D.Places.list c.args.target.now) c.args.position);
  same_reference = refl;
  placements = omega arith;
  turns = omega arith;
}

pub place-requires-clause-within : goal.place-requires-clause-within
place-requires-clause-within g c =
    let old = g.D.Places.list c.args.target.now in
    let src = bits_of c.args.src in
    let n = ap (λ (l : List Bool). length l) c.loop-k.invariant.bits
    ∙ length-ored old c.args.position (take (64 * c.loop-k.k) src) in
    omega (arith, n, c.len-words.ensures.len)

pub loop-k-preserved : goal.loop-k-preserved
loop-k-preserved g c =
    let old = g.D.Places.list c.args.target.now in
    let src = bits_of c.args.src in
    let at = 64 * c.loop-k.k in
    let front = take at src in
    let back = take 64 (drop at src) in
    let n : length front ≡ at = omega (arith, length-take at src, c.len-words.ensures.list) in
    let next : at + 64 ≡ 64 * (c.loop-k.k + 1) = omega arith in
    record {
      bits =
          c.place.ensures.list
          ∙ ap (ored (g.D.Places.list c.loop-k.target) (c.args.position + at)) c.word_of_64.ensures
          ∙ ap (λ (l : List Bool). ored l (c.args.position + at) back) c.loop-k.invariant.bits
          ∙ ored-append old c.args.position (c.args.position + at) front back (omega (arith, n))
          (omega (
            arith,
            length-take 64 (drop at src),
            length-drop at src,
            c.len-words.ensures.len,
            c.len-words.ensures.list,
          ))
          ∙ ap (ored old c.args.position) (sym (take-add at 64 src) ∙ ap (λ (k : ℕ). take k src) next);
      same_reference = c.place.ensures.same_reference ∙ c.loop-k.invariant.same_reference;
      placements = omega (arith, c.place.ensures.counted, c.loop-k.invariant.placements);
      turns = omega (arith, c.place.ensures.turn, c.loop-k.invariant.turns);
    }

pub place_word-requires-clause-within : goal.place_word-requires-clause-within
place_word-requires-clause-within g c =
    let old = g.D.Places.list c.args.target.now in
    let src = bits_of c.args.src in
    let n = ap (λ (l : List Bool). length l) c.loop-k.invariant.bits
    ∙ length-ored old c.args.position (take (64 * c.loop-k.k) src) in
    let m = ap (λ (v : View). v.len) c.split_at.ensures.back in
    omega (arith, n, m, c.len-words.ensures.len)

pub returns-clause-list : goal.returns-clause-list
returns-clause-list g c =
    let old = g.D.Places.list c.args.target.now in
    let v = view_of c.args.src in
    let src = list_of v in
    let len = v.len in
    let place = c.args.position in
    let at = 64 * (len / 64) in
    let front = take at src in
    let back = take (len - at) (drop at src) in
    let words : c.len-words.result / 64 ≡ len / 64 = ap (λ (n : ℕ). n / 64) c.len-words.ensures.len in
    let k : 64 * c.loop-k.k ≡ at = omega (arith, words) in
    let n : length src ≡ len = omega (arith, c.len-words.ensures.list, c.len-words.ensures.len) in
    let p : place + 64 * (c.len-words.result / 64) ≡ place + at = omega (arith, words) in
    let rest : part v (64 * (c.len-words.result / 64)) (len - 64 * (c.len-words.result / 64)) ≡ part v at (len - at) =
    ap (λ (m : ℕ). part v (64 * m) (len - 64 * m)) words in
    c.place_word.ensures.list
    ∙ ap (λ (m : ℕ). ored (g.D.Places.list c.loop-k.target) m (bits_of c.split_at.result.1)) p
    ∙ ap (λ (w : View). ored (g.D.Places.list c.loop-k.target) (place + at) (list_of w))
    (c.split_at.ensures.back ∙ rest)
    ∙ ap (λ (l : List Bool). ored (g.D.Places.list c.loop-k.target) (place + at) l)
    (list_of-part v at (len - at) (omega arith))
    ∙ ap (λ (l : List Bool). ored l (place + at) back)
    (c.loop-k.invariant.bits ∙ ap (λ (m : ℕ). ored old place (take m src)) k)
    ∙ ored-append old place (place + at) front back (omega (arith, length-take at src, n))
    (omega (arith, length-take (len - at) (drop at src), length-drop at src, n, c.requires.within))
    ∙ ap (ored old place) (sym (take-add at (len - at) src) ∙ take_all (at + (len - at)) src (omega (arith, n)))

pub place_word-requires-clause-short : goal.place_word-requires-clause-short
place_word-requires-clause-short g c = search rules
