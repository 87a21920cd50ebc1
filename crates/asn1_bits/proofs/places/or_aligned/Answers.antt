use Rattle.std.proofs.Common.{arith, ◌≡◌, ℕ, ◌+◌, ◌-◌, ◌*◌, ◌/◌, Bool, List, length, take, drop, sym, ap, ◌∙◌}
use Rattle.std.proofs.lemmas.Grind.{common_steps}
use Rattle.std.proofs.lemmas.List.{length-drop, take_all}
use Rattle.asn1_bits.specs.Bits.{bits, ored}
use Rattle.asn1_bits.specs.BitStr.{bits_of}
use Rattle.asn1_bits.specs.View.{View}
use Rattle.asn1_bits.specs.Laws.DigitLaws.{length-bits, bits-drop}
use Rattle.asn1_bits.proofs.OredLemmas.{length-ored}
use Rattle.asn1_bits.proofs.RunLemmas.{more-placed}
use Rattle.asn1_bits.proofs.places.or_aligned.Goals as goal

pub place_word-requires-clause-within : goal.place_word-requires-clause-within
place_word-requires-clause-within c =
    omega (
      arith,
      length-bits c.or_words.new.dst.octets.now,
      c.or_words.ensures.length,
      ap (λ (v : View). v.len) c.from_octets-tail.ensures.view,
      ap (λ (o : List ℕ). length o) c.from_octet.ensures,
      length-drop (8 * (length c.args.src.now / 8)) c.args.src.now,
      c.requires.room,
    )

pub returns-clause-length : goal.returns-clause-length
returns-clause-length c =
    omega (
      arith,
      length-bits c.place_word.new.target.octets.now,
      ap (λ (l : List Bool). length l) c.place_word.ensures.list,
      length-ored (bits c.or_words.new.dst.octets.now) (8 * (c.args.first + 8 * (length c.args.src.now / 8)))
          (bits_of c.from_octets-tail.result),
      length-bits c.or_words.new.dst.octets.now,
      c.or_words.ensures.length,
    )

pub returns-clause-bits : goal.returns-clause-bits
returns-clause-bits c =
    let src = bits c.args.src.now in
    let old = bits c.args.target.octets.now in
    let words = length c.args.src.now / 8 in
    let n = 64 * words in
    let len = length src in
    let next = 8 * (c.args.first + 8 * words) in
    let at : 8 * (8 * words) ≡ n = omega arith in
    let tail : bits_of c.from_octets-tail.result ≡ take (len - n) (drop n src) =
    c.from_octets-tail.ensures.list ∙ ap bits c.from_octet.ensures ∙ bits-drop (8 * words) c.args.src.now
    ∙ ap (λ (k : ℕ). drop k src) at ∙ sym (take_all (len - n) (drop n src) (omega (arith, length-drop n src))) in
    more-placed old (bits c.or_words.new.dst.octets.now) (bits c.place_word.new.target.octets.now) src (8 * c.args.first) n (len - n) next len
    c.or_words.ensures.bits
    (c.place_word.ensures.list ∙ ap (ored (bits c.or_words.new.dst.octets.now) next) tail)
    (omega arith) (omega (arith, length-bits c.args.src.now)) (omega arith)
    (omega (arith, length-bits c.args.src.now, length-bits c.args.target.octets.now, c.requires.room))
    ∙ ap (ored old (8 * c.args.first)) (take_all len src (omega arith))

pub returns-clause-turns : goal.returns-clause-turns
returns-clause-turns c = grind (arith, common_steps)
