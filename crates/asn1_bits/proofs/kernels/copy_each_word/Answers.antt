use Rattle.std.proofs.Common.{arith, ◌≡◌, ℕ, ◌+◌, ◌-◌, ◌*◌, ◌/◌, length, take, drop, refl, sym, ap, ◌∙◌}
use Rattle.std.proofs.lemmas.Grind.{common_steps}
use Rattle.std.proofs.lemmas.List.{length-take, length-drop, take_all}
use Rattle.asn1_bits.specs.Bits.{bits, ored}
use Rattle.asn1_bits.specs.BitStr.{bits_of}
use Rattle.asn1_bits.specs.Laws.DigitLaws.{length-bits, bits-drop}
use Rattle.asn1_bits.proofs.OredLemmas.{ored-none}
use Rattle.asn1_bits.proofs.PutLemmas.{put-left}
use Rattle.asn1_bits.proofs.RunLemmas.{more-placed, eight-copied}
use Rattle.asn1_bits.proofs.kernels.copy_each_word.Goals as goal

pub loop-k-init : goal.loop-k-init
loop-k-init c =
    let here : 8 * (c.args.first + 8 * 0) ≡ 8 * c.args.first = omega arith in
    record {
      zeros = rw here c.requires.zeros;
      placed = sym (ored-none (bits c.args.dst.now.octets.now) (8 * c.args.first));
      same_reference = refl;
      len = refl;
      each_turn_places = omega arith;
      turns = omega arith;
    }

pub loop-k-preserved : goal.loop-k-preserved
loop-k-preserved c =
    let old = bits c.args.dst.now.octets.now in
    let src = bits c.args.src.now in
    let k = c.loop-k.k in
    let at = c.args.first + 8 * k in
    let dst = c.loop-k.dst.octets.now in
    let new = c.put_eight.new.self.octets.now in
    let piece = take 64 (drop (64 * k) src) in
    let n : length piece ≡ 64 =
    omega (
      arith,
      length-take 64 (drop (64 * k) src),
      length-drop (64 * k) src,
      length-bits c.args.src.now,
      c.loop-k-test.true,
    ) in
    let copied : bits new ≡ ored (bits dst) (8 * at) piece =
    eight-copied dst new c.eight.result c.args.src.now at k c.loop-k.invariant.zeros c.put_eight.ensures.octets c.eight.ensures
    (omega (arith, c.loop-k-test.true))
    (omega (arith, c.requires.room, c.loop-k-test.true, c.loop-k.invariant.len)) in
    record {
      zeros =
          put-left (bits dst) (bits new) piece (8 * at) (8 * (c.args.first + 8 * (k + 1))) 64 c.loop-k.invariant.zeros
          copied n (omega arith)
          (omega (arith, length-bits dst, c.requires.room, c.loop-k-test.true, c.loop-k.invariant.len));
      placed =
          more-placed old (bits dst) (bits new) src (8 * c.args.first) (64 * k) 64 (8 * at) (64 * (k + 1))
          c.loop-k.invariant.placed copied
          (omega arith) (omega arith)
          (omega (arith, length-bits c.args.src.now))
          (omega (arith, length-bits c.args.dst.now.octets.now, c.requires.room));
      same_reference = c.put_eight.ensures.same_reference ∙ c.loop-k.invariant.same_reference;
      len = c.put_eight.ensures.length ∙ c.loop-k.invariant.len;
      each_turn_places = omega (arith, c.put_eight.ensures.placed, c.loop-k.invariant.each_turn_places);
      turns = omega (arith, c.put_eight.ensures.turn, c.loop-k.invariant.turns);
    }

pub returns-clause-bits : goal.returns-clause-bits
returns-clause-bits c =
    let src = bits c.args.src.now in
    let old = bits c.args.dst.now.octets.now in
    let words = length c.args.src.now / 8 in
    let n = 64 * words in
    let len = length src in
    let place = 8 * c.args.first in
    let next = 8 * (c.args.first + 8 * words) in
    let done : c.loop-k.k ≡ words = omega arith in
    let at : 8 * (8 * words) ≡ n = omega arith in
    let tail : bits_of c.from_octets-tail.result ≡ take (len - n) (drop n src) =
    c.from_octets-tail.ensures.list ∙ ap bits c.from_octet.ensures ∙ bits-drop (8 * words) c.args.src.now
    ∙ ap (λ (k : ℕ). drop k src) at ∙ sym (take_all (len - n) (drop n src) (omega (arith, length-drop n src))) in
    more-placed old (bits c.loop-k.dst.octets.now) (bits c.or_view.new.dst.octets.now) src place n (len - n) next len
    (c.loop-k.invariant.placed ∙ ap (λ (k : ℕ). ored old place (take (64 * k) src)) done)
    (c.or_view.ensures.bits ∙ ap (ored (bits c.loop-k.dst.octets.now) next) tail)
    (omega arith) (omega (arith, length-bits c.args.src.now)) (omega arith)
    (omega (arith, length-bits c.args.src.now, length-bits c.args.dst.now.octets.now, c.requires.room))
    ∙ ap (ored old place) (take_all len src (omega arith))

pub returns-clause-turns : goal.returns-clause-turns
returns-clause-turns c = grind (arith, common_steps)
