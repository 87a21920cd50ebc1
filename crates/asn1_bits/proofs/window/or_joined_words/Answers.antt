use Rattle.std.proofs.Common.{◌≡◌, ℕ, ◌+◌, ◌*◌, take, drop, sym, refl, ap, ◌∙◌, arith}
use Rattle.std.proofs.lemmas.List.{length-drop}
use Rattle.asn1_bits.specs.Bits.{bits, ored}
use Rattle.asn1_bits.specs.Laws.DigitLaws.{length-bits}
use Rattle.asn1_bits.proofs.OredLemmas.{ored-none}
use Rattle.asn1_bits.proofs.RunLemmas.{more-placed, word-of_two}
use Rattle.asn1_bits.proofs.window.or_joined_words.Goals as goal

pub loop-k-init : goal.loop-k-init
loop-k-init c = record { bits = sym (ored-none (bits c.args.dst.now.octets.now) (8 * c.args.first)); same_reference = refl; len = refl; placed = omega arith; turns = omega arith }

pub loop-k-preserved : goal.loop-k-preserved
loop-k-preserved c =
    let old = bits c.args.dst.now.octets.now in
    let src = bits c.args.src.now in
    let shift = c.args.shift in
    let k = c.loop-k.k in
    record {
      bits =
          more-placed old (bits c.loop-k.dst.octets.now) (bits c.or_octets.new.self.octets.now) (drop shift src) (8 * c.args.first) (64 * k) 64
          (8 * (c.args.first + 8 * k)) (64 * (k + 1))
          c.loop-k.invariant.bits
          (c.or_octets.ensures.bits ∙ ap (ored (bits c.loop-k.dst.octets.now) (8 * (c.args.first + 8 * k)))
          (word-of_two src k shift c.args.back c.load.result c.load-in-loop-k.result c.requires.word c.requires.back
          (omega (arith, c.load-in-loop-k.type_inv)) c.load.ensures c.load-in-loop-k.ensures))
          (omega arith) (omega arith)
          (omega (arith, length-bits c.args.src.now, length-drop shift src, c.requires.source, c.requires.word))
          (omega (arith, length-bits c.args.dst.now.octets.now, c.requires.room));
      same_reference = c.or_octets.ensures.same_reference ∙ c.loop-k.invariant.same_reference;
      len = c.or_octets.ensures.length ∙ c.loop-k.invariant.len;
      placed = omega (arith, c.or_octets.ensures.placed, c.loop-k.invariant.placed);
      turns = omega (arith, c.or_octets.ensures.turn, c.loop-k.invariant.turns);
    }

pub returns-clause-bits : goal.returns-clause-bits
returns-clause-bits c =
    let done : c.loop-k.k ≡ c.args.count = omega arith in
    c.loop-k.invariant.bits
    ∙ ap (λ (k : ℕ). ored (bits c.args.dst.now.octets.now) (8 * c.args.first)
    (take (64 * k) (drop c.args.shift (bits c.args.src.now)))) done
