use Rattle.std.proofs.Common.{◌≡◌, ℕ, ◌+◌, ◌*◌, take, sym, refl, ap, ◌∙◌, arith}
use Rattle.asn1_bits.specs.Bits.{bits, ored}
use Rattle.asn1_bits.specs.Laws.DigitLaws.{length-bits}
use Rattle.asn1_bits.proofs.OredLemmas.{ored-none}
use Rattle.asn1_bits.proofs.RunLemmas.{more-placed, bits-eight}
use Rattle.asn1_bits.proofs.window.or_words.Goals as goal

pub loop-k-init : goal.loop-k-init
loop-k-init c = record { bits = sym (ored-none (bits c.args.dst.now.octets.now) (8 * c.args.first)); same_reference = refl; len = refl; placed = omega arith; turns = omega arith }

pub loop-k-preserved : goal.loop-k-preserved
loop-k-preserved c =
    let old = bits c.args.dst.now.octets.now in
    let src = bits c.args.src.now in
    let k = c.loop-k.k in
    record {
      bits =
          more-placed old (bits c.loop-k.dst.octets.now) (bits c.or_eight.new.self.octets.now) src (8 * c.args.first) (64 * k) 64
          (8 * (c.args.first + 8 * k)) (64 * (k + 1))
          c.loop-k.invariant.bits
          (c.or_eight.ensures.bits ∙ ap (ored (bits c.loop-k.dst.octets.now) (8 * (c.args.first + 8 * k)))
          (bits-eight c.args.src.now k))
          (omega arith) (omega arith)
          (omega (arith, length-bits c.args.src.now, c.requires.source))
          (omega (arith, length-bits c.args.dst.now.octets.now, c.requires.room));
      same_reference = c.or_eight.ensures.same_reference ∙ c.loop-k.invariant.same_reference;
      len = c.or_eight.ensures.length ∙ c.loop-k.invariant.len;
      placed = omega (arith, c.or_eight.ensures.placed, c.loop-k.invariant.placed);
      turns = omega (arith, c.or_eight.ensures.turn, c.loop-k.invariant.turns);
    }

pub returns-clause-bits : goal.returns-clause-bits
returns-clause-bits c =
    let done : c.loop-k.k ≡ c.args.count = omega arith in
    c.loop-k.invariant.bits
    ∙ ap (λ (k : ℕ). ored (bits c.args.dst.now.octets.now) (8 * c.args.first) (take (64 * k) (bits c.args.src.now))) done
