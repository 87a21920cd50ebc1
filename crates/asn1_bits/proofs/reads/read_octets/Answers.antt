use Rattle.std.proofs.Common.{◌-◌, ◌*◌, sym, ◌∙◌, arith}
use Rattle.asn1_bits.specs.Laws.NumberLaws.{number-nil}
use Rattle.asn1_bits.proofs.ReadWideLemmas.{gathered-first, gathered-more, gathered-fits, read-short}
use Rattle.asn1_bits.proofs.reads.read_octets.Goals as goal

pub returns-then-width-eq0 : goal.returns-then-width-eq0
returns-then-width-eq0 c = rw c.if-width-eq0.true (sym number-nil)

pub loop-k-init : goal.loop-k-init
loop-k-init c =
    c.from-value.ensures ∙ gathered-first c.args.octets.now c.args.shift (omega (arith, c.requires.shift))
    (omega (arith, c.requires.within))

pub overflow_mul-value : goal.overflow_mul-value
overflow_mul-value c =
    let h =
    gathered-fits c.args.octets.now c.args.shift c.loop-k.k (omega (arith, c.div_ceil-needed.ensures))
    (omega (arith, c.div_ceil-needed.ensures)) in
    omega (arith, h, c.loop-k.invariant)

pub overflow_add-value : goal.overflow_add-value
overflow_add-value c =
    let h =
    gathered-fits c.args.octets.now c.args.shift c.loop-k.k (omega (arith, c.div_ceil-needed.ensures))
    (omega (arith, c.div_ceil-needed.ensures)) in
    omega (arith, h, c.loop-k.invariant, c.from.ensures, c.type_inv.octets c.loop-k.k)

pub loop-k-preserved : goal.loop-k-preserved
loop-k-preserved c =
    rw (c.from.ensures, c.loop-k.invariant)
    (sym (gathered-more c.args.octets.now c.args.shift c.loop-k.k (omega (arith, c.loop-k.auto.k))
    (omega (arith, c.div_ceil-needed.ensures)) (omega (arith, c.type_inv.octets c.loop-k.k))))

pub returns : goal.returns
returns c =
    let needed = c.div_ceil-needed.result in
    let excess = needed * 8 - c.args.shift - c.args.width in
    read-short c.args.octets.now c.args.shift c.args.width excess needed c.loop-k.value c.loop-k.k
    (omega (arith, c.div_ceil-needed.ensures)) (omega (arith, c.div_ceil-needed.ensures)) (omega (arith, c.loop-k.auto))
    c.loop-k.invariant
