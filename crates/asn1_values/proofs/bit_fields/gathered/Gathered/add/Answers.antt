use Rattle.std.proofs.Common.{◌+◌, ◌≤◌, arith}
use Rattle.asn1_values.proofs.GatherLemmas.{PushesFront, front_none, front_all, gathered_more, word_behind}
use Rattle.asn1_values.proofs.bit_fields.gathered.Gathered.add.Goals as goal
use Rattle.asn1_values.proofs.bit_fields.gathered.Gathered.add.Goals.{then-self-width-gt64, else-self-width-gt64}

pub overflow_add-self-2 : goal.overflow_add-self-2
overflow_add-self-2 c =
    let s = c.if-self-width-gt64.self in
    let fits : s.width + c.args.width ≤ 64 = elim c.if-self-width-gt64.branch [
      | then-self-width-gt64 w ↦ rw w.self-is (omega (arith, w.push.ensures.none))
      | else-self-width-gt64 w ↦ rw w.self-is (omega (arith, w.if-self-width-gt64.false))
    ] in
    let word = word_behind s.word s.width c.args.number c.args.width s.below c.requires.below fits in
    omega (arith, word.0, word.2)

pub invariant_of-self : goal.invariant_of-self
invariant_of-self c =
    let s = c.if-self-width-gt64.self in
    let fits : s.width + c.args.width ≤ 64 = elim c.if-self-width-gt64.branch [
      | then-self-width-gt64 w ↦ rw w.self-is (omega (arith, w.push.ensures.none))
      | else-self-width-gt64 w ↦ rw w.self-is (omega (arith, w.if-self-width-gt64.false))
    ] in
    let word = word_behind s.word s.width c.args.number c.args.width s.below c.requires.below fits in
    record { few = fits; below = rw word.0 word.1 }

pub returns : goal.returns
returns c =
    let old = c.args.self.now in
    let now = c.if-self-width-gt64 in
    let s = now.self in
    let mid : PushesFront c.args.appender.now now.appender old.word old.width s.word s.width c.args.turns.now.count
    now.turns.count × (s.width + c.args.width ≤ 64) =
    elim now.branch [
      | then-self-width-gt64 w ↦ rw (w.self-is, w.appender-is, w.turns-is)
          (front_all _ _ _ _ _ _ _ _ w.push.ensures, omega (arith, w.push.ensures.none))
      | else-self-width-gt64 w ↦ rw (w.self-is, w.appender-is, w.turns-is)
          (front_none _ _ _ _, omega (arith, w.if-self-width-gt64.false))
    ] in
    let word = word_behind s.word s.width c.args.number c.args.width s.below c.requires.below mid.1 in
    rw word.0
    (gathered_more c.args.appender.now now.appender old.word old.width s.word s.width c.args.number c.args.width
    c.args.turns.now.count now.turns.count mid.0 c.requires.below c.requires.width mid.1)
