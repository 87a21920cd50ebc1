use Rattle.std.proofs.Common.{◌≡◌, ◌<◌, ◌/◌, ◌%◌, ◌-◌, ℕ, ◌∷◌, length, refl, sym, ap, ◌∙◌, arith}
use Rattle.asn1_oid.specs.Writing.{word_left, both_left}
use Rattle.asn1_oid.proofs.WritingLemmas.{next_arc, small_arc, gives_octet}
use Rattle.asn1_oid.proofs.BackLemmas.{only_back, both_left-same, both_left-first, first_of_equal, first_goes}
use Rattle.asn1_oid.proofs.oid_contents.OidContentsIterator.next.Goals as goal
use Rattle.asn1_oid.proofs.oid_contents.OidContentsIterator.next.Goals.{then-self-eq0+in-Some+else-arc-lt128, else-self-eq0}

pub returns-in_default-clause-steps : goal.returns-in_default-clause-steps
returns-in_default-clause-steps c =
    let inside = c.self.inside in
    let empty : length inside.arcs.now ≡ 0 = c.in_default.ensures.cases in
    let front = λ (back n : ℕ).
    ap (λ (k : ℕ). both_left inside.octets k inside.arcs.now back n) c.if-self-eq0.true
    ∙ only_back inside.octets inside.arcs.now back n empty in
    first_of_equal _ _ _ _ c.take_first.result (sym c.self.view_is ∙ front inside.back inside.back_left)
    (front c.take_first.new.word c.take_first.new.count) c.take_first.ensures.first

pub returns-in_default-clause-goes : goal.returns-in_default-clause-goes
returns-in_default-clause-goes c = first_goes _ _ c.take_first.result (returns-in_default-clause-steps c)

pub returns-then-arc-lt128-clause-steps : goal.returns-then-arc-lt128-clause-steps
returns-then-arc-lt128-clause-steps c =
    let inside = c.self.inside in
    let arc = c.in-Some.arc.now in
    let others = c.in-Some.others.now in
    let cases = c.in-Some.ensures.cases in
    let given : word_left inside.octets inside.left inside.arcs.now
    ≡ arc ∷ word_left inside.octets inside.left others =
    ap (λ (k : ℕ). word_left inside.octets k inside.arcs.now) c.if-self-eq0.true
    ∙ small_arc inside.octets arc inside.arcs.now others cases.0 c.if-arc-lt128.true
    ∙ ap (λ (k : ℕ). arc ∷ word_left inside.octets k others) (sym c.if-self-eq0.true) in
    sym c.self.view_is
    ∙ both_left-first inside.octets inside.left inside.octets inside.left arc inside.arcs.now others inside.back
    inside.back_left given

pub returns-then-arc-lt128-clause-goes : goal.returns-then-arc-lt128-clause-goes
returns-then-arc-lt128-clause-goes c =
    let shorter = ap length (returns-then-arc-lt128-clause-steps c) in
    record { on = λ finite. (tt, tt, omega (arith, shorter)); keeps = tt; rests = λ finite. tt }

pub returns-clause-steps : goal.returns-clause-steps
returns-clause-steps c =
    let inside = c.self.inside in
    let now = c.if-self-eq0.self-inside in
    let begun : (both_left inside.octets inside.left inside.arcs.now inside.back inside.back_left
    ≡ both_left now.octets now.left now.arcs.now now.back now.back_left) × (0 < now.left) =
    elim c.if-self-eq0.branch [
      | then-self-eq0+in-Some+else-arc-lt128 w ↦
          let arc = w.from.result in
          let word = w.octets_in_word.result in
          let others = w.in-Some.others.now in
          let digits = w.octets_in_word.ensures.digits in
          let some = digits.some in
          let cases = w.in-Some.ensures.cases in
          let arcs : inside.arcs.now ≡ arc ∷ others = cases.0
          ∙ ap (λ (a : ℕ). a ∷ others) (sym w.from.ensures) in
          rw w.self-inside-is (
            both_left-same inside.octets inside.left word.0 word.1 inside.arcs.now others inside.back inside.back_left
                (ap (λ (k : ℕ). word_left inside.octets k inside.arcs.now) w.if-self-eq0.true
                ∙ next_arc inside.octets word.0 arc word.1 inside.arcs.now others arcs digits
                w.octets_in_word.ensures.octets),
            omega arith,
          )
      | else-self-eq0 w ↦ let ne = w.if-self-eq0.false in rw w.self-inside-is (refl, omega arith)
    ] in
    sym c.self.view_is ∙ begun.0
    ∙ both_left-first now.octets now.left (now.octets / 256) (now.left - 1) (now.octets % 256) now.arcs.now
    now.arcs.now now.back now.back_left (gives_octet now.octets now.left now.arcs.now begun.1)

pub returns-clause-goes : goal.returns-clause-goes
returns-clause-goes c =
    let shorter = ap length (returns-clause-steps c) in
    record { on = λ finite. (tt, tt, omega (arith, shorter)); keeps = tt; rests = λ finite. tt }
