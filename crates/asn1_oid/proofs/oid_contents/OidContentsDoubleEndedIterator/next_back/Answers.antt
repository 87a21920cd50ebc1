use Rattle.std.proofs.Common.{◌≡◌, ◌<◌, ℕ, [], ◌∷◌, ◌++◌, length, refl, sym, ap, ◌∙◌, arith}
use Rattle.asn1_oid.specs.Writing.{both_left}
use Rattle.asn1_oid.proofs.BackLemmas.{only_front, last_arc, last_of_equal, last_of_both, last_goes}
use Rattle.asn1_oid.proofs.oid_contents.OidContentsDoubleEndedIterator.next_back.Goals as goal
use Rattle.asn1_oid.proofs.oid_contents.OidContentsDoubleEndedIterator.next_back.Goals.{then-self-eq0+in-Some, else-self-eq0}

pub returns-in_default-clause-steps : goal.returns-in_default-clause-steps
returns-in_default-clause-steps c =
    let inside = c.self.inside in
    let none : length inside.arcs.now ≡ 0 = c.in_default.ensures.cases in
    let back_none : inside.back_left ≡ 0 = c.if-self-eq0.true in
    last_of_equal _ _ _ _ c.take_last.result
    (sym c.self.view_is
    ∙ only_front inside.octets inside.left inside.arcs.now inside.back inside.back_left none back_none)
    (only_front inside.octets c.take_last.new.count inside.arcs.now inside.back inside.back_left none back_none)
    c.take_last.ensures.last

pub returns-in_default-clause-goes : goal.returns-in_default-clause-goes
returns-in_default-clause-goes c = last_goes _ _ c.take_last.result (returns-in_default-clause-steps c)

pub returns-clause-steps : goal.returns-clause-steps
returns-clause-steps c =
    let inside = c.self.inside in
    let now = c.if-self-eq0.self-inside in
    let begun : (both_left inside.octets inside.left inside.arcs.now inside.back inside.back_left
    ≡ both_left now.octets now.left now.arcs.now now.back now.back_left) × (0 < now.back_left) =
    elim c.if-self-eq0.branch [
      | then-self-eq0+in-Some w ↦
          let arc = w.from.result in
          let others = w.in-Some.others.now in
          let digits = w.octets_in_word.ensures.digits in
          let some = digits.some in
          let cases = w.in-Some.ensures.cases in
          let arcs : inside.arcs.now ≡ others ++ arc ∷ [] = cases.0
          ∙ ap (λ (a : ℕ). others ++ a ∷ []) (sym w.from.ensures) in
          rw w.self-inside-is (
            last_arc inside.octets inside.left inside.back inside.back_left w.octets_in_word.result.0 arc
                w.octets_in_word.result.1 inside.arcs.now others w.if-self-eq0.true arcs digits
                w.octets_in_word.ensures.octets,
            omega arith,
          )
      | else-self-eq0 w ↦ let ne = w.if-self-eq0.false in rw w.self-inside-is (refl, omega arith)
    ] in
    last_of_equal _ _ _ _ c.take_last-2.result (sym c.self.view_is ∙ begun.0) refl
    (last_of_both now.octets now.left now.arcs.now now.back now.back_left c.take_last-2.new.count
    c.take_last-2.result begun.1 c.take_last-2.ensures.last)

pub returns-clause-goes : goal.returns-clause-goes
returns-clause-goes c = last_goes _ _ c.take_last-2.result (returns-clause-steps c)
