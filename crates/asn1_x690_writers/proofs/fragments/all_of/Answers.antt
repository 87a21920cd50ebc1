use Rattle.std.proofs.Common.{◌≡◌, ◌+◌, ◌≤◌, ◌⊎◌, length, ◌∙◌, ap, sym, inl, inr, arith}
use Rattle.asn1_bits.specs.Bits.{bits}
use Rattle.asn1_bits.specs.Laws.DigitLaws.{length-bits}
use Rattle.asn1_x690_writers.specs.Fragments.{bits_left}
use Rattle.asn1_x690_writers.specs.FragmentSteps.{first_fragment, first_has_bits, last_two, last_one, none_at_all}
use Rattle.asn1_x690_writers.specs.declared.fragments.Rest.{Rest}
use Rattle.asn1_x690_writers.proofs.fragments.all_of.Goals.{else-fragments-gt0-via-then-fragments-gt0+else-fragments-size, else-fragments-gt0-via-else-fragments-gt0}
use Rattle.asn1_x690_writers.proofs.fragments.all_of.Goals as goal

pub returns-then-fragments-size-clause-same : goal.returns-then-fragments-size-clause-same
returns-then-fragments-size-clause-same c =
    let a = c.args in
    let list = bits a.source.now in
    let e = length-bits a.source.now in
    let m = c.min.ensures in
    first_fragment a.unit list a.fragments (omega (arith, c.if-fragments-gt0.true)) (omega (arith, e, c.if-fragments-size.true)) c.clip-head.result
    (a.fragments.at + c.min.result) c.clip-head.ensures.same (omega (arith, e, m))

pub returns-then-fragments-size-clause-none : goal.returns-then-fragments-size-clause-none
returns-then-fragments-size-clause-none c z =
    let a = c.args in
    let list = bits a.source.now in
    let e = length-bits a.source.now in
    absurd (first_has_bits a.unit list a.fragments (omega (arith, c.if-fragments-gt0.true)) (omega (arith, e, c.if-fragments-size.true)) c.clip-head.result
    (a.fragments.at + c.min.result) c.clip-head.ensures.same c.requires.some z)

pub returns-then-middle-gt0-clause-same : goal.returns-then-middle-gt0-clause-same
returns-then-middle-gt0-clause-same c =
    let a = c.args in
    let list = bits a.source.now in
    let e = length-bits a.source.now in
    let past : (a.fragments.whole ≡ 0) ⊎ (length list ≤ a.fragments.at) =
    elim c.else-fragments-gt0.branch [
      | else-fragments-gt0-via-then-fragments-gt0+else-fragments-size w ↦ inr (omega (arith, e, w.if-fragments-size.false))
      | else-fragments-gt0-via-else-fragments-gt0 w ↦ inl (omega (arith, w.if-fragments-gt0.false))
    ] in
    ap (λ (r : Rest). bits_left a.unit list r) c.two_of.ensures
    ∙ last_two a.unit list a.fragments past c.clip-middle.result c.clip-last.result c.clip-middle.ensures.same c.clip-last.ensures.same

pub returns-clause-same : goal.returns-clause-same
returns-clause-same c =
    let a = c.args in
    let list = bits a.source.now in
    let e = length-bits a.source.now in
    let past : (a.fragments.whole ≡ 0) ⊎ (length list ≤ a.fragments.at) =
    elim c.else-fragments-gt0.branch [
      | else-fragments-gt0-via-then-fragments-gt0+else-fragments-size w ↦ inr (omega (arith, e, w.if-fragments-size.false))
      | else-fragments-gt0-via-else-fragments-gt0 w ↦ inl (omega (arith, w.if-fragments-gt0.false))
    ] in
    ap (λ (r : Rest). bits_left a.unit list r) c.two_of-2.ensures
    ∙ last_one a.unit list a.fragments past c.clip-middle.result c.clip-last.result c.clip-middle.ensures.same c.clip-last.ensures.same
    (omega (arith, c.if-middle-gt0.false))

pub returns-clause-none : goal.returns-clause-none
returns-clause-none c z =
    let a = c.args in
    let list = bits a.source.now in
    let e = length-bits a.source.now in
    let past : (a.fragments.whole ≡ 0) ⊎ (length list ≤ a.fragments.at) =
    elim c.else-fragments-gt0.branch [
      | else-fragments-gt0-via-then-fragments-gt0+else-fragments-size w ↦ inr (omega (arith, e, w.if-fragments-size.false))
      | else-fragments-gt0-via-else-fragments-gt0 w ↦ inl (omega (arith, w.if-fragments-gt0.false))
    ] in
    none_at_all a.unit list a.fragments past c.clip-middle.result c.clip-last.result c.clip-middle.ensures.same c.clip-last.ensures.same
    (omega (arith, c.if-middle-gt0.false)) (sym (ap (λ (r : Rest). r.head.count) c.two_of-2.ensures) ∙ z)
