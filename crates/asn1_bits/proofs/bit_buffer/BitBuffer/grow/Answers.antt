use Rattle.std.proofs.Common.{◌≡◌, ℕ, ◌+◌, ◌-◌, Bool, false, List, ◌++◌, length, replicate, sym, ap, ◌∙◌, arith}
use Rattle.std.proofs.lemmas.List.{take_all, append-nil}
use Rattle.asn1_bits.specs.BitBuffer.{bits_shown, IsFilled}
use Rattle.asn1_bits.proofs.BufferLemmas.{length-bits_shown, filled-grow_to}
use Rattle.asn1_bits.proofs.bit_buffer.BitBuffer.grow.Goals as goal
use Rattle.asn1_bits.proofs.bit_buffer.BitBuffer.grow.Goals.{then-needed-len+in_ok-resize, else-needed-len}

pub overflow_add-len : goal.overflow_add-len
overflow_add-len c =
    let b = c.self.inside in
    omega (
      arith,
      length-bits_shown b.bytes.items b.len c.self.invariant,
      ap (λ (l : List Bool). length l)
          c.self.view_is,
    )

pub returns-in_err-resize-clause-free : goal.returns-in_err-resize-clause-free
returns-in_err-resize-clause-free c = λ same.
    let b = c.self.inside in
    let len : b.len ≡ length c.args.self.now = sym (length-bits_shown b.bytes.items b.len c.self.invariant)
    ∙ ap (λ (l : List Bool). length l) c.self.view_is in
    absurd (omega (arith, b.bytes.ok.0, rw (← len) at same, c.self.invariant.count))

filled : (c : goal.After-self-1) → IsFilled c.if-needed-len.self-inside.bytes.items (c.self.inside.len + c.args.count)
    × (bits_shown c.if-needed-len.self-inside.bytes.items (c.self.inside.len + c.args.count) ≡ bits_shown
    c.self.inside.bytes.items c.self.inside.len ++ replicate c.args.count false)
filled c =
    let b = c.self.inside in
    let items = b.bytes.items in
    let needed = c.div_ceil-needed.result in
    elim c.if-needed-len.branch [
      | then-needed-len+in_ok-resize w ↦
          rw w.self-inside-is
          (filled-grow_to items w.resize.new.self.items b.len c.args.count needed c.self.invariant
          c.div_ceil-needed.ensures
          (w.in_ok-resize.ensures.items
          ∙ ap (λ (l : List ℕ). l ++ replicate (needed - b.bytes.len) 0)
          (take_all needed items (omega (arith, b.bytes.ok.0)))
          ∙ ap (λ (n : ℕ). items ++ replicate (needed - n) 0) b.bytes.ok.0))
      | else-needed-len w ↦
          let none : needed - length items ≡ 0 = omega (arith, b.bytes.ok.0) in
          rw w.self-inside-is
          (filled-grow_to items items b.len c.args.count needed c.self.invariant
          c.div_ceil-needed.ensures
          (sym (ap (λ (n : ℕ). items ++ replicate n 0) none ∙ append-nil items)))
    ]

pub invariant_of-self-2 : goal.invariant_of-self-2
invariant_of-self-2 c = (filled c).0

pub returns-clause-ok : goal.returns-clause-ok
returns-clause-ok c = (filled c).1 ∙ ap (λ (l : List Bool). l ++ replicate c.args.count false) c.self.view_is
