use Rattle.std.proofs.Common.{◌≡◌, ℕ, ◌+◌, ◌/◌, ◌≤◌, Bool, List, ◌++◌, length, sym, ap, ◌∙◌, arith}
use Rattle.std.proofs.lemmas.List.{with_items_is, length-append}
use Rattle.asn1_bits.specs.Bits.{bits, digits, ored}
use Rattle.asn1_bits.specs.BitBuffer.{bits_shown, IsFilled}
use Rattle.asn1_bits.specs.Laws.DigitLaws.{length-digits}
use Rattle.asn1_bits.proofs.BufferLemmas.{length-bits_shown, filled-ready}
use Rattle.asn1_bits.proofs.PutLemmas.{digits-lowest, filled-pushed}
use Rattle.asn1_bits.proofs.bit_buffer.BitBuffer.push_bits.Goals as goal
use Rattle.asn1_bits.proofs.bit_buffer.BitBuffer.push_bits.Goals.{After-lowest-number, then-position-octets+else-div_ceil-capacity+in_ok-resize, else-position-octets, else-div_ceil-capacity-via-then-div_ceil-capacity+else-capacity-octets-lt-READY, else-div_ceil-capacity-via-else-div_ceil-capacity}

pub overflow_add-position : goal.overflow_add-position
overflow_add-position c =
    let b = c.self.inside in
    omega (
      arith,
      length-bits_shown b.bytes.items b.len c.self.invariant,
      ap (λ (l : List Bool). length l)
          c.self.view_is,
      c.requires.fits,
    )

pub overflow_add-position-then-position-octets : goal.overflow_add-position-then-position-octets
overflow_add-position-then-position-octets c =
    let b = c.self.inside in
    omega (
      arith,
      length-bits_shown b.bytes.items b.len c.self.invariant,
      ap (λ (l : List Bool). length l)
          c.self.view_is,
      c.requires.fits,
    )

pub overflow_add-self : goal.overflow_add-self
overflow_add-self c =
    let b = c.self.inside in
    omega (
      arith,
      length-bits_shown b.bytes.items b.len c.self.invariant,
      ap (λ (l : List Bool). length l)
          c.self.view_is,
      c.requires.fits,
    )

pub returns-in_err-resize-clause-free : goal.returns-in_err-resize-clause-free
returns-in_err-resize-clause-free c = λ same.
    let b = c.self.inside in
    let len : b.len ≡ length c.args.self.now = sym (length-bits_shown b.bytes.items b.len c.self.invariant)
    ∙ ap (λ (l : List Bool). length l) c.self.view_is in
    elim c.else-div_ceil-capacity.branch [
      | else-div_ceil-capacity-via-then-div_ceil-capacity+else-capacity-octets-lt-READY w ↦
          absurd (omega (arith, c.in_err-resize.ensures.full, c.capacity-capacity.ensures))
      | else-div_ceil-capacity-via-else-div_ceil-capacity w ↦
          absurd (omega (arith, b.bytes.ok.0, rw (← len) at same, c.self.invariant.count, c.capacity-capacity.ensures))
    ]

-- octets of zeros after the list change nothing, and there are eight octets from the last one that is begun on
ready : (c : After-lowest-number)
    → IsFilled c.if-position-octets.self-inside.bytes.items c.self.inside.len
    × (bits_shown c.if-position-octets.self-inside.bytes.items c.self.inside.len ≡ c.args.self.now)
    × (c.self.inside.len / 8 + 8 ≤ c.if-position-octets.self-inside.bytes.len)
ready c =
    let b = c.self.inside in
    elim c.if-position-octets.branch [
      | then-position-octets+else-div_ceil-capacity+in_ok-resize w ↦
          let f = filled-ready b.bytes.items w.resize.new.self.items b.len b.bytes.len _
          c.self.invariant b.bytes.ok.0 (omega (arith, c.len-octets.ensures))
          (omega (arith, w.if-position-octets.true, c.len-octets.ensures)) w.in_ok-resize.ensures.items in
          rw w.self-inside-is (
            f.0,
            f.1 ∙ c.self.view_is,
            omega (arith, w.in_ok-resize.ensures.len, c.len-octets.ensures, c.self.invariant.count, b.bytes.ok.0),
          )
      | else-position-octets w ↦
          rw w.self-inside-is
          (c.self.invariant, c.self.view_is, omega (arith, w.if-position-octets.false, c.len-octets.ensures))
    ]

pub put_word-requires-clause-zeros : goal.put_word-requires-clause-zeros
put_word-requires-clause-zeros c = rw c.as_mut_slice.ensures.value (ready c.before.before).0.rest

same_len : (c : goal.After-self-2-1) → length c.put_word.new.dst ≡ c.if-position-octets.self-inside.bytes.len
same_len c = omega (arith, c.put_word.auto.dst, c.as_mut_slice.ensures.len)

filled : (c : goal.After-self-2-1) → IsFilled c.put_word.new.dst (c.self.inside.len + c.args.width)
    × (bits_shown c.put_word.new.dst (c.self.inside.len + c.args.width) ≡ c.args.self.now
    ++ digits c.args.value c.args.width)
filled c =
    let b = c.if-position-octets.self-inside in
    let len = c.self.inside.len in
    let src = digits c.args.value c.args.width in
    let r = ready c.before.before.before.before.before in
    let f = filled-pushed b.bytes.items c.put_word.new.dst len c.args.width src r.0
    (c.put_word.ensures
    ∙ ap (ored (bits c.as_mut_slice.result.now) len)
    (c.lowest-number.ensures.digits ∙ digits-lowest c.args.value c.args.width (omega arith))
    ∙ ap (λ (l : List ℕ). ored (bits l) len src) c.as_mut_slice.ensures.value)
    (length-digits c.args.value c.args.width)
    (omega (arith, b.bytes.ok.0, r.2)) in
    (f.0, f.1 ∙ ap (λ (l : List Bool). l ++ src) r.1)

pub invariant_of-self-2 : goal.invariant_of-self-2
invariant_of-self-2 c =
    rw (with_items_is c.if-position-octets.self-inside.bytes c.put_word.new.dst (same_len c)) (filled c).0

pub returns-clause-ok : goal.returns-clause-ok
returns-clause-ok c =
    rw (with_items_is c.if-position-octets.self-inside.bytes c.put_word.new.dst (same_len c)) (filled c).1

pub returns-clause-len : goal.returns-clause-len
returns-clause-len c =
    let src = digits c.args.value c.args.width in
    ap (λ (l : List Bool). length l) (returns-clause-ok c)
    ∙ omega (arith, length-append c.args.self.now src, length-digits c.args.value c.args.width)
