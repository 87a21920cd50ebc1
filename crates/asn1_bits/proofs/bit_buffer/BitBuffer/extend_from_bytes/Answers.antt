use Rattle.std.proofs.Common.{rules, ◌≡◌, ℕ, ◌+◌, ◌*◌, Bool, List, ◌++◌, length, sym, ap, ◌∙◌, arith}
use Rattle.std.proofs.lemmas.Result.{err_from_is_err_and}
use Rattle.asn1_bits.specs.Bits.{bits}
use Rattle.asn1_bits.specs.BitBuffer.{bits_shown, IsFilled}
use Rattle.asn1_bits.proofs.BufferLemmas.{length-bits_shown, whole-front, whole-filled}
use Rattle.asn1_bits.proofs.bit_buffer.BitBuffer.extend_from_bytes.Goals as goal

pub overflow_add-self : goal.overflow_add-self
overflow_add-self c =
    let b = c.self.inside in
    omega (
      arith,
      length-bits_shown b.bytes.items b.len c.self.invariant,
      ap (λ (l : List Bool). length l)
          c.self.view_is,
      c.requires,
    )

pub invariant_of-self : goal.invariant_of-self
invariant_of-self c =
    let b = c.self.inside in
    (whole-front b.bytes.items c.extend_from_slice.new.self.items b.len c.self.invariant c.if-self-eq0.true
    (c.in_err-extend_from_slice.ensures.items ∙ c.truncate.ensures.items)).0

pub returns-in_err-extend_from_slice-clause-err : goal.returns-in_err-extend_from_slice-clause-err
returns-in_err-extend_from_slice-clause-err c =
    let b = c.self.inside in
    rw (err_from_is_err_and c.from_residual.result c.from_residual.ensures.1).1
    ((whole-front b.bytes.items c.extend_from_slice.new.self.items b.len c.self.invariant c.if-self-eq0.true
    (c.in_err-extend_from_slice.ensures.items ∙ c.truncate.ensures.items)).1
    ∙ c.self.view_is)

filled : (c : goal.After-self-1)
    → IsFilled c.extend_from_slice.new.self.items (c.self.inside.len + 8 * length c.args.src.now)
    × (bits_shown c.extend_from_slice.new.self.items (c.self.inside.len + 8 * length c.args.src.now) ≡ c.args.self.now
    ++ bits c.args.src.now)
filled c =
    let b = c.self.inside in
    let front = c.truncate.new.self.items in
    let kept = whole-front b.bytes.items front b.len c.self.invariant c.if-self-eq0.true c.truncate.ensures.items in
    let f = whole-filled front c.args.src.now b.len kept.2 in
    rw c.in_ok-extend_from_slice.ensures.items
    (f.0, f.1 ∙ ap (λ (l : List Bool). l ++ bits c.args.src.now) (kept.1 ∙ c.self.view_is))

pub invariant_of-self-then-self-eq0 : goal.invariant_of-self-then-self-eq0
invariant_of-self-then-self-eq0 c = (filled c).0

pub returns-then-self-eq0-clause-ok : goal.returns-then-self-eq0-clause-ok
returns-then-self-eq0-clause-ok c = (filled c).1

pub returns-then-self-eq0-clause-len : goal.returns-then-self-eq0-clause-len
returns-then-self-eq0-clause-len c =
    let f = filled c in
    length-bits_shown c.extend_from_slice.new.self.items (c.self.inside.len + 8 * length c.args.src.now) f.0
    ∙ (let n : c.self.inside.len ≡ length c.args.self.now =
    sym (length-bits_shown c.self.inside.bytes.items c.self.inside.len c.self.invariant)
    ∙ ap (λ (l : List Bool). length l) c.self.view_is in
    ap (λ (k : ℕ). k + 8 * length c.args.src.now) n)

pub returns-clause-ok : goal.returns-clause-ok
returns-clause-ok c = search rules

pub returns-clause-len : goal.returns-clause-len
returns-clause-len c = search rules
