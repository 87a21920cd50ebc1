use Rattle.std.proofs.Common.{◌≡◌, ◌-◌, ℕ, length, drop, sym, ap, ◌∙◌, arith}
use Rattle.asn1_schema.specs.declared.part.Part.TheVariants.{Absent}
use Rattle.asn1_schema_values.proofs.ExtentLemmas.{rest_after, none_ends, has_values, step, too_many_left, too_many_held}
use Rattle.asn1_schema_values.proofs.extent.end_of_values.Goals as goal

pub returns-then-left-pending : goal.returns-then-left-pending
returns-then-left-pending c =
    let parts = c.args.parts.now in
    let within = c.loop-pending.invariant.within in
    none_ends parts c.args.at c.args.count
    (sym c.loop-pending.invariant.same
    ∙ too_many_left parts c.loop-pending.left c.loop-pending.pending (omega arith) c.if-left-pending.true)

pub returns-in_err-held : goal.returns-in_err-held
returns-in_err-held c =
    let parts = c.args.parts.now in
    let within = c.loop-pending.invariant.within in
    rw c.from_residual-in_err-held.ensures (none_ends parts c.args.at c.args.count
    (sym c.loop-pending.invariant.same
    ∙ too_many_held parts c.loop-pending.left c.loop-pending.pending (omega arith) Absent (omega arith) (omega arith)
    (omega (arith, c.in_err-held.ensures))))

pub returns-in_err-pending : goal.returns-in_err-pending
returns-in_err-pending c =
    let parts = c.args.parts.now in
    let within = c.loop-pending.invariant.within in
    rw c.from_residual-in_err-pending.ensures (none_ends parts c.args.at c.args.count
    (sym c.loop-pending.invariant.same
    ∙ too_many_held parts c.loop-pending.left c.loop-pending.pending (omega arith) Absent (omega arith) (omega arith)
    (omega (arith, c.in_ok-held.ensures, c.in_err-pending.ensures))))

pub loop-pending-preserved : goal.loop-pending-preserved
loop-pending-preserved c =
    let within = c.loop-pending.invariant.within in
    record {
      within = omega arith;
      same = sym (step c.args.parts.now c.loop-pending.left c.loop-pending.pending c.in_ok-pending.pending Absent (omega arith)
          (omega arith) (omega arith) (omega (arith, c.in_ok-held.ensures, c.in_ok-pending.ensures)))
          ∙ c.loop-pending.invariant.same;
    }

pub returns : goal.returns
returns c =
    let parts = c.args.parts.now in
    let within = c.loop-pending.invariant.within in
    let used : c.loop-pending.pending ≡ 0 = omega arith in
    has_values parts c.args.at c.args.count (length parts - c.loop-pending.left) (omega arith) (omega arith)
    (sym c.loop-pending.invariant.same
    ∙ ap (λ (n : ℕ). rest_after n (drop (length parts - c.loop-pending.left) parts)) used)
