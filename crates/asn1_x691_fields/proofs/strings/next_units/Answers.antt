use Rattle.std.proofs.Common.{ℕ, ◌*◌, ◌++◌, arith}
use Rattle.asn1_bits.specs.Bits.{bits}
use Rattle.asn1_schema.specs.PiecesOfParts.{bits_at}
use Rattle.asn1_x691.specs.Fragments.{string, bits_of_units}
use Rattle.asn1_x691_fields.specs.Outcomes.{rest, position, fault_of}
use Rattle.asn1_x691_fields.specs.StringSteps.{none_read, count_fault, units_start, units_fault, limit_fault}
use Rattle.asn1_x691_fields.proofs.strings.next_units.Goals as goal

pub returns-in_err-count-clause-read : goal.returns-in_err-count-clause-read
returns-in_err-count-clause-read c =
    let list = bits c.args.octets.now in
    none_read (string 0 c.args.is_aligned c.args.unit c.args.node) (λ (p : ℕ × ℕ). (p.0, bits_at list p.1 (c.args.unit * p.0))) list
    c.args.state.now c.next_count.new.state c.from_residual.result c.from_residual.ensures
    (count_fault (bits_of_units c.args.unit c.args.node) (λ a b. a ++ b) c.args.is_aligned c.args.node 0 (position c.args.state.now)
    (rest list c.args.state.now) (fault_of c.next_count.new.state) c.in_err-count.ensures.read)

pub returns-then-count-ge16384-clause-read : goal.returns-then-count-ge16384-clause-read
returns-then-count-ge16384-clause-read c =
    let list = bits c.args.octets.now in
    limit_fault (bits_of_units c.args.unit c.args.node) (λ a b. a ++ b) c.args.is_aligned c.args.node list c.args.state.now
    c.next_count.new.state c.requires.within c.next_count.ensures.onward c.in_ok-count.count c.in_ok-count.ensures.read
    c.if-count-ge16384.true c.fail.new.state c.fail.ensures.at c.fail.ensures.end c.fail.ensures.node c.fail.ensures.kind

pub returns-in_err-at-clause-read : goal.returns-in_err-at-clause-read
returns-in_err-at-clause-read c =
    let list = bits c.args.octets.now in
    none_read (string 0 c.args.is_aligned c.args.unit c.args.node) (λ (p : ℕ × ℕ). (p.0, bits_at list p.1 (c.args.unit * p.0))) list
    c.args.state.now c.next_bits.new.state c.from_residual-in_err-at.result c.from_residual-in_err-at.ensures
    (units_fault (bits_of_units c.args.unit c.args.node) (λ a b. a ++ b) c.args.is_aligned c.args.node list c.args.state.now
    c.next_count.new.state c.requires.within c.next_count.ensures.onward c.in_ok-count.count c.in_ok-count.ensures.read
    (omega (arith, c.if-count-ge16384.false)) (fault_of c.next_bits.new.state) c.in_err-at.ensures.read)

pub returns-clause-read : goal.returns-clause-read
returns-clause-read c =
    let list = bits c.args.octets.now in
    units_start (bits_of_units c.args.unit c.args.node) (λ a b. a ++ b) c.args.is_aligned c.args.node list c.args.state.now
    c.next_count.new.state c.requires.within c.next_count.ensures.onward c.in_ok-count.count c.in_ok-count.ensures.read
    (omega (arith, c.if-count-ge16384.false)) c.next_bits.new.state (bits_at list c.in_ok-at.at (c.args.unit * c.in_ok-count.count))
    c.next_bits.ensures.onward c.in_ok-at.ensures.read
