use Rattle.std.proofs.Common.{◌≡◌, ◌+◌, ◌-◌, Some, None, arith}
use Rattle.asn1_x690_encode.specs.AdditionSteps.{Kept, kept_begun, kept_more, kept_fails, kept_done}
use Rattle.asn1_x690_encode.specs.Encoding.{unknown_in}
use Rattle.asn1_x690_encode.specs.Steps.{as_value}
use Rattle.asn1_x690_encode.specs.ToldSteps.{told_stopped}
use Rattle.asn1_x690_encode.proofs.additions.encode_unknown.Goals as goal

pub loop-left-init : goal.loop-left-init
loop-left-init c =
    let a = c.args in
    kept_begun a.node a.context.now (a.count - a.known) a.octets.now a.state.now

pub returns-in_err-found : goal.returns-in_err-found
returns-in_err-found c =
    let a = c.args in
    let cx = a.context.now in
    let l = c.loop-left in
    let k = c.encode_any in
    let all : a.count ≡ a.known + (a.count - a.known) = omega (arith, c.if-count-known.false) in
    let one : l.left ≡ (l.left - 1) + 1 = omega (arith, c.loop-left-test.true) in
    told_stopped cx (unknown_in a.node a.known) a.count a.octets.now a.state.now k.new.octets k.new.state c.from_residual.result
    c.from_residual.ensures
    (kept_fails a.node cx (a.count - a.known) a.octets.now a.state.now l.left (l.left - 1) l.begins l.octets l.state l.invariant
    (omega (arith, one)) a.known a.count k.new.state all
    (as_value cx a.node (Kept a.node) l.octets l.state k.new.octets k.new.state None c.in_err-found.ensures))

pub loop-left-preserved : goal.loop-left-preserved
loop-left-preserved c =
    let a = c.args in
    let cx = a.context.now in
    let l = c.loop-left in
    let k = c.encode_any in
    kept_more a.node cx (a.count - a.known) a.octets.now a.state.now l.left (l.left - 1) l.begins l.octets l.state l.invariant
    (omega (arith, c.loop-left-test.true)) c.in_ok-found.found c.earlier.result k.new.octets k.new.state c.earlier.ensures
    (as_value cx a.node (Kept a.node) l.octets l.state k.new.octets k.new.state (Some c.in_ok-found.found) c.in_ok-found.ensures)

pub returns : goal.returns
returns c =
    let a = c.args in
    let l = c.loop-left in
    let all : a.count ≡ a.known + (a.count - a.known) = omega (arith, c.if-count-known.false) in
    kept_done a.node a.context.now (a.count - a.known) a.octets.now a.state.now a.known a.count l.left l.begins l.octets l.state all
    (omega (arith, c.loop-left-test.false)) l.invariant
