use Rattle.std.proofs.Common.{arith}
use Rattle.std.proofs.lemmas.Grind.{common_steps}
use Rattle.asn1_number.proofs.integer.Integer.signed_octets.Goals as goal

pub returns-in-Shortest : goal.returns-in-Shortest
returns-in-Shortest c =
    let i = c.self.invariant in
    let e = c.in-Shortest.is in
    let v = c.self.view_is in
    rw (← c.self.view_is, c.in-Shortest.is, c.borrowed-in-Shortest.ensures, c.as_slice.ensures.value)
    (rw c.in-Shortest.is at c.self.invariant).0

pub returns-in-Inline : goal.returns-in-Inline
returns-in-Inline c = grind (arith, common_steps)
