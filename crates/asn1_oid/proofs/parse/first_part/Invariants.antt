use Rattle.std.proofs.Common.{◌≡◌, false, take}
use Rattle.std.specs.Prelude.{◌==◌, All}
use Rattle.asn1_oid.proofs.parse.first_part.Given as goal

abbrev pub invariant-loop-i : goal.invariant-loop-i
invariant-loop-i l = All (λ b. (b == 46) ≡ false) (take l.i l.text)
