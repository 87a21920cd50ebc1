use Rattle.std.proofs.Common.{◌≡◌, length}
use Rattle.asn1.specs.Forms.{has_later_block}
use Rattle.asn1.proofs.forms.has_later_block.Given as goal

abbrev pub invariant-loop-first : goal.invariant-loop-first
invariant-loop-first l = has_later_block l.octets ≡ has_later_block l.rest

abbrev pub decreases-loop-first : goal.decreases-loop-first
decreases-loop-first l = length l.rest
