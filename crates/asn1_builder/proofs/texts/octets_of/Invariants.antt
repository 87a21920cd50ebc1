use Rattle.std.proofs.Common.{◌≡◌}
use Rattle.asn1_builder.specs.Steps.{octets_of}
use Rattle.asn1_builder.proofs.texts.octets_of.Given as goal

abbrev pub invariant-loop-character : goal.invariant-loop-character
invariant-loop-character l = l.octets.items ≡ octets_of l.yielded
