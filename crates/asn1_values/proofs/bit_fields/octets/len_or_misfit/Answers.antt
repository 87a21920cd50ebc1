use Rattle.asn1_bits.specs.Octets.{octets_in}
use Rattle.asn1_values.proofs.SpellingLemmas.{octets_fit}
use Rattle.asn1_values.proofs.bit_fields.octets.len_or_misfit.Goals as goal

pub returns : goal.returns
returns c = rw c.as_ref.ensures.list (octets_fit (octets_in c.args.octets.now) c.as_ref.ensures.octets)
