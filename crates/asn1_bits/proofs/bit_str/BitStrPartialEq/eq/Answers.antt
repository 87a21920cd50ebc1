use Rattle.std.proofs.Common.{Ordering, sym, ap, ◌∙◌}
use Rattle.std.specs.Ordering.{is_eq}
use Rattle.asn1_bits.specs.BitStr.{bits_of}
use Rattle.asn1_bits.specs.BitLists.{ties_by}
use Rattle.asn1_bits.proofs.OrderLemmas.{equal_index}
use Rattle.asn1_bits.proofs.bit_str.BitStrPartialEq.eq.Goals as goal

pub returns : goal.returns
returns c =
    c.eq.ensures ∙ equal_index c.cmp.result ∙ ap (λ (o : Ordering). is_eq o) c.cmp.ensures
    ∙ sym (ties_by bits_of c.args.self.now c.args.other.now)
