use Rattle.std.proofs.Common.{rules, sym}
use Rattle.asn1_bits.specs.BitStr.{view_of}
use Rattle.asn1_bits.specs.Laws.ViewLaws.{length-list_of}
use Rattle.asn1_bits.proofs.bit_str.BitStr.len.Goals as goal

pub returns-clause-list : goal.returns-clause-list
returns-clause-list c = sym (length-list_of (view_of c.args.self.now) c.args.self.now.within)

pub returns-clause-len : goal.returns-clause-len
returns-clause-len c = search rules
