use Rattle.std.proofs.Common.{sym, drop}
use Rattle.asn1_bits.specs.Bits.{bits}
use Rattle.asn1_schema.specs.Laws.NumberLaws.{numbers_count}
use Rattle.asn1_x691_fields.proofs.number_sources.NumbersAtNumberSource.count.Goals as goal

pub returns : goal.returns
returns c =
    let s = c.args.self.now in
    sym (numbers_count s.width s.count (drop s.at (bits s.octets.now)))
