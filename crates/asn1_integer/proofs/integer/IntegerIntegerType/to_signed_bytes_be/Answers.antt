use Rattle.std.proofs.Common.{rules}
use Rattle.asn1_integer.proofs.integer.IntegerIntegerType.to_signed_bytes_be.Goals as goal

pub returns-clause-shortest : goal.returns-clause-shortest
returns-clause-shortest c = search rules
