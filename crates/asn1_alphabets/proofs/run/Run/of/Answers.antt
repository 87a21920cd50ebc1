use Rattle.std.proofs.Common.{sym}
use Rattle.asn1_alphabets.proofs.run.Run.of.Goals as goal

pub returns : goal.returns
returns c = sym c.requires.gapless
