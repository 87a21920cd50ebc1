use Rattle.std.proofs.Common.{refl, sym}
use Rattle.asn1_builder.proofs.DraftLemmas.{innermost_none}
use Rattle.asn1_builder.proofs.builder.Builder.end.Goals as goal

pub returns-in-None : goal.returns-in-None
returns-in-None c = (innermost_none c.args.self.now.frames.items (sym c.in-None.ensures), refl)
