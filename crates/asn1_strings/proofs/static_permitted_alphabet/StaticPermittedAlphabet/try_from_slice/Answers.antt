use Rattle.std.proofs.Common.{arith}
use Rattle.std.proofs.lemmas.Grind.{common_steps}
use Rattle.asn1_strings.proofs.static_permitted_alphabet.StaticPermittedAlphabet.try_from_slice.Goals as goal

pub returns : goal.returns
returns g c = grind (arith, common_steps)
