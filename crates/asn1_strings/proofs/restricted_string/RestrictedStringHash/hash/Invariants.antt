use Rattle.std.proofs.Common.{◌≡◌}
use Rattle.std.specs.List.{fold, flat_map}
use Rattle.std.specs.Hash as fed
use Rattle.asn1_strings.proofs.restricted_string.RestrictedStringHash.hash.Given as goal

abbrev pub invariant-loop-character : goal.invariant-loop-character
invariant-loop-character g l =
    fold g.H.Hasher.write l.state (flat_map fed.u32 l.character-iterator) ≡ fold g.H.Hasher.write l.fn.state
    (fed.slice fed.u32 l.self)
