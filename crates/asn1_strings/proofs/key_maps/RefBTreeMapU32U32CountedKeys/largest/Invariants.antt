use Rattle.std.proofs.Common.{◌≡◌, max}
use Rattle.std.specs.List.{fold}
use Rattle.std.specs.BTreeMap.{values}
use Rattle.asn1_strings.proofs.key_maps.RefBTreeMapU32U32CountedKeys.largest.Given as goal

abbrev pub invariant-loop-character : goal.invariant-loop-character
invariant-loop-character l = fold max l.most l.character-iterator ≡ fold max 0 (values l.self.now)
