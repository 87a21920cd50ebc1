use Rattle.std.proofs.Common.{◌≡◌, false, ℕ, ◌<◌, map, get_or}
use Rattle.asn1_bits.specs.BitStr.{bits_of}
use Rattle.asn1_bits.specs.Bits.{number}
use Rattle.asn1_strings.specs.Pieces.{pieces}
use Rattle.asn1_strings.specs.Maps.{is_wrong_key}
use Rattle.asn1_strings.proofs.key_walk.refusal_at_keys.Given as goal

abbrev pub invariant-loop-i : goal.invariant-loop-i
invariant-loop-i g l =
    (k : ℕ) → k < l.i → is_wrong_key g.S.HasCharacterSet.CHARACTER_SET_NAME (g.M.Keys.key_map l.map).get
    (get_or (map number (pieces l.keys.width (bits_of l.keys.bits))) k 0) ≡ false
