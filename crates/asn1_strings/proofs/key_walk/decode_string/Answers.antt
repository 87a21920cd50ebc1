use Rattle.std.proofs.Common.{rules, ℕ, Option, map, ◌∙◌}
use Rattle.std.proofs.lemmas.List.{length-map}
use Rattle.asn1_bits.specs.BitStr.{bits_of}
use Rattle.asn1_bits.specs.Bits.{number}
use Rattle.asn1_strings.specs.Pieces.{pieces}
use Rattle.asn1_strings.proofs.KeyLemmas.{keyed_read, read_in_set}
use Rattle.asn1_strings.proofs.key_walk.decode_string.Goals as goal

pub from_units-requires : goal.from_units-requires
from_units-requires g c =
    let value = g.S.T.CodeUnit.value in
    let numbers = map number (pieces c.args.keys.width (bits_of c.args.keys.bits)) in
    let get : ℕ → Option ℕ = (g.M.Keys.key_map c.args.map.now).get in
    read_in_set g.S.HasCharacterSet.CHARACTER_SET_NAME get numbers (map value c.in-Some.units.items)
    (length-map c.in-Some.units.items value ∙ c.in-Some.ensures.some.0) c.in-Some.ensures.some.1

pub returns-in-Some : goal.returns-in-Some
returns-in-Some g c =
    let value = g.S.T.CodeUnit.value in
    let numbers = map number (pieces c.args.keys.width (bits_of c.args.keys.bits)) in
    let get : ℕ → Option ℕ = (g.M.Keys.key_map c.args.map.now).get in
    rw c.from_units.ensures
    (keyed_read g.S.HasCharacterSet.CHARACTER_SET_NAME get numbers (map value c.in-Some.units.items)
    (length-map c.in-Some.units.items value ∙ c.in-Some.ensures.some.0) c.in-Some.ensures.some.1)

pub returns-in-None : goal.returns-in-None
returns-in-None g c = search rules
