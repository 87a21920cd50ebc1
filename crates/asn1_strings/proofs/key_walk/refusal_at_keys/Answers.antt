use Rattle.std.proofs.Common.{rules, ◌≡◌, ℕ, Option, map, get_or, Some, None, sym, ◌∙◌, arith}
use Rattle.asn1_bits.specs.BitStr.{bits_of}
use Rattle.asn1_bits.specs.Bits.{number}
use Rattle.asn1_strings.specs.Pieces.{pieces}
use Rattle.asn1_strings.proofs.KeyLemmas.{keyed_missing, keyed_outside, keyed_wanting}
use Rattle.asn1_strings.proofs.key_walk.refusal_at_keys.Goals as goal

pub returns-in_default : goal.returns-in_default
returns-in_default g c =
    let keys = map number (pieces c.args.keys.width (bits_of c.args.keys.bits)) in
    let get : ℕ → Option ℕ = (g.M.Keys.key_map c.args.map.now).get in
    let here : get (get_or keys c.loop-i.i 0) ≡ None =
    rw (← c.character-key.ensures, ← c.get.ensures) c.in_default.is in
    rw c.character-key.ensures (keyed_missing g.S.HasCharacterSet.CHARACTER_SET_NAME get keys c.loop-i.i
    (omega arith) c.loop-i.invariant here)

pub returns-then-not-contains_char : goal.returns-then-not-contains_char
returns-then-not-contains_char g c =
    let keys = map number (pieces c.args.keys.width (bits_of c.args.keys.bits)) in
    let get : ℕ → Option ℕ = (g.M.Keys.key_map c.args.map.now).get in
    let here : get (get_or keys c.loop-i.i 0) ≡ Some c.in-Some.character =
    rw (← c.character-key.ensures, ← c.get.ensures) c.in-Some.is in
    rw c.invalid_restricted_string.ensures
    (keyed_outside g.S.HasCharacterSet.CHARACTER_SET_NAME get keys c.loop-i.i c.in-Some.character
    (omega arith) c.loop-i.invariant here (sym c.contains_char.ensures ∙ c.if-not-contains_char.true))

pub returns : goal.returns
returns g c =
    let keys = map number (pieces c.args.keys.width (bits_of c.args.keys.bits)) in
    keyed_wanting g.S.HasCharacterSet.CHARACTER_SET_NAME (g.M.Keys.key_map c.args.map.now).get keys c.requires
    (λ k h. c.loop-i.invariant k (omega arith))

pub loop-i-preserved : goal.loop-i-preserved
loop-i-preserved g c = search rules
