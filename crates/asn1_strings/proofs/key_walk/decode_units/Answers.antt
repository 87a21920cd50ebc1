use Rattle.std.proofs.Common.{rules, ◌≡◌, ◌+◌, ◌*◌, ◌/◌, ◌%◌, length, map, ◌∙◌, arith}
use Rattle.std.specs.Prelude.{vec_len}
use Rattle.std.proofs.lemmas.Nat.{div-add-mod'}
use Rattle.asn1_bits.specs.BitStr.{bits_of}
use Rattle.asn1_bits.specs.Bits.{number}
use Rattle.asn1_strings.specs.Pieces.{pieces}
use Rattle.asn1_strings.specs.Laws.PieceLaws.{piece_within}
use Rattle.asn1_strings.proofs.KeyLemmas.{both_held}
use Rattle.asn1_strings.proofs.PieceLemmas.{length-numbers}
use Rattle.asn1_strings.proofs.key_walk.decode_units.Goals as goal

pub push_word-right-requires-clause-within : goal.push_word-right-requires-clause-within
push_word-right-requires-clause-within g c =
    let room = piece_within c.keys_in_word-each.result c.count-count.result c.loop.counter (omega arith) in
    omega (
      arith,
      room,
      c.count-count.ensures,
      length-numbers number c.args.keys.width (bits_of c.args.keys.bits),
      c.loop.invariant.len,
    )

pub loop-preserved : goal.loop-preserved
loop-preserved g c =
    let room = piece_within c.keys_in_word-each.result c.count-count.result c.loop.counter (omega arith) in
    record {
      len = omega arith;
      capacity = c.push_word-right.ensures.capacity ∙ c.loop.invariant.capacity;
      read = λ ok.
          let held = both_held _ _ ok in
          rw c.push_word-right.ensures.len (c.push_word-right.ensures.read held.0 (c.loop.invariant.read held.1));
      empty = λ none. absurd (omega (arith, room, none, c.keys_in_word-each.ensures.some));
    }

pub push_word-right-requires-2-clause-within : goal.push_word-right-requires-2-clause-within
push_word-right-requires-2-clause-within g c =
    let count = c.count-count.result in
    let each = c.keys_in_word-each.result in
    let e : c.loop.counter ≡ count / each = omega arith in
    let all : c.loop.counter * each + count % each ≡ count = rw e (div-add-mod' count each) in
    omega (
      arith,
      all,
      c.count-count.ensures,
      length-numbers number c.args.keys.width (bits_of c.args.keys.bits),
      c.loop.invariant.len,
    )

pub returns-then-right-clause-some : goal.returns-then-right-clause-some
returns-then-right-clause-some g c =
    let numbers = map number (pieces c.args.keys.width (bits_of c.args.keys.bits)) in
    let count = c.count-count.result in
    let each = c.keys_in_word-each.result in
    let e : c.loop.counter ≡ count / each = omega arith in
    let all : c.loop.counter * each + count % each ≡ count = rw e (div-add-mod' count each) in
    let long : vec_len c.loop.units + count % each ≡ length numbers =
    omega (arith, all, c.count-count.ensures, c.loop.invariant.len) in
    let held = both_held _ _ c.if-right.true in
    let read = c.push_word-right-2.ensures.read held.0 (c.loop.invariant.read held.1) in (
      omega (arith, long, c.push_word-right-2.ensures.len, c.push_word-right-2.new.units.ok.0),
      λ k h. read k (omega (arith, h, long)),
    )

pub returns-in_default-clause-none : goal.returns-in_default-clause-none
returns-in_default-clause-none g c = search rules

pub loop-init : goal.loop-init
loop-init g c = search rules
