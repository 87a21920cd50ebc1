use Rattle.std.proofs.Common.{◌≡◌, ℕ, ◌<◌, ◌≤◌, Bool, List, length, take, drop, Ok, Err, ap, refl, ◌∙◌, arith}
use Rattle.std.proofs.lemmas.Bool.{le-ltb, lt-ltb}
use Rattle.asn1_bits.specs.BitReader.{bits_left}
use Rattle.asn1_bits.specs.Bits.{number}
use Rattle.asn1_values.specs.Fields.{Number, OfNumber}
use Rattle.asn1_values.specs.Steps.{past}
use Rattle.asn1_values.specs.Walk.{cut_at, field_at}
use Rattle.asn1_values.specs.Wrong.{NumberWidth}
use Rattle.asn1_values.proofs.CharacterKind.{cut_twice}
use Rattle.asn1_values.proofs.bit_fields.number.take_value.Goals as goal

number_read : (width : ℕ) (list rest : List Bool) (n : ℕ) → width ≤ 128 → width ≤ length list
    → n ≡ number (take width list) → rest ≡ drop width list
    → field_at (OfNumber width) list ≡ Ok (Number n width, rest)
unfolding field_at cut_at
number_read width list rest n few le is behind = rw (le-ltb _ _ few, le-ltb _ _ le, is, behind) refl

too_wide : (width : ℕ) (list : List Bool) → 128 < width → field_at (OfNumber width) list ≡ Err (NumberWidth width)
unfolding field_at
too_wide width list wide = rw (lt-ltb _ _ wide) refl

pub returns : goal.returns
returns c =
    let width = c.args.width in
    let cut = c.in_ok-front.ensures.taken in
    let read = number_read width (bits_left c.args.reader.now) (bits_left c.take_few-2.new.reader)
    c.first_u128-2.result (omega arith) cut.enough
    (c.first_u128-2.ensures.number
    ∙ ap number (cut_twice width (bits_left c.args.reader.now) (bits_left c.in_ok-front.front) cut.list))
    cut.rest in
    record {
      examined = record { ok = ap (past c.args.field) read; err = tt };
      read = read;
      moved = cut.moved;
    }

pub returns-then-width-gt128 : goal.returns-then-width-gt128
returns-then-width-gt128 c = record {
  examined = record {
    ok = tt;
    err = ap (past c.args.field) (too_wide c.args.width (bits_left c.args.reader.now) (omega arith));
  };
  read = tt;
  moved = tt;
}

pub returns-then-width-le64 : goal.returns-then-width-le64
returns-then-width-le64 c =
    let width = c.args.width in
    let cut = c.in_ok-word.ensures.taken in
    let read = number_read width (bits_left c.args.reader.now) (bits_left c.take_few.new.reader) c.first_u128.result
    (omega arith) cut.enough
    (c.first_u128.ensures.number
    ∙ ap number (cut_twice width (bits_left c.args.reader.now) (bits_left c.in_ok-word.word) cut.list)) cut.rest in
    record {
      examined = record { ok = ap (past c.args.field) read; err = tt };
      read = read;
      moved = cut.moved;
    }
