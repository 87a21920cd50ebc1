use Rattle.std.proofs.Common.{◌≡◌, ℕ, ◌≤◌, Bool, List, length, take, drop, Ok, ap, sym, refl, ◌∙◌}
use Rattle.std.proofs.lemmas.Bool.{le-ltb}
use Rattle.asn1_bits.specs.BitReader.{bits_left}
use Rattle.asn1_alphabets.specs.AlphabetView.{alphabet_of}
use Rattle.asn1_bits.specs.Bits.{number}
use Rattle.asn1_alphabets.specs.Alphabet.{Alphabet, IsCode}
use Rattle.asn1_values.specs.Fields.{Character, OfCharacter}
use Rattle.asn1_values.specs.Steps.{past}
use Rattle.asn1_values.specs.Walk.{cut_at, field_at}
use Rattle.asn1_values.proofs.CharacterKind.{character_from_code, character_refused, cut_twice}
use Rattle.asn1_values.proofs.bit_fields.character.take_value.Goals as goal

-- a code's character, and the bits after it
character_read : (a : Alphabet) (list rest : List Bool) (c k : ℕ) → a.width ≤ length list
    → k ≡ number (take a.width list) → IsCode a c k → rest ≡ drop a.width list
    → field_at (OfCharacter a) list ≡ Ok (Character a c, rest)
unfolding field_at cut_at
character_read a list rest c k le is code behind =
    rw (le-ltb _ _ le, sym is, character_from_code a c k code, behind) refl

pub returns-in-Ok : goal.returns-in-Ok
returns-in-Ok c =
    let w = c.width-width.ensures.value in
    let cut = c.in_ok-front.ensures.taken in
    let read = character_read (alphabet_of c.args.alphabet.now) (bits_left c.args.reader.now)
    (bits_left c.take_few.new.reader) c.in-Ok.character c.first_bits-code.result
    (rw w at cut.enough)
    (rw w at (c.first_bits-code.ensures.number
    ∙ ap number (cut_twice c.width-width.result (bits_left c.args.reader.now) (bits_left c.in_ok-front.front)
    cut.list))) c.in-Ok.ensures.character (rw w at cut.rest) in
    record {
      examined = record { ok = ap (past c.args.field) read; err = tt };
      read = read;
      moved = rw w at cut.moved;
    }

pub returns-in-Err : goal.returns-in-Err
returns-in-Err c =
    let w = c.width-width.ensures.value in
    let cut = c.in_ok-front.ensures.taken in
    record {
      examined = record {
        ok = tt;
        err = ap (past c.args.field)
            (character_refused (alphabet_of c.args.alphabet.now) (bits_left c.args.reader.now) c.first_bits-code.result
            (rw w at cut.enough)
            (rw w at (c.first_bits-code.ensures.number
            ∙ ap number (cut_twice c.width-width.result (bits_left c.args.reader.now) (bits_left c.in_ok-front.front)
            cut.list))) c.in-Err.ensures.character.1);
      };
      read = tt;
      moved = tt;
    }
