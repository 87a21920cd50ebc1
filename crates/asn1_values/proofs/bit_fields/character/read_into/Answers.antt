use Rattle.std.proofs.Common.{refl}
use Rattle.asn1_alphabets.specs.AlphabetView.{alphabet_of}
use Rattle.asn1_values.specs.declared.bit_fields.field.Field.TheVariants as fields
use Rattle.asn1_values.specs.Fields as plain
use Rattle.asn1_values.proofs.OneSpelling.{length-spelled}
use Rattle.asn1_values.proofs.bit_fields.character.read_into.Goals as goal

pub returns : goal.returns
returns c =
    let a = alphabet_of c.args.alphabet.now in
    let character = c.in_ok-character.character in
    let got = c.in_ok-character.ensures in
    record {
      read = record {
        field = fields.Character character c.args.alphabet.now;
        appended = c.push_reserved.ensures.items;
        read = got.read;
        place = tt;
        rest =
            λ list s. rw (length-spelled (plain.OfCharacter a) (plain.Character a character) list refl s) got.moved;
      };
      len = c.push_reserved.ensures.len;
      capacity = c.push_reserved.ensures.capacity;
      err = tt;
    }
