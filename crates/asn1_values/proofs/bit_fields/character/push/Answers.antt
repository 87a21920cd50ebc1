use Rattle.std.proofs.Common.{refl}
use Rattle.asn1_bits.specs.Bits.{digits}
use Rattle.asn1_alphabets.specs.AlphabetView.{alphabet_of}
use Rattle.asn1_values.proofs.bit_fields.character.push.Goals as goal

pub returns-in-Ok : goal.returns-in-Ok
returns-in-Ok c =
    let a = alphabet_of c.args.alphabet.now in
    let k = c.in-Ok.code in
    record {
      pushed = record {
        list = digits k a.width;
        spelled = (k, c.in-Ok.ensures.0, refl);
        taken = rw (c.from.ensures, c.width.ensures.value) at c.add.ensures;
      };
      refused = tt;
    }
