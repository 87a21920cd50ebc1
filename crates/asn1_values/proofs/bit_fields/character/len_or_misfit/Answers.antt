use Rattle.std.proofs.Common.{refl}
use Rattle.asn1_alphabets.specs.AlphabetView.{alphabet_of}
use Rattle.asn1_values.proofs.SpellingLemmas.{character_fits}
use Rattle.asn1_values.proofs.bit_fields.character.len_or_misfit.Goals as goal

pub returns-in-Ok : goal.returns-in-Ok
returns-in-Ok c = record {
  ok =
      rw c.width.ensures.value
      (character_fits (alphabet_of c.args.alphabet.now) c.args.character c.in-Ok.field-0 c.in-Ok.ensures.0);
  err = tt;
}

pub returns-in-Err : goal.returns-in-Err
returns-in-Err c = record { ok = tt; err = (refl, (refl, c.in-Err.ensures.1)) }
