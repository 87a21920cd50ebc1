use Rattle.std.proofs.Common.{◌+◌, [], ◌∷◌, List, Bool, true, false, refl, sym, subst, append-nil}
use Rattle.asn1_bits.specs.Bits.{bits, digits}
use Rattle.asn1_schema.specs.CharactersOfParts.{characters_of}
use Rattle.asn1_schema.specs.Pieces.{Text}
use Rattle.asn1_x691.specs.Fragments.{most_fragments}
use Rattle.asn1_x691.specs.Leaves.{text as text_in}
use Rattle.asn1_x691_fields.specs.Characters.{rows_of}
use Rattle.asn1_x691_writers.specs.Written.{IsGrown, IsWritten}
use Rattle.asn1_x691_writers.proofs.QuickLemmas.{zero_before}
use Rattle.asn1_x691_writers.proofs.texts.put_text_after_zero.Goals as goal

pub returns-in-Some : goal.returns-in-Some
returns-in-Some c whole =
    let aligned = c.args.is_aligned in
    let node = c.args.node in
    let table = c.args.table.now in
    let text = characters_of table (bits c.args.source.now) c.args.text in
    let was = c.args.octets.now in
    let now = c.put_number-state.new.octets in
    let old = c.args.state.now.at in
    let new = c.put_number-state.result in
    let short = c.in-Some.short in
    let number = digits short.value short.width in
    let w : IsWritten aligned (λ at. (text_in most_fragments aligned node c.args.size true (rows_of table c.args.rows) whole at).encoding)
    (Text text ∷ []) was old now new = record {
      list = false ∷ number;
      encodes = λ at h. record {
        value = false;
        after = Text text ∷ [];
        front = false ∷ [];
        rest = number;
        first = record {
          value = false ∷ [];
          after = false;
          front = false ∷ [];
          rest = [];
          first = (refl, refl);
          second = (refl, refl);
          is = refl;
          parts = refl;
        };
        second = record {
          value = text;
          after = [];
          front = number;
          rest = [];
          first = c.in-Some.ensures.encoded node (at + 1);
          second = (refl, refl);
          is = refl;
          parts = sym (append-nil number);
        };
        is = refl;
        parts = refl;
      };
      grown = subst (λ (l : List Bool). IsGrown was old now new l) (zero_before short.value short.width c.in-Some.ensures.below)
          c.put_number-state.ensures;
    } in
    record { written = w; next = refl }
