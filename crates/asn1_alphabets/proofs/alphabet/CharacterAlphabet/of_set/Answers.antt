use Rattle.std.proofs.Common.{rules, refl}
use Rattle.asn1_alphabets.specs.EffectiveSets.{name_of, permitted_of}
use Rattle.asn1_alphabets.proofs.AlphabetLemmas.{few_places, is_some_if, none_if}
use Rattle.asn1_alphabets.proofs.alphabet.CharacterAlphabet.of_set.Goals as goal

pub invariant_of-result : goal.invariant_of-result
invariant_of-result c =
    let is = c.layout-layout.ensures.kept in
    let permitted = permitted_of c.args.set in
    record {
      known = rw (c.name.ensures, c.split_words-has_words.ensures) (record {
        narrow = c.width_for-width.ensures.bound;
        few = rw is c.requires;
        room = rw is (rw c.count.ensures at c.width_for-width.ensures.enough);
        by_place = rw is (rw (c.codes_of.ensures, c.largest-largest.ensures) refl);
        layout = rw is c.layout-layout.ensures.layout;
        ascends = rw is c.is_ascending-ascending.ensures.ascends;
        not_ascending =
            λ told kept. rw is (c.is_ascending-ascending.ensures.not_ascending told
            (is_some_if c.layout-layout.result.kept c.layout-layout.result.set permitted is
            kept));
        gapless = rw is c.layout-layout.ensures.gapless;
        seen = rw is c.layout-layout.ensures.seen;
        few_places =
            λ none by. rw is (few_places (name_of c.args.set) permitted c.args.aligned
            (none_if c.layout-layout.result.kept c.layout-layout.result.set permitted is
            none)
            (rw (c.codes_of.ensures, c.largest-largest.ensures, c.width_for-width.ensures.value, c.count.ensures)
            at by));
        has_words = rw is c.words.ensures.has_words;
        wordless = rw (is, ← c.largest-largest.ensures) c.words.ensures.wordless;
      });
    }

pub returns : goal.returns
returns c = search rules
