use Rattle.std.proofs.Common.{ℕ, List, Option, sym, subst}
use Rattle.std.specs.Borrow.{Bor}
use Rattle.std.specs.Prelude.{◌≢◌}
use Rattle.std.specs.List.{AllPairs}
use Rattle.asn1_characters.specs.Sets.{base_set}
use Rattle.asn1_alphabets.specs.AlphabetInMemory.{some_if, set_of}
use Rattle.asn1_alphabets.specs.AlphabetView.{alphabet_of}
use Rattle.asn1_alphabets.specs.Laws.AlphabetLaws.{code_is_one}
use Rattle.asn1_alphabets.proofs.RepeatLemmas.{base_once, once_pairs}
use Rattle.asn1_alphabets.proofs.alphabet.CharacterAlphabet.repeats.Goals as goal

pub returns-in-None-clause-twice : goal.returns-in-None-clause-twice
returns-in-None-clause-twice c =
    rw (sym c.in-None.ensures) (once_pairs (base_set c.args.self.now.name) (base_once c.args.self.now.name))

pub returns-in-None-clause-once : goal.returns-in-None-clause-once
returns-in-None-clause-once c =
    let differ : AllPairs (λ a b. a ≢ b)
    (set_of c.args.self.now.name (some_if c.args.self.now.kept c.args.self.now.set)) =
    rw (sym c.in-None.ensures) (once_pairs (base_set c.args.self.now.name) (base_once c.args.self.now.name)) in
    λ same x j k p q. code_is_one (alphabet_of c.args.self.now) x j k differ p q

pub returns-in-Some-clause-once : goal.returns-in-Some-clause-once
returns-in-Some-clause-once c = λ none.
    let kept : AllPairs (λ a b. a ≢ b) c.in-Some.set.now = rw none at c.repeats_in.ensures in
    let differ =
    subst (λ (o : Option (Bor (List ℕ))). AllPairs (λ a b. a ≢ b) (set_of c.args.self.now.name o)) c.in-Some.ensures
    kept in
    λ x j k p q. code_is_one (alphabet_of c.args.self.now) x j k differ p q
