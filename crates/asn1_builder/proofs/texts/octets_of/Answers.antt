use Rattle.std.proofs.Common.{◌≡◌, ◌++◌, ◌∙◌, List, ℕ, ap, sym, rules}
use Rattle.std.specs.Int.{to_be_bytes, w32}
use Rattle.std.specs.Str.{chars}
use Rattle.std.proofs.lemmas.Iterator.{YieldsList-from_chars}
use Rattle.std.proofs.lemmas.Iterator.Consumers.{YieldsList-end}
use Rattle.std.proofs.lemmas.List.{map-id}
use Rattle.asn1_builder.specs.Steps.{octets_of}
use Rattle.asn1_builder.proofs.DraftLemmas.{octets_more}
use Rattle.asn1_builder.proofs.texts.octets_of.Goals as goal

pub loop-character-preserved : goal.loop-character-preserved
loop-character-preserved c =
    let items = c.in_ok-extend_from_slice.ensures.items in
    let before = c.loop-character.invariant in
    let added : c.extend_from_slice.new.self.items ≡ c.loop-character.octets.items ++ to_be_bytes w32 c.in-Some.character = search rules in
    added ∙ ap (λ (l : List ℕ). l ++ to_be_bytes w32 c.in-Some.character) before
    ∙ sym (octets_more c.loop-character.yielded c.in-Some.character)

pub returns : goal.returns
returns c =
    let t = YieldsList-end (YieldsList-from_chars c.args.text.now c.utf8.text cc) c.loop-character.yielded _
    c.loop-character.yielded_by _ _ c.in-None.is c.next.ensures.steps in
    let all : c.loop-character.yielded ≡ chars c.args.text.now = sym (map-id c.loop-character.yielded) ∙ t.0 in
    c.loop-character.invariant ∙ ap octets_of all
