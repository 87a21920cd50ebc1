use Rattle.std.proofs.Common.{rules, arith, ◌≡◌, ℕ, take, sym, ap, ◌∙◌}
use Rattle.std.proofs.Math.Seq.{take-length}
use Rattle.std.specs.Int.{w64, from_be_bytes}
use Rattle.asn1_number.proofs.WordLemmas.{word_value, word_sum}
use Rattle.asn1_number.proofs.values.word_of_eight.Goals as goal

pub returns-clause-value : goal.returns-clause-value
returns-clause-value c =
    let o = c.args.octets.now in
    let t : c.in-Some.word.now ≡ take 8 o = search rules in
    let e : c.in-Some.word.now ≡ o = t ∙ ap (λ (i : ℕ). take i o) (sym c.requires) ∙ take-length o in
    word_sum o c.from_be_bytes.result c.requires (λ i. omega (arith, c.type_inv.octets i))
    (c.from_be_bytes.ensures ∙ ap (from_be_bytes w64) e) c.from_be_bytes.type_inv

pub returns-clause-signed : goal.returns-clause-signed
returns-clause-signed c =
    let o = c.args.octets.now in
    let t : c.in-Some.word.now ≡ take 8 o = search rules in
    let e : c.in-Some.word.now ≡ o = t ∙ ap (λ (i : ℕ). take i o) (sym c.requires) ∙ take-length o in
    word_value o c.from_be_bytes.result c.requires (λ i. omega (arith, c.type_inv.octets i))
    (c.from_be_bytes.ensures ∙ ap (from_be_bytes w64) e) c.from_be_bytes.type_inv
