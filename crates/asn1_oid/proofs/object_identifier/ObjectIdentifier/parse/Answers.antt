use Rattle.std.proofs.Common.{◌≡◌, ◌++◌, List, ℕ, length, take, drop, ap, sym, subst, ◌∙◌, arith}
use Rattle.asn1_oid.specs.Arcs.{IsValidArcs}
use Rattle.asn1_oid.specs.DottedText.{IsDottedText}
use Rattle.asn1_oid.specs.Laws.DottedLaws.{one_text}
use Rattle.asn1_oid.proofs.ParseLemmas.{filled}
use Rattle.asn1_oid.proofs.object_identifier.ObjectIdentifier.parse.Goals as goal
use Rattle.asn1_oid.proofs.object_identifier.ObjectIdentifier.parse.Goals.{In-Some-parse_arcs as Parsed}

-- what the vector holds
abbrev kept : Parsed → List ℕ
kept c = take c.in_ok-arcs.arcs.len
    (c.parse_arcs-2.new.room ++ drop (length c.parse_arcs-2.new.room) c.in_ok-arcs.arcs.items)

-- the two reads of the text
counted : (c : Parsed) → IsDottedText c.in-Some.ensures.some.0 c.args.text.now
counted c =
    subst (λ (t : List ℕ). IsDottedText c.in-Some.ensures.some.0 t) c.as_bytes.ensures.value c.in-Some.ensures.some.1

parsed : (c : Parsed) → IsDottedText c.in-Some-parse_arcs.ensures.some.0 c.args.text.now
parsed c =
    subst (λ (t : List ℕ). IsDottedText c.in-Some-parse_arcs.ensures.some.0 t) c.as_bytes-2.ensures.value
    c.in-Some-parse_arcs.ensures.some.1

held : (c : Parsed) → kept c ≡ c.in-Some-parse_arcs.ensures.some.0
held c =
    let found = c.in-Some.ensures.some in
    let read = c.in-Some-parse_arcs.ensures.some in
    let same : length found.0 ≡ length read.0 =
    ap length (one_text found.0 read.0 c.args.text.now (counted c) (parsed c)) in
    filled read.0 c.parse_arcs-2.new.room c.as_mut_slice.result.now c.in_ok-arcs.arcs.items c.in-Some-parse_arcs.field-0
    c.in_ok-arcs.arcs.len read.2
    (omega (arith, c.as_mut_slice.ensures.len, c.in_ok-arcs.ensures.len, found.2, read.2, same))
    (omega (arith, c.in_ok-arcs.ensures.len, found.2, read.2, same)) read.3

pub invariant_of-result : goal.invariant_of-result
invariant_of-result c = subst IsValidArcs (sym (held c)) (parsed c).valid

pub returns-clause-value : goal.returns-clause-value
returns-clause-value c = subst (λ (l : List ℕ). IsDottedText l c.args.text.now) (sym (held c)) (parsed c)

pub returns-clause-only : goal.returns-clause-only
returns-clause-only c = λ arcs is.
    held c ∙ one_text c.in-Some-parse_arcs.ensures.some.0 arcs c.args.text.now (parsed c) is
