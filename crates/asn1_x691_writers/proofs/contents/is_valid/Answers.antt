use Rattle.std.proofs.Common.{sym, subst, arith}
use Rattle.asn1_bits.specs.Bits.{bits}
use Rattle.asn1_bits.specs.Laws.DigitLaws.{length-bits}
use Rattle.asn1_schema.specs.PiecesOfParts.{bits_of}
use Rattle.asn1_x691_fields.specs.ContentSteps.{object_identifier, relative_identifier}
use Rattle.asn1_x691_fields.specs.Steps.{front_length}
use Rattle.asn1_x691_writers.specs.declared.contents.ContentsKind.{ContentsKind}
use Rattle.asn1_x691_writers.specs.Validity.{IsValid}
use Rattle.asn1_x691_writers.proofs.ContentsLemmas.{valid_whole}
use Rattle.asn1_x691_writers.proofs.contents.is_valid.Goals as goal

pub returns-then-span-gt0-clause-no : goal.returns-then-span-gt0-clause-no
returns-then-span-gt0-clause-no c e v =
    let span = c.args.span in
    let n = front_length (bits c.args.source.now) span.at span.count (omega (arith, c.requires.inside, length-bits c.args.source.now)) in
    let w = valid_whole c.args.kind (bits_of (bits c.args.source.now) span) v in
    omega (arith, w, n, c.if-span-gt0.true)

pub returns-in-ObjectIdentifier-clause-yes : goal.returns-in-ObjectIdentifier-clause-yes
returns-in-ObjectIdentifier-clause-yes c e =
    let list = bits_of (bits c.args.source.now) c.args.span in
    subst (λ (k : ContentsKind). IsValid k list) (sym c.in-ObjectIdentifier.is) (object_identifier list (c.are_subidentifiers.ensures.yes e))

pub returns-in-ObjectIdentifier-clause-no : goal.returns-in-ObjectIdentifier-clause-no
returns-in-ObjectIdentifier-clause-no c e v =
    let list = bits_of (bits c.args.source.now) c.args.span in
    c.are_subidentifiers.ensures.no e
    (relative_identifier list (subst (λ (k : ContentsKind). IsValid k list) c.in-ObjectIdentifier.is v))
