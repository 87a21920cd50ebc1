use Rattle.std.proofs.Common.{◌≡◌, ◌%◌, ◌*◌, ◌≤◌, ◌+◌, ℕ, length, sym, subst, arith, List}
use Rattle.asn1_bits.specs.Bits.{bits}
use Rattle.asn1_bits.specs.Laws.DigitLaws.{length-bits}
use Rattle.asn1_schema.specs.PiecesOfParts.{bits_of}
use Rattle.asn1_schema.specs.declared.part.Span.{Span}
use Rattle.asn1_x690_leaves.specs.Told.{AreOctetsOf}
use Rattle.asn1_x691_fields.specs.ContentSteps.{object_identifier, relative_identifier}
use Rattle.asn1_x691_writers.specs.declared.contents.ContentsKind.{ContentsKind}
use Rattle.asn1_x691_writers.specs.Validity.{IsValid}
use Rattle.asn1_x690_writers.proofs.octet_strings.is_of_kind.Goals as goal

are_octets : (source : List ℕ) (s : Span) → s.at + s.count ≤ 8 * length source → s.count % 8 ≡ 0 → AreOctetsOf (bits source) s
are_octets source s h e = record { inside = omega (arith, h, length-bits source); whole = e }

pub are_subidentifiers_here-requires-clause-contents : goal.are_subidentifiers_here-requires-clause-contents
are_subidentifiers_here-requires-clause-contents c =
    are_octets c.args.source.now c.args.span c.requires.inside (omega (arith, c.if-span-gt0.false))

pub are_subidentifiers_here-requires-in-RelativeIdentifier-clause-contents : goal.are_subidentifiers_here-requires-in-RelativeIdentifier-clause-contents
are_subidentifiers_here-requires-in-RelativeIdentifier-clause-contents c =
    are_octets c.args.source.now c.args.span c.requires.inside (omega (arith, c.if-span-gt0.false))

pub returns-in-ObjectIdentifier-clause-yes : goal.returns-in-ObjectIdentifier-clause-yes
returns-in-ObjectIdentifier-clause-yes c e =
    let list = bits_of (bits c.args.source.now) c.args.span in
    subst (λ (k : ContentsKind). IsValid k list) (sym c.in-ObjectIdentifier.is) (object_identifier list (c.are_subidentifiers_here.ensures.yes e))

pub returns-in-ObjectIdentifier-clause-no : goal.returns-in-ObjectIdentifier-clause-no
returns-in-ObjectIdentifier-clause-no c e p =
    let list = bits_of (bits c.args.source.now) c.args.span in
    c.are_subidentifiers_here.ensures.no e (relative_identifier list (subst (λ (k : ContentsKind). IsValid k list) c.in-ObjectIdentifier.is p))
