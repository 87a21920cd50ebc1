use Rattle.std.proofs.Common.{refl, inl}
use Rattle.asn1_bits.specs.Bits.{bits}
use Rattle.asn1_schema.specs.PiecesOfParts.{bits_of}
use Rattle.asn1_x691_fields.specs.ContentSteps.{object_identifier, relative_identifier}
use Rattle.asn1_x690_leaves.proofs.identifiers.object_identifier.Goals as goal

pub returns-then-not-are_subidentifiers : goal.returns-then-not-are_subidentifiers
returns-then-not-are_subidentifiers c ranges =
    let list = bits_of (bits c.args.octets.now) c.args.span in
    inl (refl, λ x p. c.are_subidentifiers.ensures.no c.if-not-are_subidentifiers.true (relative_identifier list p.1))

pub returns : goal.returns
returns c ranges =
    let list = bits_of (bits c.args.octets.now) c.args.span in
    (list, (refl, object_identifier list (c.are_subidentifiers.ensures.yes c.if-not-are_subidentifiers.false)), tt, refl)
