use Rattle.std.proofs.Common.{false, sym, ◌∙◌, ap, arith}
use Rattle.asn1_bits.specs.Bits.{bits}
use Rattle.asn1_x691_fields.specs.Octets.{are_series}
use Rattle.asn1_x691_fields.specs.ContentSteps.{are_identifier, are_no_identifier, empty_is_none}
use Rattle.asn1_x690_leaves.proofs.SpanSteps.{own_octets}
use Rattle.asn1_x690_leaves.proofs.identifiers.are_subidentifiers_here.Goals as goal

pub returns-then-span-gt0-2-clause-yes : goal.returns-then-span-gt0-2-clause-yes
returns-then-span-gt0-2-clause-yes c e =
    let a = c.args in
    let h = c.requires.contents in
    let list = bits a.octets.now in
    let k = c.octets_at in
    let same = own_octets list a.span h k.result.now k.ensures.octets k.ensures.bits in
    are_identifier list a.span h.inside h.whole c.if-span-gt0-2.true (ap (are_series false) same ∙ sym c.are_series.ensures ∙ e)

pub returns-then-span-gt0-2-clause-no : goal.returns-then-span-gt0-2-clause-no
returns-then-span-gt0-2-clause-no c e =
    let a = c.args in
    let h = c.requires.contents in
    let list = bits a.octets.now in
    let k = c.octets_at in
    let same = own_octets list a.span h k.result.now k.ensures.octets k.ensures.bits in
    are_no_identifier list a.span h.inside h.whole (ap (are_series false) same ∙ sym c.are_series.ensures ∙ e)

pub returns-else-span-gt0-2-clause-no : goal.returns-else-span-gt0-2-clause-no
returns-else-span-gt0-2-clause-no c e =
    let h = c.requires.contents in
    empty_is_none (bits c.args.octets.now) c.args.span h.inside h.whole (omega (arith, c.if-span-gt0-2.false))
