use Rattle.std.proofs.Common.{Bool, List, Ok, Err, ap, sym, ◌∙◌, refl}
use Rattle.asn1_bits.specs.BitReader.{view_left, bits_left}
use Rattle.asn1_bits.specs.BitStr.{view_of}
use Rattle.asn1_bits.specs.View.{View}
use Rattle.asn1_oid.specs.declared.contents.ContentsError.{ContentsError}
use Rattle.asn1_values.specs.Steps.{past}
use Rattle.asn1_values.proofs.IdentifierKind.{source_is, identifier_there, identifier_large, identifier_none}
use Rattle.asn1_values.proofs.bit_fields.identifier.take_value.Goals as goal

pub returns-in-Ok : goal.returns-in-Ok
returns-in-Ok c =
    let list = bits_left c.args.reader.now in
    let b = c.bits.result in
    let front = c.in_ok-front.ensures.taken in
    let len = ap (λ (v : View). v.len) front.view in
    let source =
    source_is (view_of b) (view_left c.in_ok-front.front) c.args.octet_count list c.bits.ensures len
    front.list in
    let some = c.in-Ok.ensures.ok.0 refl in
    record {
      examined = record {
        ok =
            ap (past c.args.field) (identifier_there c.args.octet_count list _ c.if-octet_count-eq0.false front.enough source
            some.0 some.1 some.2) ∙ ap (λ (l : List Bool). Ok l) (sym front.rest);
        err = tt;
      };
      taken = front;
    }

pub returns-in-Err-Malformed : goal.returns-in-Err-Malformed
returns-in-Err-Malformed c =
    let list = bits_left c.args.reader.now in
    let b = c.bits.result in
    let front = c.in_ok-front.ensures.taken in
    let len = ap (λ (v : View). v.len) front.view in
    let source =
    source_is (view_of b) (view_left c.in_ok-front.front) c.args.octet_count list c.bits.ensures len
    front.list in
    let none =
    c.in-Err-Malformed.ensures.malformed.0 (ap (λ (e : ContentsError). Err e) c.in-Err-Malformed.field-0-is) in
    record {
      examined = record {
        err =
            ap (past c.args.field) (identifier_none c.args.octet_count list _ c.if-octet_count-eq0.false front.enough source
            none);
        ok = tt;
      };
      taken = tt;
    }

pub returns-in-Err-ArcTooLarge : goal.returns-in-Err-ArcTooLarge
returns-in-Err-ArcTooLarge c =
    let list = bits_left c.args.reader.now in
    let b = c.bits.result in
    let front = c.in_ok-front.ensures.taken in
    let len = ap (λ (v : View). v.len) front.view in
    let source =
    source_is (view_of b) (view_left c.in_ok-front.front) c.args.octet_count list c.bits.ensures len
    front.list in
    let large =
    c.in-Err-ArcTooLarge.ensures.arc_too_large.0
    (ap (λ (e : ContentsError). Err e) c.in-Err-ArcTooLarge.field-0-is) in
    record {
      examined = record {
        err =
            ap (past c.args.field) (identifier_large c.args.octet_count list _ c.if-octet_count-eq0.false front.enough source
            large.0 large.1 large.2);
        ok = tt;
      };
      taken = tt;
    }
