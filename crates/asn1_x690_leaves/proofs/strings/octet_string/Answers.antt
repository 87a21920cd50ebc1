use Rattle.std.proofs.Common.{◌≡◌, ℕ, ◌/◌, ◌*◌, Bool, List, length, refl, subst, inr, arith}
use Rattle.asn1_bits.specs.Bits.{bits}
use Rattle.asn1_schema.specs.declared.part.Span.{Span}
use Rattle.asn1_schema.specs.PiecesOfParts.{bits_of}
use Rattle.asn1_x690.specs.Leaves.{HasSize, AreOctets}
use Rattle.asn1_x690_leaves.specs.Told.{AreOctetsOf}
use Rattle.asn1_x690_leaves.proofs.SpanSteps.{span_size}
use Rattle.asn1_x690_leaves.proofs.strings.octet_string.Goals as goal

octet_count : (list : List Bool) (s : Span) → AreOctetsOf list s → length (bits_of list s) ≡ 8 * (s.count / 8)
octet_count list s h = let size = span_size list s h in let w = h.whole in omega (arith, size, w)

are : (list : List Bool) (s : Span) → AreOctetsOf list s → AreOctets (bits_of list s) (bits_of list s)
are list s h = (refl, (s.count / 8, octet_count list s h))

pub returns-then-not-has_size : goal.returns-then-not-has_size
returns-then-not-has_size c ranges =
    let list = bits c.args.octets.now in
    let s = c.args.span in
    inr (
      refl,
      (
        bits_of list s,
        are list s c.requires,
        λ p.
            c.has_size.ensures.no c.if-not-has_size.true
            (let e = p.1 in
            let size = octet_count list s c.requires in
            let same : p.0 ≡ s.count / 8 = omega (arith, e, size) in
            subst (λ (n : ℕ). HasSize c.args.is_extensible c.args.size n) same p.2),
      ),
    )

pub returns : goal.returns
returns c ranges =
    let list = bits c.args.octets.now in
    let s = c.args.span in (
      bits_of list s,
      are list s c.requires,
      (s.count / 8, octet_count list s c.requires, c.has_size.ensures.yes c.if-not-has_size.false),
      refl,
    )
