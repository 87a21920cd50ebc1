use Rattle.std.proofs.Common.{ℕ, List, length, refl, sym, subst, inl, inr, arith}
use Rattle.std.proofs.lemmas.List.{length-take-le, length-drop}
use Rattle.std.proofs.Common.{◌≡◌, ◌≤◌, ◌+◌, ◌*◌, drop}
use Rattle.asn1_bits.specs.Bits.{bits}
use Rattle.asn1_bits.specs.Laws.DigitLaws.{length-bits}
use Rattle.asn1_schema.specs.declared.part.Span.{Span}
use Rattle.asn1_schema.specs.PiecesOfParts.{bits_of}
use Rattle.asn1_x690.specs.Leaves.{HasSize}
use Rattle.asn1_x690_leaves.proofs.bit_strings.bit_string.Goals as goal

found_size : (octets : List ℕ) (s : Span) → s.at + s.count ≤ length (bits octets) → length (bits_of (bits octets) s) ≡ s.count
found_size octets s h = length-take-le s.count (drop s.at (bits octets)) (omega (arith, h, length-drop s.at (bits octets)))

inside_of : (octets : List ℕ) (s : Span) → s.at + s.count ≤ 8 * length octets → s.at + s.count ≤ length (bits octets)
inside_of octets s h = omega (arith, h, length-bits octets)

pub returns-in-None : goal.returns-in-None
returns-in-None c ranges = inl (refl, c.in-None.ensures.none refl)

pub returns-then-not-has_size : goal.returns-then-not-has_size
returns-then-not-has_size c ranges =
    let x = bits_of (bits c.args.octets.now) c.in-Some.found in
    let size = found_size c.args.octets.now c.in-Some.found (inside_of c.args.octets.now c.in-Some.found c.in-Some.ensures.inside) in
    inr (
      refl,
      (
        x,
        c.in-Some.ensures.some,
        λ p. c.has_size.ensures.no c.if-not-has_size.true (subst (λ (n : ℕ). HasSize c.args.is_extensible c.args.size n) size p.0),
      ),
    )

pub returns-then-not-are_bits_permitted : goal.returns-then-not-are_bits_permitted
returns-then-not-are_bits_permitted c ranges =
    let x = bits_of (bits c.args.octets.now) c.in-Some.found in
    inr (refl, (x, c.in-Some.ensures.some, λ p. c.are_bits_permitted.ensures.no c.if-not-are_bits_permitted.true p.1))

pub returns-else-not-are_bits_permitted : goal.returns-else-not-are_bits_permitted
returns-else-not-are_bits_permitted c ranges =
    let x = bits_of (bits c.args.octets.now) c.in-Some.found in
    let size = found_size c.args.octets.now c.in-Some.found (inside_of c.args.octets.now c.in-Some.found c.in-Some.ensures.inside) in (
      x,
      c.in-Some.ensures.some,
      (
        subst (λ (n : ℕ). HasSize c.args.is_extensible c.args.size n) (sym size) (c.has_size.ensures.yes c.if-not-has_size.false),
        c.are_bits_permitted.ensures.yes c.if-not-are_bits_permitted.false,
      ),
      refl,
    )
