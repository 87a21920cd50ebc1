use Rattle.std.proofs.Common.{◌≡◌, Bool, false, List, refl, subst, inl, inr}
use Rattle.asn1_bits.specs.Bits.{bits}
use Rattle.asn1_schema.specs.Pieces.{Piece, Enumerated, Unknown}
use Rattle.asn1_schema.specs.PiecesOfParts.{bits_of, signed_number}
use Rattle.asn1_x690.specs.Leaves.{IsEnumerated, IsPermittedValue}
use Rattle.asn1_x690_leaves.proofs.enumerations.enumerated.Goals as goal

pub returns-then-not-is_minimal : goal.returns-then-not-is_minimal
returns-then-not-is_minimal c ranges = inl (refl, none)
  where
    none : (x : Piece) → IsEnumerated c.args.numbers.now x (bits_of (bits c.args.octets.now) c.args.span) → ⊥
    none x (inl p) = c.is_minimal.ensures.no c.if-not-is_minimal.true p.1 p.4
    none x (inr p) = c.is_minimal.ensures.no c.if-not-is_minimal.true p.0 p.3

no_unknown : (b : Bool) (list : List Bool) → b ≡ false → IsPermittedValue b (Unknown list) → ⊥
no_unknown b list e p =
    let q = subst (λ (k : Bool). IsPermittedValue k (Unknown list)) e p in
    let f : Unknown list ≡ Enumerated q.0 = q.1 in
    cc

pub returns-else-is_extensible : goal.returns-else-is_extensible
returns-else-is_extensible c ranges =
    let list = bits_of (bits c.args.octets.now) c.args.span in
    let is = c.is_minimal.ensures.yes c.if-not-is_minimal.false in
    inr (
      refl,
      (
        Unknown list,
        inr (
          signed_number list,
          refl,
          λ i e. c.in-None.ensures.none refl (signed_number list) c.value_of.ensures i e,
          is,
        ),
        no_unknown c.args.is_extensible list c.if-is_extensible.false,
      ),
    )
