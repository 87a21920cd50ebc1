-- What comparing bits tells.
use Rattle.std.proofs.Common.{◌≡◌, ℕ, ◌+◌, ◌*◌, nat_le, List, Bool, true, length, sym, ◌∙◌, ap, Some}
use Rattle.std.specs.Bool.{Decides}
use Rattle.asn1_bits.specs.Bits.{bits}
use Rattle.asn1_bits.specs.View.{View, list_of}
use Rattle.asn1_schema.specs.declared.part.Span.{Span}
use Rattle.asn1_schema.specs.PiecesOfParts.{bits_of}
use Rattle.asn1_x691_fields.specs.Defaults.{bits_if, default_at}

pub view_bits : (v : View) (octets : List ℕ) (s : Span) → v ≡ record { storage = octets; first = s.at; len = s.count }
    → list_of v ≡ bits_of (bits octets) s
unfolding list_of
view_bits v octets s e = ap list_of e

same_list : (xs ys : List Bool) → Some xs ≡ Some ys → xs ≡ ys
same_list xs ys e = cc

pub are_default : (octets : List ℕ) (s : Span) (xs ys : List Bool) (r : Bool) → nat_le (s.at + s.count) (8 * length octets) ≡ true
    → xs ≡ bits_of (bits octets) s → Decides r (xs ≡ ys) → Decides r (default_at octets (Some s) ≡ Some ys)
are_default octets s xs ys r inside is d =
    let found : default_at octets (Some s) ≡ Some xs = ap (λ (b : Bool). bits_if b octets s) inside ∙ ap (λ (l : List Bool). Some l) (sym is) in (
      λ h. found ∙ ap (λ (l : List Bool). Some l) (d.0 h),
      λ e. d.1 (same_list xs ys (sym found ∙ e)),
    )
