use Rattle.std.proofs.Common.{◌<◌, ◌&&◌, ◌||◌, leb, nat_eq, ℕ, true, refl, sym, ◌∙◌, arith, inl, inr}
use Rattle.asn1_characters.specs.Sets.{ranges_of}
use Rattle.asn1_characters.specs.Laws.SetLaws.{has_in_base}
use Rattle.asn1_characters.specs.declared.character_set.CharacterSetName.TheVariants.{Bmp, General, Graphic, IA5, Numeric, Printable, Teletex, Visible}
use Rattle.asn1_characters.proofs.WordLemmas.{same_below, is_printable}
use Rattle.asn1_characters.proofs.character_set.CharacterSetName.has_octet.Goals as goal

pub returns-in-Bmp : goal.returns-in-Bmp
returns-in-Bmp c =
    let small : c.args.octet < 256 = omega (arith, c.ranges.octet) in
    elim c.in-Bmp.is [
      | inl is ↦ rw is (same_below (λ (c : ℕ). true) (ranges_of Bmp) c.args.octet refl small
          ∙ sym (has_in_base Bmp c.args.octet))
      | inr is ↦ rw is (same_below (λ (c : ℕ). true) (ranges_of Teletex) c.args.octet refl small
          ∙ sym (has_in_base Teletex c.args.octet))
    ]

pub returns-in-General : goal.returns-in-General
returns-in-General c =
    let small : c.args.octet < 256 = omega (arith, c.ranges.octet) in
    rw c.in-General.is (same_below (λ (c : ℕ). leb c 127 || leb 161 c) (ranges_of General) c.args.octet refl small
    ∙ sym (has_in_base General c.args.octet))

pub returns-in-Graphic : goal.returns-in-Graphic
returns-in-Graphic c =
    let small : c.args.octet < 256 = omega (arith, c.ranges.octet) in
    rw c.in-Graphic.is (same_below (λ (c : ℕ). leb 32 c && leb c 126 || leb 161 c) (ranges_of Graphic) c.args.octet refl
    small ∙ sym (has_in_base Graphic c.args.octet))

pub returns-in-IA5 : goal.returns-in-IA5
returns-in-IA5 c =
    let small : c.args.octet < 256 = omega (arith, c.ranges.octet) in
    rw c.in-IA5.is (same_below (λ (c : ℕ). leb c 127) (ranges_of IA5) c.args.octet refl small
    ∙ sym (has_in_base IA5 c.args.octet))

pub returns-in-Numeric : goal.returns-in-Numeric
returns-in-Numeric c =
    let small : c.args.octet < 256 = omega (arith, c.ranges.octet) in
    rw c.in-Numeric.is (same_below (λ (c : ℕ). nat_eq c 32 || leb 48 c && leb c 57) (ranges_of Numeric) c.args.octet
    refl small ∙ sym (has_in_base Numeric c.args.octet))

pub returns-in-Printable : goal.returns-in-Printable
returns-in-Printable c =
    let small : c.args.octet < 256 = omega (arith, c.ranges.octet) in
    rw c.in-Printable.is (same_below is_printable (ranges_of Printable) c.args.octet refl small
    ∙ sym (has_in_base Printable c.args.octet))

pub returns-in-Visible : goal.returns-in-Visible
returns-in-Visible c =
    let small : c.args.octet < 256 = omega (arith, c.ranges.octet) in
    rw c.in-Visible.is (same_below (λ (c : ℕ). leb 32 c && leb c 126) (ranges_of Visible) c.args.octet refl small
    ∙ sym (has_in_base Visible c.args.octet))
