-- Laws of elements without a schema.
use Rattle.std.proofs.Common.{◌≡◌, ℕ, zero, suc, Bool, true, false, List, [], ◌∷◌, ◌++◌, refl, sym, ◌∙◌, ap, arith, Option, Some, None}
use Rattle.asn1_schema.specs.Encodings.{Contents, any_bits}
use Rattle.asn1_schema.specs.Laws.EncodingLaws.{IsSound}
use Rattle.asn1_schema.specs.Laws.ContentsLaws.{AreSound, invalid_contents_are_sound, mapped_are_sound, repeated_are_sound}
use Rattle.asn1_schema.specs.Laws.PositionLaws.{within_sound}
use Rattle.asn1_x690.specs.declared.fault.FaultKind.{FaultKind}
use Rattle.asn1_x690.specs.declared.fault.FaultKind.TheVariants.{Extra, TooDeep}
use Rattle.asn1_x690.specs.declared.tables.Class.{Class}
use Rattle.asn1_x690.specs.declared.tables.Identifier.{Identifier}
use Rattle.asn1_x690.specs.Elements.{any_element}
use Rattle.asn1_x690.specs.Laws.ElementLaws.{any_element_sound, contents_fewer}
use Rattle.asn1_x690_fields.specs.declared.identifier.FoundIdentifier.{FoundIdentifier}
use Rattle.asn1_x690_fields.specs.Outcomes.{IsShown, IsIdentifier}
use Rattle.asn1_x690_elements.specs.Elements.{Element, inside, after_identifier, element, levels}

-- ---- identifiers

same_number : (a b : Option ℕ) (n : ℕ) → IsShown a n → IsShown b n → a ≡ b
same_number None None n p q = refl
same_number None (Some b) n p q = let few = q.1 in absurd (omega (arith, p, few))
same_number (Some a) None n p q = let few = p.1 in absurd (omega (arith, q, few))
same_number (Some a) (Some b) n p q = ap (λ (m : ℕ). Some m) (p.0 ∙ sym q.0)

same_found : (f g : FoundIdentifier) (id : Identifier) → IsIdentifier f id → IsIdentifier g id → f ≡ g
same_found f g id p q =
    ap (λ (c : Class). record { class = c; number = f.number; is_constructed = f.is_constructed }) (p.class ∙ sym q.class)
    ∙ ap (λ (n : Option ℕ). record { class = g.class; number = n; is_constructed = f.is_constructed })
    (same_number f.number g.number id.tag.number p.number q.number)
    ∙ ap (λ (b : Bool). record { class = g.class; number = g.number; is_constructed = b }) (p.form ∙ sym q.form)

-- ---- elements

any_bits_are_sound : AreSound (any_bits {K = FaultKind})
any_bits_are_sound = record {
  one = record { one = λ list x y p q. p ∙ sym q };
  names = record { excludes = λ list e p x q. p; one = λ list e g p q. absurd p };
  inside = λ list e p. absurd p;
}

inside_are_sound : (F : Contents FaultKind (List Element)) → AreSound F → (b : Bool) → AreSound (inside F b)
inside_are_sound F f false = mapped_are_sound (λ bits. []) any_bits any_bits_are_sound
inside_are_sound F f true = f

after_identifier_is_sound : (F : Contents FaultKind (List Element)) → AreSound F → (id : Identifier) → AreSound (after_identifier F id)
after_identifier_is_sound F f id = record {
  one = record {
    one = λ contents xs ys p q.
        p.4
        ∙ ap (λ (i : FoundIdentifier). (i, contents) ∷ p.1) (same_found p.0 q.0 id p.2 q.2)
        ∙ ap (λ (zs : List Element). (q.0, contents) ∷ zs) (g.one.one contents p.1 q.1 p.3 q.3)
        ∙ sym q.4;
  };
  names = record { excludes = λ contents e w xs p. g.names.excludes contents e w p.1 p.3; one = g.names.one };
  inside = g.inside;
}
  where
    g : AreSound (inside F id.is_constructed)
    g = inside_are_sound F f id.is_constructed

element_sound : (F : Contents FaultKind (List Element)) → AreSound F → IsSound (element F)
element_sound F f =
    within_sound (any_element 0) (after_identifier F) (any_element_sound 0) (after_identifier_is_sound F f) (contents_fewer 0)

pub levels_are_sound : (depth : ℕ) → AreSound (levels depth)
levels_are_sound zero = invalid_contents_are_sound TooDeep 0
levels_are_sound (suc depth) =
    repeated_are_sound Extra 0 (λ before. element (levels depth)) [] (λ xs ys. xs ++ ys)
    (λ before. element_sound (levels depth) (levels_are_sound depth))
