-- Laws of values that are permitted.
use Rattle.std.proofs.Common.{ℕ, Bool, List, sym, ◌∙◌, subst}
use Rattle.asn1_schema.specs.Encodings.{Encoding, EncodesOne, constant, invalid, cases, anywhere, permitted}
use Rattle.asn1_schema.specs.Laws.EncodingLaws.{invalid_sound}
use Rattle.asn1_schema.specs.Laws.PositionLaws.{IsSoundEverywhere}
use Rattle.asn1_schema.specs.Laws.ByStructure.{cases_of, constant_of, in_turn_of}
use Rattle.asn1_schema.specs.Laws.OneEncodingLaws.{in_turn_encodes_one, only_constant, constant_if_encodes_one}

module _ {K X : Type 0} (Yes No : X → Type 0) (kind : K) (node : ℕ) (A : ℕ → Encoding K X) where
  pub permitted_sound : ((x : X) → Yes x → No x → ⊥) → IsSoundEverywhere A → IsSoundEverywhere (permitted Yes No kind node A)
  permitted_sound apart a = in_turn_of a (λ x at. cases_of (apart x) constant_of (invalid_sound kind node))

  pub permitted_one : ((at : ℕ) → EncodesOne (A at).encodes) → (at : ℕ) → EncodesOne (permitted Yes No kind node A at).encodes
  permitted_one a =
      in_turn_encodes_one A (λ x y. y) (λ x. anywhere (cases (Yes x) (constant x) (No x) (invalid kind node))) a
      (λ x at. constant_if_encodes_one (Yes x) (No x) x kind node)
      (λ x y u v at m n i j k l p q r s e.
      (sym (only_constant _ _ x u kind node k r).1 ∙ e ∙ (only_constant _ _ y v kind node l s).1, e))

  pub permitted_is : (at : ℕ) (x : X) (k : List Bool) → (permitted Yes No kind node A at).encodes x k → Yes x
  permitted_is at x k p =
      let g = only_constant _ _ p.value p.after kind node p.rest p.second in
      subst Yes (sym (p.is ∙ g.1)) g.0

  -- it is a value of the encoding
  pub permitted_of : (at : ℕ) (x : X) (k : List Bool) → (permitted Yes No kind node A at).encodes x k
      → (list : List Bool) × (A at).encodes x list
  permitted_of at x k p =
      let g = only_constant _ _ p.value p.after kind node p.rest p.second in
      (p.front, subst (λ (y : X). (A at).encodes y p.front) (sym (p.is ∙ g.1)) p.first)
