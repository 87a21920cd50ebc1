-- Laws of values that have a property, and of a number of values.
use Rattle.std.proofs.Common.{◌≡◌, ℕ, zero, suc, Bool, List, ◌∷◌, ◌++◌, length, sym, ◌∙◌, ap}
use Rattle.asn1_schema.specs.Encodings.{Encoding, EncodesOne, value_where, each}
use Rattle.asn1_schema.specs.Laws.EncodingLaws.{IsSound, at_inside}
use Rattle.asn1_schema.specs.Laws.ByStructure.{then_of, constant_of}
use Rattle.asn1_schema.specs.Laws.OneEncodingLaws.{then_encodes_one}

pub value_where_sound : {K X : Type 0} (P : X → Type 0) (kind : K) (node : ℕ) → ((x y : X) → P x → P y → x ≡ y)
    → IsSound (value_where P kind node)
value_where_sound P kind node alike = record {
  one = record {
    one = λ list x y rest other s t. (
      alike x y s.encoded.0 t.encoded.0,
      sym (s.parts ∙ ap (λ (l : List Bool). l ++ rest) s.encoded.1) ∙ t.parts ∙ ap (λ (l : List Bool). l ++ other) t.encoded.1,
    );
  };
  names = record {
    excludes = λ list e p can. p.0 can.value can.starts.encoded.0;
    one = λ list e g p q. p.1 ∙ sym q.1;
  };
  inside = λ list e p. at_inside kind node list e p.1;
}

pub value_where_one : {K X : Type 0} (P : X → Type 0) (kind : K) (node : ℕ) → EncodesOne (value_where P kind node).encodes
value_where_one P kind node = record { one = λ u k l p q. p.1 ∙ sym q.1 }

same_first : {X : Type 0} (x y : X) (u v : List X) → x ∷ u ≡ y ∷ v → x ≡ y
same_first x y u v e = cc

same_others : {X : Type 0} (x y : X) (u v : List X) → x ∷ u ≡ y ∷ v → u ≡ v
same_others x y u v e = cc

module _ {K X : Type 0} (A : Encoding K X) where
  pub each_sound : IsSound A → (n : ℕ) → IsSound (each A n)
  each_sound a zero = constant_of
  each_sound a (suc n) = then_of a (λ x. each_sound a n)

  pub each_one : EncodesOne A.encodes → (n : ℕ) → EncodesOne (each A n).encodes
  each_one a zero = record { one = λ u k l p q. p.1 ∙ sym q.1 }
  each_one a (suc n) =
      then_encodes_one A (λ x xs. x ∷ xs) (λ x. each A n) a (λ x. each_one a n)
      (λ x y u v i j k l p q r s e. (same_first x y u v e, same_others x y u v e))

  pub each_length : (n : ℕ) (xs : List X) (k : List Bool) → (each A n).encodes xs k → length xs ≡ n
  each_length zero xs k p = ap length p.0
  each_length (suc n) xs k p = ap length p.is ∙ ap suc (each_length n p.after p.rest p.second)
