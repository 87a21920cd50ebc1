-- Laws of encodings in which a value has one encoding: where the whole tells its two values, the whole has one too.
use Rattle.std.proofs.Common.{◌≡◌, ℕ, ◌+◌, inl, inr, Bool, List, [], ◌++◌, length, sym, ◌∙◌, ap, subst}
use Rattle.std.specs.Prelude.{◌⊎◌}
use Rattle.asn1_schema.specs.Encodings.{Encoding, EncodesOne, constant, invalid, then, cases, in_turn, in_case}

module _ {K X Y Z : Type 0} (A : Encoding K X) (f : X → Y → Z) (B : X → Encoding K Y) (a : EncodesOne A.encodes)
    (b : (x : X) → EncodesOne (B x).encodes)
    (told : (x y : X) (u v : Y) (i j k l : List Bool) → A.encodes x i → A.encodes y j → (B x).encodes u k → (B y).encodes v l
    → f x u ≡ f y v → (x ≡ y) × (u ≡ v)) where
  pub then_encodes_one : EncodesOne (then A f B).encodes
  then_encodes_one = record {
    one = λ z m n p q.
        let e = told p.value q.value p.after q.after p.front q.front p.rest q.rest p.first q.first p.second q.second (sym p.is ∙ q.is) in
        let g : p.front ≡ q.front = a.one q.value p.front q.front (subst (λ (x : X). A.encodes x p.front) e.0 p.first) q.first in
        let s : (B q.value).encodes q.after p.rest =
        subst (λ (u : Y). (B q.value).encodes u p.rest) e.1 (subst (λ (x : X). (B x).encodes p.after p.rest) e.0 p.second) in
        let h : p.rest ≡ q.rest = (b q.value).one q.after p.rest q.rest s q.second in
        p.parts ∙ ap (λ (l : List Bool). l ++ p.rest) g ∙ ap (λ (l : List Bool). q.front ++ l) h ∙ sym q.parts;
  }

module _ {K X Y Z : Type 0} (A : ℕ → Encoding K X) (f : X → Y → Z) (B : X → ℕ → Encoding K Y)
    (a : (at : ℕ) → EncodesOne (A at).encodes) (b : (x : X) (at : ℕ) → EncodesOne (B x at).encodes)
    (told : (x y : X) (u v : Y) (at m n : ℕ) (i j k l : List Bool) → (A at).encodes x i → (A at).encodes y j → (B x m).encodes u k
    → (B y n).encodes v l → f x u ≡ f y v → (x ≡ y) × (u ≡ v)) where
  pub in_turn_encodes_one : (at : ℕ) → EncodesOne (in_turn A f B at).encodes
  in_turn_encodes_one at = record {
    one = λ z m n p q.
        let e = told p.value q.value p.after q.after at (at + length p.front) (at + length q.front) p.front q.front p.rest q.rest
        p.first q.first p.second q.second (sym p.is ∙ q.is) in
        let g : p.front ≡ q.front =
        (a at).one q.value p.front q.front (subst (λ (x : X). (A at).encodes x p.front) e.0 p.first) q.first in
        let s : (B q.value (at + length q.front)).encodes q.after p.rest =
        subst (λ (l : List Bool). (B q.value (at + length l)).encodes q.after p.rest) g
        (subst (λ (u : Y). (B q.value (at + length p.front)).encodes u p.rest) e.1
        (subst (λ (x : X). (B x (at + length p.front)).encodes p.after p.rest) e.0 p.second)) in
        let h : p.rest ≡ q.rest = (b q.value (at + length q.front)).one q.after p.rest q.rest s q.second in
        p.parts ∙ ap (λ (l : List Bool). l ++ p.rest) g ∙ ap (λ (l : List Bool). q.front ++ l) h ∙ sym q.parts;
  }

-- a value in no bits where C holds, and nothing otherwise
pub only_constant : {K X : Type 0} (C D : Type 0) (x u : X) (kind : K) (node : ℕ) (k : List Bool)
    → (cases C (constant x) D (invalid kind node)).encodes u k → C × (u ≡ x) × (k ≡ [])
only_constant C D x u kind node k (inl p) = (p.0, p.1.0, p.1.1)
only_constant C D x u kind node k (inr p) = absurd p.1

pub constant_if_encodes_one : {K X : Type 0} (C D : Type 0) (x : X) (kind : K) (node : ℕ)
    → EncodesOne (cases C (constant x) D (invalid kind node)).encodes
constant_if_encodes_one C D x kind node = record {
  one = λ u k l p q. (only_constant C D x u kind node k p).2 ∙ sym (only_constant C D x u kind node l q).2;
}

pub in_case_encodes_one : {K X : Type 0} (C D : Type 0) (A B : ℕ → Encoding K X) → (C → D → ⊥)
    → ((at : ℕ) → EncodesOne (A at).encodes) → ((at : ℕ) → EncodesOne (B at).encodes) → (at : ℕ)
    → EncodesOne (in_case C A D B at).encodes
in_case_encodes_one {X = X} C D A B apart a b at = record { one = each }
  where
    each : (x : X) (k l : List Bool) → (C × (A at).encodes x k) ⊎ (D × (B at).encodes x k)
        → (C × (A at).encodes x l) ⊎ (D × (B at).encodes x l) → k ≡ l
    each x k l (inl p) (inl q) = (a at).one x k l p.1 q.1
    each x k l (inr p) (inr q) = (b at).one x k l p.1 q.1
    each x k l (inl p) (inr q) = absurd (apart p.0 q.0)
    each x k l (inr p) (inl q) = absurd (apart q.0 p.0)
