-- Lists joined of one list for each element.
use Rattle.std.proofs.Common.{◌≡◌, ℕ, ◌<◌, List, [], ◌∷◌, ◌++◌, length, refl, sym, ap, subst, ◌∙◌, append_assoc, arith, Some, slice_get, suc, zero, take}
use Rattle.std.proofs.lemmas.List.{append-nil}
use Rattle.asn1_bits.specs.Joined.{AreJoined}

module _ {X A : Type 0} (P : X → List A → Type 0) where
  pub joins_append : (xs ys : List X) (a b : List A) → AreJoined P xs a → AreJoined P ys b
      → AreJoined P (xs ++ ys) (a ++ b)
  joins_append [] ys a b j k = subst (λ (l : List A). AreJoined P ys l) (ap (λ (l : List A). l ++ b) (sym j)) k
  joins_append (x ∷ xs) ys a b j k =
      (j.0, j.1 ++ b, j.2, joins_append xs ys j.1 b j.3 k, ap (λ (l : List A). l ++ b) j.4 ∙ append_assoc j.0 j.1 b)

  pub record Split (xs ys : List X) (whole : List A) : Type 0 where
    pub front : List A
    pub back : List A
    pub of_front : AreJoined P xs front
    pub of_back : AreJoined P ys back
    pub parts : whole ≡ front ++ back

  pub joins_split : (xs ys : List X) (whole : List A) → AreJoined P (xs ++ ys) whole → Split xs ys whole
  joins_split [] ys whole j = record { front = []; back = whole; of_front = refl; of_back = j; parts = refl }
  joins_split (x ∷ xs) ys whole j =
      let s = joins_split xs ys j.1 j.3 in
      record {
        front = j.0 ++ s.front;
        back = s.back;
        of_front = (j.0, s.front, j.2, s.of_front, refl);
        of_back = s.of_back;
        parts = j.4 ∙ ap (λ (l : List A). j.0 ++ l) s.parts ∙ sym (append_assoc j.0 s.front s.back);
      }

  pub joins_one : (x : X) (a : List A) → P x a → AreJoined P (x ∷ []) a
  joins_one x a p = (a, [], p, refl, sym (append-nil a))

  pub one_joined : (x : X) (a : List A) → AreJoined P (x ∷ []) a → P x a
  one_joined x a j = subst (λ (l : List A). P x l) (sym (j.4 ∙ ap (λ (l : List A). j.0 ++ l) j.3 ∙ append-nil j.0)) j.2

  pub joins_push : (xs : List X) (x : X) (a b : List A) → AreJoined P xs a → P x b → AreJoined P (xs ++ x ∷ []) (a ++ b)
  joins_push xs x a b j p = joins_append xs (x ∷ []) a b j (joins_one x b p)

  pub each_joined : (xs : List X) (whole : List A) (i : ℕ) (x : X) → AreJoined P xs whole → slice_get xs i ≡ Some x
      → (a : List A) × P x a
  each_joined [] whole i x j e = absurd cc
  each_joined (y ∷ xs) whole zero x j e = let same : y ≡ x = some_is y x e in (j.0, subst (λ (z : X). P z j.0) same j.2)
    where
      some_is : (y x : X) → Some y ≡ Some x → y ≡ x
      some_is y x e = cc
  each_joined (y ∷ xs) whole (suc i) x j e = each_joined xs j.1 i x j.3 e

pub slice_get_take : {X : Type 0} (xs : List X) (i j : ℕ) → j < i → slice_get (take i xs) j ≡ slice_get xs j
slice_get_take xs zero j lt = absurd (omega arith)
slice_get_take [] (suc i) j lt = refl
slice_get_take (x ∷ xs) (suc i) zero lt = refl
slice_get_take (x ∷ xs) (suc i) (suc j) lt = slice_get_take xs i j (omega arith)

-- each index of a list has an element
pub some_at : {X : Type 0} (xs : List X) (i : ℕ) → i < length xs → (x : X) × (slice_get xs i ≡ Some x)
some_at [] i lt = absurd (omega arith)
some_at (x ∷ xs) zero lt = (x, refl)
some_at (x ∷ xs) (suc i) lt = some_at xs i (omega arith)
