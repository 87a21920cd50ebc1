-- For each kind: what is taken is encoded so, what is encoded so is taken again, and an error has its reason.
use Rattle.std.proofs.Common.{is_ok, ◌≡◌, ℕ, ◌-◌, ◌<◌, ◌≤◌, Bool, true, false, cond, ltb, List, ◌++◌, length, take, drop, Result, Ok, Err, refl, sym, ap, subst, ◌∙◌, arith, inl, inr, ◌⊎◌}
use Rattle.std.proofs.lemmas.List.{length-append, take_at, drop_at, length-take, take-append-drop}
use Rattle.std.proofs.lemmas.Bool.{ltb-true, ltb-false, le-ltb}
use Rattle.asn1_values.specs.Fields.{Field, Shape, IsSpelledBy, IsOfShape}
use Rattle.asn1_values.specs.Wrong.{Fault, Short, IsShortBy, IsReason}
use Rattle.asn1_values.specs.Walk.{with_rest, cut_at}

-- the field is first in the list, and the rest follows
pub record Takes (shape : Shape) (list : List Bool) (field : Field) (rest : List Bool) : Type 0 where
  pub front : List Bool
  pub of_shape : IsOfShape field shape
  pub spelled : IsSpelledBy field front
  pub parts : list ≡ front ++ rest

-- reading a field of the shape is exact
pub record IsExact (shape : Shape) (read : List Bool → Result (Field × List Bool) Fault) : Type 0 where
  pub taken : (list : List Bool) (field : Field) (rest : List Bool) → read list ≡ Ok (field, rest)
      → Takes shape list field rest
  pub again : (field : Field) (front rest : List Bool) → IsOfShape field shape → IsSpelledBy field front
      → read (front ++ rest) ≡ Ok (field, rest)
  pub reason : (list : List Bool) (fault : Fault) → read list ≡ Err fault → IsReason shape list fault

-- the same of the bits of a whole field, of which there are n
pub record HoldsExactly (shape : Shape) (n : ℕ) (content : List Bool → Result Field Fault) : Type 0 where
  pub taken : (front : List Bool) (field : Field) → length front ≡ n → content front ≡ Ok field → IsOfShape field shape
      × IsSpelledBy field front
  pub again : (field : Field) (front : List Bool) → IsOfShape field shape → IsSpelledBy field front → (length front ≡ n)
      × (content front ≡ Ok field)
  pub reason : (front rest : List Bool) (fault : Fault) → length front ≡ n → content front ≡ Err fault
      → IsReason shape (front ++ rest) fault
  pub short : (list : List Bool) (k : ℕ) → IsShortBy n list k → IsReason shape list (Short k)

-- ---- steps that may fail

pub chosen : {A : Type 0} (b : Bool) (x y z : A) → cond b x y ≡ z → ((b ≡ true) × (x ≡ z)) ⊎ ((b ≡ false) × (y ≡ z))
chosen true x y z e = inl (refl, e)
chosen false x y z e = inr (refl, e)

abbrev pub Read : Type 0
Read = Result (Field × List Bool) Fault

pub err_is : (c d : Fault) → ◌≡◌ {A = Read} (Err c) (Err d) → c ≡ d
err_is c d e = cc

pub ok_is : (x y : Field × List Bool) → ◌≡◌ {A = Read} (Ok x) (Ok y) → x ≡ y
ok_is x y e = cc

pub err_is_no_ok : (c : Fault) (x : Field × List Bool) → ◌≡◌ {A = Read} (Err c) (Ok x) → ⊥
err_is_no_ok c x e = cc

pub ok_is_no_err : (x : Field × List Bool) (c : Fault) → ◌≡◌ {A = Read} (Ok x) (Err c) → ⊥
ok_is_no_err x c e = cc

abbrev pub Held : Type 0
Held = Result Field Fault

-- what was given with the rest was held, and that is the rest
held_with : (r : Held) (rest left : List Bool) (field : Field) → with_rest rest r ≡ Ok (field, left) → (r ≡ Ok field)
    × (rest ≡ left)
held_with (Ok x) rest left field e =
    let same : (x, rest) ≡ (field, left) = ok_is (x, rest) (field, left) e in
    (ap (λ (p : Field × List Bool). Ok p.0) same, ap (λ (p : Field × List Bool). p.1) same)
held_with (Err fault) rest left field e = absurd (err_is_no_ok fault (field, left) e)

-- and a fault was met in what was held
fault_with : (r : Held) (rest : List Bool) (fault : Fault) → with_rest rest r ≡ Err fault → r ≡ Err fault
fault_with (Ok x) rest fault e = absurd (ok_is_no_err (x, rest) fault e)
fault_with (Err other) rest fault e = ap (λ (f : Fault). Err f) (err_is other fault e)

-- ---- from the bits of a whole field to the bits that begin with it

module _ (shape : Shape) (n : ℕ) (content : List Bool → Result Field Fault) (exact : HoldsExactly shape n content) where
  cut_taken : (list : List Bool) (field : Field) (rest : List Bool) → cut_at n content list ≡ Ok (field, rest)
      → Takes shape list field rest
  unfolding cut_at
  cut_taken list field rest e =
      elim (chosen (ltb (length list) n) (Err (Short (n - length list)))
      (with_rest (drop n list) (content (take n list))) (Ok (field, rest)) e) [
        | inl h ↦ absurd (err_is_no_ok _ _ h.1)
        | inr h ↦
            let long : n ≤ length list = ltb-false _ _ h.0 in
            let b = held_with (content (take n list)) (drop n list) rest field h.1 in
            let t = exact.taken (take n list) field (omega (arith, length-take n list)) b.0 in
            record {
              front = take n list;
              of_shape = t.0;
              spelled = t.1;
              parts = sym (take-append-drop n list) ∙ ap (λ (l : List Bool). take n list ++ l) b.1;
            }
      ]

  cut_again : (field : Field) (front rest : List Bool) → IsOfShape field shape → IsSpelledBy field front
      → cut_at n content (front ++ rest) ≡ Ok (field, rest)
  unfolding cut_at
  cut_again field front rest of_shape spelled =
      let a = exact.again field front of_shape spelled in
      let long : ltb (length (front ++ rest)) n ≡ false = le-ltb _ _ (omega (arith, length-append front rest, a.0)) in
      rw (long, take_at front rest n a.0, drop_at front rest n a.0, a.1) refl

  cut_reason : (list : List Bool) (fault : Fault) → cut_at n content list ≡ Err fault → IsReason shape list fault
  unfolding cut_at
  cut_reason list fault e =
      elim (chosen (ltb (length list) n) (Err (Short (n - length list)))
      (with_rest (drop n list) (content (take n list))) (Err fault) e) [
        | inl h ↦
            let short : length list < n = ltb-true _ _ h.0 in
            subst (λ (f : Fault). IsReason shape list f) (err_is _ _ h.1)
            (exact.short list (n - length list) (omega arith, omega arith))
        | inr h ↦
            let long : n ≤ length list = ltb-false _ _ h.0 in
            let c = fault_with (content (take n list)) (drop n list) fault h.1 in
            subst (λ (l : List Bool). IsReason shape l fault) (take-append-drop n list)
            (exact.reason (take n list) (drop n list) fault (omega (arith, length-take n list)) c)
      ]

  pub cut_exact : IsExact shape (cut_at n content)
  cut_exact = record { taken = cut_taken; again = cut_again; reason = cut_reason }

-- ---- what the bits of a whole field hold

pub held_is : (x y : Field) → ◌≡◌ {A = Held} (Ok x) (Ok y) → x ≡ y
held_is x y e = cc

pub fault_is : (c d : Fault) → ◌≡◌ {A = Held} (Err c) (Err d) → c ≡ d
fault_is c d e = cc

pub no_field : (c : Fault) (x : Field) → ◌≡◌ {A = Held} (Err c) (Ok x) → ⊥
no_field c x e = cc

pub no_fault : (x : Field) (c : Fault) → ◌≡◌ {A = Held} (Ok x) (Err c) → ⊥
no_fault x c e = cc

-- ---- a test that was passed

unfoldable pub failed : Fault → Read
failed fault = Err fault

pub tested : (b : Bool) (fault : Fault) (r : Read) → is_ok (cond b (failed fault) r) ≡ true → (b ≡ false) × (is_ok r ≡ true)
unfolding failed
tested true fault r e = absurd cc
tested false fault r e = (refl, e)
