-- Fields that are written one after another.
use Rattle.std.proofs.Common.{◌≡◌, ℕ, zero, suc, ◌+◌, ◌<◌, ◌≤◌, inl, inr, Bool, List, [], ◌∷◌, ◌++◌, length, take, get_or, refl, sym, ap, subst, ◌∙◌, arith, append-nil, append_assoc}
use Rattle.std.specs.Prelude.{slice_get, Option, Some, None}
use Rattle.std.proofs.lemmas.List.{length-append, take_more, take_all}
use Rattle.std.proofs.lemmas.Option.{slice_get-get_or, get_or_from_slice_get}
use Rattle.asn1_bits.specs.Bits.{overwritten}
use Rattle.asn1_bits.specs.Laws.OverwrittenLaws.{overwritten-append}
use Rattle.asn1_values.specs.Fields as plain
use Rattle.asn1_values.specs.Refusals.{IsPast}
use Rattle.asn1_c.specs.declared.alphabets.Alphabet.{Alphabet}
use Rattle.asn1_c.specs.declared.fields.Shape.{Shape}
use Rattle.asn1_c.specs.declared.fields.Field.{Field}
use Rattle.asn1_c.specs.declared.fields.Refusal.{Refusal}
use Rattle.asn1_c.specs.Fields.{shape_named}
use Rattle.asn1_c.specs.Writing.{IsNamed, AreNamed, IsNamedAs, IsWrong, IsUnnamed, IsUnnamedAt}
use Rattle.asn1_c.proofs.NoneLemmas.{same_length, wrong_none}

-- what is past the ends of the lists
abbrev pub no_shape : Shape
no_shape = record { kind = 0; count = 0 }

abbrev pub no_field : Field
no_field = record { first = 0; length = 0; high = 0; low = 0 }

module _ (source : List ℕ) (alphabets : List Alphabet) where
  -- ---- one field

  same_shape : (s : Shape) (a b : plain.Shape) → shape_named alphabets s ≡ Some a → shape_named alphabets s ≡ Some b
      → a ≡ b
  same_shape s a b x y = some_is a b (sym x ∙ y)
    where
      some_is : (a b : plain.Shape) → ◌≡◌ {A = Option plain.Shape} (Some a) (Some b) → a ≡ b
      some_is a b h = cc

  one_length : (s : Shape) (f : Field) (a b : List Bool) → IsNamed source alphabets s f a
      → IsNamed source alphabets s f b → length a ≡ length b
  one_length s f a b x y =
      same_length source y.0 f a b (subst (λ z. IsNamedAs source z f a) (same_shape s x.0 y.0 x.1 y.1) x.2) y.2

  no_some : (a : plain.Shape) (o : Option plain.Shape) → o ≡ Some a → o ≡ None → ⊥
  no_some a o x y = absurd cc

  pub unnamed_wrong : (s : Shape) (f : Field) (r : Refusal) (list : List Bool) → IsUnnamed source alphabets s f r
      → IsNamed source alphabets s f list → ⊥
  unnamed_wrong s f r list (inl u) n = no_some n.0 (shape_named alphabets s) n.1 u.1
  unnamed_wrong s f r list (inr u) n =
      wrong_none source n.0 f r list
      (subst (λ z. IsWrong source z f r) (same_shape s u.0 n.0 u.1 n.1) u.2) n.2

  -- ---- all fields

  pub as_many : (ss : List Shape) (fs : List Field) (list : List Bool) → AreNamed source alphabets ss fs list
      → length ss ≡ length fs
  as_many [] [] list a = refl
  as_many (s ∷ ss) (f ∷ fs) list a = ap suc (as_many ss fs a.1 a.3)
  as_many [] (f ∷ fs) list a = absurd a
  as_many (s ∷ ss) [] list a = absurd a

  pub all_length : (ss : List Shape) (fs : List Field) (a b : List Bool) → AreNamed source alphabets ss fs a
      → AreNamed source alphabets ss fs b → length a ≡ length b
  all_length [] [] a b x y = ap length (x ∙ sym y)
  all_length (s ∷ ss) (f ∷ fs) a b x y =
      omega (
        arith,
        ap length x.4,
        ap length y.4,
        length-append x.0 x.1,
        length-append y.0 y.1,
        one_length s f x.0 y.0 x.2 y.2,
        all_length ss fs x.1 y.1 x.3 y.3,
      )
  all_length [] (f ∷ fs) a b x y = absurd x
  all_length (s ∷ ss) [] a b x y = absurd x

  named_push : (ss : List Shape) (fs : List Field) (s : Shape) (f : Field) (list part : List Bool)
      → AreNamed source alphabets ss fs list → IsNamed source alphabets s f part
      → AreNamed source alphabets (ss ++ s ∷ []) (fs ++ f ∷ []) (list ++ part)
  named_push [] [] s f list part a n = (part, [], n, refl, ap (λ l. l ++ part) a ∙ sym (append-nil part))
  named_push (x ∷ ss) (y ∷ fs) s f list part a n = (
    a.0,
    a.1 ++ part,
    a.2,
    named_push ss fs s f a.1 part a.3 n,
    ap (λ l. l ++ part) a.4
        ∙ append_assoc a.0 a.1 part,
  )
  named_push [] (y ∷ fs) s f list part a n = absurd a
  named_push (x ∷ ss) [] s f list part a n = absurd a

  -- one field more, in the caller's lists
  pub named_more : (ss : List Shape) (fs : List Field) (i : ℕ) (d : Shape) (e : Field) (list part : List Bool)
      → length ss ≡ length fs → i < length ss
      → AreNamed source alphabets (take i ss) (take i fs) list
      → IsNamed source alphabets (get_or ss i d) (get_or fs i e) part
      → AreNamed source alphabets (take (i + 1) ss) (take (i + 1) fs) (list ++ part)
  named_more ss fs i d e list part same lt a n =
      rw (take_more ss i d lt, take_more fs i e (omega arith))
      (named_push (take i ss) (take i fs) (get_or ss i d) (get_or fs i e) list part a n)

  -- all of them
  pub named_all : (ss : List Shape) (fs : List Field) (i : ℕ) (list : List Bool) → length ss ≡ length fs
      → length ss ≤ i → AreNamed source alphabets (take i ss) (take i fs) list → AreNamed source alphabets ss fs list
  named_all ss fs i list same le a =
      subst (λ x. AreNamed source alphabets x fs list) (take_all i ss le)
      (subst (λ y. AreNamed source alphabets (take i ss) y list) (take_all i fs (omega arith)) a)

  pub named_at : (ss : List Shape) (fs : List Field) (list : List Bool) (i : ℕ) (d : Shape) (e : Field)
      → AreNamed source alphabets ss fs list → i < length ss
      → (front : List Bool) × IsNamed source alphabets (get_or ss i d) (get_or fs i e) front
  named_at [] fs list i d e a lt = absurd (omega arith)
  named_at (s ∷ ss) [] list i d e a lt = absurd a
  named_at (s ∷ ss) (f ∷ fs) list zero d e a lt = (a.0, a.2)
  named_at (s ∷ ss) (f ∷ fs) list (suc i) d e a lt = named_at ss fs a.1 i d e a.3 (omega arith)

  -- a front, and one field more, have no more bits than all
  pub front_fits : (ss : List Shape) (fs : List Field) (i : ℕ) (d : Shape) (e : Field) (all front part : List Bool)
      → AreNamed source alphabets ss fs all → i < length ss
      → AreNamed source alphabets (take i ss) (take i fs) front
      → IsNamed source alphabets (get_or ss i d) (get_or fs i e) part → length front + length part ≤ length all
  front_fits [] fs i d e all front part a lt b n = absurd (omega arith)
  front_fits (s ∷ ss) [] i d e all front part a lt b n = absurd a
  front_fits (s ∷ ss) (f ∷ fs) zero d e all front part a lt b n =
      omega (arith, ap length a.4, length-append a.0 a.1, ap length b, one_length s f part a.0 n a.2)
  front_fits (s ∷ ss) (f ∷ fs) (suc i) d e all front part a lt b n =
      omega (
        arith,
        ap length a.4,
        length-append a.0 a.1,
        ap length b.4,
        length-append b.0 b.1,
        one_length s f a.0 b.0 a.2 b.2,
        front_fits ss fs i d e a.1 b.1 part a.3 (omega arith) b.3 n,
      )

  -- what is rejected has no encoding
  pub none_named : (ss : List Shape) (fs : List Field) (r : Refusal) (list : List Bool)
      → IsUnnamedAt source alphabets ss fs r → AreNamed source alphabets ss fs list → ⊥
  none_named [] fs r list u a = absurd (let w = u.within in omega arith)
  none_named (s ∷ ss) [] r list u a = absurd a
  none_named (s ∷ ss) (f ∷ fs) r list u a =
      let same = as_many (s ∷ ss) (f ∷ fs) list a in
      let w = u.within in
      let here = named_at (s ∷ ss) (f ∷ fs) list r.field s f a w in
      unnamed_wrong (get_or (s ∷ ss) r.field s) (get_or (f ∷ fs) r.field f) r here.0
      (u.reason (get_or (s ∷ ss) r.field s) (get_or (f ∷ fs) r.field f) (slice_get-get_or (s ∷ ss) r.field s w)
      (slice_get-get_or (f ∷ fs) r.field f (omega arith))) here.1

  -- the error of a field, those before which all have their bits
  pub refused_at : (ss : List Shape) (fs : List Field) (i : ℕ) (d : Shape) (e : Field) (r : Refusal)
      (list : List Bool) → length ss ≡ length fs → i < length ss
      → r.field ≡ i → AreNamed source alphabets (take i ss) (take i fs) list
      → IsUnnamed source alphabets (get_or ss i d) (get_or fs i e) r → IsUnnamedAt source alphabets ss fs r
  refused_at ss fs i d e r list same lt at named wrong = record {
    list = list;
    before = subst (λ k. AreNamed source alphabets (take k ss) (take k fs) list) (sym at) named;
    within = omega arith;
    reason = λ s f is_s is_f.
        (let here = get_or_from_slice_get ss i s d (ap (slice_get ss) (sym at) ∙ is_s) in
        let field = get_or_from_slice_get fs i f e (ap (slice_get fs) (sym at) ∙ is_f) in
        subst (λ x. IsUnnamed source alphabets x f r) here
        (subst (λ y. IsUnnamed source alphabets (get_or ss i d) y r) field wrong));
  }

  -- fields that end within the target are not past it
  pub not_past : (ss : List Shape) (fs : List Field) (a list : List Bool) (at n total : ℕ)
      → AreNamed source alphabets ss fs a → AreNamed source alphabets ss fs list
      → total ≡ length a → at + total ≤ n → at + total ≤ 18446744073709551615 → IsPast n (at + length list) → ⊥
  not_past ss fs a list at n total x y e le few (inl past) = omega (arith, all_length ss fs a list x y)
  not_past ss fs a list at n total x y e le few (inr past) = omega (arith, all_length ss fs a list x y)

  -- one field is written after others
  pub put_more : (at place : ℕ) (old now new list part : List Bool) → place ≤ length old
      → at ≡ place + length list → now ≡ overwritten old place list → new ≡ overwritten now at part
      → new ≡ overwritten old place (list ++ part)
  put_more at place old now new list part le a n m =
      m ∙ ap (λ l. overwritten l at part) n ∙ overwritten-append old place at list part a le
