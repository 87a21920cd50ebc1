-- The walk stops at the first invalid field, with its reason.
use Rattle.std.proofs.Common.{◌≡◌, ℕ, zero, suc, ◌+◌, ◌<◌, Bool, List, [], ◌∷◌, ◌++◌, take, Ok, Err, Some, refl, sym, ap, subst, ◌∙◌, arith, slice_get}
use Rattle.std.proofs.lemmas.Option.{same_Some}
use Rattle.asn1_values.specs.Fields.{Field, Shape, Begins}
use Rattle.asn1_values.specs.Wrong.{Fault, IsReason, CanBegin, IsFirstFault}
use Rattle.asn1_values.specs.Walk.{field_at, fields_at, in_front, first_and}
use Rattle.asn1_values.proofs.ExactKinds.{IsExact, Takes, Read, ok_is, err_is_no_ok}
use Rattle.asn1_values.proofs.ListLemmas.{AreExact, Begins-cons, Begins-none, Begins-split, ReadAll, no_end}

-- fields of one more shape begin the list, if others begin what is after the first
pub CanBegin-cons : (list : List Bool) (shape : Shape) (field : Field) (middle : List Bool) (shapes : List Shape)
    → Takes shape list field middle → CanBegin middle shapes → CanBegin list (shape ∷ shapes)
CanBegin-cons list shape field middle shapes t c =
    (field ∷ c.0, c.1, Begins-cons list shape field middle shapes c.0 c.1 t c.2)

-- and the other way round, since the first field is the only one
CanBegin-rest : (list : List Bool) (shape : Shape) (field : Field) (middle : List Bool) (shapes : List Shape)
    → IsExact shape (field_at shape) → field_at shape list ≡ Ok (field, middle) → CanBegin list (shape ∷ shapes)
    → CanBegin middle shapes
CanBegin-rest list shape field middle shapes exact e ([], rest, b) = absurd b.of_shapes
CanBegin-rest list shape field middle shapes exact e (f ∷ fields, rest, b) =
    let s = Begins-split list shape f shapes fields rest b in
    let one : field_at shape list ≡ Ok (f, s.middle) = ap (field_at shape) s.first.parts
    ∙ exact.again f s.first.front s.middle s.first.of_shape s.first.spelled in
    let same : (f, s.middle) ≡ (field, middle) = ok_is _ _ (sym one ∙ e) in
    let at_middle : s.middle ≡ middle = ap (λ (x : Field × List Bool). x.1) same in
    (fields, rest, subst (λ (l : List Bool). Begins l shapes fields rest) at_middle s.others)

CanBegin-none : (list : List Bool) (shape : Shape) (fault : Fault) (shapes : List Shape)
    → IsExact shape (field_at shape) → field_at shape list ≡ Err fault → CanBegin list (shape ∷ shapes) → ⊥
CanBegin-none list shape fault shapes exact e ([], rest, b) = absurd b.of_shapes
CanBegin-none list shape fault shapes exact e (f ∷ fields, rest, b) =
    let s = Begins-split list shape f shapes fields rest b in
    let one : field_at shape list ≡ Ok (f, s.middle) = ap (field_at shape) s.first.parts
    ∙ exact.again f s.first.front s.middle s.first.of_shape s.first.spelled in
    err_is_no_ok fault (f, s.middle) (sym e ∙ one)

-- nothing before what is left
left_is : (list : List Bool) (fields : List Field) (left : List Bool) → Begins list [] fields left → list ≡ left
left_is list [] left b = b.parts ∙ ap (λ (l : List Bool). l ++ left) b.spelled
left_is list (f ∷ fields) left b = absurd b.of_shapes

fault_here : (list : List Bool) (shape : Shape) (fault : Fault) (shapes : List Shape) → IsExact shape (field_at shape)
    → field_at shape list ≡ Err fault → IsFirstFault list (shape ∷ shapes) 0 fault
fault_here list shape fault shapes exact e =
    record {
      within = omega arith;
      wrong = λ c. CanBegin-none list shape fault [] exact e c;
      least = λ j lt. absurd (omega arith);
      reason = λ other fields left is b.
          let r : IsReason shape list fault = exact.reason list fault e in
          let r2 : IsReason shape left fault =
          subst (λ (l : List Bool). IsReason shape l fault) (left_is list fields left b) r in
          subst (λ (s : Shape). IsReason s left fault) (same_Some shape other is) r2;
    }

least_later : (list : List Bool) (shape : Shape) (field : Field) (middle : List Bool) (shapes : List Shape) (i : ℕ)
    → Takes shape list field middle → ((j : ℕ) → j < i → CanBegin middle (take (j + 1) shapes)) → (j : ℕ) → j < suc i
    → CanBegin list (take (j + 1) (shape ∷ shapes))
least_later list shape field middle shapes i t least zero lt =
    CanBegin-cons list shape field middle [] t ([], middle, Begins-none middle)
least_later list shape field middle shapes i t least (suc j) lt =
    let c : CanBegin list (shape ∷ take (j + 1) shapes) =
    CanBegin-cons list shape field middle (take (j + 1) shapes) t (least j (omega arith)) in
    let n : suc (j + 1) ≡ suc j + 1 = omega arith in
    subst (λ (k : ℕ). CanBegin list (take k (shape ∷ shapes))) n c

reason_later : (list : List Bool) (shape : Shape) (field : Field) (middle : List Bool) (shapes : List Shape) (i : ℕ)
    (fault : Fault) → IsExact shape (field_at shape) → field_at shape list ≡ Ok (field, middle)
    → ((other : Shape) (fields : List Field) (left : List Bool) → slice_get shapes i ≡ Some other
    → Begins middle (take i shapes) fields left → IsReason other left fault)
    → (other : Shape) (fields : List Field) (left : List Bool) → slice_get shapes i ≡ Some other
    → Begins list (shape ∷ take i shapes) fields left → IsReason other left fault
reason_later list shape field middle shapes i fault exact e reason other [] left is b = absurd b.of_shapes
reason_later list shape field middle shapes i fault exact e reason other (f ∷ fields) left is b =
    let s = Begins-split list shape f (take i shapes) fields left b in
    let one : field_at shape list ≡ Ok (f, s.middle) = ap (field_at shape) s.first.parts
    ∙ exact.again f s.first.front s.middle s.first.of_shape s.first.spelled in
    let same : (f, s.middle) ≡ (field, middle) = ok_is _ _ (sym one ∙ e) in
    reason other fields left is (subst (λ (l : List Bool). Begins l (take i shapes) fields left)
    (ap (λ (x : Field × List Bool). x.1) same) s.others)

fault_later : (list : List Bool) (shape : Shape) (field : Field) (middle : List Bool) (shapes : List Shape) (i : ℕ)
    (fault : Fault) → IsExact shape (field_at shape) → field_at shape list ≡ Ok (field, middle)
    → IsFirstFault middle shapes i fault → IsFirstFault list (shape ∷ shapes) (suc i) fault
fault_later list shape field middle shapes i fault exact e first =
    let within = first.within in
    record {
      within = omega arith;
      wrong = λ c.
          let n : suc i + 1 ≡ suc (i + 1) = omega arith in
          let c2 : CanBegin list (shape ∷ take (i + 1) shapes) =
          subst (λ (k : ℕ). CanBegin list (take k (shape ∷ shapes))) n c in
          first.wrong (CanBegin-rest list shape field middle (take (i + 1) shapes) exact e c2);
      least = least_later list shape field middle shapes i (exact.taken list field middle e) first.least;
      reason = reason_later list shape field middle shapes i fault exact e first.reason;
    }

end_is : (x y : ℕ × Fault) → ◌≡◌ {A = ReadAll} (Err x) (Err y) → x ≡ y
end_is x y e = cc

-- a fault that was met after a field
behind_fault : (field : Field) (r : ReadAll) (x : ℕ × Fault) → in_front field r ≡ Err x → (y : ℕ × Fault) × (r ≡ Err y)
    × ((suc y.0, y.1) ≡ x)
behind_fault field (Ok y) x e = absurd (no_end (field ∷ y.0, y.1) x e)
behind_fault field (Err y) x e = (y, refl, end_is (suc y.0, y.1) x e)

pub fields_refused : (shapes : List Shape) (list : List Bool) (x : ℕ × Fault) → AreExact shapes
    → fields_at shapes list ≡ Err x → IsFirstFault list shapes x.0 x.1
unfolding fields_at
fields_refused [] list x exact e = absurd (no_end ([], list) x e)
fields_refused (shape ∷ shapes) list x exact e =
    by_first (field_at shape list) refl e (λ left y is. fields_refused shapes left y exact.1 is)
  where
    whole : (y : ℕ × Fault) → y ≡ x → IsFirstFault list (shape ∷ shapes) y.0 y.1
        → IsFirstFault list (shape ∷ shapes) x.0 x.1
    whole y same first = subst (λ (z : ℕ × Fault). IsFirstFault list (shape ∷ shapes) z.0 z.1) same first

    by_first : (r : Read) → field_at shape list ≡ r → first_and (fields_at shapes) r ≡ Err x
        → ((left : List Bool) (y : ℕ × Fault) → fields_at shapes left ≡ Err y → IsFirstFault left shapes y.0 y.1)
        → IsFirstFault list (shape ∷ shapes) x.0 x.1
    by_first (Err fault) is h others =
        whole (0, fault) (end_is (0, fault) x h) (fault_here list shape fault shapes exact.0 is)
    by_first (Ok z) is h others =
        let b = behind_fault z.0 (fields_at shapes z.1) x h in
        whole (suc b.0.0, b.0.1) b.2 (fault_later list shape z.0 z.1 shapes b.0.0 b.0.1 exact.0 is (others z.1 b.0 b.1))
