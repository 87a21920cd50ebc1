-- Lists of fields: the walk against the relations, whatever kinds of field there are.
use Rattle.std.proofs.Common.{◌≡◌, ℕ, suc, Bool, List, [], ◌∷◌, ◌++◌, Result, Ok, Err, refl, sym, ap, subst, ◌∙◌, append_assoc}
use Rattle.std.specs.List.{AllByRecursion}
use Rattle.asn1_values.specs.Fields.{Field, Shape, Begins}
use Rattle.asn1_values.specs.Wrong.{Fault}
use Rattle.asn1_values.specs.Walk.{field_at, fields_at, in_front, first_and}
use Rattle.asn1_values.proofs.ExactKinds.{IsExact, Takes, Read}

abbrev pub AreExact : List Shape → Type 0
AreExact shapes = AllByRecursion (λ shape. IsExact shape (field_at shape)) shapes

-- one more field before
pub Begins-cons : (list : List Bool) (shape : Shape) (field : Field) (middle : List Bool) (shapes : List Shape)
    (fields : List Field) (rest : List Bool)
    → Takes shape list field middle → Begins middle shapes fields rest
    → Begins list (shape ∷ shapes) (field ∷ fields) rest
Begins-cons list shape field middle shapes fields rest t b =
    record {
      of_shapes = (t.of_shape, b.of_shapes);
      front = t.front ++ b.front;
      spelled = (t.front, b.front, t.spelled, b.spelled, refl);
      parts = t.parts ∙ ap (λ (l : List Bool). t.front ++ l) b.parts ∙ sym (append_assoc t.front b.front rest);
    }

pub Begins-none : (list : List Bool) → Begins list [] [] list
Begins-none list = record { of_shapes = tt; front = []; spelled = refl; parts = refl }

-- the first field, and the others
pub record Splits (list : List Bool) (shape : Shape) (field : Field) (shapes : List Shape) (fields : List Field)
    (rest : List Bool) : Type 0 where
  pub middle : List Bool
  pub first : Takes shape list field middle
  pub others : Begins middle shapes fields rest

pub Begins-split : (list : List Bool) (shape : Shape) (field : Field) (shapes : List Shape) (fields : List Field)
    (rest : List Bool)
    → Begins list (shape ∷ shapes) (field ∷ fields) rest → Splits list shape field shapes fields rest
Begins-split list shape field shapes fields rest b =
    let s = b.spelled in
    record {
      middle = s.1 ++ rest;
      first =
          record {
            front = s.0;
            of_shape = b.of_shapes.0;
            spelled = s.2;
            parts = b.parts
                ∙ ap (λ (l : List Bool). l ++ rest) s.4 ∙ append_assoc s.0 s.1 rest;
          };
      others = record { of_shapes = b.of_shapes.1; front = s.1; spelled = s.3; parts = refl };
    }

-- ---- what is read begins so

abbrev pub ReadAll : Type 0
ReadAll = Result (List Field × List Bool) (ℕ × Fault)

pub all_is : (x y : List Field × List Bool) → ◌≡◌ {A = ReadAll} (Ok x) (Ok y) → x ≡ y
all_is x y e = cc

pub no_end : (x : List Field × List Bool) (e : ℕ × Fault) → ◌≡◌ {A = ReadAll} (Ok x) (Err e) → ⊥
no_end x e is = cc

-- what was read after a field
record Behind (field : Field) (r : ReadAll) (fields : List Field) (rest : List Bool) : Type 0 where
  more : List Field
  read : r ≡ Ok (more, rest)
  these : field ∷ more ≡ fields

behind : (field : Field) (r : ReadAll) (fields : List Field) (rest : List Bool) → in_front field r ≡ Ok (fields, rest)
    → Behind field r fields rest
behind field (Ok y) fields rest e =
    let same : (field ∷ y.0, y.1) ≡ (fields, rest) = all_is (field ∷ y.0, y.1) (fields, rest) e in
    record {
      more = y.0;
      read = ap (λ (x : List Field × List Bool). Ok (y.0, x.1)) same;
      these = ap (λ (x : List Field × List Bool). x.0) same;
    }
behind field (Err x) fields rest e = absurd (no_end (fields, rest) (suc x.0, x.1) (sym e))

-- the first field, and what was read after it
record FirstRead (others : List Bool → ReadAll) (r : Read) (fields : List Field) (rest : List Bool) : Type 0 where
  field : Field
  left : List Bool
  first : r ≡ Ok (field, left)
  then : Behind field (others left) fields rest

first_read : (others : List Bool → ReadAll) (r : Read) (fields : List Field) (rest : List Bool)
    → first_and others r ≡ Ok (fields, rest) → FirstRead others r fields rest
first_read others (Ok x) fields rest e =
    record { field = x.0; left = x.1; first = refl; then = behind x.0 (others x.1) fields rest e }
first_read others (Err fault) fields rest e = absurd (no_end (fields, rest) (0, fault) (sym e))

pub fields_taken : (shapes : List Shape) (list : List Bool) (fields : List Field) (rest : List Bool) → AreExact shapes
    → fields_at shapes list ≡ Ok (fields, rest) → Begins list shapes fields rest
unfolding fields_at
fields_taken [] list fields rest exact e =
    subst (λ (x : List Field × List Bool). Begins list [] x.0 x.1) (all_is ([], list) (fields, rest) e)
    (Begins-none list)
fields_taken (shape ∷ shapes) list fields rest exact e =
    let f = first_read (fields_at shapes) (field_at shape list) fields rest e in
    let first = exact.0.taken list f.field f.left f.first in
    let others = fields_taken shapes f.left f.then.more rest exact.1 f.then.read in
    subst (λ (fs : List Field). Begins list (shape ∷ shapes) fs rest) f.then.these
    (Begins-cons list shape f.field f.left shapes f.then.more rest first others)

-- ---- what begins so is read

pub fields_again : (shapes : List Shape) (list : List Bool) (fields : List Field) (rest : List Bool) → AreExact shapes
    → Begins list shapes fields rest → fields_at shapes list ≡ Ok (fields, rest)
unfolding fields_at
fields_again [] list [] rest exact b =
    ap (λ (l : List Bool). Ok ([], l)) (b.parts ∙ ap (λ (l : List Bool). l ++ rest) b.spelled)
fields_again [] list (field ∷ fields) rest exact b = absurd b.of_shapes
fields_again (shape ∷ shapes) list [] rest exact b = absurd b.of_shapes
fields_again (shape ∷ shapes) list (field ∷ fields) rest exact b =
    let s = Begins-split list shape field shapes fields rest b in
    let one : field_at shape list ≡ Ok (field, s.middle) = ap (field_at shape) s.first.parts
    ∙ exact.0.again field s.first.front s.middle s.first.of_shape s.first.spelled in
    let two = fields_again shapes s.middle fields rest exact.1 s.others in
    rw (one, two) refl

-- the fields are the only ones
pub only_fields : (shapes : List Shape) (list : List Bool) (fields others : List Field) (rest left : List Bool)
    → AreExact shapes → Begins list shapes fields rest → Begins list shapes others left → (fields ≡ others)
    × (rest ≡ left)
only_fields shapes list fields others rest left exact a b =
    let same : (fields, rest) ≡ (others, left) =
    all_is _ _ (sym (fields_again shapes list fields rest exact a)
    ∙ fields_again shapes list others left exact b) in
    (ap (λ (x : List Field × List Bool). x.0) same, ap (λ (x : List Field × List Bool). x.1) same)
