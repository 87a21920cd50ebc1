-- The two walks of the program, a field at a time.
use Rattle.std.proofs.Common.{◌≡◌, ℕ, suc, ◌+◌, ◌<◌, ◌≤◌, Bool, true, List, [], ◌∷◌, ◌++◌, length, drop, get_or, Result, Ok, Err, refl, sym, ap, ◌∙◌, append_assoc, arith}
use Rattle.std.proofs.lemmas.List.{append-nil, drop_more, drop_all, length-append}
use Rattle.asn1_values.specs.declared.bit_fields.error.ReadError.{ReadError}
use Rattle.asn1_values.specs.declared.bit_fields.shape.Shape.{Shape}
use Rattle.std.specs.Prelude.{is_ok}
use Rattle.asn1_values.specs.Plain.{plain_shapes, plain_shape}
use Rattle.asn1_values.specs.Fields as plain
use Rattle.asn1_values.specs.Wrong.{Fault}
use Rattle.asn1_values.specs.Walk.{field_at, fields_at, in_front}
use Rattle.asn1_values.specs.Steps.{past, past_all, error_at}

-- fields that were read before
abbrev pub with_front : List plain.Field → Result (List plain.Field × List Bool) (ℕ × Fault)
    → Result (List plain.Field × List Bool) (ℕ × Fault)
with_front front (Ok x) = Ok (front ++ x.0, x.1)
with_front front (Err e) = Err (length front + e.0, e.1)

abbrev ReadOne : Type 0
ReadOne = Result (plain.Field × List Bool) Fault

abbrev ReadAll : Type 0
ReadAll = Result (List plain.Field × List Bool) (ℕ × Fault)

abbrev Left : Type 0
Left = Result (List Bool) ReadError

past_is_ok : (i : ℕ) (r : ReadOne) (left : List Bool) → past i r ≡ Ok left → (field : plain.Field)
    × (r ≡ Ok (field, left))
past_is_ok i (Ok x) left e = let same : x.1 ≡ left =
    left_is x.1 left e in (x.0, ap (λ (l : List Bool). Ok (x.0, l)) same)
  where
    left_is : (a b : List Bool) → ◌≡◌ {A = Left} (Ok a) (Ok b) → a ≡ b
    left_is a b e = cc
past_is_ok i (Err fault) left e = absurd cc

past_is_err : (i : ℕ) (r : ReadOne) (e : ReadError) → past i r ≡ Err e → (fault : Fault) × (r ≡ Err fault)
    × (error_at i fault ≡ e)
past_is_err i (Ok x) e h = absurd cc
past_is_err i (Err fault) e h = (fault, refl, error_is (error_at i fault) e h)
  where
    error_is : (a b : ReadError) → ◌≡◌ {A = Left} (Err a) (Err b) → a ≡ b
    error_is a b e = cc

past_later : (i : ℕ) (field : plain.Field) (r : ReadAll) → past_all i (in_front field r) ≡ past_all (i + 1) r
past_later i field (Ok x) = refl
past_later i field (Err e) = let n : i + suc e.0 ≡ i + 1 + e.0 = omega arith in ap (λ (k : ℕ). Err (error_at k e.1)) n

past_step : (i : ℕ) (shape : plain.Shape) (shapes : List plain.Shape) (list left : List Bool)
    → past i (field_at shape list) ≡ Ok left
    → past_all i (fields_at (shape ∷ shapes) list) ≡ past_all (i + 1) (fields_at shapes left)
unfolding fields_at
past_step i shape shapes list left e =
    let p = past_is_ok i (field_at shape list) left e in
    rw p.1 (past_later i p.0 (fields_at shapes left))

past_stop : (i : ℕ) (shape : plain.Shape) (shapes : List plain.Shape) (list : List Bool) (e : ReadError)
    → past i (field_at shape list) ≡ Err e → past_all i (fields_at (shape ∷ shapes) list) ≡ Err e
unfolding fields_at
past_stop i shape shapes list e h =
    let p = past_is_err i (field_at shape list) e h in
    let n : i + 0 ≡ i = omega arith in
    rw (p.1, n, p.2) refl

-- ---- the same at an index of the program's shapes

shapes_more : (ss : List Shape) (i : ℕ) (x : Shape) → i < length ss → x ≡ get_or ss i x
    → plain_shapes (drop i ss) ≡ plain_shape x ∷ plain_shapes (drop (i + 1) ss)
shapes_more ss i x lt is = ap plain_shapes (drop_more ss i x lt)
    ∙ ap (λ (y : Shape). plain_shape y ∷ plain_shapes (drop (i + 1) ss)) (sym is)

pub examined_more : (ss : List Shape) (i : ℕ) (x : Shape) (list left : List Bool) (total : Left) → i < length ss
    → x ≡ get_or ss i x → past i (field_at (plain_shape x) list) ≡ Ok left
    → past_all i (fields_at (plain_shapes (drop i ss)) list) ≡ total
    → past_all (i + 1) (fields_at (plain_shapes (drop (i + 1) ss)) left) ≡ total
examined_more ss i x list left total lt is e so_far =
    sym (past_step i (plain_shape x) (plain_shapes (drop (i + 1) ss)) list left e)
    ∙ ap (λ (shapes : List plain.Shape). past_all i (fields_at shapes list)) (sym (shapes_more ss i x lt is))
    ∙ so_far

pub examined_stop : (ss : List Shape) (i : ℕ) (x : Shape) (list : List Bool) (e : ReadError) (total : Left)
    → i < length ss → x ≡ get_or ss i x → past i (field_at (plain_shape x) list) ≡ Err e
    → past_all i (fields_at (plain_shapes (drop i ss)) list) ≡ total → total ≡ Err e
examined_stop ss i x list e total lt is h so_far =
    sym so_far ∙ ap (λ (shapes : List plain.Shape). past_all i (fields_at shapes list)) (shapes_more ss i x lt is)
    ∙ past_stop i (plain_shape x) (plain_shapes (drop (i + 1) ss)) list e h

pub examined_all : (ss : List Shape) (i : ℕ) (left : List Bool) (total : Left) → length ss ≤ i
    → past_all i (fields_at (plain_shapes (drop i ss)) left) ≡ total → total ≡ Ok left
unfolding fields_at
examined_all ss i left total le so_far =
    sym so_far ∙ ap (λ (ts : List Shape). past_all i (fields_at (plain_shapes ts) left)) (drop_all i ss le)

-- a field that was skipped is present
pub is_there : (i : ℕ) (r : ReadOne) (left : List Bool) → past i r ≡ Ok left → is_ok r ≡ true
is_there i (Ok x) left e = refl
is_there i (Err fault) left e = absurd cc

pub is_ok_from_past : (i : ℕ) (r : ReadAll) (left : List Bool) → past_all i r ≡ Ok left → is_ok r ≡ true
is_ok_from_past i (Ok x) left e = refl
is_ok_from_past i (Err x) left e = absurd cc

-- ---- with the fields that were read

front_later : (front : List plain.Field) (field : plain.Field) (r : ReadAll)
    → with_front front (in_front field r) ≡ with_front (front ++ field ∷ []) r
front_later front field (Ok x) =
    ap (λ (fs : List plain.Field). Ok (fs, x.1)) (sym (append_assoc front (field ∷ []) x.0))
front_later front field (Err e) = let n : length front + suc e.0 ≡ length (front ++ field ∷ []) + e.0 =
    omega (arith, length-append front (field ∷ [])) in ap (λ (k : ℕ). Err (k, e.1)) n

front_step : (front : List plain.Field) (shape : plain.Shape) (shapes : List plain.Shape) (list : List Bool)
    (field : plain.Field) (left : List Bool) → field_at shape list ≡ Ok (field, left)
    → with_front front (fields_at (shape ∷ shapes) list) ≡ with_front (front ++ field ∷ []) (fields_at shapes left)
unfolding fields_at
front_step front shape shapes list field left e = rw e (front_later front field (fields_at shapes left))

pub read_more : (ss : List Shape) (i : ℕ) (x : Shape) (front : List plain.Field) (list : List Bool)
    (field : plain.Field) (left : List Bool) (total : ReadAll) → i < length ss → x ≡ get_or ss i x
    → field_at (plain_shape x) list ≡ Ok (field, left)
    → with_front front (fields_at (plain_shapes (drop i ss)) list) ≡ total
    → with_front (front ++ field ∷ []) (fields_at (plain_shapes (drop (i + 1) ss)) left) ≡ total
read_more ss i x front list field left total lt is e so_far =
    sym (front_step front (plain_shape x) (plain_shapes (drop (i + 1) ss)) list field left e)
    ∙ ap (λ (shapes : List plain.Shape). with_front front (fields_at shapes list)) (sym (shapes_more ss i x lt is))
    ∙ so_far

pub read_all : (ss : List Shape) (i : ℕ) (front : List plain.Field) (left : List Bool) (total : ReadAll) → length ss ≤ i
    → with_front front (fields_at (plain_shapes (drop i ss)) left) ≡ total → total ≡ Ok (front, left)
unfolding fields_at
read_all ss i front left total le so_far =
    sym so_far ∙ ap (λ (ts : List Shape). with_front front (fields_at (plain_shapes ts) left)) (drop_all i ss le)
    ∙ ap (λ (fs : List plain.Field). Ok (fs, left)) (append-nil front)

pub from_front : (r : ReadAll) → with_front [] r ≡ r
from_front (Ok x) = refl
from_front (Err e) = let n : 0 + e.0 ≡ e.0 = omega arith in ap (λ (k : ℕ). Err (k, e.1)) n
