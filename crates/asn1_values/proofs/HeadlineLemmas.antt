-- From the walk to the headline.
use Rattle.std.proofs.Common.{◌≡◌, ℕ, ◌+◌, ◌*◌, ◌<◌, ◌≤◌, Bool, true, List, [], ◌∷◌, ◌++◌, length, take, drop, Result, Ok, Err, refl, sym, ap, subst, ◌∙◌, arith}
use Rattle.std.specs.Prelude.{is_ok}
use Rattle.std.specs.List.{AllZip, AllByRecursion}
use Rattle.std.proofs.lemmas.List.{length-take, take-append-drop, append-nil}
use Rattle.asn1_values.specs.declared.bit_fields.error.ReadError.{ReadError}
use Rattle.asn1_values.specs.declared.bit_fields.shape.Shape.{Shape}
use Rattle.asn1_values.specs.declared.bit_fields.shape.Shape.TheVariants as shapes
use Rattle.std.specs.Prelude.{All}
use Rattle.asn1_bits.specs.Bits.{bits}
use Rattle.asn1_values.specs.Plain.{plain_shape, plain_shapes}
use Rattle.asn1_values.proofs.ExactKinds.{IsExact, ok_is}
use Rattle.asn1_values.specs.Fields as plain
use Rattle.asn1_values.specs.Fields.{IsOfShape, AreSpelledBy, Begins, NoSpellingBeginsAnother, NoneBeginsAnother}
use Rattle.asn1_values.specs.Wrong.{Fault, NumberWidth, NotInteger, Short, NoCharacter, NoLength, NotIdentifier, ArcOver, CanBegin, IsFirstFault}
use Rattle.asn1_values.specs.Walk.{field_at, fields_at}
use Rattle.asn1_values.specs.Refusals.{IsReadRefusal}
use Rattle.asn1_values.specs.Steps.{past_all, error_at}
use Rattle.asn1_bits.specs.Laws.DigitLaws.{length-bits}
use Rattle.asn1_alphabets.specs.AlphabetView.{alphabet_of}
use Rattle.asn1_alphabets.specs.Laws.AlphabetViewLaws.{codes_fit}
use Rattle.asn1_values.proofs.BitsKind.{bits_exact}
use Rattle.asn1_values.proofs.CharacterKind.{character_exact}
use Rattle.asn1_values.proofs.CountedIntegerKind.{counted_exact}
use Rattle.asn1_values.proofs.IdentifierKind.{identifier_exact}
use Rattle.asn1_values.proofs.IntegerKind.{integer_exact}
use Rattle.asn1_values.proofs.NumberKind.{number_exact}
use Rattle.asn1_values.proofs.OctetsKind.{octets_exact}
use Rattle.asn1_values.proofs.ListLemmas.{AreExact, fields_taken, only_fields, ReadAll}
use Rattle.asn1_values.proofs.RefusalLemmas.{fields_refused}

pub is_exact : (s : Shape) → IsExact (plain_shape s) (field_at (plain_shape s))
is_exact (shapes.Number width) = number_exact width
is_exact (shapes.Octets count) = octets_exact count
is_exact (shapes.Bits len) = bits_exact len
is_exact (shapes.Integer count) = integer_exact count
is_exact (shapes.Character alphabet) = character_exact (alphabet_of alphabet) (codes_fit alphabet)
is_exact shapes.CountedInteger = counted_exact
is_exact (shapes.Oid octets) = identifier_exact octets

are_exact : (ss : List Shape) → AreExact (plain_shapes ss)
are_exact [] = tt
are_exact (s ∷ ss) = (is_exact s, are_exact ss)

named : (list : List Bool) (ss : List plain.Shape) (i : ℕ) (fault : Fault) → IsFirstFault list ss i fault
    → IsReadRefusal list ss (error_at i fault)
named list ss i (NumberWidth w) h = h
named list ss i NotInteger h = h
named list ss i (Short n) h = h
named list ss i (NoCharacter k) h = h
named list ss i (NoLength k) h = h
named list ss i NotIdentifier h = h
named list ss i ArcOver h = h

abbrev Left : Type 0
Left = Result (List Bool) ReadError

error_is : (a b : ReadError) → ◌≡◌ {A = Left} (Err a) (Err b) → a ≡ b
error_is a b e = cc

refusal_of : (list : List Bool) (ss : List plain.Shape) (r : ReadAll) (e : ReadError) → AreExact ss
    → fields_at ss list ≡ r → past_all 0 r ≡ Err e → IsReadRefusal list ss e
refusal_of list ss (Ok x) e exact is h = absurd cc
refusal_of list ss (Err x) e exact is h =
    let n : 0 + x.0 ≡ x.0 = omega arith in
    let same : error_at x.0 x.1 ≡ e = ap (λ (k : ℕ). error_at k x.1) (sym n) ∙ error_is _ _ h in
    subst (λ (d : ReadError). IsReadRefusal list ss d) same (named list ss x.0 x.1 (fields_refused ss list x exact is))

pub refusal : (list : List Bool) (ss : List Shape) (e : ReadError)
    → past_all 0 (fields_at (plain_shapes ss) list) ≡ Err e → IsReadRefusal list (plain_shapes ss) e
refusal list ss e h = refusal_of list (plain_shapes ss) (fields_at (plain_shapes ss) list) e (are_exact ss) refl h

can_begin_of : (list : List Bool) (ss : List plain.Shape) (r : ReadAll) → AreExact ss → fields_at ss list ≡ r
    → is_ok r ≡ true → CanBegin list ss
can_begin_of list ss (Ok x) exact is h = (x.0, x.1, fields_taken ss list x.0 x.1 exact is)
can_begin_of list ss (Err x) exact is h = absurd cc

pub can_begin : (list : List Bool) (ss : List Shape) → is_ok (fields_at (plain_shapes ss) list) ≡ true
    → CanBegin list (plain_shapes ss)
can_begin list ss h = can_begin_of list (plain_shapes ss) (fields_at (plain_shapes ss) list) (are_exact ss) refl h

pub found : (list : List Bool) (ss : List Shape) (fields : List plain.Field) (rest : List Bool)
    → fields_at (plain_shapes ss) list ≡ Ok (fields, rest) → Begins list (plain_shapes ss) fields rest
found list ss fields rest e = fields_taken (plain_shapes ss) list fields rest (are_exact ss) e

pub only : (list : List Bool) (ss : List Shape) (fields : List plain.Field) (rest : List Bool)
    → fields_at (plain_shapes ss) list ≡ Ok (fields, rest) → (others : List plain.Field) (left : List Bool)
    → Begins list (plain_shapes ss) others left → (fields ≡ others) × (rest ≡ left)
only list ss fields rest e others left b =
    only_fields (plain_shapes ss) list fields others rest left (are_exact ss) (found list ss fields rest e) b

pub read_octets : (count : ℕ) (list left : List Bool) (octets : List ℕ) → 8 * count ≤ length list
    → left ≡ drop (8 * count) list → bits octets ≡ take (8 * count) list → All (λ octet. octet < 256) octets
    → field_at (plain.OfOctets count) list ≡ Ok (plain.Octets octets, left)
read_octets count list left octets le rest is are =
    let len : length octets ≡ count = omega (arith, length-bits octets, ap length is, length-take (8 * count) list) in
    let whole : list ≡ take (8 * count) list ++ left = sym (take-append-drop (8 * count) list)
    ∙ ap (λ (l : List Bool). take (8 * count) list ++ l) (sym rest) in
    ap (field_at (plain.OfOctets count)) whole
    ∙ (octets_exact count).again (plain.Octets octets) (take (8 * count) list) left len (are, sym is)

pub read_bits : (len : ℕ) (list left front : List Bool) → len ≤ length list → left ≡ drop len list
    → front ≡ take len list → field_at (plain.OfBits len) list ≡ Ok (plain.Bits front, left)
read_bits len list left front le rest is =
    let n : length front ≡ len = omega (arith, ap length is, length-take len list) in
    let whole : list ≡ front ++ left = sym (take-append-drop len list)
    ∙ ap (λ (l : List Bool). l ++ drop len list) (sym is) ∙ ap (λ (l : List Bool). front ++ l) (sym rest) in
    ap (field_at (plain.OfBits len)) whole ∙ (bits_exact len).again (plain.Bits front) front left n refl

pub one_list : (ss : List Shape) (xs ys : List plain.Field) (list : List Bool) → AllZip IsOfShape xs (plain_shapes ss)
    → AllZip IsOfShape ys (plain_shapes ss) → AreSpelledBy xs list → AreSpelledBy ys list → xs ≡ ys
one_list ss xs ys list zx zy p q =
    let a : Begins list (plain_shapes ss) xs [] =
    record { of_shapes = zx; front = list; spelled = p; parts = sym (append-nil list) } in
    let b : Begins list (plain_shapes ss) ys [] =
    record { of_shapes = zy; front = list; spelled = q; parts = sym (append-nil list) } in
    (only_fields (plain_shapes ss) list xs ys [] [] (are_exact ss) a b).0

-- and no concatenation begins that of other fields of the shapes
pub none_begins_another : (ss : List Shape) → NoneBeginsAnother (plain_shapes ss)
none_begins_another ss xs ys front rest zx zy p q =
    let a : Begins (front ++ rest) (plain_shapes ss) xs rest =
    record { of_shapes = zx; front = front; spelled = p; parts = refl } in
    let b : Begins (front ++ rest) (plain_shapes ss) ys [] =
    record { of_shapes = zy; front = front ++ rest; spelled = q; parts = sym (append-nil (front ++ rest)) } in
    only_fields (plain_shapes ss) (front ++ rest) xs ys rest [] (are_exact ss) a b

-- no encoding of one field begins that of another
each_alone_of : (shape : plain.Shape) → IsExact shape (field_at shape) → NoSpellingBeginsAnother shape
each_alone_of shape exact x y front rest sx sy p q =
    let whole : field_at shape (front ++ rest) ≡ Ok (y, []) = ap (field_at shape) (sym (append-nil (front ++ rest)))
    ∙ exact.again y (front ++ rest) [] sy q in
    let same : (x, rest) ≡ (y, []) = ok_is _ _ (sym (exact.again x front rest sx p) ∙ whole) in
    (ap (λ (f : plain.Field × List Bool). f.0) same, ap (λ (f : plain.Field × List Bool). f.1) same)

pub each_alone : (ss : List Shape) → AllByRecursion NoSpellingBeginsAnother (plain_shapes ss)
each_alone [] = tt
each_alone (s ∷ ss) = (each_alone_of (plain_shape s) (is_exact s), each_alone ss)
