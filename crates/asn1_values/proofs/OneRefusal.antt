-- One error holds alone: the first fault, and the first misfit, have one index and one reason.
use Rattle.std.proofs.Common.{◌≡◌, ◌≢◌, ℕ, zero, suc, ◌+◌, ◌*◌, ◌^◌, ◌<◌, ◌≤◌, Bool, List, [], ◌∷◌, length, take, refl, sym, ap, subst, ◌∙◌, arith, inl, inr, ◌⊎◌}
use Rattle.std.proofs.lemmas.Bool.{cases_lt}
use Rattle.asn1_values.specs.declared.bit_fields.error.ReadError.{ReadError}
use Rattle.asn1_values.specs.declared.bit_fields.error.ReadError.TheVariants as reading
use Rattle.asn1_values.specs.declared.bit_fields.error.WriteError.{WriteError}
use Rattle.asn1_values.specs.declared.bit_fields.error.WriteError.TheVariants as writing
use Rattle.asn1_values.specs.Fields.{Field, Shape, AreSpelledBy, Number, Character, CountedInteger, Identifier, OfNumber, OfOctets, OfBits, OfInteger, OfCharacter, OfCountedInteger, OfIdentifier}
use Rattle.asn1_integer.specs.IntegerOctets.{IsNoInteger}
use Rattle.asn1_values.specs.Wrong.{Fault, NumberWidth, NotInteger, Short, NoCharacter, NoLength, NotIdentifier, ArcOver, IsShortBy, IsNoIdentifier, HoldsLargeArc, IsCount, first_octet, IsReason, CanBegin, IsFirstFault, Misfit, WidthOver, PastWidth, NotInAlphabet, PastLength, TooFewArcs, IsMisfit, IsFirstMisfit}
use Rattle.asn1_values.specs.Refusals.{IsReadRefusal, IsWriteRefusal, IsPast, IsWriteAtRefusal}
use Rattle.asn1_values.specs.Steps.{error_at, NamesFirstMisfit}
use Rattle.asn1_values.proofs.JoinedLemmas.{some_at}
use Rattle.asn1_values.proofs.ListLemmas.{Begins-none, Begins-split}
use Rattle.asn1_values.proofs.RefusalLemmas.{CanBegin-cons}
use Rattle.asn1_values.proofs.SpellingLemmas.{names_none}

-- ---- reasons exclude each other

-- the bits are missing by one number
missing_same : (asked m n : ℕ) (left : List Bool) → IsShortBy asked left m → IsShortBy asked left n → m ≡ n
missing_same asked m n left p q = omega arith

same_short : (m n : ℕ) → m ≡ n → Short m ≡ Short n
same_short m n e = ap (λ (k : ℕ). Short k) e

-- an integer's octets are present, or they are missing
there_or_short : (count n : ℕ) (left : List Bool)
    → (count ≡ 0) ⊎ ((8 * count ≤ length left) × IsNoInteger (take (8 * count) left)) → 0 < count
    → IsShortBy (8 * count) left n → ⊥
there_or_short count n left (inl none) some short = omega arith
there_or_short count n left (inr p) some short = let le = p.0 in omega arith

-- the same of an identifier
contents_or_short : (count n : ℕ) (left : List Bool)
    → (count ≡ 0) ⊎ ((8 * count ≤ length left) × IsNoIdentifier (take (8 * count) left)) → 0 < count
    → IsShortBy (8 * count) left n → ⊥
contents_or_short count n left (inl none) some short = omega arith
contents_or_short count n left (inr p) some short = let le = p.0 in omega arith

-- octets that are contents of large arcs are contents
contents_or_large : (count : ℕ) (left : List Bool)
    → (count ≡ 0) ⊎ ((8 * count ≤ length left) × IsNoIdentifier (take (8 * count) left)) → 0 < count
    → HoldsLargeArc (take (8 * count) left) → ⊥
contents_or_large count left (inl none) some large = omega arith
contents_or_large count left (inr p) some large = p.1 large.0 large.1 large.2 large.3

abbrev IsCountedShort : List Bool → ℕ → Type 0
IsCountedShort left n = IsReason OfCountedInteger left (Short n)

counted_missing : (m n : ℕ) (left : List Bool) → IsCountedShort left m → IsCountedShort left n → m ≡ n
counted_missing m n left (inl p) (inl q) = omega arith
counted_missing m n left (inl p) (inr q) = absurd (let le = q.0 in omega arith)
counted_missing m n left (inr p) (inl q) = absurd (let le = p.0 in omega arith)
counted_missing m n left (inr p) (inr q) = missing_same (8 + 8 * first_octet left) m n left p.2 q.2

counted_or_length : (n octet : ℕ) (left : List Bool) → IsCountedShort left n → 8 ≤ length left
    → octet ≡ first_octet left → ¬ (IsCount octet) → ⊥
counted_or_length n octet left (inl p) le is refuted = omega arith
counted_or_length n octet left (inr p) le is refuted = refuted (subst IsCount (sym is) p.1)

counted_or_there : (n : ℕ) (left : List Bool) → IsCountedShort left n → 8 + 8 * first_octet left ≤ length left → ⊥
counted_or_there n left (inl p) le = omega arith
counted_or_there n left (inr p) le = let short = p.2 in omega arith

-- no two faults are the reason of one error
pub one_reason : (shape : Shape) (left : List Bool) (a b : Fault) → IsReason shape left a → IsReason shape left b
    → a ≡ b
one_reason (OfNumber width) left (NumberWidth v) (NumberWidth w) p q = ap (λ (k : ℕ). NumberWidth k) (p.0 ∙ sym q.0)
one_reason (OfNumber width) left (NumberWidth v) (Short n) p q = absurd (let le = q.0 in omega arith)
one_reason (OfNumber width) left (NumberWidth v) b p q = absurd q
one_reason (OfNumber width) left (Short m) (NumberWidth w) p q = absurd (let le = p.0 in omega arith)
one_reason (OfNumber width) left (Short m) (Short n) p q = same_short m n (missing_same width m n left p.1 q.1)
one_reason (OfNumber width) left (Short m) b p q = absurd q
one_reason (OfNumber width) left a b p q = absurd p
one_reason (OfOctets count) left (Short m) (Short n) p q = same_short m n (missing_same (8 * count) m n left p q)
one_reason (OfOctets count) left (Short m) b p q = absurd q
one_reason (OfOctets count) left a b p q = absurd p
one_reason (OfBits len) left (Short m) (Short n) p q = same_short m n (missing_same len m n left p q)
one_reason (OfBits len) left (Short m) b p q = absurd q
one_reason (OfBits len) left a b p q = absurd p
one_reason (OfInteger count) left NotInteger NotInteger p q = refl
one_reason (OfInteger count) left NotInteger (Short n) p q = absurd (there_or_short count n left p q.0 q.1)
one_reason (OfInteger count) left NotInteger b p q = absurd q
one_reason (OfInteger count) left (Short m) NotInteger p q = absurd (there_or_short count m left q p.0 p.1)
one_reason (OfInteger count) left (Short m) (Short n) p q = same_short m n (missing_same (8 * count) m n left p.1 q.1)
one_reason (OfInteger count) left (Short m) b p q = absurd q
one_reason (OfInteger count) left a b p q = absurd p
one_reason (OfCharacter alphabet) left (Short m) (Short n) p q =
    same_short m n (missing_same alphabet.width m n left p q)
one_reason (OfCharacter alphabet) left (Short m) (NoCharacter k) p q = absurd (let le = q.0 in omega arith)
one_reason (OfCharacter alphabet) left (Short m) b p q = absurd q
one_reason (OfCharacter alphabet) left (NoCharacter j) (Short n) p q = absurd (let le = p.0 in omega arith)
one_reason (OfCharacter alphabet) left (NoCharacter j) (NoCharacter k) p q =
    ap (λ (n : ℕ). NoCharacter n) (p.1 ∙ sym q.1)
one_reason (OfCharacter alphabet) left (NoCharacter j) b p q = absurd q
one_reason (OfCharacter alphabet) left a b p q = absurd p
one_reason OfCountedInteger left (Short m) (Short n) p q = same_short m n (counted_missing m n left p q)
one_reason OfCountedInteger left (Short m) (NoLength octet) p q = absurd (counted_or_length m octet left p q.0 q.1 q.2)
one_reason OfCountedInteger left (Short m) NotInteger p q = absurd (counted_or_there m left p q.0)
one_reason OfCountedInteger left (Short m) b p q = absurd q
one_reason OfCountedInteger left (NoLength octet) (Short n) p q = absurd (counted_or_length n octet left q p.0 p.1 p.2)
one_reason OfCountedInteger left (NoLength octet) (NoLength other) p q = ap (λ (k : ℕ). NoLength k) (p.1 ∙ sym q.1)
one_reason OfCountedInteger left (NoLength octet) NotInteger p q = absurd (p.2 (subst IsCount (sym p.1) q.1))
one_reason OfCountedInteger left (NoLength octet) b p q = absurd q
one_reason OfCountedInteger left NotInteger (Short n) p q = absurd (counted_or_there n left q p.0)
one_reason OfCountedInteger left NotInteger (NoLength octet) p q = absurd (q.2 (subst IsCount (sym q.1) p.1))
one_reason OfCountedInteger left NotInteger NotInteger p q = refl
one_reason OfCountedInteger left NotInteger b p q = absurd q
one_reason OfCountedInteger left a b p q = absurd p
one_reason (OfIdentifier count) left NotIdentifier NotIdentifier p q = refl
one_reason (OfIdentifier count) left NotIdentifier ArcOver p q = absurd (contents_or_large count left p q.0 q.2)
one_reason (OfIdentifier count) left NotIdentifier (Short n) p q = absurd (contents_or_short count n left p q.0 q.1)
one_reason (OfIdentifier count) left NotIdentifier b p q = absurd q
one_reason (OfIdentifier count) left ArcOver NotIdentifier p q = absurd (contents_or_large count left q p.0 p.2)
one_reason (OfIdentifier count) left ArcOver ArcOver p q = refl
one_reason (OfIdentifier count) left ArcOver (Short n) p q = absurd (let le = p.1 in let short = q.1 in omega arith)
one_reason (OfIdentifier count) left ArcOver b p q = absurd q
one_reason (OfIdentifier count) left (Short m) NotIdentifier p q = absurd (contents_or_short count m left q p.0 p.1)
one_reason (OfIdentifier count) left (Short m) ArcOver p q = absurd (let le = q.1 in let short = p.1 in omega arith)
one_reason (OfIdentifier count) left (Short m) (Short n) p q =
    same_short m n (missing_same (8 * count) m n left p.1 q.1)
one_reason (OfIdentifier count) left (Short m) b p q = absurd q
one_reason (OfIdentifier count) left a b p q = absurd p

-- ---- the first fault

-- what fields of the shapes begin, fields of the first of them begin
CanBegin-front : (list : List Bool) (shapes : List Shape) (k : ℕ) → CanBegin list shapes → CanBegin list (take k shapes)
CanBegin-front list shapes zero c = ([], list, Begins-none list)
CanBegin-front list [] (suc k) c = c
CanBegin-front list (shape ∷ shapes) (suc k) ([], rest, b) = absurd b.of_shapes
CanBegin-front list (shape ∷ shapes) (suc k) (field ∷ fields, rest, b) =
    let s = Begins-split list shape field shapes fields rest b in
    CanBegin-cons list shape field s.middle (take k shapes) s.first
    (CanBegin-front s.middle shapes k (fields, rest, s.others))

-- some fields precede the first fault
before_fault : (list : List Bool) (shapes : List Shape) (i : ℕ)
    → ((j : ℕ) → j < i → CanBegin list (take (j + 1) shapes)) → CanBegin list (take i shapes)
before_fault list shapes zero least = ([], list, Begins-none list)
before_fault list shapes (suc i) least =
    let n : i + 1 ≡ suc i = omega arith in
    subst (λ (k : ℕ). CanBegin list (take k shapes)) n (least i (omega arith))

same_reason : (list : List Bool) (shapes : List Shape) (i j : ℕ) (a b : Fault) → i ≡ j → IsFirstFault list shapes i a
    → IsFirstFault list shapes j b → a ≡ b
same_reason list shapes i j a b e p q =
    let other : IsFirstFault list shapes i b = subst (λ (k : ℕ). IsFirstFault list shapes k b) (sym e) q in
    let here = some_at shapes i p.within in
    let c = before_fault list shapes i p.least in
    one_reason here.0 c.1 a b (p.reason here.0 c.0 c.1 here.1 c.2) (other.reason here.0 c.0 c.1 here.1 c.2)

one_fault : (list : List Bool) (shapes : List Shape) (i j : ℕ) (a b : Fault) → IsFirstFault list shapes i a
    → IsFirstFault list shapes j b → (i ≡ j) × (a ≡ b)
one_fault list shapes i j a b p q = elim (cases_lt i j) [
  | inl lt ↦ absurd (p.wrong (q.least i lt))
  | inr le ↦ elim (cases_lt j i) [
    | inl lt ↦ absurd (q.wrong (p.least j lt))
    | inr ge ↦ let e : i ≡ j = omega arith in (e, same_reason list shapes i j a b e p q)
  ]
]

-- ---- the errors of reading

-- an error that names a field says where the first fault is, and which
record NamesFault (list : List Bool) (shapes : List Shape) (e : ReadError) : Type 0 where
  place : ℕ
  fault : Fault
  first : IsFirstFault list shapes place fault
  is : error_at place fault ≡ e

names_fault : (list : List Bool) (shapes : List Shape) (e : ReadError) → e ≢ reading.Memory
    → IsReadRefusal list shapes e → NamesFault list shapes e
names_fault list shapes (reading.NumberWidth i width) ne h =
    record { place = i; fault = NumberWidth width; first = h; is = refl }
names_fault list shapes (reading.Integer i) ne h = record { place = i; fault = NotInteger; first = h; is = refl }
names_fault list shapes (reading.Short i n) ne h = record { place = i; fault = Short n; first = h; is = refl }
names_fault list shapes (reading.Character i k) ne h = record { place = i; fault = NoCharacter k; first = h; is = refl }
names_fault list shapes (reading.Length i octet) ne h =
    record { place = i; fault = NoLength octet; first = h; is = refl }
names_fault list shapes (reading.Identifier i) ne h = record { place = i; fault = NotIdentifier; first = h; is = refl }
names_fault list shapes (reading.Arc i) ne h = record { place = i; fault = ArcOver; first = h; is = refl }
names_fault list shapes reading.Memory ne h = absurd (ne refl)

-- where fields begin the bits, no field is named
pub begun_unnamed : (list : List Bool) (shapes : List Shape) (e : ReadError) → CanBegin list shapes → e ≢ reading.Memory
    → IsReadRefusal list shapes e → ⊥
begun_unnamed list shapes e c ne h =
    let n = names_fault list shapes e ne h in
    n.first.wrong (CanBegin-front list shapes (n.place + 1) c)

-- an error that names a field is the only one
pub begun_is_memory : (list : List Bool) (shapes : List Shape) (e : ReadError) → CanBegin list shapes
    → IsReadRefusal list shapes e → e ≡ reading.Memory
begun_is_memory list shapes reading.Memory c p = refl
begun_is_memory list shapes e c p = absurd (begun_unnamed list shapes e c (λ (m : e ≡ reading.Memory). cc) p)

pub one_read_refusal : (list : List Bool) (shapes : List Shape) (d e : ReadError) → e ≢ reading.Memory
    → IsReadRefusal list shapes d → IsReadRefusal list shapes e → d ≡ e
one_read_refusal list shapes reading.Memory e ne p q = absurd (begun_unnamed list shapes e p ne q)
one_read_refusal list shapes d e ne p q =
    let a = names_fault list shapes d (λ (m : d ≡ reading.Memory). cc) p in
    let b = names_fault list shapes e ne q in
    let one = one_fault list shapes a.place b.place a.fault b.fault a.first b.first in
    sym a.is ∙ ap (λ (k : ℕ). error_at k a.fault) one.0 ∙ ap (λ (f : Fault). error_at b.place f) one.1 ∙ b.is

-- ---- the errors of writing

one_misfit_reason : (field : Field) (a b : Misfit) → IsMisfit field a → IsMisfit field b → a ≡ b
one_misfit_reason (Number value width) (WidthOver v) (WidthOver w) p q = ap (λ (k : ℕ). WidthOver k) (p.0 ∙ sym q.0)
one_misfit_reason (Number value width) (WidthOver v) PastWidth p q = absurd (omega arith)
one_misfit_reason (Number value width) (WidthOver v) b p q = absurd q
one_misfit_reason (Number value width) PastWidth (WidthOver w) p q = absurd (omega arith)
one_misfit_reason (Number value width) PastWidth PastWidth p q = refl
one_misfit_reason (Number value width) PastWidth b p q = absurd q
one_misfit_reason (Character alphabet c) (NotInAlphabet j) (NotInAlphabet k) p q =
    ap (λ (n : ℕ). NotInAlphabet n) (p.0 ∙ sym q.0)
one_misfit_reason (Character alphabet c) (NotInAlphabet j) b p q = absurd q
one_misfit_reason (CountedInteger n) PastLength PastLength p q = refl
one_misfit_reason (CountedInteger n) PastLength b p q = absurd q
one_misfit_reason (Identifier arcs) TooFewArcs TooFewArcs p q = refl
one_misfit_reason (Identifier arcs) TooFewArcs b p q = absurd q
one_misfit_reason field a b p q = absurd p

no_earlier : (fields : List Field) (i j : ℕ) (a b : Misfit) → IsFirstMisfit fields i a → IsFirstMisfit fields j b
    → i < j → ⊥
no_earlier fields i j a b p q lt =
    let here = some_at fields i p.within in
    p.wrong here.0 here.1 (q.least i here.0 lt here.1)

one_misfit : (fields : List Field) (i j : ℕ) (a b : Misfit) → IsFirstMisfit fields i a → IsFirstMisfit fields j b
    → (i ≡ j) × (a ≡ b)
one_misfit fields i j a b p q = elim (cases_lt i j) [
  | inl lt ↦ absurd (no_earlier fields i j a b p q lt)
  | inr le ↦ elim (cases_lt j i) [
    | inl lt ↦ absurd (no_earlier fields j i b a q p lt)
    | inr ge ↦
        let e : i ≡ j = omega arith in
        let other : IsFirstMisfit fields i b = subst (λ (k : ℕ). IsFirstMisfit fields k b) (sym e) q in
        let here = some_at fields i p.within in
        (e, one_misfit_reason here.0 a b (p.reason here.0 here.1) (other.reason here.0 here.1))
  ]
]

-- the error that names a misfit and its field
refused_at : ℕ → Misfit → WriteError
refused_at i (WidthOver width) = writing.NumberWidth i width
refused_at i PastWidth = writing.Number i
refused_at i (NotInAlphabet c) = writing.Character i c
refused_at i PastLength = writing.IntegerLength i
refused_at i TooFewArcs = writing.ArcCount i

record HasMisfit (fields : List Field) (e : WriteError) : Type 0 where
  place : ℕ
  misfit : Misfit
  first : IsFirstMisfit fields place misfit
  is : refused_at place misfit ≡ e

has_misfit : (fields : List Field) (e : WriteError) → NamesFirstMisfit fields e → HasMisfit fields e
unfolding refused_at
has_misfit fields (writing.NumberWidth i width) h = record { place = i; misfit = WidthOver width; first = h; is = refl }
has_misfit fields (writing.Number i) h = record { place = i; misfit = PastWidth; first = h; is = refl }
has_misfit fields (writing.Character i c) h = record { place = i; misfit = NotInAlphabet c; first = h; is = refl }
has_misfit fields (writing.IntegerLength i) h = record { place = i; misfit = PastLength; first = h; is = refl }
has_misfit fields (writing.ArcCount i) h = record { place = i; misfit = TooFewArcs; first = h; is = refl }
has_misfit fields writing.TooLong h = absurd h
has_misfit fields writing.Memory h = absurd h

same_misfit : (fields : List Field) (d e : WriteError) → NamesFirstMisfit fields d → NamesFirstMisfit fields e → d ≡ e
same_misfit fields d e p q =
    let a = has_misfit fields d p in
    let b = has_misfit fields e q in
    let one = one_misfit fields a.place b.place a.misfit b.misfit a.first b.first in
    sym a.is ∙ ap (λ (k : ℕ). refused_at k a.misfit) one.0 ∙ ap (λ (m : Misfit). refused_at b.place m) one.1 ∙ b.is

-- the fields fit, and lead past the greatest length from n bits on
abbrev pub LeadsTooFar : ℕ → List Field → WriteError → Type 0
LeadsTooFar n fields e = (list : List Bool) × AreSpelledBy fields list × (2 ^ 64 ≤ n + length list)
    × (e ≡ writing.TooLong)

misfit_or_length : (n : ℕ) (fields : List Field) (e : WriteError) → e ≢ writing.Memory → IsWriteRefusal n fields e
    → NamesFirstMisfit fields e ⊎ LeadsTooFar n fields e
misfit_or_length n fields writing.TooLong ne h = inr (h.0, h.1, h.2, refl)
misfit_or_length n fields writing.Memory ne h = absurd (ne refl)
misfit_or_length n fields e ne h = inl h

-- an error that names a field is the only one
pub one_write_refusal : (n : ℕ) (fields : List Field) (d e : WriteError) → NamesFirstMisfit fields d
    → e ≢ writing.Memory → IsWriteRefusal n fields e → d ≡ e
one_write_refusal n fields d e p ne q = elim (misfit_or_length n fields e ne q) [
  | inl h ↦ same_misfit fields d e p h
  | inr h ↦ absurd (names_none fields d h.0 p h.1)
]

-- where all fit, only the new length is left
pub only_too_long : (n : ℕ) (fields : List Field) (list : List Bool) (e : WriteError) → AreSpelledBy fields list
    → e ≢ writing.Memory → IsWriteRefusal n fields e → LeadsTooFar n fields e
only_too_long n fields list e s ne q = elim (misfit_or_length n fields e ne q) [
  | inl h ↦ absurd (names_none fields e list h s)
  | inr h ↦ h
]

-- the fields fit, and end past n bits or past what `usize` counts
abbrev pub EndPast : ℕ → ℕ → List Field → WriteError → Type 0
EndPast n place fields e = (list : List Bool) × AreSpelledBy fields list × IsPast n (place + length list)
    × (e ≡ writing.TooLong)

misfit_or_past : (n place : ℕ) (fields : List Field) (e : WriteError) → IsWriteAtRefusal n place fields e
    → NamesFirstMisfit fields e ⊎ EndPast n place fields e
misfit_or_past n place fields writing.TooLong h = inr (h.0, h.1, h.2, refl)
misfit_or_past n place fields writing.Memory h = absurd h
misfit_or_past n place fields e h = inl h

-- an error to write over bits that names a field is the only one
pub one_write_at_refusal : (n place : ℕ) (fields : List Field) (d e : WriteError) → NamesFirstMisfit fields d
    → IsWriteAtRefusal n place fields e → d ≡ e
one_write_at_refusal n place fields d e p q = elim (misfit_or_past n place fields e q) [
  | inl h ↦ same_misfit fields d e p h
  | inr h ↦ absurd (names_none fields d h.0 p h.1)
]

-- where all fit, only the end is left
pub only_past : (n place : ℕ) (fields : List Field) (list : List Bool) (e : WriteError) → AreSpelledBy fields list
    → IsWriteAtRefusal n place fields e → EndPast n place fields e
only_past n place fields list e s q = elim (misfit_or_past n place fields e q) [
  | inl h ↦ absurd (names_none fields e list h s)
  | inr h ↦ h
]
