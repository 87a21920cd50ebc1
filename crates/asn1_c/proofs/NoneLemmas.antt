-- What has a reason has no encoding, and encodings of one field are equally long.
use Rattle.std.proofs.Common.{◌≡◌, ℕ, ◌+◌, ◌*◌, ◌^◌, ◌≤◌, ℤ, inl, inr, Bool, true, false, List, ◌∷◌, ◌++◌, length, take, drop, refl, sym, ap, subst, ◌∙◌, arith, ◌⊎◌}
use Rattle.std.proofs.lemmas.Bool.{le-leb, lt-leb}
use Rattle.std.proofs.lemmas.List.{length-append, length-take, take_at, drop_at, take-take, drop-take}
use Rattle.asn1_bits.specs.Bits.{bits, digits, number}
use Rattle.asn1_bits.specs.Laws.DigitLaws.{length-digits, length-bits}
use Rattle.asn1_bits.specs.Laws.NumberLaws.{number_of-digits, same_octets}
use Rattle.asn1_number.specs.Octets.{IsShortest}
use Rattle.asn1_alphabets.specs.Alphabet.{Alphabet}
use Rattle.asn1_oid.specs.Contents.{IsContents, FitU32}
use Rattle.asn1_oid.specs.Laws.WritingLaws.{contents_only, some_contents, contents_octets}
use Rattle.asn1_oid.specs.Laws.ReadingLaws.{one_list_of_arcs}
use Rattle.asn1_values.specs.Fields as plain
use Rattle.asn1_values.specs.Fields.{IsOfShape, IsSpelledBy}
use Rattle.asn1_values.specs.Laws.SpellingLaws.{same_shortest}
use Rattle.asn1_values.specs.Wrong.{Fault, NumberWidth, NotInteger, Short, NoCharacter, NoLength, NotIdentifier, ArcOver, WidthOver, PastWidth, NotInAlphabet, PastLength, TooFewArcs, IsCount, first_octet, Misfit, IsMisfit, IsReason}
use Rattle.asn1_c.specs.declared.fields.Field.{Field}
use Rattle.asn1_c.specs.declared.fields.Refusal.{Refusal}
use Rattle.asn1_c.specs.Fields.{IsSpelledAt, Says, number_of_words}
use Rattle.asn1_c.specs.Writing.{by_number, IsNamedAs, IsNumberOf, LieIn, IsMisplaced, IsMisread, IsMiscounted, IsMiscountedThere, NamesMisfit, IsWrong}
use Rattle.asn1_c.proofs.OctetLemmas.{length-left, length-cut}

-- ---- equally long

-- a field that is written by its number has one length
numbered_length : (shape : plain.Shape) (f : Field) (x y : plain.Field) (a b : List Bool) → by_number shape f ≡ true
    → IsOfShape x shape → IsOfShape y shape → IsNumberOf f x → IsNumberOf f y → IsSpelledBy x a → IsSpelledBy y b
    → length a ≡ length b
numbered_length (plain.OfNumber w) f (plain.Number v i) (plain.Number u j) a b t sx sy nx ny p q =
    ap length p.2 ∙ length-digits v i ∙ sx ∙ sym sy ∙ sym (length-digits u j) ∙ sym (ap length q.2)
numbered_length (plain.OfInteger c) f (plain.Integer m) (plain.Integer n) a b t sx sy nx ny p q =
    let e : m ≡ n = sym nx ∙ ny in
    let o : p.0 ≡ q.0 = same_shortest n p.0 q.0 (subst (λ z. IsShortest z p.0) e p.1) q.1 in
    ap length p.2 ∙ ap (λ l. length (bits l)) o ∙ sym (ap length q.2)
numbered_length plain.OfCountedInteger f (plain.CountedInteger m) (plain.CountedInteger n) a b t sx sy nx ny p q =
    let e : m ≡ n = sym nx ∙ ny in
    let o : p.0 ≡ q.0 = same_shortest n p.0 q.0 (subst (λ z. IsShortest z p.0) e p.1) q.1 in
    ap length p.3 ∙ ap (λ l. length (bits (length l ∷ l))) o ∙ sym (ap length q.3)
numbered_length (plain.OfCharacter c) f (plain.Character x i) (plain.Character y j) a b t sx sy nx ny p q =
    ap length p.2 ∙ length-digits p.0 x.width ∙ ap (λ z. z.width) (sx ∙ sym sy) ∙ sym (length-digits q.0 y.width)
    ∙ sym (ap length q.2)
numbered_length (plain.OfNumber w) f (plain.Number v i) y a b t sx sy nx ny p q = absurd sy
numbered_length (plain.OfNumber w) f x y a b t sx sy nx ny p q = absurd sx
numbered_length (plain.OfInteger c) f (plain.Integer m) y a b t sx sy nx ny p q = absurd sy
numbered_length (plain.OfInteger c) f x y a b t sx sy nx ny p q = absurd sx
numbered_length plain.OfCountedInteger f (plain.CountedInteger m) y a b t sx sy nx ny p q = absurd sy
numbered_length plain.OfCountedInteger f x y a b t sx sy nx ny p q = absurd sx
numbered_length (plain.OfCharacter c) f (plain.Character x i) y a b t sx sy nx ny p q = absurd sy
numbered_length (plain.OfCharacter c) f x y a b t sx sy nx ny p q = absurd sx
numbered_length (plain.OfOctets c) f x y a b t sx sy nx ny p q = absurd cc
numbered_length (plain.OfBits c) f x y a b t sx sy nx ny p q = absurd cc
numbered_length (plain.OfIdentifier c) f x y a b t sx sy nx ny p q = absurd cc

either : (b : Bool) → (b ≡ true) ⊎ (b ≡ false)
either true = inl refl
either false = inr refl

pub same_length : (source : List ℕ) (shape : plain.Shape) (f : Field) (a b : List Bool) → IsNamedAs source shape f a
    → IsNamedAs source shape f b → length a ≡ length b
same_length source shape f a b x y = elim (either (by_number shape f)) [
  | inl t ↦ numbered_length shape f x.field y.field a b t x.of_shape y.of_shape (x.numbered t) (y.numbered t)
      x.spelled y.spelled
  | inr e ↦ (let p = x.lies e in let q = y.lies e in ap length (p.1 ∙ sym q.1))
]

-- ---- what has a reason has no encoding

lying_length : (source : List ℕ) (f : Field) (list : List Bool) → LieIn source f list → length list ≡ f.length
lying_length source f list lies = ap length lies.1 ∙ length-cut source f.first f.length lies.0

placed_wrong : (source : List ℕ) (need : ℕ) (f : Field) (r : Refusal) (list : List Bool) → IsMisplaced source need f r
    → LieIn source f list → length list ≡ need → ⊥
placed_wrong source need f r list (inl p) lies n = p.1 (sym (lying_length source f list lies) ∙ n)
placed_wrong source need f r list (inr p) lies n = let lt = p.2 in let le = lies.0 in omega arith

number_never : (v width : ℕ) (r : Refusal) (list : List Bool) → NamesMisfit (plain.Number v width) r
    → IsSpelledBy (plain.Number v width) list → ⊥
number_never v width r list m p = by_misfit m.misfit m.reason
  where
    by_misfit : (x : Misfit) → IsMisfit (plain.Number v width) x → ⊥
    by_misfit (WidthOver w) i = let lt = i.1 in let le = p.0 in omega arith
    by_misfit PastWidth i = let le = i.1 in let lt = p.1 in omega arith
    by_misfit (NotInAlphabet c) i = absurd i
    by_misfit PastLength i = absurd i
    by_misfit TooFewArcs i = absurd i

character_never : (a : Alphabet) (c : ℕ) (r : Refusal) (list : List Bool) → NamesMisfit (plain.Character a c) r
    → IsSpelledBy (plain.Character a c) list → ⊥
character_never a c r list m p = by_misfit m.misfit m.reason
  where
    by_misfit : (x : Misfit) → IsMisfit (plain.Character a c) x → ⊥
    by_misfit (NotInAlphabet d) i = i.1 p.0 p.1
    by_misfit (WidthOver w) i = absurd i
    by_misfit PastWidth i = absurd i
    by_misfit PastLength i = absurd i
    by_misfit TooFewArcs i = absurd i

-- the bits that are left begin with the octet that counts others, and these
record IsBegun (left : List Bool) (m : ℕ) (o : List ℕ) : Type 0 where
  len : m ≡ 8 + 8 * length o
  octet : first_octet left ≡ length o
  others : take (8 * length o) (drop 8 left) ≡ bits o

begun : (left : List Bool) (m : ℕ) (o : List ℕ) → length o ≤ 127 → m ≤ length left → take m left ≡ bits (length o ∷ o)
    → IsBegun left m o
unfolding bits
begun left m o few enough is =
    let whole : take m left ≡ digits (length o) 8 ++ bits o = is in
    let n : m ≡ 8 + 8 * length o =
    omega (
      arith,
      ap length whole,
      length-append (digits (length o) 8) (bits o),
      length-digits (length o) 8,
      length-bits o,
      length-take m left,
    ) in
    let first : take 8 left ≡ digits (length o) 8 =
    sym (take-take 8 m left (omega arith)) ∙ ap (take 8) whole
    ∙ take_at (digits (length o) 8) (bits o) 8 (length-digits (length o) 8) in
    record {
      len = n;
      octet = ap number first ∙ number_of-digits (length o) 8 (omega arith);
      others =
          sym (drop-take 8 (8 * length o) left) ∙ ap (λ (k : ℕ). drop 8 (take k left)) (sym n) ∙ ap (drop 8) whole
          ∙ drop_at (digits (length o) 8) (bits o) 8 (length-digits (length o) 8);
    }

-- bits of the source, of which no field can be read
module _ (source : List ℕ) (f : Field) (list : List Bool) (lies : LieIn source f list) where
  there : List Bool
  there = drop f.first (bits source)

  front_is : take f.length (drop f.first (bits source)) ≡ list
  front_is = sym lies.1

  enough_there : f.length ≤ length (drop f.first (bits source))
  enough_there = let le = lies.0 in omega (arith, length-left source f.first)

  pub integer_never : (count : ℕ) (fault : Fault) (n : ℤ) → IsReason (plain.OfInteger count) (drop f.first (bits source)) fault
      → f.length ≡ 8 * count → IsSpelledBy (plain.Integer n) list → ⊥
  integer_never count NotInteger n (inl none) len p =
      let s = p.1.some in
      omega (arith, ap length p.2, length-bits p.0, lying_length source f list lies)
  integer_never count NotInteger n (inr none) len p =
      none.1 p.0 n (ap (λ (k : ℕ). take k (drop f.first (bits source))) (sym len) ∙ front_is ∙ p.2) p.1
  integer_never count (Short k) n short len p =
      let some = short.1.0 in let e = short.1.1 in omega (arith, enough_there)
  integer_never count (NumberWidth w) n i len p = absurd i
  integer_never count (NoCharacter k) n i len p = absurd i
  integer_never count (NoLength k) n i len p = absurd i
  integer_never count NotIdentifier n i len p = absurd i
  integer_never count ArcOver n i len p = absurd i

  pub identifier_never : (count : ℕ) (fault : Fault) (arcs : List ℕ)
      → IsReason (plain.OfIdentifier count) (drop f.first (bits source)) fault
      → f.length ≡ 8 * count → IsSpelledBy (plain.Identifier arcs) list → ⊥
  identifier_never count NotIdentifier arcs (inl none) len p =
      some_contents arcs p.0 p.1 (omega (arith, ap length p.3, length-bits p.0, lying_length source f list lies))
  identifier_never count NotIdentifier arcs (inr none) len p =
      none.1 p.0 arcs (ap (λ (k : ℕ). take k (drop f.first (bits source))) (sym len) ∙ front_is ∙ p.3) p.1
  identifier_never count ArcOver arcs large len p =
      let same : bits large.2.0 ≡ bits p.0 =
      sym large.2.2 ∙ ap (λ (k : ℕ). take k (drop f.first (bits source))) (sym len) ∙ front_is ∙ p.3 in
      let o : large.2.0 ≡ p.0 =
      same_octets large.2.0 p.0 (contents_octets large.2.1 large.2.0 large.2.3) (contents_octets arcs p.0 p.1) same in
      let one : large.2.1 ≡ arcs =
      one_list_of_arcs large.2.1 arcs p.0 (subst (IsContents large.2.1) o large.2.3) p.1 in
      large.2.4 (subst FitU32 (sym one) p.2)
  identifier_never count (Short k) arcs short len p =
      let some = short.1.0 in let e = short.1.1 in omega (arith, enough_there)
  identifier_never count (NumberWidth w) arcs i len p = absurd i
  identifier_never count NotInteger arcs i len p = absurd i
  identifier_never count (NoCharacter k) arcs i len p = absurd i
  identifier_never count (NoLength k) arcs i len p = absurd i

  pub counted_never : (fault : Fault) (n : ℤ)
      → IsReason plain.OfCountedInteger (drop f.first (bits source)) fault
      → IsSpelledBy (plain.CountedInteger n) list → ⊥
  counted_never fault n i p = by_fault fault i
    where
      at : IsBegun (drop f.first (bits source)) f.length p.0
      at = begun (drop f.first (bits source)) f.length p.0 p.2 enough_there (front_is ∙ p.3)

      cut_short : (m : ℕ) → IsReason plain.OfCountedInteger (drop f.first (bits source)) (Short m) → ⊥
      cut_short m (inl short) =
          let some = short.0 in let e = short.1 in let l = at.len in omega (arith, enough_there)
      cut_short m (inr short) =
          let some = short.2.0 in
          let e = short.2.1 in
          let l = at.len in
          omega (arith, enough_there, at.octet)

      by_fault : (x : Fault) → IsReason plain.OfCountedInteger (drop f.first (bits source)) x → ⊥
      by_fault (Short m) short = cut_short m short
      by_fault (NoLength octet) why =
          let few = p.2 in
          let some = p.1.some in
          why.2 (subst IsCount (sym (why.1 ∙ at.octet)) (omega arith, few))
      by_fault NotInteger why =
          why.2 p.0 n (ap (λ (k : ℕ). take (8 * k) (drop 8 (drop f.first (bits source)))) at.octet ∙ at.others) p.1
      by_fault (NumberWidth w) j = absurd j
      by_fault (NoCharacter k) j = absurd j
      by_fault NotIdentifier j = absurd j
      by_fault ArcOver j = absurd j

  pub counted_only : (g : Field) → IsSpelledAt source f.first plain.OfCountedInteger g → (n : ℤ)
      → IsSpelledBy (plain.CountedInteger n) list → g.length ≡ f.length
  counted_only g s n p = by_field s.field s.of_shape s.spelled
    where
      mine : IsBegun (drop f.first (bits source)) f.length p.0
      mine = begun (drop f.first (bits source)) f.length p.0 p.2 enough_there (front_is ∙ p.3)

      enough : g.length ≤ length (drop f.first (bits source))
      enough = let le = s.within in let e = s.first in omega (arith, length-left source f.first)

      by_field : (x : plain.Field) → IsOfShape x plain.OfCountedInteger
          → IsSpelledBy x (take g.length (drop f.first (bits source))) → g.length ≡ f.length
      by_field (plain.CountedInteger m) of q =
          let yours = begun (drop f.first (bits source)) g.length q.0 q.2 enough q.3 in
          omega (arith, mine.len, mine.octet, yours.len, yours.octet)
      by_field x of q = absurd of

-- ---- each shape

-- the bits of shortest octets and of contents are as many as the shape says
integer_length : (count : ℕ) (n : ℤ) (list : List Bool) → IsOfShape (plain.Integer n) (plain.OfInteger count)
    → IsSpelledBy (plain.Integer n) list → length list ≡ 8 * count
integer_length count n list of p =
    ap length p.2 ∙ length-bits p.0
    ∙ ap (λ (k : ℕ). 8 * k) (ap length (same_shortest n p.0 of.0 p.1 of.1) ∙ of.2)

identifier_length : (count : ℕ) (arcs : List ℕ) (list : List Bool)
    → IsOfShape (plain.Identifier arcs) (plain.OfIdentifier count)
    → IsSpelledBy (plain.Identifier arcs) list → length list ≡ 8 * count
identifier_length count arcs list (inl of) p =
    ap length p.3 ∙ length-bits p.0
    ∙ ap (λ (k : ℕ). 8 * k) (ap length (contents_only arcs p.0 of.0 p.1 of.1) ∙ of.2)
identifier_length count arcs list (inr one) p = absurd (let two = p.1.two in let n = one.0 in omega arith)

number_case : (w : ℕ) (f : Field) (r : Refusal) (x : plain.Field) (list : List Bool)
    → NamesMisfit (plain.Number (number_of_words f.high f.low) w) r → IsOfShape x (plain.OfNumber w)
    → IsSpelledBy x list → IsNumberOf f x → ⊥
number_case w f r (plain.Number v i) list m of p n =
    number_never v i r list
    (subst (λ (k : ℕ). NamesMisfit (plain.Number k i) r) n
    (subst (λ (j : ℕ). NamesMisfit (plain.Number (number_of_words f.high f.low) j) r) (sym of) m)) p
number_case w f r x list m of p n = absurd of

octets_case : (source : List ℕ) (count : ℕ) (f : Field) (r : Refusal) (x : plain.Field) (list : List Bool)
    → IsMisplaced source (8 * count) f r → IsOfShape x (plain.OfOctets count) → IsSpelledBy x list
    → LieIn source f list → ⊥
octets_case source count f r (plain.Octets o) list m of p lies =
    placed_wrong source (8 * count) f r list m lies (ap length p.1 ∙ length-bits o ∙ ap (λ (k : ℕ). 8 * k) of)
octets_case source count f r x list m of p lies = absurd of

bits_case : (source : List ℕ) (count : ℕ) (f : Field) (r : Refusal) (x : plain.Field) (list : List Bool)
    → IsMisplaced source count f r → IsOfShape x (plain.OfBits count) → IsSpelledBy x list
    → LieIn source f list → ⊥
bits_case source count f r (plain.Bits v) list m of p lies =
    placed_wrong source count f r list m lies (ap length p ∙ of)
bits_case source count f r x list m of p lies = absurd of

counts_case : (count : ℕ) (f : Field) (r : Refusal) (x : plain.Field) → IsMiscounted count f r
    → IsOfShape x (plain.OfInteger count) → IsNumberOf f x → ⊥
counts_case count f r (plain.Integer n) m of is =
    m.3
    (ap length (same_shortest n m.0 of.0 (subst (λ (z : ℤ). IsShortest z m.0) is m.1) of.1) ∙ of.2)
counts_case count f r x m of is = absurd of

integer_case : (source : List ℕ) (count : ℕ) (f : Field) (r : Refusal) (x : plain.Field) (list : List Bool)
    → IsMisread source (plain.OfInteger count) (8 * count) f r → IsOfShape x (plain.OfInteger count)
    → IsSpelledBy x list → LieIn source f list → ⊥
integer_case source count f r (plain.Integer n) list (inl m) of p lies =
    placed_wrong source (8 * count) f r list m lies (integer_length count n list of p)
integer_case source count f r (plain.Integer n) list (inr m) of p lies =
    integer_never source f list lies count m.2.fault n m.2.reason m.0 p
integer_case source count f r x list m of p lies = absurd of

identifier_case : (source : List ℕ) (count : ℕ) (f : Field) (r : Refusal) (x : plain.Field) (list : List Bool)
    → IsMisread source (plain.OfIdentifier count) (8 * count) f r → IsOfShape x (plain.OfIdentifier count)
    → IsSpelledBy x list → LieIn source f list → ⊥
identifier_case source count f r (plain.Identifier arcs) list (inl m) of p lies =
    placed_wrong source (8 * count) f r list m lies (identifier_length count arcs list of p)
identifier_case source count f r (plain.Identifier arcs) list (inr m) of p lies =
    identifier_never source f list lies count m.2.fault arcs m.2.reason m.0 p
identifier_case source count f r x list m of p lies = absurd of

counted_case : (source : List ℕ) (f : Field) (r : Refusal) (x : plain.Field) (list : List Bool)
    → IsMiscountedThere source f r → IsOfShape x plain.OfCountedInteger → IsSpelledBy x list → LieIn source f list → ⊥
counted_case source f r (plain.CountedInteger n) list (inl m) of p lies =
    let lt = m.1 in let le = lies.0 in omega arith
counted_case source f r (plain.CountedInteger n) list (inr (inl m)) of p lies =
    counted_never source f list lies m.1.fault n m.1.reason p
counted_case source f r (plain.CountedInteger n) list (inr (inr m)) of p lies =
    m.1.2 (counted_only source f list lies m.1.0 m.1.1 n p)
counted_case source f r x list m of p lies = absurd of

character_case : (a : Alphabet) (f : Field) (r : Refusal) (x : plain.Field) (list : List Bool)
    → (Says r 5 0 × (2 ^ 32 ≤ f.low)) ⊎ NamesMisfit (plain.Character a f.low) r
    → IsOfShape x (plain.OfCharacter a) → IsSpelledBy x list → IsNumberOf f x → ⊥
character_case a f r (plain.Character b c) list (inl m) of p n =
    let le = m.1 in let e = n.0 in let lt = n.1 in omega arith
character_case a f r (plain.Character b c) list (inr m) of p n =
    character_never b c r list
    (subst (λ (k : ℕ). NamesMisfit (plain.Character b k) r) n.0
    (subst (λ (x : Alphabet). NamesMisfit (plain.Character x f.low) r) (sym of) m)) p
character_case a f r x list m of p n = absurd of

pub wrong_none : (source : List ℕ) (shape : plain.Shape) (f : Field) (r : Refusal) (list : List Bool)
    → IsWrong source shape f r → IsNamedAs source shape f list → ⊥
wrong_none source (plain.OfNumber w) f r list m x =
    number_case w f r x.field list m x.of_shape x.spelled (x.numbered refl)
wrong_none source (plain.OfOctets count) f r list m x =
    octets_case source count f r x.field list m x.of_shape x.spelled (x.lies refl)
wrong_none source (plain.OfBits count) f r list m x =
    bits_case source count f r x.field list m x.of_shape x.spelled (x.lies refl)
wrong_none source (plain.OfInteger count) f r list (inl m) x =
    counts_case count f r x.field m.1 x.of_shape (x.numbered (le-leb f.length 128 m.0))
wrong_none source (plain.OfInteger count) f r list (inr m) x =
    integer_case source count f r x.field list m.1 x.of_shape x.spelled (x.lies (lt-leb f.length 128 m.0))
wrong_none source plain.OfCountedInteger f r list m x =
    counted_case source f r x.field list m.1 x.of_shape x.spelled (x.lies (lt-leb f.length 136 m.0))
wrong_none source (plain.OfCharacter a) f r list m x =
    character_case a f r x.field list m x.of_shape x.spelled (x.numbered refl)
wrong_none source (plain.OfIdentifier count) f r list m x =
    identifier_case source count f r x.field list m x.of_shape x.spelled (x.lies refl)
