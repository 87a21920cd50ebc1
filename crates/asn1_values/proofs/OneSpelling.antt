-- Fields have one encoding, if no alphabet has a character with two codes.
use Rattle.std.proofs.Common.{inl, inr, arith, ◌≡◌, ℕ, ◌+◌, ◌*◌, List, [], ◌∷◌, ◌++◌, Bool, Option, Some, None, length, sym, ap, subst, ◌∙◌}
use Rattle.std.specs.Prelude.{IfSome}
use Rattle.asn1_alphabets.specs.Alphabet.{Alphabet}
use Rattle.asn1_oid.specs.Contents.{IsContents}
use Rattle.asn1_oid.specs.Laws.WritingLaws.{contents_only}
use Rattle.asn1_values.specs.Laws.SpellingLaws.{same_shortest, all_one}
use Rattle.asn1_values.specs.Fields as plain
use Rattle.asn1_values.specs.Fields.{IsSpelledBy, IsOfShape, AreSpelledBy, GivesOneCodeEach, HasOneSpelling, HaveOneSpelling, GivesOneSpelling, GiveOneSpelling, Begins, need, needs, Number, Octets, Bits, Integer, Character, CountedInteger, Identifier, HasContentsLength, OfNumber, OfOctets, OfBits, OfInteger, OfCharacter, OfCountedInteger, OfIdentifier}
use Rattle.std.specs.List.{AllZip}
use Rattle.std.proofs.lemmas.List.{length-append}
use Rattle.asn1_bits.specs.Laws.DigitLaws.{length-digits, length-bits}

-- fields use the alphabets of their shapes
pub in_one_code : (fs : List plain.Field) (ss : List plain.Shape) → AllZip IsOfShape fs ss → GiveOneSpelling ss
    → HaveOneSpelling fs
in_one_code [] [] z r = tt
in_one_code [] (s ∷ ss) z r = absurd z
in_one_code (f ∷ fs) [] z r = absurd z
in_one_code (f ∷ fs) (s ∷ ss) z r = (one f s z.0 r.0, in_one_code fs ss z.1 r.1)
  where
    one : (f : plain.Field) (s : plain.Shape) → IsOfShape f s → GivesOneSpelling s → HasOneSpelling f
    one (Number value width) s shape codes = tt
    one (Octets octets) s shape codes = tt
    one (Bits view) s shape codes = tt
    one (Integer n) s shape codes = tt
    one (Character a c) (OfCharacter b) shape codes = subst (λ (x : Alphabet). GivesOneCodeEach x) (sym shape) codes
    one (Character a c) s shape codes = absurd shape
    one (CountedInteger n) s shape codes = tt
    one (Identifier arcs) s shape codes = tt

pub written_again : (fs : List plain.Field) (old left : List Bool) (shapes : List plain.Shape)
    → Begins old shapes fs left → GiveOneSpelling shapes → (list : List Bool) → AreSpelledBy fs list
    → old ≡ list ++ left
written_again fs old left shapes b one list s = b.parts
    ∙ ap (λ (l : List Bool). l ++ left) (all_one fs b.front list (in_one_code fs shapes b.of_shapes one) b.spelled s)

-- the contents have `count` octets
pub contents_length : (arcs octets : List ℕ) (count : ℕ) → IsContents arcs octets → HasContentsLength arcs count
    → length octets ≡ count
contents_length arcs octets count c (inl h) = ap length (contents_only arcs octets h.0 c h.1) ∙ h.2
contents_length arcs octets count c (inr h) = absurd (let two = c.two in let one = h.0 in omega arith)

-- every encoding of a field of the shape has the bits that the shape needs, if it names their number
pub length-spelled : (shape : plain.Shape) (field : plain.Field) (list : List Bool) → IsOfShape field shape
    → IsSpelledBy field list → IfSome (need shape) (λ n. length list ≡ n)
length-spelled (OfNumber w) (Number value width) list shape s = ap length s.2 ∙ length-digits value width ∙ shape
length-spelled (OfOctets count) (Octets octets) list shape s = ap length s.1 ∙ length-bits octets
    ∙ ap (λ (n : ℕ). 8 * n) shape
length-spelled (OfBits len) (Bits view) list shape s = ap length s ∙ shape
length-spelled (OfInteger count) (Integer n) list shape s =
    ap length s.2 ∙ length-bits s.0 ∙ ap (λ (o : List ℕ). 8 * length o) (same_shortest n s.0 shape.0 s.1 shape.1)
    ∙ ap (λ (k : ℕ). 8 * k) shape.2
length-spelled (OfCharacter alphabet) (Character a c) list shape s = ap length s.2 ∙ length-digits s.0 a.width
    ∙ ap (λ (x : Alphabet). x.width) shape
length-spelled OfCountedInteger field list shape s = tt
length-spelled (OfIdentifier count) (Identifier arcs) list shape s =
    ap length s.3 ∙ length-bits s.0 ∙ ap (λ (k : ℕ). 8 * k) (contents_length arcs s.0 count s.1 shape)
length-spelled shape field list of_shape s = absurd of_shape

-- ---- lists of fields whose shapes have their numbers of bits

sum_is : (a b : Option ℕ) (x y : ℕ) → IfSome a (λ n. x ≡ n) → IfSome b (λ n. y ≡ n)
    → IfSome (plain.sum_known a b) (λ n. x + y ≡ n)
sum_is (Some m) (Some n) x y p q = omega arith
sum_is (Some m) None x y p q = tt
sum_is None b x y p q = tt

pub equally_long : (shapes : List plain.Shape) (fields : List plain.Field) (list : List Bool)
    → AllZip IsOfShape fields shapes → AreSpelledBy fields list → IfSome (needs shapes) (λ n. length list ≡ n)
equally_long [] [] list z s = ap length s
equally_long [] (f ∷ fields) list z s = absurd z
equally_long (shape ∷ shapes) [] list z s = absurd z
equally_long (shape ∷ shapes) (f ∷ fields) list z s =
    let sum : length list ≡ length s.0 + length s.1 = ap length s.4 ∙ length-append s.0 s.1 in
    let known =
    sum_is (need shape) (needs shapes) (length s.0) (length s.1) (length-spelled shape f s.0 z.0 s.2)
    (equally_long shapes fields s.1 z.1 s.3) in
    subst (λ (k : ℕ). IfSome (needs (shape ∷ shapes)) (λ n. k ≡ n)) (sym sum) known

-- and the fields take that many bits of what they begin
moved_by : (known : Option ℕ) (front rest whole : List Bool) → whole ≡ front ++ rest
    → IfSome known (λ n. length front ≡ n) → IfSome known (λ n. length whole ≡ n + length rest)
moved_by (Some n) front rest whole parts len = omega (arith, ap length parts, length-append front rest)
moved_by None front rest whole parts len = tt

pub moved : (shapes : List plain.Shape) (fields : List plain.Field) (whole rest : List Bool)
    → Begins whole shapes fields rest → IfSome (needs shapes) (λ n. length whole ≡ n + length rest)
moved shapes fields whole rest b =
    moved_by (needs shapes) b.front rest whole b.parts (equally_long shapes fields b.front b.of_shapes b.spelled)
