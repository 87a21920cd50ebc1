-- Laws of encodings: fields have one, if no alphabet has a character with two codes.
use Rattle.std.proofs.Common.{◌≡◌, ℕ, List, [], ◌∷◌, ◌++◌, Bool, length, sym, ap, ◌∙◌}
use Rattle.std.specs.Prelude.{ℤ}
use Rattle.asn1_bits.specs.Bits.{digits, bits}
use Rattle.asn1_number.specs.Octets.{IsShortest}
use Rattle.asn1_number.specs.Laws.LawsHold.{one_shortest_list}
use Rattle.asn1_oid.specs.Laws.WritingLaws.{contents_only}
use Rattle.asn1_values.specs.Fields as plain
use Rattle.asn1_values.specs.Fields.{IsSpelledBy, AreSpelledBy, HasOneSpelling, HaveOneSpelling, Number, Octets, Bits, Integer, Character, CountedInteger, Identifier}

-- a number has one shortest list of octets
pub same_shortest : (n : ℤ) (o p : List ℕ) → IsShortest n o → IsShortest n p → o ≡ p
same_shortest n o p s t = let one = one_shortest_list n in one.2 o s ∙ sym (one.2 p t)

-- a field has one encoding
one_spelling : (f : plain.Field) (a b : List Bool) → HasOneSpelling f → IsSpelledBy f a → IsSpelledBy f b → a ≡ b
one_spelling (Number value width) a b one p q = p.2 ∙ sym q.2
one_spelling (Octets octets) a b one p q = p.1 ∙ sym q.1
one_spelling (Bits view) a b one p q = p ∙ sym q
one_spelling (Integer n) a b one p q = p.2 ∙ ap bits (same_shortest n p.0 q.0 p.1 q.1) ∙ sym q.2
one_spelling (Character alphabet c) a b one p q = p.2 ∙ ap (λ (k : ℕ). digits k alphabet.width) (one c p.0 q.0 p.1 q.1)
    ∙ sym q.2
one_spelling (CountedInteger n) a b one p q = p.3
    ∙ ap (λ (o : List ℕ). bits (length o ∷ o)) (same_shortest n p.0 q.0 p.1 q.1) ∙ sym q.3
one_spelling (Identifier arcs) a b one p q = p.3 ∙ ap bits (contents_only arcs p.0 q.0 p.1 q.1) ∙ sym q.3

-- and so have fields
pub all_one : (fs : List plain.Field) (a b : List Bool) → HaveOneSpelling fs → AreSpelledBy fs a → AreSpelledBy fs b
    → a ≡ b
all_one [] a b one p q = p ∙ sym q
all_one (f ∷ fs) a b one p q =
    let first : p.0 ≡ q.0 = one_spelling f p.0 q.0 one.0 p.2 q.2 in
    let others : p.1 ≡ q.1 = all_one fs p.1 q.1 one.1 p.3 q.3 in
    p.4 ∙ ap (λ (l : List Bool). l ++ p.1) first ∙ ap (λ (l : List Bool). q.0 ++ l) others ∙ sym q.4
