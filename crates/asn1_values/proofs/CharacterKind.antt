-- The laws of characters as fields.
use Rattle.std.proofs.Common.{◌≡◌, ℕ, ◌^◌, ◌<◌, ◌≤◌, Bool, true, false, cond, List, ◌++◌, length, take, Option, Some, None, Ok, Err, refl, sym, ap, subst, ◌∙◌, arith, slice_get}
use Rattle.std.specs.Prelude.{MatchBool}
use Rattle.std.proofs.lemmas.Bool.{le-ltb}
use Rattle.std.proofs.lemmas.List.{length-append, take_at, take-take}
use Rattle.std.proofs.lemmas.Option.{cond_some}
use Rattle.asn1_bits.specs.Bits.{digits, number}
use Rattle.asn1_bits.specs.Laws.DigitLaws.{length-digits}
use Rattle.asn1_bits.specs.Laws.NumberLaws.{number_of-digits, digits_of-number}
use Rattle.asn1_strings.specs.Sets.{has_character}
use Rattle.asn1_alphabets.specs.Alphabet.{Alphabet, IsCode}
use Rattle.asn1_values.specs.Fields.{Field, IsSpelledBy, IsOfShape, Character, OfCharacter}
use Rattle.asn1_values.specs.Wrong.{Fault, NoCharacter, IsReason}
use Rattle.asn1_values.specs.Walk.{character_of, character_or_none, character_content, cut_at, field_at}
use Rattle.asn1_values.proofs.ExactKinds.{IsExact, cut_exact, held_is, no_fault, fault_is, no_field}

-- ---- the character of a code

code_of : (indexed : Bool) (set : List ℕ) (c k : ℕ)
    → cond indexed (slice_get set k) (cond (has_character set k) (Some k) None) ≡ Some c
    → MatchBool indexed (slice_get set k ≡ Some c) ((has_character set c ≡ true) × (k ≡ c))
code_of true set c k e = e
code_of false set c k e =
    let p = cond_some (has_character set k) k c e in
    (subst (λ (x : ℕ). has_character set x ≡ true) p.1 p.0, p.1)

decoded_of : (indexed : Bool) (set : List ℕ) (c k : ℕ)
    → MatchBool indexed (slice_get set k ≡ Some c) ((has_character set c ≡ true) × (k ≡ c))
    → cond indexed (slice_get set k) (cond (has_character set k) (Some k) None) ≡ Some c
decoded_of true set c k e = e
decoded_of false set c k e =
    let here : has_character set k ≡ true = subst (λ (x : ℕ). has_character set x ≡ true) (sym e.1) e.0 in
    ap (λ (b : Bool). cond b (Some k) None) here ∙ ap (λ (x : ℕ). Some x) e.1

pub code_from_character : (a : Alphabet) (c k : ℕ) → character_of a k ≡ Some c → IsCode a c k
code_from_character a c k e = code_of a.indexed a.characters c k e

pub character_from_code : (a : Alphabet) (c k : ℕ) → IsCode a c k → character_of a k ≡ Some c
character_from_code a c k code = decoded_of a.indexed a.characters c k code

no_character : (o : Option ℕ) (c : ℕ) → o ≡ Some c → o ≡ None → ⊥
no_character o c x y = absurd cc

-- what has no code decodes to nothing
pub none_from_no_code : (a : Alphabet) (k : ℕ) → ((c : ℕ) → ¬ (IsCode a c k)) → character_of a k ≡ None
none_from_no_code a k none = by_option (character_of a k) refl
  where
    by_option : (o : Option ℕ) → character_of a k ≡ o → character_of a k ≡ None
    by_option (Some c) e = absurd (none c (code_from_character a c k e))
    by_option None e = e

-- ---- characters as fields

held_character : (a : Alphabet) (k : ℕ) (o : Option ℕ) (field : Field) → character_or_none a k o ≡ Ok field → (c : ℕ)
    × (o ≡ Some c) × (Character a c ≡ field)
held_character a k (Some c) field h = (c, refl, held_is _ _ h)
held_character a k None field h = absurd (no_field _ _ h)

held_none : (a : Alphabet) (k : ℕ) (o : Option ℕ) (fault : Fault) → character_or_none a k o ≡ Err fault → (o ≡ None)
    × (NoCharacter k ≡ fault)
held_none a k (Some c) fault h = absurd (no_fault _ _ h)
held_none a k None fault h = (refl, fault_is _ _ h)

pub character_exact : (a : Alphabet) → ((c k : ℕ) → IsCode a c k → k < 2 ^ a.width)
    → IsExact (OfCharacter a) (field_at (OfCharacter a))
unfolding field_at
character_exact a fit =
    cut_exact (OfCharacter a) a.width (character_content a)
    (record { taken = taken; again = again; reason = reason; short = λ list k s. s })
  where
    taken : (front : List Bool) (field : Field) → length front ≡ a.width → character_content a front ≡ Ok field
        → IsOfShape field (OfCharacter a) × IsSpelledBy field front
    taken front field len e =
        let h = held_character a (number front) (character_of a (number front)) field e in
        subst (λ (f : Field). IsOfShape f (OfCharacter a) × IsSpelledBy f front) h.2
        (refl, (number front, code_from_character a h.0 (number front) h.1, sym (digits_of-number front a.width len)))

    again : (field : Field) (front : List Bool) → IsOfShape field (OfCharacter a) → IsSpelledBy field front
        → (length front ≡ a.width) × (character_content a front ≡ Ok field)
    again (Character b c) front shape s =
        let k = s.0 in
        let code : IsCode a c k = subst (λ (x : Alphabet). IsCode x c k) shape s.1 in
        let is : front ≡ digits k a.width = s.2 ∙ ap (λ (x : Alphabet). digits k x.width) shape in
        let n : number front ≡ k = ap number is ∙ number_of-digits k a.width (fit c k code) in
        let d : character_of a (number front) ≡ Some c = ap (character_of a) n ∙ character_from_code a c k code in (
          ap length is ∙ length-digits k a.width,
          ap (λ (o : Option ℕ). character_or_none a (number front) o) d
              ∙ ap (λ (x : Alphabet). Ok (Character x c)) (sym shape),
        )
    again field front shape s = absurd shape

    reason : (front rest : List Bool) (fault : Fault) → length front ≡ a.width → character_content a front ≡ Err fault
        → IsReason (OfCharacter a) (front ++ rest) fault
    reason front rest fault len e =
        let h = held_none a (number front) (character_of a (number front)) fault e in
        let cut : take a.width (front ++ rest) ≡ front = take_at front rest a.width len in
        subst (λ (f : Fault). IsReason (OfCharacter a) (front ++ rest) f) h.1 (
          omega (arith, length-append front rest),
          ap number (sym cut),
          λ c code. no_character
              (character_of a (number front)) c (character_from_code a c (number front) code) h.0,
        )

-- ---- what is read of them

pub character_refused : (a : Alphabet) (list : List Bool) (k : ℕ) → a.width ≤ length list
    → k ≡ number (take a.width list) → ((c : ℕ) → ¬ (IsCode a c k))
    → field_at (OfCharacter a) list ≡ Err (NoCharacter k)
unfolding field_at cut_at
character_refused a list k le is none =
    rw (le-ltb _ _ le, sym is, none_from_no_code a k none) refl

-- a front that was cut off before
pub cut_twice : (n : ℕ) (list front : List Bool) → front ≡ take n list → take n front ≡ take n list
cut_twice n list front is = ap (take n) is ∙ take-take n n list (omega arith)
