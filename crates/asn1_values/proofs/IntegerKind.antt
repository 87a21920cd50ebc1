-- The laws of integers as fields.
use Rattle.std.proofs.Common.{◌≡◌, ℕ, zero, suc, ◌+◌, ◌*◌, ◌/◌, ◌^◌, ◌<◌, ◌≤◌, ℤ, Bool, true, false, cond, eqb, ltb, List, [], ◌∷◌, ◌++◌, length, take, drop, Result, Ok, Err, refl, sym, ap, subst, ◌∙◌, append_assoc, arith, inl, inr}
use Rattle.std.specs.Prelude.{◌||◌, ◌&&◌, nat_lt, is_ok, All}
use Rattle.std.proofs.lemmas.List.{length-append, take_at, drop_at}
use Rattle.std.proofs.lemmas.Bool.{false≢true, eqb-true, eqb-false, ne_eqb, lt-ltb, cases_eq}
use Rattle.asn1_bits.specs.Bits.{digits, number, bits}
use Rattle.asn1_bits.specs.Laws.DigitLaws.{length-digits, length-bits}
use Rattle.asn1_bits.specs.Laws.NumberLaws.{number-append, number_of-digits, digits-append}
use Rattle.asn1_number.specs.Octets.{IsOctets, IsShortest, signed}
use Rattle.asn1_number.specs.Order.{NineBitsDiffer}
use Rattle.asn1_number.specs.Laws.LawsHold.{shortest_by_nine_bits}
use Rattle.asn1_values.specs.Fields.{Field, IsSpelledBy, IsOfShape, Integer, OfInteger}
use Rattle.asn1_integer.specs.IntegerOctets.{IsNoInteger}
use Rattle.asn1_values.specs.Wrong.{Fault, NotInteger, IsReason}
use Rattle.asn1_values.specs.Walk.{octets_of, nine_alike, integer_content, cut_at, integer_at, field_at}
use Rattle.asn1_integer.specs.Laws.WordLaws.{IsOctets_from_All, All_from_IsOctets}
use Rattle.asn1_values.proofs.OctetLemmas.{length-octets_of, octets-octets_of, bits-octets_of, octets_of-bits}
use Rattle.asn1_values.proofs.ExactKinds.{IsExact, HoldsExactly, Takes, cut_exact, chosen, err_is, err_is_no_ok, held_is, no_fault, fault_is, no_field}
use Rattle.asn1_values.specs.Laws.SpellingLaws.{same_shortest}
use Rattle.asn1_values.proofs.OneSpelling.{length-spelled}

-- ---- the first nine bits

-- their number is twice the first octet, and bit 8 of the second
nine_bits : (b c : ℕ) (bs : List ℕ) → IsOctets (b ∷ c ∷ bs) → number (take 9 (bits (b ∷ c ∷ bs))) ≡ 2 * b + c / 128
unfolding bits
nine_bits b c bs octets =
    let first : List Bool = digits b 8 in
    let bit : List Bool = digits (c / 128) 1 in
    let behind : List Bool = digits c 7 ++ bits bs in
    let second : digits c 8 ≡ bit ++ digits c 7 = digits-append c 1 7 in
    let whole : bits (b ∷ c ∷ bs) ≡ (first ++ bit) ++ behind =
    ap (λ (l : List Bool). first ++ (l ++ bits bs)) second
    ∙ ap (λ (l : List Bool). first ++ l) (append_assoc bit (digits c 7) (bits bs))
    ∙ sym (append_assoc first bit behind) in
    let n : length (first ++ bit) ≡ 9 =
    omega (arith, length-append first bit, length-digits b 8, length-digits (c / 128) 1) in
    let cut : take 9 (bits (b ∷ c ∷ bs)) ≡ first ++ bit = ap (take 9) whole ∙ take_at (first ++ bit) behind 9 n in
    let high : number first ≡ b = number_of-digits b 8 octets.0 in
    let low : number bit ≡ c / 128 = number_of-digits (c / 128) 1 (let lt = octets.1.0 in omega arith) in
    let sum : number (first ++ bit) ≡ number first * 2 + number bit =
    number-append first bit ∙ ap (λ (k : ℕ). number first * 2 ^ k + number bit) (length-digits (c / 128) 1) in
    omega (arith, ap number cut, sum, high, low)

alike : ℕ → Bool
alike n = eqb n 0 || eqb n 511

alike_not : (n : ℕ) → (n ≡ 0 → ⊥) → (n ≡ 511 → ⊥) → alike n ≡ false
unfolding alike
alike_not n z t = rw (ne_eqb n 0 z, ne_eqb n 511 t) refl

not_alike : (n : ℕ) → alike n ≡ false → (n ≡ 0 → ⊥) × (n ≡ 511 → ⊥)
unfolding alike
not_alike n e = (λ z. false≢true (sym e ∙ ap alike z), λ t. false≢true (sym e ∙ ap alike t))

-- there is a second octet, and the first nine bits are alike
pub fails : List ℕ → Bool
fails octets = nat_lt 1 (length octets) && nine_alike (bits octets)

passes : (octets : List ℕ) → IsOctets octets → NineBitsDiffer octets → fails octets ≡ false
unfolding fails alike
passes [] are differ = absurd differ
passes (b ∷ []) are differ = refl
passes (b ∷ c ∷ bs) are differ =
    let n = nine_bits b c bs are in
    let small = are.0 in
    let zero : b ≡ 0 → 128 ≤ c = differ.0 in
    let top : b ≡ 255 → c < 128 = differ.1 in
    let not_zero : number (take 9 (bits (b ∷ c ∷ bs))) ≡ 0
    → ⊥ = λ e. (let z : b ≡ 0 = omega arith in let le = zero z in omega arith) in
    let not_top : number (take 9 (bits (b ∷ c ∷ bs))) ≡ 511
    → ⊥ = λ e. (let t : b ≡ 255 = (let second = are.1.0 in omega arith) in let lt = top t in omega arith) in
    rw (lt-ltb 1 (length (b ∷ c ∷ bs)) (omega arith)) (alike_not (number (take 9 (bits (b ∷ c ∷ bs)))) not_zero not_top)

differs : (octets : List ℕ) → IsOctets octets → 0 < length octets → fails octets ≡ false → NineBitsDiffer octets
unfolding fails alike
differs [] are some e = absurd (omega arith)
differs (b ∷ []) are some e = tt
differs (b ∷ c ∷ bs) are some e =
    let n = nine_bits b c bs are in
    let small = are.0 in
    let second = are.1.0 in
    let two : ltb 1 (length (b ∷ c ∷ bs)) ≡ true = lt-ltb 1 (length (b ∷ c ∷ bs)) (omega arith) in
    let h : alike (number (take 9 (bits (b ∷ c ∷ bs)))) ≡ false = rw two at e in
    let p = not_alike (number (take 9 (bits (b ∷ c ∷ bs)))) h in
    let not_zero : 2 * b + c / 128 ≡ 0 → ⊥ = λ z. p.0 (n ∙ z) in
    let not_top : 2 * b + c / 128 ≡ 511 → ⊥ = λ t. p.1 (n ∙ t) in
    (λ z. high z not_zero, λ t. low t not_top)
  where
    high : b ≡ 0 → (2 * b + c / 128 ≡ 0 → ⊥) → 128 ≤ c
    high z none = elim (cases_eq (c / 128) 0) [ inl e ↦ absurd (none (omega arith)) | inr ne ↦ omega arith ]

    low : b ≡ 255 → (2 * b + c / 128 ≡ 511 → ⊥) → c < 128
    low t none =
        elim (cases_eq (c / 128) 1) [ inl e ↦ absurd (none (omega arith)) | inr ne ↦ (let lt = are.1.0 in omega arith) ]

-- ---- shortest octets

shortest_from_bits : (octets : List ℕ) → IsOctets octets → 0 < length octets → fails octets ≡ false
    → IsShortest (signed octets) octets
shortest_from_bits octets are some e = (shortest_by_nine_bits octets are some).1 (differs octets are some e)

pub bits_from_shortest : (n : ℤ) (octets : List ℕ) → IsShortest n octets → fails octets ≡ false
bits_from_shortest n octets s =
    passes octets s.octets ((shortest_by_nine_bits octets s.octets s.some).0
    (subst (λ (m : ℤ). IsShortest m octets) (sym s.value) s))

-- ---- integers as fields

held_integer : (b : Bool) (n : ℤ) (field : Field) → cond b (Err NotInteger) (Ok (Integer n)) ≡ Ok field → (b ≡ false)
    × (Integer n ≡ field)
held_integer true n field h = absurd (no_field _ _ h)
held_integer false n field h = (refl, held_is _ _ h)

held_none : (b : Bool) (n : ℤ) (fault : Fault) → cond b (Err NotInteger) (Ok (Integer n)) ≡ Err fault → (b ≡ true)
    × (NotInteger ≡ fault)
held_none true n fault h = (refl, fault_is _ _ h)
held_none false n fault h = absurd (no_fault _ _ h)

-- the test of the walk, at the octets that the bits are of
fails_at : (octets : List ℕ) (count : ℕ) (front : List Bool) → length octets ≡ count → bits octets ≡ front
    → (nat_lt 1 count && nine_alike front) ≡ fails octets
unfolding fails
fails_at octets count front len is = rw (sym len, sym is) refl

integer_holds : (count : ℕ) → 0 < count → HoldsExactly (OfInteger count) (8 * count) (integer_content count)
integer_holds count some = record { taken = taken; again = again; reason = reason; short = λ list k s. (some, s) }
  where
    taken : (front : List Bool) (field : Field) → length front ≡ 8 * count → integer_content count front ≡ Ok field
        → IsOfShape field (OfInteger count) × IsSpelledBy field front
    taken front field len e =
        let o : List ℕ = octets_of count front in
        let n : length o ≡ count = length-octets_of count front in
        let is : bits o ≡ front = bits-octets_of count front len in
        let h = held_integer (nat_lt 1 count && nine_alike front) (signed o) field e in
        let are : IsOctets o = IsOctets_from_All o (octets-octets_of count front (omega arith)) in
        let s : IsShortest (signed o) o =
        shortest_from_bits o are (omega arith) (sym (fails_at o count front n is) ∙ h.0) in
        subst (λ (f : Field). IsOfShape f (OfInteger count) × IsSpelledBy f front) h.1 ((o, s, n), (o, s, sym is))

    again : (field : Field) (front : List Bool) → IsOfShape field (OfInteger count) → IsSpelledBy field front
        → (length front ≡ 8 * count) × (integer_content count front ≡ Ok field)
    again (Integer n) front shape spelled =
        let o : List ℕ = spelled.0 in
        let s = spelled.1 in
        let len : length o ≡ count = ap length (same_shortest n o shape.0 s shape.1) ∙ shape.2 in
        let back : octets_of count front ≡ o = ap (λ (k : ℕ). octets_of k front) (sym len)
        ∙ ap (octets_of (length o)) spelled.2 ∙ octets_of-bits o (All_from_IsOctets o s.octets) in
        let pass : (nat_lt 1 count && nine_alike front) ≡ false = fails_at o count front len (sym spelled.2)
        ∙ bits_from_shortest n o s in
        let held : integer_content count front ≡ Ok (Integer (signed o)) =
        ap (λ (b : Bool). cond b (Err NotInteger) (Ok (Integer (signed (octets_of count front))))) pass
        ∙ ap (λ (p : List ℕ). Ok (Integer (signed p))) back in
        (omega (arith, ap length spelled.2, length-bits o), held ∙ ap (λ (m : ℤ). Ok (Integer m)) s.value)
    again field front shape spelled = absurd shape

    reason : (front rest : List Bool) (fault : Fault) → length front ≡ 8 * count
        → integer_content count front ≡ Err fault → IsReason (OfInteger count) (front ++ rest) fault
    reason front rest fault len e =
        let h = held_none (nat_lt 1 count && nine_alike front) (signed (octets_of count front)) fault e in
        let cut : take (8 * count) (front ++ rest) ≡ front = take_at front rest (8 * count) len in
        let none : IsNoInteger (take (8 * count) (front ++ rest)) = λ octets n is s.
        let here : bits octets ≡ front = sym is ∙ cut in
        let m : length octets ≡ count = omega (arith, ap length here, length-bits octets) in
        false≢true (sym (fails_at octets count front m here ∙ bits_from_shortest n octets s) ∙ h.0) in
        subst (λ (f : Fault). IsReason (OfInteger count) (front ++ rest) f) h.1
        (inr (omega (arith, length-append front rest), none))

pub integer_exact : (count : ℕ) → IsExact (OfInteger count) (field_at (OfInteger count))
unfolding field_at integer_at
integer_exact count = record { taken = taken; again = again; reason = reason }
  where
    exact : (eqb count 0 ≡ false) → IsExact (OfInteger count) (cut_at (8 * count) (integer_content count))
    exact e = let ne =
        eqb-false count 0 e in cut_exact (OfInteger count) (8 * count) (integer_content count)
        (integer_holds count (omega arith))

    taken : (list : List Bool) (field : Field) (rest : List Bool) → field_at (OfInteger count) list ≡ Ok (field, rest)
        → Takes (OfInteger count) list field rest
    taken list field rest e =
        elim (chosen (eqb count 0) (Err NotInteger) (cut_at (8 * count) (integer_content count) list) (Ok (field, rest))
        e) [
          | inl h ↦ absurd (err_is_no_ok _ _ h.1)
          | inr h ↦ (exact h.0).taken list field rest h.1
        ]

    some_octets : (field : Field) → IsOfShape field (OfInteger count) → count ≡ 0 → ⊥
    some_octets (Integer n) shape z = let some = shape.1.some in omega (arith, shape.2)
    some_octets field shape z = absurd shape

    again : (field : Field) (front rest : List Bool) → IsOfShape field (OfInteger count) → IsSpelledBy field front
        → field_at (OfInteger count) (front ++ rest) ≡ Ok (field, rest)
    again field front rest shape spelled =
        let some : eqb count 0 ≡ false = ne_eqb count 0 (some_octets field shape) in
        rw some ((exact some).again field front rest shape spelled)

    reason : (list : List Bool) (fault : Fault) → field_at (OfInteger count) list ≡ Err fault
        → IsReason (OfInteger count) list fault
    reason list fault e =
        elim (chosen (eqb count 0) (Err NotInteger) (cut_at (8 * count) (integer_content count) list) (Err fault) e) [
          | inl h ↦ subst (λ (f : Fault). IsReason (OfInteger count) list f) (err_is _ _ h.1) (inl (eqb-true count 0 h.0))
          | inr h ↦ (exact h.0).reason list fault h.1
        ]

-- ---- what is read of them

-- what is read is of at least one octet
pub some_octets : (count : ℕ) (list : List Bool) → is_ok (integer_at count list) ≡ true → 0 < count
unfolding integer_at
some_octets zero list ok = absurd cc
some_octets (suc count) list ok = omega arith

-- where an integer can be read, it is the value of the octets whose bits they are
pub read_integer : (count : ℕ) (list left : List Bool) (n : ℤ) → is_ok (integer_at count list) ≡ true
    → left ≡ drop (8 * count) list
    → ((octets : List ℕ) → bits octets ≡ take (8 * count) list → All (λ octet. octet < 256) octets → n ≡ signed octets)
    → integer_at count list ≡ Ok (Integer n, left)
unfolding field_at
read_integer count list left n ok rest value = there (integer_at count list) refl ok
  where
    same_field : (field : Field) (front : List Bool) → IsOfShape field (OfInteger count) → IsSpelledBy field front
        → front ≡ take (8 * count) list → field ≡ Integer n
    same_field (Integer m) front shape s is =
        let v : n ≡ signed s.0 = value s.0 (sym s.2 ∙ is) (All_from_IsOctets s.0 s.1.octets) in
        ap (λ (x : ℤ). Integer x) (sym s.1.value ∙ sym v)
    same_field field front shape s is = absurd shape

    there : (r : Result (Field × List Bool) Fault) → integer_at count list ≡ r → is_ok r ≡ true
        → integer_at count list ≡ Ok (Integer n, left)
    there (Ok x) e h =
        let t = (integer_exact count).taken list x.0 x.1 e in
        let len : length t.front ≡ 8 * count = length-spelled (OfInteger count) x.0 t.front t.of_shape t.spelled in
        let front : t.front ≡ take (8 * count) list = sym (take_at t.front x.1 (8 * count) len)
        ∙ ap (take (8 * count)) (sym t.parts) in
        let back : x.1 ≡ left = sym (drop_at t.front x.1 (8 * count) len) ∙ ap (drop (8 * count)) (sym t.parts)
        ∙ sym rest in
        e ∙ ap (λ (f : Field). Ok (f, x.1)) (same_field x.0 t.front t.of_shape t.spelled front)
        ∙ ap (λ (l : List Bool). Ok (Integer n, l)) back
    there (Err fault) e h = absurd cc

-- and every list that encodes it has the bits of the octets that were asked for
pub length-read_integer : (count : ℕ) (list left : List Bool) (n : ℤ) → integer_at count list ≡ Ok (Integer n, left)
    → (others : List Bool) → IsSpelledBy (Integer n) others → length others ≡ 8 * count
unfolding field_at
length-read_integer count list left n e others s =
    let t = (integer_exact count).taken list (Integer n) left e in
    length-spelled (OfInteger count) (Integer n) others t.of_shape s
