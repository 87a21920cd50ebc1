-- The laws of identifiers as fields.
use Rattle.std.proofs.Common.{◌≡◌, ℕ, ◌-◌, ◌*◌, ◌/◌, ◌<◌, ◌≤◌, Bool, true, false, eqb, ltb, List, ◌++◌, length, take, drop, Result, Ok, Err, refl, sym, ap, subst, ◌∙◌, arith, inl, inr}
use Rattle.std.specs.Prelude.{All, is_ok}
use Rattle.std.proofs.lemmas.List.{length-append, length-take, take_at}
use Rattle.std.proofs.lemmas.Bool.{eqb-true, eqb-false, ne_eqb, le-ltb}
use Rattle.asn1_bits.specs.Bits.{bits}
use Rattle.asn1_bits.specs.View.{View, list_of}
use Rattle.asn1_bits.specs.Laws.DigitLaws.{length-bits}
use Rattle.asn1_oid.specs.Contents.{IsContents, FitU32}
use Rattle.asn1_oid.specs.declared.contents.ContentsError.{ContentsError}
use Rattle.asn1_oid.specs.declared.contents.ContentsError.TheVariants.{Malformed, ArcTooLarge, Memory}
use Rattle.asn1_oid.specs.Reading.{contents_reading}
use Rattle.asn1_oid.specs.Laws.ReadingLaws.{contents_read, large_read, none_read, arcs_from_reading, large_from_reading, none_from_reading, no_want_of_memory}
use Rattle.asn1_oid.specs.Laws.WritingLaws.{contents_octets, contents_only, some_contents}
use Rattle.asn1_values.specs.Fields.{Field, IsSpelledBy, IsOfShape, Identifier, OfIdentifier}
use Rattle.asn1_values.specs.Wrong.{Fault, Short, NotIdentifier, ArcOver, IsReason, IsNoIdentifier, HoldsLargeArc}
use Rattle.asn1_values.specs.Walk.{octets_of, identifier_or_fault, identifier_content, with_rest, cut_at, field_at}
use Rattle.asn1_values.proofs.OctetLemmas.{length-octets_of, octets-octets_of, bits-octets_of, octets_of-bits}
use Rattle.asn1_values.proofs.OneSpelling.{contents_length}
use Rattle.asn1_values.proofs.ExactKinds.{IsExact, HoldsExactly, Takes, cut_exact, failed, tested, chosen, err_is, err_is_no_ok, held_is, no_fault, fault_is, no_field}

abbrev Reading : Type 0
Reading = Result (List ℕ) ContentsError

held_identifier : (r : Reading) (field : Field) → identifier_or_fault r ≡ Ok field → (arcs : List ℕ) × (r ≡ Ok arcs)
    × (Identifier arcs ≡ field)
held_identifier (Ok arcs) field e = (arcs, refl, held_is _ _ e)
held_identifier (Err Malformed) field e = absurd (no_field _ _ e)
held_identifier (Err ArcTooLarge) field e = absurd (no_field _ _ e)
held_identifier (Err Memory) field e = absurd (no_field _ _ e)

-- octets that encode the front are those that are read
read_back : (count : ℕ) (octets : List ℕ) (front : List Bool) → All (λ octet. octet < 256) octets
    → length octets ≡ count → front ≡ bits octets → octets_of count front ≡ octets
read_back count octets front are len is =
    ap (λ (k : ℕ). octets_of k front) (sym len) ∙ ap (octets_of (length octets)) is ∙ octets_of-bits octets are

module _ (count : ℕ) (some : 0 < count) where
  taken : (front : List Bool) (field : Field) → length front ≡ 8 * count → identifier_content count front ≡ Ok field
      → IsOfShape field (OfIdentifier count) × IsSpelledBy field front
  taken front field len e =
      let o : List ℕ = octets_of count front in
      let are : All (λ octet. octet < 256) o = octets-octets_of count front (omega arith) in
      let h = held_identifier (contents_reading o) field e in
      let c = arcs_from_reading h.0 o are h.1 in
      subst (λ (f : Field). IsOfShape f (OfIdentifier count) × IsSpelledBy f front) h.2
      (inl (o, c.0, length-octets_of count front), (o, c.0, c.1, sym (bits-octets_of count front len)))

  again : (field : Field) (front : List Bool) → IsOfShape field (OfIdentifier count) → IsSpelledBy field front
      → (length front ≡ 8 * count) × (identifier_content count front ≡ Ok field)
  again (Identifier arcs) front shape s =
      let o : List ℕ = s.0 in
      let len : length o ≡ count = contents_length arcs o count s.1 shape in
      let are = contents_octets arcs o s.1 in
      let back : octets_of count front ≡ o = read_back count o front are len s.3 in (
        omega (arith, ap length s.3, length-bits o),
        ap (λ (l : List ℕ). identifier_or_fault (contents_reading l)) back
            ∙ ap identifier_or_fault (contents_read arcs o are s.1 s.2),
      )
  again field front shape s = absurd shape

  reason : (front rest : List Bool) (fault : Fault) → length front ≡ 8 * count
      → identifier_content count front ≡ Err fault → IsReason (OfIdentifier count) (front ++ rest) fault
  reason front rest fault len e = by_reading (contents_reading (octets_of count front)) refl e
    where
      cut : take (8 * count) (front ++ rest) ≡ front
      cut = take_at front rest (8 * count) len

      enough : 8 * count ≤ length (front ++ rest)
      enough = omega (arith, length-append front rest)

      are : All (λ octet. octet < 256) (octets_of count front)
      are = octets-octets_of count front (omega arith)

      by_reading : (r : Reading) → contents_reading (octets_of count front) ≡ r → identifier_or_fault r ≡ Err fault
          → IsReason (OfIdentifier count) (front ++ rest) fault
      by_reading (Ok arcs) is h = absurd (no_fault _ _ h)
      by_reading (Err Malformed) is h =
          let none : IsNoIdentifier (take (8 * count) (front ++ rest)) = λ octets arcs spelled c.
          let here : front ≡ bits octets = sym cut ∙ spelled in
          let n : length octets ≡ count = omega (arith, ap length here, length-bits octets) in
          let back = read_back count octets front (contents_octets arcs octets c) n here in
          none_from_reading (octets_of count front) are is arcs
          (subst (λ (l : List ℕ). IsContents arcs l) (sym back) c) in
          subst (λ (f : Fault). IsReason (OfIdentifier count) (front ++ rest) f) (fault_is _ _ h) (inr (enough, none))
      by_reading (Err ArcTooLarge) is h =
          let large = large_from_reading (octets_of count front) are is in
          let holds : HoldsLargeArc (take (8 * count) (front ++ rest)) =
          (octets_of count front, large.0, cut ∙ sym (bits-octets_of count front len), large.1, large.2) in
          subst (λ (f : Fault). IsReason (OfIdentifier count) (front ++ rest) f) (fault_is _ _ h) (some, enough, holds)
      by_reading (Err Memory) is h = absurd (no_want_of_memory (octets_of count front) are is)

  identifier_holds : HoldsExactly (OfIdentifier count) (8 * count) (identifier_content count)
  identifier_holds = record { taken = taken; again = again; reason = reason; short = λ list k s. (some, s) }

pub identifier_exact : (count : ℕ) → IsExact (OfIdentifier count) (field_at (OfIdentifier count))
unfolding field_at
identifier_exact count = record { taken = taken_at; again = again_at; reason = reason_at }
  where
    exact : (eqb count 0 ≡ false) → IsExact (OfIdentifier count) (cut_at (8 * count) (identifier_content count))
    exact e = let ne =
        eqb-false count 0 e in cut_exact (OfIdentifier count) (8 * count) (identifier_content count)
        (identifier_holds count (omega arith))

    taken_at : (list : List Bool) (field : Field) (rest : List Bool)
        → field_at (OfIdentifier count) list ≡ Ok (field, rest) → Takes (OfIdentifier count) list field rest
    taken_at list field rest e =
        elim (chosen (eqb count 0) (Err NotIdentifier) (cut_at (8 * count) (identifier_content count) list)
        (Ok (field, rest)) e) [
          | inl h ↦ absurd (err_is_no_ok _ _ h.1)
          | inr h ↦ (exact h.0).taken list field rest h.1
        ]

    some_octets : (octets : List ℕ) (arcs : List ℕ) → IsContents arcs octets → length octets ≡ 0 → ⊥
    some_octets octets arcs c z = some_contents arcs octets c z

    again_at : (field : Field) (front rest : List Bool) → IsOfShape field (OfIdentifier count) → IsSpelledBy field front
        → field_at (OfIdentifier count) (front ++ rest) ≡ Ok (field, rest)
    again_at (Identifier arcs) front rest shape s =
        let some : eqb count 0 ≡ false =
        ne_eqb count 0 (λ z. some_octets s.0 arcs s.1 (contents_length arcs s.0 count s.1 shape ∙ z)) in
        rw some ((exact some).again (Identifier arcs) front rest shape s)
    again_at field front rest shape s = absurd shape

    reason_at : (list : List Bool) (fault : Fault) → field_at (OfIdentifier count) list ≡ Err fault
        → IsReason (OfIdentifier count) list fault
    reason_at list fault e =
        elim (chosen (eqb count 0) (Err NotIdentifier) (cut_at (8 * count) (identifier_content count) list) (Err fault)
        e) [
          | inl h ↦ subst (λ (f : Fault). IsReason (OfIdentifier count) list f) (err_is _ _ h.1)
              (inl (eqb-true count 0 h.0))
          | inr h ↦ (exact h.0).reason list fault h.1
        ]

-- ---- what is read of them

-- the octets that a view shows, where it is the front of a list
pub source_is : (v w : View) (count : ℕ) (list : List Bool) → v ≡ w → w.len ≡ 8 * count
    → list_of w ≡ take (8 * count) list
    → octets_of (v.len / 8) (list_of v) ≡ octets_of count (take (8 * count) list)
source_is v w count list e len is =
    let n : 8 * count / 8 ≡ count = omega arith in
    ap (λ (x : View). octets_of (x.len / 8) (list_of x)) e ∙ ap (λ (k : ℕ). octets_of (k / 8) (list_of w)) len
    ∙ ap (λ (k : ℕ). octets_of k (list_of w)) n ∙ ap (octets_of count) is

module _ (count : ℕ) (list : List Bool) (octets : List ℕ) (some : count ≡ 0 → ⊥) (enough : 8 * count ≤ length list)
    (source : octets ≡ octets_of count (take (8 * count) list)) where
  octets_are : All (λ octet. octet < 256) octets
  octets_are =
      subst (All (λ octet. octet < 256)) (sym source)
      (octets-octets_of count (take (8 * count) list) (omega (arith, length-take (8 * count) list)))

  pub identifier_there : (arcs : List ℕ) → IsContents arcs octets → FitU32 arcs
      → field_at (OfIdentifier count) list ≡ Ok (Identifier arcs, drop (8 * count) list)
  unfolding field_at cut_at
  identifier_there arcs c fit =
      let read : contents_reading (octets_of count (take (8 * count) list)) ≡ Ok arcs = ap contents_reading (sym source)
      ∙ contents_read arcs octets octets_are c fit in
      rw (ne_eqb count 0 some, le-ltb _ _ enough, read) refl

  pub identifier_large : (arcs : List ℕ) → IsContents arcs octets → ¬ (FitU32 arcs)
      → field_at (OfIdentifier count) list ≡ Err ArcOver
  unfolding field_at cut_at
  identifier_large arcs c large =
      let read : contents_reading (octets_of count (take (8 * count) list)) ≡ Err ArcTooLarge =
      ap contents_reading (sym source) ∙ large_read arcs octets octets_are c large in
      rw (ne_eqb count 0 some, le-ltb _ _ enough, read) refl

  pub identifier_none : ((arcs : List ℕ) → ¬ (IsContents arcs octets))
      → field_at (OfIdentifier count) list ≡ Err NotIdentifier
  unfolding field_at cut_at
  identifier_none none =
      let read : contents_reading (octets_of count (take (8 * count) list)) ≡ Err Malformed =
      ap contents_reading (sym source) ∙ none_read octets octets_are none in
      rw (ne_eqb count 0 some, le-ltb _ _ enough, read) refl

-- where an identifier can be read, it is that of the contents
pub read_identifier : (count : ℕ) (list left : List Bool) (arcs : List ℕ) → is_ok (field_at (OfIdentifier count) list) ≡ true
    → left ≡ drop (8 * count) list → contents_reading (octets_of count (take (8 * count) list)) ≡ Ok arcs
    → field_at (OfIdentifier count) list ≡ Ok (Identifier arcs, left)
unfolding field_at cut_at failed
read_identifier count list left arcs ok rest read =
    let content = identifier_content count in
    let some = tested (eqb count 0) NotIdentifier (cut_at (8 * count) content list) ok in
    let enough =
    tested (ltb (length list) (8 * count)) (Short (8 * count - length list))
    (with_rest (drop (8 * count) list) (content (take (8 * count) list))) some.1 in
    rw (some.0, enough.0, read, rest) refl

-- every list that encodes what was read of n octets has their bits
pub length-read_identifier : (n : ℕ) (front : List Bool) (arcs : List ℕ) → 8 * n ≤ length front
    → contents_reading (octets_of n front) ≡ Ok arcs → (others : List Bool) → IsSpelledBy (Identifier arcs) others
    → length others ≡ 8 * n
length-read_identifier n front arcs le e others s =
    let c = arcs_from_reading arcs (octets_of n front) (octets-octets_of n front le) e in
    ap length s.3 ∙ length-bits s.0
    ∙ ap (λ (o : List ℕ). 8 * length o) (contents_only arcs s.0 (octets_of n front) s.1 c.0)
    ∙ ap (λ (k : ℕ). 8 * k) (length-octets_of n front)
