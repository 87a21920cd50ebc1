-- What follows of the values of an ENUMERATED.
use Rattle.std.proofs.Common.{◌≡◌, ℕ, ℤ, ◌+◌, ◌%◌, List, Bool, true, false, length, sym, ap, ◌∙◌, subst, inl, inr, arith}
use Rattle.std.specs.Prelude.{◌⊎◌, slice_range}
use Rattle.asn1_bits.specs.Laws.DigitLaws.{length-bits}
use Rattle.asn1_schema.specs.declared.tables.Node.TheVariants as type
use Rattle.asn1_schema.specs.declared.tables.Range.{Range}
use Rattle.asn1_schema.specs.Pieces.{Piece, Enumerated, Unknown}
use Rattle.asn1_x690.specs.declared.fault.FaultKind.{FaultKind}
use Rattle.asn1_x690.specs.declared.fault.FaultKind.TheVariants.{Contents, NotPermitted}
use Rattle.asn1_x690.specs.declared.tables.TypeTags.{TypeTags}
use Rattle.asn1_x690.specs.Laws.LeafLaws.{enumerated_one}
use Rattle.asn1_x690.specs.Leaves.{IsInteger, IsFirst, IsEnumerated, IsPermittedValue, leaf_of}
use Rattle.asn1_x691_writers.specs.declared.state.Writer.{Writer}
use Rattle.asn1_x690_writers.specs.Leaf.{leaf_in}
use Rattle.asn1_x690_writers.specs.Put.{IsPut}

number_whole : (n : ℤ) (list : List Bool) → IsInteger n list → length list % 8 ≡ 0
number_whole n list p = omega (arith, length-bits p.0, ap length p.2)

unknown_alike : (a b : List Bool) → Unknown a ≡ Unknown b → a ≡ b
unknown_alike a b e = cc

index_alike : (i j : ℕ) → Enumerated i ≡ Enumerated j → i ≡ j
index_alike i j e = cc

pub any_permitted : (b : Bool) (p : Piece) → b ≡ true → IsPermittedValue b p
any_permitted b p e = subst (λ (k : Bool). IsPermittedValue k p) (sym e) tt

module _ (numbers : List ℤ) where
  pub value_whole : (p : Piece) (list : List Bool) → IsEnumerated numbers p list → length list % 8 ≡ 0
  value_whole p list (inl k) = number_whole k.1 list k.4
  value_whole p list (inr k) = number_whole k.0 list k.3

  -- a value that is not known is encoded by its own bits, or by none
  pub unknown_only : (list : List Bool) (p : Piece) (l : List Bool) → p ≡ Unknown list → (IsEnumerated numbers (Unknown list) list → ⊥)
      → IsEnumerated numbers p l → ⊥
  unknown_only list p l e none (inl k) = let f : Unknown list ≡ Enumerated k.0 = sym e ∙ k.2 in cc
  unknown_only list p l e none (inr k) =
      let f : list ≡ l = unknown_alike list l (sym e ∙ k.1) in
      none (subst (λ (m : List Bool). IsEnumerated numbers (Unknown list) m) (sym f)
      (subst (λ (q : Piece). IsEnumerated numbers q l) e (inr k)))

  -- a value that is known is encoded by its number, or by none
  pub known_only : (i : ℕ) (p : Piece) (l : List Bool) → p ≡ Enumerated i → ((n : ℤ) → IsFirst numbers i n → ⊥) → IsEnumerated numbers p l → ⊥
  known_only i p l e none (inl k) =
      let f : k.0 ≡ i = index_alike k.0 i (sym k.2 ∙ e) in none k.1 (subst (λ (j : ℕ). IsFirst numbers j k.1) f k.3)
  known_only i p l e none (inr k) = let f : Enumerated i ≡ Unknown l = sym e ∙ k.1 in cc

  -- ---- what reading by a type without an extension marker tells

  module _ (contents : List Bool) where
    pub told_known : (x : Piece) → IsEnumerated numbers x contents → IsPermittedValue false x
        → IsEnumerated numbers (Unknown contents) contents → ⊥
    told_known x p y q =
        let e : x ≡ Unknown contents = (enumerated_one numbers).fills.one contents x (Unknown contents) p q in
        let f : Unknown contents ≡ Enumerated y.0 = sym e ∙ y.1 in
        cc

    is_unknown : (x : Piece) → IsEnumerated numbers x contents → (IsPermittedValue false x → ⊥) → IsEnumerated numbers (Unknown contents) contents
    is_unknown x (inl p) none = absurd (none (p.0, p.2))
    is_unknown x (inr p) none = subst (λ (q : Piece). IsEnumerated numbers q contents) p.1 (inr p)

    abbrev Told : FaultKind → Type 0
    Told kind =
        ((kind ≡ Contents) × ((x : Piece) → IsEnumerated numbers x contents → ⊥))
        ⊎ ((kind ≡ NotPermitted) × ((x : Piece) × IsEnumerated numbers x contents × ¬ (IsPermittedValue false x)))

    pub told_unknown : (kind : FaultKind) → Told kind → kind ≡ NotPermitted → IsEnumerated numbers (Unknown contents) contents
    told_unknown kind (inl (e, none)) f = let g : Contents ≡ NotPermitted = sym e ∙ f in cc
    told_unknown kind (inr (e, t)) f = is_unknown t.0 t.1 t.2

    pub told_none : (kind : FaultKind) → Told kind → (kind ≡ NotPermitted → ⊥) → IsEnumerated numbers (Unknown contents) contents → ⊥
    told_none kind (inl (e, none)) f q = none (Unknown contents) q
    told_none kind (inr (e, t)) f q = f e

-- ---- the numbers of a type

-- a type without an extension marker has no additions
abbrev pub known_by : Bool → ℕ → ℕ
known_by true known = known
known_by false known = 0

pub by_numbers : (ranges : List Range) (numbers : List ℤ) (node : ℕ) (t : TypeTags) (last : ℕ) (b : Bool) (known : ℕ) (p : Piece)
    (was : List ℕ) (old : Writer) (now : List ℕ) (new : Writer) (r : Bool)
    → IsPut (⊥) (leaf_of (IsEnumerated (slice_range numbers t.numbers (t.numbers + (last + 1 + known_by b known)))) (IsPermittedValue b)
    (λ (q : Piece). q) node) p was old now new r
    → IsPut (⊥) (leaf_in ranges numbers node t (type.Enumerated last b known)) p was old now new r
by_numbers ranges numbers node t last true known p was old now new r h = h
by_numbers ranges numbers node t last false known p was old now new r h = h
