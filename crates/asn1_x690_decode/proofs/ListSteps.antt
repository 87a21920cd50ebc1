-- Steps over the items of a list, which are in order in a SET OF.
use Rattle.std.proofs.Common.{◌≡◌, ℕ, ◌+◌, List, [], ◌∷◌, Bool, true, false, length, refl, sym, ◌∙◌, ap, arith, inl, inr}
use Rattle.std.specs.Prelude.{◌⊎◌}
use Rattle.std.specs.declared.cmp.Ordering.TheVariants.{Less}
use Rattle.std.proofs.lemmas.List.{append-nil, length-append}
use Rattle.asn1_bits.specs.BitLists.{bits_cmp}
use Rattle.asn1_schema.specs.Pieces.{Parts}
use Rattle.asn1_schema.specs.Encodings.{Fault, Starts, IsAt}
use Rattle.asn1_schema.specs.TypeEncodings.{TypeEncoding}
use Rattle.asn1_schema.specs.Laws.OrderLaws.{IsNoFront, is_before, puts_first}
use Rattle.asn1_x690.specs.declared.fault.FaultKind.{FaultKind}
use Rattle.asn1_x690.specs.declared.fault.FaultKind.TheVariants.{NotAscending}
use Rattle.asn1_x690.specs.Der as der
use Rattle.asn1_x690.specs.Laws.TypeLaws.{encoding_at_good}
use Rattle.asn1_x690_decode.specs.declared.context.Context.{Context}
use Rattle.asn1_x690_decode.specs.Tables.{tables_of, types, elements}

-- bits are not before none
pub none_before : (l : List Bool) → bits_cmp l [] ≡ Less → ⊥
none_before [] e = cc
none_before (b ∷ l) e = cc

module _ (c : Context) (depth node item : ℕ) where
  abbrev A : TypeEncoding FaultKind
  A = elements c depth item

  abbrev pub Item : Bool → List Bool → TypeEncoding FaultKind
  Item b before = der.in_order (types c depth) (tables_of c) node b (elements c depth item) before

  -- the bits of an item, or none
  abbrev pub IsLast : List Bool → Type 0
  IsLast before = (before ≡ []) ⊎ ((ys : Parts) × A.encoding.encodes ys before)

  no_front : (l before : List Bool) (xs : Parts) → A.encoding.encodes xs l → IsLast before → IsNoFront l before
  no_front l before xs p (inl e) more f =
      let n : 0 ≡ length l + length more = ap length (sym e) ∙ ap length f ∙ length-append l more in omega (arith, n)
  no_front l before xs p (inr q) more f =
      let same = (encoding_at_good c.tables.nodes.now (tables_of c) depth item).decodes.one.one before xs q.0 more []
      (record { front = l; encoded = p; parts = f }) (record { front = before; encoded = q.1; parts = sym (append-nil before) }) in
      ap length same.1

  module _ (before list : List Bool) (xs : Parts) (others : List Bool) (s : Starts A.encoding.encodes list xs others) where
    -- an item that is not before the last one
    pub item_starts : (b : Bool) → (b ≡ true → bits_cmp s.front before ≡ Less → ⊥)
        → (t : Starts (Item b before).encoding.encodes list xs others) × (t.front ≡ s.front)
    item_starts false not = (s, refl)
    item_starts true not =
        (record { front = s.front; encoded = (s.encoded, λ w. not refl (puts_first s.front before w)); parts = s.parts }, refl)

    pub misplaced : (b : Bool) (e : Fault FaultKind) → b ≡ true → bits_cmp s.front before ≡ Less → IsLast before
        → IsAt NotAscending node list e → (Item b before).encoding.fault list e
    misplaced false e is less last at = absurd (let f : false ≡ true = is in cc)
    misplaced true e is less last at =
        inr (
          record {
            value = (xs, s.front);
            rest = others;
            starts = record { front = s.front; encoded = (s.encoded, refl); parts = s.parts };
            holds = is_before s.front before (no_front s.front before xs s.encoded last) less;
          },
          at,
        )

  pub item_fault : (b : Bool) (before list : List Bool) (e : Fault FaultKind) → A.encoding.fault list e
      → (Item b before).encoding.fault list e
  item_fault false before list e w = w
  item_fault true before list e w = inl w
