-- What follows of the items of a SET OF that were encoded one after another.
use Rattle.std.proofs.Common.{◌≡◌, ℕ, suc, ◌+◌, ◌-◌, ◌<◌, ◌≤◌, List, [], ◌∷◌, ◌++◌, Bool, true, false, length, refl, sym, ap, ◌∙◌, subst, inl, inr, Option, Some, None, arith}
use Rattle.std.specs.declared.cmp.Ordering.TheVariants.{Less}
use Rattle.std.proofs.lemmas.Bool.{cases_lt}
use Rattle.std.proofs.lemmas.List.{append-nil}
use Rattle.asn1_bits.specs.Bits.{bits}
use Rattle.asn1_bits.specs.BitLists.{bits_cmp}
use Rattle.asn1_schema.specs.declared.misfit.MisfitKind.TheVariants.{NotAscending}
use Rattle.asn1_schema.specs.Laws.OrderLaws.{IsNoFront, is_before, puts_first}
use Rattle.asn1_schema.specs.Order.{IsBefore}
use Rattle.asn1_schema.specs.Pieces.{Parts}
use Rattle.asn1_schema.specs.PiecesOfParts.{bits_at}
use Rattle.asn1_schema.specs.TypeEncodings.{TypeEncoding}
use Rattle.asn1_x690.specs.declared.fault.FaultKind.{FaultKind}
use Rattle.asn1_x690.specs.Laws.TypeLaws.{encoding_at_good}
use Rattle.asn1_x691_writers.specs.declared.state.Writer.{Writer}
use Rattle.asn1_x691_writers.specs.GrownSteps.{grown_both}
use Rattle.asn1_x691_writers.specs.Written.{IsIndex, IsGrown}
use Rattle.asn1_x690_encode.specs.declared.context.Context.{Context}
use Rattle.asn1_x690_encode.specs.declared.set.ItemStart.{ItemStart}
use Rattle.asn1_x690_encode.specs.Compared.{IsIn}
use Rattle.asn1_x690_encode.specs.Encoding.{nodes_of, tape, tables_of, element_in, in_order_in, IsFilled, IsStopped, Outcome}
use Rattle.asn1_x690_encode.specs.ListSteps.{AreItems, TakesBits, element_takes, items_none, items_more}
use Rattle.asn1_x690_encode.specs.PlaceSteps.{placed, placed_first, placed_second, found, ends_after}
use Rattle.asn1_x690_encode.specs.Sets.{IsPreviousIn, IsOrdered, IsOrderedOrLeft}
use Rattle.asn1_x690_encode.specs.Steps.{misfit_here}

not_below_nothing : (l : List Bool) → bits_cmp l [] ≡ Less → ⊥
not_below_nothing [] e = cc
not_below_nothing (b ∷ l) e = cc

module _ (c : Context) (depth node item : ℕ) where
  abbrev A : TypeEncoding FaultKind
  A = element_in c depth item

  abbrev pub O : List Bool → TypeEncoding FaultKind
  O before = in_order_in c depth node item before

  pub ordered_takes : (before : List Bool) → TakesBits (O before)
  ordered_takes before xs l p = element_takes c depth item xs l p.0

  -- ---- an item, and whether it is in order

  pub first_on : (before : List Bool) (was now : List ℕ) (old new : Writer) (r : Bool) → before ≡ []
      → Outcome c A.encoding.encodes A.misfit was old now new r → Outcome c (O before).encoding.encodes (O before).misfit was old now new r
  first_on before was now old new true none a = record {
    parts = a.parts;
    list = a.list;
    fills = (a.fills, λ w. not_below_nothing a.list (puts_first a.list [] (subst (λ (l : List Bool). IsBefore a.list l) none w)));
    whole = a.whole;
    grown = a.grown;
    taken = a.taken;
  }
  first_on before was now old new false none (inl m) = inl (record { kind = m.kind; reason = m.reason; first = inl m.first })
  first_on before was now old new false none (inr u) = inr u

  pub next_fails : (before : List Bool) (old new : Writer) → IsStopped c A.misfit old new → IsStopped c (O before).misfit old new
  next_fails before old new (inl m) = inl (record { kind = m.kind; reason = m.reason; first = inl m.first })
  next_fails before old new (inr u) = inr u

  -- an element is no front of another one
  no_front : (l before : List Bool) (xs ys : Parts) → A.encoding.encodes xs l → A.encoding.encodes ys before → IsNoFront l before
  no_front l before xs ys p q more f =
      let same = (encoding_at_good (nodes_of c) (tables_of c) depth item).decodes.one.one before xs ys more []
      (record { front = l; encoded = p; parts = f }) (record { front = before; encoded = q; parts = sym (append-nil before) }) in
      ap length same.1

  module _ (before : List Bool) (xs : Parts) (p : A.encoding.encodes xs before) (was now : List ℕ) (old mid new : Writer)
      (a : IsFilled c A.encoding.encodes was old now mid) where
    ordered_on : (r : Bool) → (r ≡ true → new ≡ mid) → IsOrdered node old.next before a.list new r
        → Outcome c (O before).encoding.encodes (O before).misfit was old now new r
    ordered_on true kept less =
        subst (λ (s : Writer). IsFilled c (O before).encoding.encodes was old now s) (sym (kept refl)) (record {
          parts = a.parts;
          list = a.list;
          fills = (a.fills, λ w. less (puts_first a.list before w));
          whole = a.whole;
          grown = a.grown;
          taken = a.taken;
        })
    ordered_on false kept (reason, same, next, less) =
        inl (misfit_here c (O before).misfit old new node NotAscending next same reason
        (inr (
          record {
            parts = a.parts;
            list = a.list;
            rest = tape c mid.next;
            encodes = a.fills;
            are = a.taken;
            holds = is_before a.list before (no_front a.list before a.parts xs a.fills p) less;
          },
          refl,
        )))

    pub next_on : (r : Bool) → (r ≡ true → new ≡ mid) → IsOrderedOrLeft c node old.next before a.list new r
        → Outcome c (O before).encoding.encodes (O before).misfit was old now new r
    next_on r kept (inl o) = ordered_on r kept o
    next_on r kept (inr (e, u)) =
        subst (λ (b : Bool). Outcome c (O before).encoding.encodes (O before).misfit was old now new b) (sym e) (inr u)

  -- ---- two items in place

  module _ (first start end : List ℕ) (begun mid last : Writer) (new : Writer) (a : IsFilled c A.encoding.encodes first begun start mid)
      (b : IsFilled c A.encoding.encodes start mid end last) (size : length end ≡ length first) where
    both_grown : IsGrown first begun.at end last.at (a.list ++ b.list)
    both_grown = grown_both first start end begun.at mid.at last.at a.list b.list a.grown b.grown

    pub ordered_here : (before list : List Bool) (r : Bool) (next : ℕ) → a.list ≡ before → b.list ≡ list → begun.at ≤ mid.at
        → IsIn end mid.at last.at
        → IsOrdered node next (bits_at (bits end) begun.at (mid.at - begun.at)) (bits_at (bits end) mid.at (last.at - mid.at)) new r
        → IsOrdered node next before list new r
    ordered_here before list r next e f le h o =
        let whole = placed first end begun.at last.at (a.list ++ b.list) size both_grown (omega (arith, le, h.0), h.1, h.2) in
        let middle : mid.at ≡ begun.at + length a.list = ends_after first start begun.at mid.at a.list a.grown (omega (arith, h.0, h.2)) in
        let finish : last.at ≡ mid.at + length b.list = ends_after start end mid.at last.at b.list b.grown h.2 in
        let one = found end begun.at (mid.at - begun.at) a.list (placed_first end begun.at a.list b.list whole) (omega (arith, middle)) ∙ e in
        let two = found end mid.at (last.at - mid.at) b.list (placed_second end begun.at mid.at a.list b.list middle whole)
        (omega (arith, finish)) ∙ f in
        subst (λ (l : List Bool). IsOrdered node next before l new r) two
        (subst (λ (l : List Bool). IsOrdered node next l (bits_at (bits end) mid.at (last.at - mid.at)) new r) one o)

    -- where they are not all present, there are more than 504 bits
    pub wide : begun.at ≡ 0 → length end ≡ 64 → (begun.at ≤ mid.at → IsIn end mid.at last.at → ⊥) → 504 < length a.list + length b.list
    wide low size64 out =
        elim (cases_lt 504 (length a.list + length b.list)) [
          | inl lt ↦ lt
          | inr le ↦ absurd (inside le (a.grown.index begun.at (inl refl)) (b.grown.index mid.at (inl refl)))
        ]
      where
        inside : length a.list + length b.list ≤ 504 → IsIndex mid.at (begun.at + length a.list) → IsIndex last.at (mid.at + length b.list) → ⊥
        inside le (inl e) (inl f) =
            out (omega (arith, e)) (omega (arith, f), omega (arith, e, f, le, low, size64), omega (arith, e, f, le, low))
        inside le (inl e) (inr q) = omega (arith, e, q.0, q.1, le, low)
        inside le (inr q) f = omega (arith, q.0, q.1, le, low)

  -- ---- all items

  -- the item alone
  pub item_alone : (before : List Bool) (was now : List ℕ) (old mid : Writer) → IsFilled c (O before).encoding.encodes was old now mid
      → IsFilled c A.encoding.encodes was old now mid
  item_alone before was now old mid a = record {
    parts = a.parts;
    list = a.list;
    fills = a.fills.0;
    whole = a.whole;
    grown = a.grown;
    taken = a.taken;
  }

  -- the items that are left follow those that were encoded, of which this is the last
  pub record AreSetItems (count left : ℕ) (previous : Option ItemStart) (was : List ℕ) (old : Writer) (now : List ℕ) (new : Writer) : Type 0 where
    pub items : AreItems O c count left was old now new
    pub last : IsPreviousIn c depth item previous items.before now new

  pub set_begun : (count : ℕ) (was : List ℕ) (old : Writer) → AreSetItems count count None was old was old
  unfolding items_none
  set_begun count was old = record { items = items_none O c count was old; last = refl }

  pub set_more : (count left rest : ℕ) (start : ItemStart) (previous : Option ItemStart) (first was now : List ℕ) (begun old new : Writer)
      → left ≡ suc rest → (g : AreSetItems count left previous first begun was old)
      → IsFilled c (O g.items.before).encoding.encodes was old now new → length now ≡ length was → old.at ≡ start.at → old.next ≡ start.next
      → AreSetItems count rest (Some start) first begun now new
  unfolding items_more item_alone
  set_more count left rest start previous first was now begun old new one g a size at next = record {
    items = items_more O c count first begun left rest was old g.items one now new a;
    last = record {
      was = was;
      begun = old;
      at = at;
      next = next;
      size = size;
      encoded = item_alone g.items.before was now old new a;
      bits = refl;
    };
  }
