-- What follows of the items of a SET OF that were encoded one after another.
use Rattle.std.proofs.Common.{◌≡◌, ℕ, zero, suc, ◌+◌, ◌-◌, ◌<◌, ◌≤◌, List, [], ◌++◌, Bool, true, false, length, refl, sym, ap, ◌∙◌, subst, inl, inr, arith, append_assoc, Option, Some, None}
use Rattle.std.proofs.lemmas.Bool.{cases_lt}
use Rattle.asn1_bits.specs.Bits.{bits}
use Rattle.asn1_schema.specs.declared.misfit.MisfitKind.TheVariants as misfit
use Rattle.asn1_schema.specs.Pieces.{Parts}
use Rattle.asn1_schema.specs.PiecesOfParts.{bits_at}
use Rattle.asn1_schema.specs.Encodings.{with_bits}
use Rattle.asn1_schema.specs.TypeEncodings.{TypeEncoding, several_by_bits}
use Rattle.asn1_x691.specs.declared.fault.FaultKind.{FaultKind}
use Rattle.asn1_x691.specs.Fields.{phase}
use Rattle.asn1_x691.specs.Limits.{no_limits, IsOffOctet}
use Rattle.asn1_x691.specs.Laws.SetLaws as laws
use Rattle.asn1_x691_writers.specs.declared.state.Writer.{Writer}
use Rattle.asn1_x691_writers.specs.FieldSteps.{turn_written, alike_after}
use Rattle.asn1_x691_writers.specs.GrownSteps.{grown_none, grown_both, index_octet}
use Rattle.asn1_x691_writers.specs.Written.{IsAlike, IsGrown, IsIndex}
use Rattle.asn1_x691_encode.specs.declared.context.Context.{Context}
use Rattle.asn1_x691_encode.specs.declared.set.Place.{Place}
use Rattle.asn1_x691_encode.specs.Compared.{IsIn}
use Rattle.asn1_x691_encode.specs.Encoding.{tape, types, in_order_in, defaults_in, IsEncoded, Outcome}
use Rattle.asn1_x691_encode.specs.ListSteps.{IsUnderway, underway_first, underway_on}
use Rattle.asn1_x691_encode.specs.OtherSteps.{phase_alike}
use Rattle.asn1_x691_encode.specs.PlaceSteps.{placed, placed_first, placed_second, found, ends_after}
use Rattle.asn1_x691_encode.specs.Sets.{IsPrevious, IsPreviousIn, IsOrdered, IsOrderedOrLeft}

-- ---- positions that are alike

off_alike : (aligned : Bool) (before : List Bool) (n at : ℕ) → IsAlike aligned n at → IsOffOctet true aligned before at
    → IsOffOctet true aligned before n
off_alike false before n at h p = p
off_alike true before n at h (some, inl f) = (some, inl (λ e. f (sym (h refl) ∙ e)))
off_alike true before n at h (some, inr f) = (some, inr f)

pub alike_back : (aligned : Bool) (n at : ℕ) → IsAlike aligned n at → IsAlike aligned at n
alike_back aligned n at h e = sym (h e)

pub ordered_alike : (aligned : Bool) (node first : ℕ) (before list : List Bool) (n at : ℕ) (new : Writer) (r : Bool) → IsAlike aligned n at
    → IsOrdered aligned node first before at list new r → IsOrdered aligned node first before n list new r
ordered_alike aligned node first before list n at new true h (off, less) =
    (λ p. off (off_alike aligned before at n (alike_back aligned n at h) p), less)
ordered_alike aligned node first before list n at new false h (same, next, inl (reason, p)) =
    (same, next, inl (reason, off_alike aligned before n at h p))
ordered_alike aligned node first before list n at new false h (same, next, inr (reason, off, less)) =
    (same, next, inr (reason, λ p. off (off_alike aligned before at n (alike_back aligned n at h) p), less))

module _ (c : Context) (depth node item : ℕ) where
  abbrev A : ℕ → TypeEncoding FaultKind
  A = types c depth item

  abbrev O : List Bool → ℕ → TypeEncoding FaultKind
  O before = in_order_in c depth node item before

  -- ---- an item, and whether it is in order

  pub first_on : (before : List Bool) (was now : List ℕ) (old new : Writer) (r : Bool) → before ≡ [] → Outcome c A was old now new r
      → Outcome c (O before) was old now new r
  first_on before was now old new true none a =
      subst (λ (l : List Bool). IsEncoded c (O l) was old now new) (sym none) (record {
        parts = a.parts;
        written = record {
          list = a.written.list;
          encodes = λ n h. ((a.written.encodes n h, λ o. o), λ w. omega (arith, w.some));
          grown = a.written.grown;
        };
        taken = a.taken;
      })
  first_on before was now old new false none (inl m) =
      inl (record { kind = m.kind; reason = m.reason; first = λ n h. inl (inl (m.first n h)) })
  first_on before was now old new false none (inr u) = inr u

  pub next_fails : (before : List Bool) (was now : List ℕ) (old new : Writer) → Outcome c A was old now new false
      → Outcome c (O before) was old now new false
  next_fails before was now old new (inl m) =
      inl (record { kind = m.kind; reason = m.reason; first = λ n h. inl (inl (m.first n h)) })
  next_fails before was now old new (inr u) = inr u

  module _ (before : List Bool) (began : ℕ) (xs : Parts) (p : (A began).encoding.encodes xs before) (was now : List ℕ) (old mid new : Writer)
      (a : IsEncoded c A was old now mid) (follows : IsAlike c.is_aligned (began + length before) old.at) where
    ended : (n : ℕ) → IsAlike c.is_aligned n old.at → phase c.is_aligned (began + length before) ≡ phase c.is_aligned n
    ended n h = phase_alike c.is_aligned (began + length before) old.at follows ∙ sym (phase_alike c.is_aligned n old.at h)

    no_off : (n : ℕ) → IsAlike c.is_aligned n old.at → (IsOffOctet true c.is_aligned before old.at → ⊥)
        → IsOffOctet true c.is_aligned before n → ⊥
    no_off n h off q = off (off_alike c.is_aligned before old.at n (alike_back c.is_aligned n old.at h) q)

    ordered_on : (r : Bool) → (r ≡ true → new ≡ mid) → IsOrdered c.is_aligned node old.next before old.at a.written.list new r
        → Outcome c (O before) was old now new r
    ordered_on true kept (off, less) =
        subst (λ (s : Writer). IsEncoded c (O before) was old now s) (sym (kept refl)) (record {
          parts = a.parts;
          written = record {
            list = a.written.list;
            encodes = λ n h. (
              (a.written.encodes n h, λ o. o),
              λ w. less (laws.in_place no_limits c.is_aligned c.tables.nodes.now c.tables.members.now c.tables.ranges.now (defaults_in c)
                  depth item before n a.written.list (no_off n h off) w),
            );
            grown = a.written.grown;
          };
          taken = a.taken;
        })
    ordered_on false kept (same, next, inl (reason, off)) = inr (inl (
      reason,
      inr (inr (inr (record {
        depth = depth;
        item = item;
        at = old.at;
        parts = a.parts;
        list = a.written.list;
        rest = tape c mid.next;
        encodes = a.written.encodes old.at (λ q. refl);
        are = ap (λ (i : ℕ). tape c i) next ∙ a.taken;
        before = before;
        off = off;
      }))),
    ))
    ordered_on false kept (same, next, inr (reason, off, less)) = inl (record {
      kind = misfit.NotAscending;
      reason = reason;
      first = λ n h.
          inr (
            record {
              parts = a.parts;
              list = a.written.list;
              rest = tape c mid.next;
              encodes = (a.written.encodes n h, λ o. o);
              are = a.taken;
              holds = laws.misplaced no_limits c.is_aligned c.tables.nodes.now c.tables.members.now c.tables.ranges.now (defaults_in c)
                  depth item before n began xs a.parts a.written.list (no_off n h off) (ended n h) p (a.written.encodes n h) less;
            },
            ap (λ (k : ℕ). record { node = k; left = length (tape c new.next); kind = misfit.NotAscending }) same
                ∙ ap (λ (i : ℕ). record { node = node; left = length (tape c i); kind = misfit.NotAscending }) next,
          );
    })

    pub next_on : (r : Bool) → (r ≡ true → new ≡ mid)
        → IsOrderedOrLeft c node old.next before old.at a.written.list new r → Outcome c (O before) was old now new r
    next_on r kept (inl o) = ordered_on r kept o
    next_on r kept (inr (e, u)) = subst (λ (b : Bool). Outcome c (O before) was old now new b) (sym e) (inr u)

  -- the item after one that was encoded begins where that ends
  pub follows_alike : {place : Place} {before : List Bool} {now : List ℕ} {new : Writer} (g : IsPrevious c depth item place before now new)
      → IsAlike c.is_aligned (g.begun.at + length before) new.at
  follows_alike {new = new} g e =
      let h = index_octet new.at (g.begun.at + length g.encoded.written.list) (g.encoded.written.grown.index g.begun.at (inl refl)) in
      let same = ap (λ (l : List Bool). length l) g.bits in
      omega (arith, h, same)

  -- ---- two items in place

  module _ (first start end : List ℕ) (begun mid last : Writer) (new : Writer) (a : IsEncoded c A first begun start mid)
      (b : IsEncoded c A start mid end last) (size : length end ≡ length first) where
    both_grown : IsGrown first begun.at end last.at (a.written.list ++ b.written.list)
    both_grown = grown_both first start end begun.at mid.at last.at a.written.list b.written.list a.written.grown b.written.grown

    pub ordered_here : (before list : List Bool) (r : Bool) (next : ℕ) → a.written.list ≡ before → b.written.list ≡ list
        → begun.at ≤ mid.at → IsIn end mid.at last.at
        → IsOrdered c.is_aligned node next (bits_at (bits end) begun.at (mid.at - begun.at)) mid.at
        (bits_at (bits end) mid.at (last.at - mid.at)) new r
        → IsOrdered c.is_aligned node next before mid.at list new r
    ordered_here before list r next e f le h o =
        let whole = placed first end begun.at last.at (a.written.list ++ b.written.list) size both_grown
        (omega (arith, le, h.0), h.1, h.2) in
        let middle : mid.at ≡ begun.at + length a.written.list =
        ends_after first start begun.at mid.at a.written.list a.written.grown (omega (arith, h.0, h.2)) in
        let finish : last.at ≡ mid.at + length b.written.list = ends_after start end mid.at last.at b.written.list b.written.grown h.2 in
        let one = found end begun.at (mid.at - begun.at) a.written.list
        (placed_first end begun.at a.written.list b.written.list whole) (omega (arith, middle)) ∙ e in
        let two = found end mid.at (last.at - mid.at) b.written.list
        (placed_second end begun.at mid.at a.written.list b.written.list middle whole) (omega (arith, finish)) ∙ f in
        subst (λ (l : List Bool). IsOrdered c.is_aligned node next before mid.at l new r) two
        (subst (λ (l : List Bool). IsOrdered c.is_aligned node next l mid.at (bits_at (bits end) mid.at (last.at - mid.at)) new r) one o)

    -- where they are not all there, there are more than 504 bits
    pub wide : begun.at < 8 → length end ≡ 64 → ((begun.at ≤ mid.at) → IsIn end mid.at last.at → ⊥)
        → 504 < length a.written.list + length b.written.list
    wide low size64 out =
        elim (cases_lt 504 (length a.written.list + length b.written.list)) [
          | inl lt ↦ lt
          | inr le ↦ absurd (inside le (a.written.grown.index begun.at (inl refl)) (b.written.grown.index mid.at (inl refl)))
        ]
      where
        inside : length a.written.list + length b.written.list ≤ 504 → IsIndex mid.at (begun.at + length a.written.list)
            → IsIndex last.at (mid.at + length b.written.list) → ⊥
        inside le (inl e) (inl f) =
            out (omega (arith, e)) (omega (arith, f), omega (arith, e, f, le, low, size64), omega (arith, e, f, le, low))
        inside le (inl e) (inr q) = omega (arith, e, q.0, q.1, le, low)
        inside le (inr q) f = omega (arith, q.0, q.1, le, low)

  -- ---- all items

  abbrev S : List Bool → ℕ → ℕ → TypeEncoding FaultKind
  S before n = several_by_bits O before n

  module _ (before : List Bool) (was now : List ℕ) (old mid : Writer) (a : IsEncoded c (O before) was old now mid) where
    -- the item alone
    pub item_alone : IsEncoded c A was old now mid
    item_alone = record {
      parts = a.parts;
      written = record {
        list = a.written.list;
        encodes = λ n h. let e = a.written.encodes n h in e.0.0;
        grown = a.written.grown;
      };
      taken = a.taken;
    }

    by_bits_on : (n : ℕ) (end : List ℕ) (new : Writer) (r : Bool) → Outcome c (S a.written.list n) now mid end new r
        → Outcome c (S before (suc n)) was old end new r
    by_bits_on n end new true b = record {
      parts = a.parts ++ b.parts;
      written = turn_written c.is_aligned (λ k. with_bits (O before k).encoding) (λ v us. v.0 ++ us) (λ v k. (S v.1 n k).encoding)
          (a.parts, a.written.list) b.parts was now end old.at mid.at new.at
          (record { list = a.written.list; encodes = λ k h. (a.written.encodes k h, refl); grown = a.written.grown }) b.written;
      taken = a.taken ∙ ap (λ (t : Parts). a.parts ++ t) b.taken ∙ sym (append_assoc a.parts b.parts (tape c new.next));
    }
    by_bits_on n end new false (inl m) = inl (record {
      kind = m.kind;
      reason = m.reason;
      first = λ k h.
          inr (record {
            parts = a.parts;
            list = a.written.list;
            rest = tape c mid.next;
            encodes = a.written.encodes k h;
            are = a.taken;
            holds = m.first (k + length a.written.list)
                (alike_after c.is_aligned was now old.at mid.at k a.written.list a.written.grown h);
          });
    })
    by_bits_on n end new false (inr u) = inr u

    pub item_on : (W : ℕ → TypeEncoding FaultKind) (first : List ℕ) (begun : Writer) (left : ℕ) → 0 < left
        → IsUnderway c W (S before left) first begun was old → IsUnderway c W (S a.written.list (left - 1)) first begun now mid
    item_on W first begun zero some g = absurd (omega (arith, some))
    item_on W first begun (suc n) some g =
        let e : n ≡ suc n - 1 = omega arith in
        subst (λ (k : ℕ). IsUnderway c W (S a.written.list k) first begun now mid) e
        (underway_on c W (S before (suc n)) (S a.written.list n) first was now begun old mid g (record { onward = by_bits_on n }))

  pub item_fails : (before : List Bool) (W : ℕ → TypeEncoding FaultKind) (first was now : List ℕ) (begun old new : Writer) (left : ℕ) → 0 < left
      → IsUnderway c W (S before left) first begun was old → Outcome c (O before) was old now new false → Outcome c W first begun now new false
  item_fails before W first was now begun old new zero some g o = absurd (omega (arith, some))
  item_fails before W first was now begun old new (suc n) some g (inl m) =
      g.onward now new false (inl (record { kind = m.kind; reason = m.reason; first = λ k h. inl (m.first k h) }))
  item_fails before W first was now begun old new (suc n) some g (inr u) = g.onward now new false (inr u)

  pub items_done : (before : List Bool) (W : ℕ → TypeEncoding FaultKind) (first was : List ℕ) (begun old : Writer) (left : ℕ) → left ≡ 0
      → IsUnderway c W (S before left) first begun was old → Outcome c W first begun was old true
  items_done before W first was begun old zero none g = g.onward was old true (record {
    parts = [];
    written = record { list = []; encodes = λ at h. (refl, refl); grown = grown_none was old.at };
    taken = refl;
  })
  items_done before W first was begun old (suc n) none g = absurd (omega (arith, none))

  -- the items that are left follow those that were encoded, of which this is the last
  pub record AreItems (count left : ℕ) (previous : Option Place) (was : List ℕ) (old : Writer) (now : List ℕ) (new : Writer) : Type 0 where
    pub before : List Bool
    pub last : IsPreviousIn c depth item previous before now new
    pub underway : IsUnderway c (S [] count) (S before left) was old now new

  pub items_first : (count : ℕ) (was : List ℕ) (old : Writer) → AreItems count count None was old was old
  items_first count was old = record { before = []; last = refl; underway = underway_first c (S [] count) was old }

  pub items_on : (count left : ℕ) (place : Place) (previous : Option Place) (first was now : List ℕ) (begun old new : Writer) → 0 < left
      → (g : AreItems count left previous first begun was old) → IsEncoded c (O g.before) was old now new → length now ≡ length was
      → old.at ≡ place.at → old.next ≡ place.next → AreItems count (left - 1) (Some place) first begun now new
  unfolding item_alone
  items_on count left place previous first was now begun old new some g a size at next = record {
    before = a.written.list;
    last = record { was = was; begun = old; at = at; next = next; size = size; encoded = item_alone g.before was now old new a; bits = refl };
    underway = item_on g.before was now old new a (S [] count) first begun left some g.underway;
  }
