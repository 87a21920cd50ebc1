-- Laws of the items of a list after their number: what is written is read so.
use Rattle.std.proofs.Common.{◌≡◌, ℕ, zero, suc, ◌+◌, ◌*◌, ◌/◌, ◌%◌, ◌<◌, ◌≤◌, nat_lt, inl, inr, Bool, List, ◌++◌, length, refl, sym, ◌∙◌, ap, subst, arith}
use Rattle.std.specs.Prelude.{◌⊎◌}
use Rattle.std.proofs.lemmas.List.{append-nil}
use Rattle.std.proofs.lemmas.Bool.{cases_lt}
use Rattle.asn1_schema.specs.Pieces.{Parts}
use Rattle.asn1_schema.specs.Encodings.{Encoding}
use Rattle.asn1_schema.specs.TypeEncodings.{TypeEncoding, nothing}
use Rattle.asn1_x691.specs.declared.fault.FaultKind.{FaultKind}
use Rattle.asn1_x691.specs.declared.fault.FaultKind.TheVariants.{NotMinimal, Unsupported}
use Rattle.asn1_x691.specs.Fragments.{units_next, units, units_below}
use Rattle.asn1_x691.specs.Lists.{numbered_items, fragment_then, items_below, whole_fragments_then}
use Rattle.asn1_x691.specs.Laws.ListLaws.{number_told, below_is, above_is, pair, same_pair}

module _ (A : ℕ → ℕ → TypeEncoding FaultKind) (aligned : Bool) (node : ℕ) where
  abbrev N : ℕ → Encoding FaultKind ℕ
  N = units_next aligned node

  abbrev U : ℕ → ℕ → Encoding FaultKind Parts
  U n at = (A n at).encoding

  abbrev J : Parts → Parts → Parts
  J xs ys = xs ++ ys

  abbrev Below : ℕ → ℕ → TypeEncoding FaultKind
  Below n = items_below A aligned node (nat_lt n 16384) n

  abbrev Whole : ℕ → ℕ → ℕ → TypeEncoding FaultKind
  Whole whole left = whole_fragments_then A aligned node whole (Below left)

  -- `n` items after their number, and the others
  record IsFragment (n at : ℕ) (R : ℕ → TypeEncoding FaultKind) (xs : Parts) (k : List Bool) : Type 0 where
    here : Parts
    others : Parts
    first : List Bool
    items : List Bool
    rest : List Bool
    number : (N at).encodes n first
    encodes : (U n (at + length first)).encodes here items
    after : (R (at + length first + length items)).encoding.encodes others rest
    are : xs ≡ here ++ others
    bits : k ≡ first ++ (items ++ rest)

  fragment_told : (n at : ℕ) (R : ℕ → TypeEncoding FaultKind) (xs : Parts) (k : List Bool)
      → (fragment_then A aligned node n R at).encoding.encodes xs k → IsFragment n at R xs k
  fragment_told n at R xs k p =
      let t = number_told A aligned node n at p.value p.front p.first in
      let q = p.second in record {
        here = q.value;
        others = q.after;
        first = p.front;
        items = q.front;
        rest = q.rest;
        number = t.1;
        encodes = q.first;
        after = q.second;
        are = p.is ∙ ap (λ (ys : Parts). ys ++ p.after) t.0 ∙ q.is;
        bits = p.parts ∙ ap (λ (l : List Bool). p.front ++ l) q.parts;
      }

  units_made : (n at : ℕ) (xs : Parts) (k : List Bool) → (t : IsFragment n at nothing xs k)
      → (units U J aligned node n (at + length t.first)).encodes (pair n xs) (t.items ++ t.rest)
  units_made n at xs k t = record {
    value = t.here;
    after = tt;
    front = t.items;
    rest = t.rest;
    first = t.encodes;
    second = (refl, t.after.1);
    is = same_pair n n xs t.here refl (t.are ∙ ap (λ (ys : Parts). t.here ++ ys) t.after.0 ∙ append-nil t.here);
    parts = refl;
  }

  below_made : (kind : FaultKind) (n at : ℕ) (xs : Parts) (k : List Bool) → n < 16384
      → (fragment_then A aligned node n nothing at).encoding.encodes xs k → (units_below U J aligned node kind at).encodes (pair n xs) k
  below_made kind n at xs k few p =
      let t = fragment_told n at nothing xs k p in record {
        value = n;
        after = pair n xs;
        front = t.first;
        rest = t.items ++ t.rest;
        first = t.number;
        second = inl (few, units_made n at xs k t);
        is = refl;
        parts = t.bits;
      }

  few_made : (most n at : ℕ) (xs : Parts) (k : List Bool) → n < 16384 → (fragment_then A aligned node n nothing at).encoding.encodes xs k
      → (numbered_items A aligned node most at).encodes (pair n xs) k
  few_made zero n at xs k few p = below_made Unsupported n at xs k few p
  few_made (suc more) n at xs k few p =
      let t = fragment_told n at nothing xs k p in record {
        value = n;
        after = pair n xs;
        front = t.first;
        rest = t.items ++ t.rest;
        first = t.number;
        second = inl (few, units_made n at xs k t);
        is = refl;
        parts = t.bits;
      }

  two_made : (more m r at : ℕ) (xs : Parts) (k : List Bool) → 16384 ≤ m → m < 65536 → r < 16384
      → (fragment_then A aligned node m (λ to. fragment_then A aligned node r nothing to) at).encoding.encodes xs k
      → (numbered_items A aligned node (suc more) at).encodes (pair (m + r) xs) k
  two_made more m r at xs k some few last p =
      let t = fragment_told m at (λ to. fragment_then A aligned node r nothing to) xs k p in record {
        value = m;
        after = pair (m + r) xs;
        front = t.first;
        rest = t.items ++ t.rest;
        first = t.number;
        second = inr (
          some,
          inl (
            few,
            record {
              value = t.here;
              after = pair r t.others;
              front = t.items;
              rest = t.rest;
              first = t.encodes;
              second = below_made NotMinimal r (at + length t.first + length t.items) t.others t.rest last t.after;
              is = same_pair (m + r) (m + r) xs (t.here ++ t.others) refl t.are;
              parts = refl;
            },
          ),
        );
        is = refl;
        parts = t.bits;
      }

  left_made : (most left at : ℕ) (xs : Parts) (k : List Bool) → left < 65536 → (0 < most) ⊎ (left < 16384)
      → (Below left at).encoding.encodes xs k → (numbered_items A aligned node most at).encodes (pair left xs) k
  left_made most left at xs k few fit p = elim (cases_lt left 16384) [
    | inl lt ↦
        few_made most left at xs k lt
        (subst (λ (b : Bool). (items_below A aligned node b left at).encoding.encodes xs k) (below_is left 16384 lt) p)
    | inr le ↦ many most le fit p
  ]
    where
      many : (most : ℕ) → 16384 ≤ left → (0 < most) ⊎ (left < 16384) → (Below left at).encoding.encodes xs k
          → (numbered_items A aligned node most at).encodes (pair left xs) k
      many zero le (inl w) p = absurd (omega (arith, w))
      many zero le (inr w) p = absurd (omega (arith, w, le))
      many (suc more) le w p =
          let e : left ≡ 16384 * (left / 16384) + left % 16384 = omega arith in
          subst (λ (i : ℕ). (numbered_items A aligned node (suc more) at).encodes (pair i xs) k) (sym e)
          (two_made more (16384 * (left / 16384)) (left % 16384) at xs k (omega (arith, le)) (omega (arith, few)) (omega arith)
          (subst (λ (b : Bool). (items_below A aligned node b left at).encoding.encodes xs k) (above_is left 16384 le) p))

  whole_made : (more n at : ℕ) (xs : Parts) (k : List Bool) (R : ℕ → TypeEncoding FaultKind)
      → (fragment_then A aligned node 65536 R at).encoding.encodes xs k
      → ((to : ℕ) (ys : Parts) (l : List Bool) → (R to).encoding.encodes ys l → (numbered_items A aligned node more to).encodes (pair n ys) l)
      → (numbered_items A aligned node (suc more) at).encodes (pair (65536 + n) xs) k
  whole_made more n at xs k R p rec =
      let t = fragment_told 65536 at R xs k p in record {
        value = 65536;
        after = pair (65536 + n) xs;
        front = t.first;
        rest = t.items ++ t.rest;
        first = t.number;
        second = inr (
          omega arith,
          inr (
            omega arith,
            record {
              value = t.here;
              after = pair n t.others;
              front = t.items;
              rest = t.rest;
              first = t.encodes;
              second = rec (at + length t.first + length t.items) t.others t.rest t.after;
              is = same_pair (65536 + n) (65536 + n) xs (t.here ++ t.others) refl t.are;
              parts = refl;
            },
          ),
        );
        is = refl;
        parts = t.bits;
      }

  pub made_of : (most whole left at : ℕ) (xs : Parts) (k : List Bool) → left < 65536 → (whole < most) ⊎ ((whole ≡ most) × (left < 16384))
      → (Whole whole left at).encoding.encodes xs k → (numbered_items A aligned node most at).encodes (pair (65536 * whole + left) xs) k
  made_of most zero left at xs k few fit p =
      let e : 65536 * 0 + left ≡ left = omega arith in
      subst (λ (i : ℕ). (numbered_items A aligned node most at).encodes (pair i xs) k) (sym e)
      (left_made most left at xs k few (elim fit [ inl w ↦ inl w | inr w ↦ inr w.1 ]) p)
  made_of zero (suc whole) left at xs k few (inl w) p = absurd (omega (arith, w))
  made_of zero (suc whole) left at xs k few (inr w) p = let e = w.0 in absurd (omega (arith, e))
  made_of (suc more) (suc whole) left at xs k few fit p =
      let e : 65536 * suc whole + left ≡ 65536 + (65536 * whole + left) = omega arith in
      let fits : (whole < more) ⊎ ((whole ≡ more) × (left < 16384)) =
      elim fit [ inl w ↦ inl (omega (arith, w)) | inr w ↦ let a = w.0 in inr (omega (arith, a), w.1) ] in
      subst (λ (i : ℕ). (numbered_items A aligned node (suc more) at).encodes (pair i xs) k) (sym e)
      (whole_made more (65536 * whole + left) at xs k (Whole whole left) p
      (λ to ys l q. made_of more whole left to ys l few fits q))
