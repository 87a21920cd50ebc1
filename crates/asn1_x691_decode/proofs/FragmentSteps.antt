-- Steps over the items of a list after their number.
use Rattle.std.proofs.Common.{◌≡◌, ℕ, suc, ◌+◌, ◌-◌, ◌*◌, ◌<◌, ◌≤◌, List, [], ◌∷◌, ◌++◌, Bool, refl, sym, subst, arith, inl, inr}
use Rattle.std.specs.Prelude.{◌⊎◌}
use Rattle.std.proofs.lemmas.Bool.{cases_lt}
use Rattle.asn1_bits.specs.Bits.{bits}
use Rattle.asn1_schema.specs.declared.part.Part.{Part}
use Rattle.asn1_schema.specs.Pieces.{Piece, Parts, Count}
use Rattle.asn1_schema.specs.Room.{IsGrown}
use Rattle.asn1_schema.specs.Encodings.{Fault, Encoding, Starts, IsAt, constant, invalid, in_turn, in_case, anywhere}
use Rattle.asn1_x691.specs.declared.fault.FaultKind.{FaultKind}
use Rattle.asn1_x691.specs.declared.fault.FaultKind.TheVariants.{NotMinimal, Unsupported}
use Rattle.asn1_x691.specs.Fragments.{units_next, units, units_then}
use Rattle.asn1_x691.specs.Lists.{list_where}
use Rattle.asn1_x691.specs.Strings.{where_size}
use Rattle.asn1_x691_fields.specs.declared.state.State.{State}
use Rattle.asn1_x691_fields.specs.Outcomes.{rest, position, fault_of, IsWithin, IsMoved, IsOnward}
use Rattle.asn1_x691_fields.specs.Steps.{constant_starts, after_starts, after_fault, moved_on}
use Rattle.asn1_x691_fields.specs.StringSteps.{starts_by}
use Rattle.asn1_x691_decode.specs.declared.context.Context.{Context}
use Rattle.asn1_x691_decode.specs.Decoding.{IsDecoded, AreDecoded, AreListed, fragment_in, numbered_in, last_items_in}
use Rattle.asn1_x691_decode.proofs.Steps.{grown_over}

abbrev pub Numbered : Type 1
Numbered = ℕ → Encoding FaultKind (ℕ × Parts)

module _ (c : Context) where
  abbrev list : List Bool
  list = bits c.octets.now

  abbrev Are : (ℕ × Parts → List Bool → Type 0) → State → State → List Part → List Part → ℕ → Type 0
  Are P old new was now n = AreDecoded c.tables.ranges.now P list old new was now n

  -- what `rule` says from here on, after `count` items, `whole` says of all
  pub record AreUnderway (whole rule : Numbered) (old now : State) (was is : List Part) (count : ℕ) : Type 0 where
    pub done : (n all : ℕ) (new : State) (next : List Part) → all ≡ count + n → Are (rule (position now)).encodes now new is next n
        → Are (whole (position old)).encodes old new was next all
    pub fault : (e : Fault FaultKind) → (rule (position now)).fault (rest list now) e → (whole (position old)).fault (rest list old) e

  so_many : (P : ℕ × Parts → List Bool → Type 0) (old new : State) (was now : List Part) (n m : ℕ) → n ≡ m → Are P old new was now n
      → Are P old new was now m
  so_many P old new was now n m e d = subst (λ (i : ℕ). Are P old new was now i) e d

  pub begins : (A B : Numbered) (s : State) (was : List Part) → ((at : ℕ) (v : ℕ × Parts) (l : List Bool) → (B at).encodes v l → (A at).encodes v l)
      → ((at : ℕ) (l : List Bool) (e : Fault FaultKind) → (B at).fault l e → (A at).fault l e) → AreUnderway A B s s was was 0
  begins A B s was f g = record {
    done = λ n all new next e d.
        let same : n ≡ all = omega (arith, e) in
        so_many (A (position s)).encodes s new was next n all same (record {
          items = d.items;
          starts = starts_by (B (position s)).encodes (A (position s)).encodes (rest list s) (rest list new) (n, d.items)
              (λ front p. f (position s) (n, d.items) front p) d.starts;
          grown = d.grown;
        });
    fault = λ e w. g (position s) (rest list s) e w;
  }

  pub over : (A B C : Numbered) (old now new : State) (was is next : List Part) (m n all : ℕ) → all ≡ m + n → AreUnderway A B old now was is m
      → AreUnderway B C now new is next n → AreUnderway A C old new was next all
  over A B C old now new was is next m n all e p q = record {
    done = λ k sum s ps f d.
        p.done (n + k) sum s ps (omega (arith, e, f)) (q.done k (n + k) s ps refl d);
    fault = λ g w. p.fault g (q.fault g w);
  }

  module _ (depth node item : ℕ) where
    abbrev U : ℕ → ℕ → Encoding FaultKind Parts
    U n at = (fragment_in c depth node item n at).encoding

    abbrev J : Parts → Parts → Parts
    J xs ys = xs ++ ys

    abbrev N : ℕ → Encoding FaultKind ℕ
    N = units_next c.is_aligned node

    abbrev pub All : ℕ → Numbered
    All most = numbered_in c depth node item most

    abbrev Few : ℕ → Numbered
    Few n = units U J c.is_aligned node n

    abbrev Then : ℕ → Numbered → Numbered
    Then n R = units_then U J c.is_aligned node n R

    abbrev pub Last : FaultKind → Numbered
    Last kind = last_items_in c depth node item kind

    -- what follows a number, where `more` more fragments may follow
    abbrev pub After : ℕ → ℕ → Numbered
    After more n = in_case (n < 16384) (Few n) (16384 ≤ n)
        (in_case (n < 65536) (Then n (Last NotMinimal)) (65536 ≤ n) (Then n (All more)))

    abbrev pub AfterLast : FaultKind → ℕ → Numbered
    AfterLast kind n = in_case (n < 16384) (Few n) (16384 ≤ n) (anywhere (invalid kind node))

    pub number_step : (B : ℕ → Numbered) (n : ℕ) (old now : State) (was : List Part) → IsWithin list old → IsOnward list old now
        → Starts (N (position old)).encodes (rest list old) n (rest list now)
        → AreUnderway (in_turn N (λ m v. v) B) (B n) old now was was 0
    number_step B n old now was h g s = record {
      done = λ k all new next e d.
          let same : k ≡ all = omega (arith, e) in
          so_many (in_turn N (λ m v. v) B (position old)).encodes old new was next k all same (record {
            items = d.items;
            starts = after_starts list old now h (moved_on list old now g) N (λ m v. v) B n s (rest list new) (k, d.items) d.starts;
            grown = subst (λ (i : ℕ). IsGrown c.tables.ranges.now list was i next new.count d.items) g.same_count d.grown;
          });
      fault = λ e w. after_fault list old now h (moved_on list old now g) N (λ m v. v) B n s e w;
    }

    module _ (n : ℕ) (old now : State) (was is : List Part) (h : IsWithin list old) (g : IsMoved list old now)
        (d : IsDecoded c.tables.ranges.now (U n (position old)).encodes list old now was is) where
      -- `n` items, then others
      then_step : (R : Numbered) → AreUnderway (Then n R) R old now was is n
      then_step R = record {
        done = λ k all new next e r.
            let same : n + k ≡ all = omega (arith, e) in
            so_many (Then n R (position old)).encodes old new was next (n + k) all same (record {
              items = d.parts ++ r.items;
              starts = after_starts list old now h g (U n) (λ y v. (n + v.0, J y v.1)) (λ y. R) d.parts d.starts (rest list new) (k, r.items)
                  r.starts;
              grown = grown_over c.tables.ranges.now list was is next old.count now.count new.count d.parts r.items d.grown r.grown;
            });
        fault = λ e w. let f : Parts → ℕ × Parts → ℕ × Parts = λ y v. (n + v.0, J y v.1) in
            after_fault list old now h g (U n) f (λ y. R) d.parts d.starts e w;
      }

      few_done : Are (Few n (position old)).encodes old now was is n
      few_done = record {
        items = d.parts;
        starts = after_starts list old now h g (U n) (λ y u. (n, y)) (λ y. anywhere (constant (tt {0}))) d.parts d.starts (rest list now) tt
            (constant_starts tt (rest list now));
        grown = d.grown;
      }

      by_case : (A B : Numbered) → ((front : List Bool) (v : ℕ × Parts) → (A (position old)).encodes v front → (B (position old)).encodes v front)
          → Are (A (position old)).encodes old now was is n → Are (B (position old)).encodes old now was is n
      by_case A B f r = record {
        items = r.items;
        starts = starts_by (A (position old)).encodes (B (position old)).encodes (rest list old) (rest list now) (n, r.items)
            (λ front p. f front (n, r.items) p) r.starts;
        grown = r.grown;
      }

      pub few_after : (more : ℕ) → n < 16384 → Are (After more n (position old)).encodes old now was is n
      few_after more few = by_case (Few n) (After more n) (λ front v p. inl (few, p)) few_done

      pub last_after : (kind : FaultKind) → n < 16384 → Are (AfterLast kind n (position old)).encodes old now was is n
      last_after kind few = by_case (Few n) (AfterLast kind n) (λ front v p. inl (few, p)) few_done

      pub middle_step : (more : ℕ) → 16384 ≤ n → n < 65536 → AreUnderway (After more n) (Last NotMinimal) old now was is n
      middle_step more some few =
          over (After more n) (Then n (Last NotMinimal)) (Last NotMinimal) old old now was was is 0 n n (omega arith)
          (begins (After more n) (Then n (Last NotMinimal)) old was (λ at v l p. inr (some, inl (few, p))) (λ at l e w. inr (some, inl (few, w))))
          (then_step (Last NotMinimal))

      pub whole_step : (more : ℕ) → 65536 ≤ n → AreUnderway (After more n) (All more) old now was is n
      whole_step more large =
          let some : 16384 ≤ n = omega (arith, large) in
          over (After more n) (Then n (All more)) (All more) old old now was was is 0 n n (omega arith)
          (begins (After more n) (Then n (All more)) old was (λ at v l p. inr (some, inr (large, p))) (λ at l e w. inr (some, inr (large, w))))
          (then_step (All more))

    -- a fault of the items after a number
    pub items_fault : (more n at : ℕ) (l : List Bool) (e : Fault FaultKind) → (U n at).fault l e → (After more n at).fault l e
    items_fault more n at l e w = elim (cases_lt n 16384) [
      | inl lt ↦ inl (lt, inl w)
      | inr le ↦ elim (cases_lt n 65536) [
        | inl lt ↦ inr (le, inl (lt, inl w))
        | inr large ↦ inr (le, inr (large, inl w))
      ]
    ]

    -- ---- all items

    -- one more fragment, where there may be more
    pub all_step : (left more n : ℕ) (old now : State) (was : List Part) → left ≡ suc more → IsWithin list old → IsOnward list old now
        → Starts (N (position old)).encodes (rest list old) n (rest list now)
        → AreUnderway (All left) (After more n) old now was was 0
    all_step left more n old now was e h g s =
        subst (λ (i : ℕ). AreUnderway (All i) (After more n) old now was was 0) (sym e) (number_step (After more) n old now was h g s)

    pub all_fault : (left more at : ℕ) (l : List Bool) (e : Fault FaultKind) → left ≡ suc more → (N at).fault l e → (All left at).fault l e
    all_fault left more at l e f w = subst (λ (i : ℕ). (All i at).fault l e) (sym f) (inl w)

    -- no more fragments
    pub all_last : (W : Numbered) (left : ℕ) (old now : State) (was is : List Part) (count : ℕ) → left ≡ 0 → AreUnderway W (All left) old now was is count
        → AreUnderway W (Last Unsupported) old now was is count
    all_last W left old now was is count e p = subst (λ (i : ℕ). AreUnderway W (All i) old now was is count) e p

    -- ---- the list

    module _ (Yes No : ℕ → Type 0) (kind : FaultKind) (most : ℕ) where
      abbrev pub Listed : ℕ → Encoding FaultKind Parts
      Listed at = (list_where (fragment_in c depth node item) c.is_aligned node most Yes No kind at).encoding

      abbrev Size : ℕ × Parts → ℕ → Encoding FaultKind Parts
      Size v = where_size Yes No kind node (v.0, Count v.0 ∷ v.1)

      module _ (n : ℕ) (old new : State) (was next : List Part) (h : IsWithin list old) (g : IsMoved list old new)
          (d : AreListed c.tables.ranges.now (All most (position old)).encodes list old new was next n) where
        pub list_done : Yes n → IsDecoded c.tables.ranges.now (Listed (position old)).encodes list old new was next
        list_done permits = record {
          parts = Count n ∷ d.items;
          starts = after_starts list old new h g (All most) (λ v ts. ts) Size (n, d.items) d.starts (rest list new) (Count n ∷ d.items)
              (record { front = []; encoded = inl (permits, (refl, refl)); parts = refl });
          grown = d.grown;
        }

        pub list_size : (e : Fault FaultKind) → No n → IsAt kind node (rest list new) e → (Listed (position old)).fault (rest list old) e
        list_size e forbids w = after_fault list old new h g (All most) (λ v ts. ts) Size (n, d.items) d.starts e (inr (forbids, w))

-- the part of a list, and its items
pub listed : (c : Context) (P : ℕ × Parts → List Bool → Type 0) (old mid new : State) (was is next last : List Part) (n : ℕ) (p : Piece)
    → rest (bits c.octets.now) mid ≡ rest (bits c.octets.now) old
    → IsGrown c.tables.ranges.now (bits c.octets.now) was old.count is mid.count (p ∷ [])
    → AreDecoded c.tables.ranges.now P (bits c.octets.now) mid new is next n
    → ((more : Parts) → IsGrown c.tables.ranges.now (bits c.octets.now) was old.count next new.count (p ∷ more)
    → IsGrown c.tables.ranges.now (bits c.octets.now) was old.count last new.count (Count n ∷ more))
    → AreListed c.tables.ranges.now P (bits c.octets.now) old new was last n
listed c P old mid new was is next last n p same grown d put = record {
  items = d.items;
  starts = subst (λ (l : List Bool). Starts P l (n, d.items) (rest (bits c.octets.now) new)) same d.starts;
  grown = put d.items (grown_over c.tables.ranges.now (bits c.octets.now) was is next old.count mid.count new.count (p ∷ []) d.items grown d.grown);
}
