-- What follows of items that were encoded after their number.
use Rattle.std.proofs.Common.{◌≡◌, ℕ, zero, suc, ◌+◌, ◌-◌, ◌*◌, ◌/◌, ◌%◌, ◌^◌, ◌<◌, ◌≤◌, nat_lt, List, [], ◌∷◌, ◌++◌, Bool, true, false, length, refl, sym, ap, ◌∙◌, subst, inl, inr, arith}
use Rattle.asn1_schema.specs.declared.misfit.MisfitKind.TheVariants.{NoEncoding}
use Rattle.asn1_schema.specs.Pieces.{Piece, Count, Parts}
use Rattle.asn1_schema.specs.TypeEncodings.{TypeEncoding, nothing, both, several}
use Rattle.asn1_x691.specs.declared.fault.FaultKind.{FaultKind}
use Rattle.asn1_x691.specs.Fragments.{units_next, most_fragments}
use Rattle.asn1_x691.specs.Lists.{number_of_units, fragment_then, items_below, whole_fragments_then, items_in_fragments, IsCountable, list_where}
use Rattle.asn1_x691.specs.Laws.ListLaws.{number_made, below_is, above_is}
use Rattle.asn1_x691.specs.Laws.ListTypeLaws.{list_made}
use Rattle.asn1_x691_writers.specs.declared.state.Writer.{Writer}
use Rattle.asn1_x691_writers.specs.GrownSteps.{grown_none}
use Rattle.asn1_x691_writers.specs.Written.{IsWritten, IsGrown}
use Rattle.asn1_x691_encode.specs.declared.context.Context.{Context}
use Rattle.asn1_x691_encode.specs.Encoding.{tape, types, fragment_in, numbered_in, below_in, IsEncoded, IsFirstMisfit, Outcome}
use Rattle.asn1_x691_encode.specs.ListSteps.{IsUnderway, underway_first, underway_on, both_step, both_fails}

-- `whole` fragments of 65,536 items, and fewer items after them
abbrev pub whole_in : Context → ℕ → ℕ → ℕ → ℕ → ℕ → ℕ → TypeEncoding FaultKind
whole_in c depth node item whole left =
    whole_fragments_then (fragment_in c depth node item) c.is_aligned node whole (below_in c depth node item left)

module _ (c : Context) (depth node item : ℕ) where
  abbrev A : ℕ → ℕ → TypeEncoding FaultKind
  A = fragment_in c depth node item

  -- `n` items are a fragment: the encoder has no limit
  fragment_of : (n : ℕ) (was now : List ℕ) (old new : Writer) (r : Bool) → Outcome c (several (types c depth item) n) was old now new r
      → Outcome c (A n) was old now new r
  fragment_of n was now old new true a = record {
    parts = a.parts;
    written = record { list = a.written.list; encodes = λ at h. (a.written.encodes at h, λ w. w); grown = a.written.grown };
    taken = a.taken;
  }
  fragment_of n was now old new false (inl m) = inl (record { kind = m.kind; reason = m.reason; first = λ at h. inl (m.first at h) })
  fragment_of n was now old new false (inr u) = inr u

  abbrev Number : ℕ → ℕ → TypeEncoding FaultKind
  Number n = number_of_units A c.is_aligned node n

  abbrev pub Fragment : ℕ → (ℕ → TypeEncoding FaultKind) → ℕ → TypeEncoding FaultKind
  Fragment n R = fragment_then A c.is_aligned node n R

  -- the number of the items that follow
  number_encoded : (n : ℕ) (was now : List ℕ) (old mid : Writer) → IsWritten c.is_aligned (units_next c.is_aligned node) n was old.at now mid.at
      → mid.next ≡ old.next → IsEncoded c (Number n) was old now mid
  number_encoded n was now old mid w e = record {
    parts = [];
    written = record {
      list = w.list;
      encodes = λ at h. number_made A c.is_aligned node n at w.list (w.encodes at h);
      grown = w.grown;
    };
    taken = ap (λ (i : ℕ). tape c i) (sym e);
  }

  module _ (n : ℕ) (R : ℕ → TypeEncoding FaultKind) (was now : List ℕ) (old mid : Writer)
      (w : IsWritten c.is_aligned (units_next c.is_aligned node) n was old.at now mid.at) (e : mid.next ≡ old.next) where
    after_number : IsUnderway c (Fragment n R) (both (A n) R) was old now mid
    after_number = both_step c (Number n) (both (A n) R) was now old mid (number_encoded n was now old mid w e)

    pub fragment_step : (end : List ℕ) (new : Writer) → Outcome c (several (types c depth item) n) now mid end new true → IsUnderway c (Fragment n R) R was old end new
    fragment_step end new a =
        underway_on c (Fragment n R) (both (A n) R) R was now end old mid new after_number (both_step c (A n) R now end mid new (fragment_of n now end mid new true a))

    pub fragment_fails : (end : List ℕ) (new : Writer) → Outcome c (several (types c depth item) n) now mid end new false
        → Outcome c (Fragment n R) was old end new false
    fragment_fails end new o = after_number.onward end new false (both_fails c (A n) R now end mid new (fragment_of n now end mid new false o))

  -- nothing follows
  nothing_left : (now : List ℕ) (mid : Writer) → Outcome c nothing now mid now mid true
  nothing_left now mid = record {
    parts = [];
    written = record { list = []; encodes = λ at h. (refl, refl); grown = grown_none now mid.at };
    taken = refl;
  }

  -- the last items
  pub last_done : (n : ℕ) (was now end : List ℕ) (old mid new : Writer) (r : Bool)
      → IsWritten c.is_aligned (units_next c.is_aligned node) n was old.at now mid.at → mid.next ≡ old.next
      → Outcome c (several (types c depth item) n) now mid end new r → Outcome c (Fragment n nothing) was old end new r
  last_done n was now end old mid new true w e a =
      (fragment_step n nothing was now old mid w e end new a).onward end new true (nothing_left end new)
  last_done n was now end old mid new false w e a = fragment_fails n nothing was now old mid w e end new a

  -- ---- fewer than 65,536 items

  pub few_items : (n : ℕ) (was end : List ℕ) (old new : Writer) (r : Bool) → n < 16384 → Outcome c (Fragment n nothing) was old end new r
      → Outcome c (below_in c depth node item n) was old end new r
  few_items n was end old new r few o =
      subst (λ (b : Bool). Outcome c (items_below A c.is_aligned node b n) was old end new r) (sym (below_is n 16384 few)) o

  pub more_items : (n : ℕ) (was end : List ℕ) (old new : Writer) (r : Bool) → 16384 ≤ n
      → Outcome c (Fragment (16384 * (n / 16384)) (Fragment (n % 16384) nothing)) was old end new r
      → Outcome c (below_in c depth node item n) was old end new r
  more_items n was end old new r many o =
      subst (λ (b : Bool). Outcome c (items_below A c.is_aligned node b n) was old end new r) (sym (above_is n 16384 many)) o

  -- ---- fragments of 65,536 items

  module _ (left : ℕ) (W : ℕ → TypeEncoding FaultKind) (was now : List ℕ) (old mid : Writer) where
    abbrev Whole : ℕ → ℕ → TypeEncoding FaultKind
    Whole n = whole_in c depth node item n left

    pub whole_step : (whole : ℕ) (next end : List ℕ) (last new : Writer) → 0 < whole → IsUnderway c W (Whole whole) was old now mid
        → IsWritten c.is_aligned (units_next c.is_aligned node) 65536 now mid.at next last.at → last.next ≡ mid.next
        → Outcome c (several (types c depth item) 65536) next last end new true → IsUnderway c W (Whole (whole - 1)) was old end new
    whole_step zero next end last new some g w e a = absurd (omega (arith, some))
    whole_step (suc whole) next end last new some g w e a =
        let f : whole ≡ suc whole - 1 = omega arith in
        subst (λ (n : ℕ). IsUnderway c W (Whole n) was old end new) f
        (underway_on c W (Whole (suc whole)) (Whole whole) was now end old mid new g
        (fragment_step 65536 (Whole whole) now next mid last w e end new a))

    pub whole_fails : (whole : ℕ) (next end : List ℕ) (last new : Writer) → 0 < whole → IsUnderway c W (Whole whole) was old now mid
        → IsWritten c.is_aligned (units_next c.is_aligned node) 65536 now mid.at next last.at → last.next ≡ mid.next
        → Outcome c (several (types c depth item) 65536) next last end new false → Outcome c W was old end new false
    whole_fails zero next end last new some g w e o = absurd (omega (arith, some))
    whole_fails (suc whole) next end last new some g w e o =
        g.onward end new false (fragment_fails 65536 (Whole whole) now next mid last w e end new o)

    pub whole_done : (whole : ℕ) (end : List ℕ) (new : Writer) (r : Bool) → whole ≡ 0 → IsUnderway c W (Whole whole) was old now mid
        → Outcome c (below_in c depth node item left) now mid end new r → Outcome c W was old end new r
    whole_done zero end new r none g o = g.onward end new r o
    whole_done (suc whole) end new r none g o = absurd (omega (arith, none))

  -- ---- the part that tells how many items there are

  module _ (Yes No : ℕ → Type 0) (kind : FaultKind) (n : ℕ) (was : List ℕ) (old mid : Writer) (at : mid.at ≡ old.at)
      (yes : Yes n) (few : n < 2 ^ 64) (e : tape c old.next ≡ Count n ∷ tape c mid.next) where
    abbrev L : ℕ → TypeEncoding FaultKind
    L = list_where A c.is_aligned node most_fragments Yes No kind

    countable : IsCountable most_fragments Yes n
    unfolding most_fragments
    countable = (yes, omega (arith, few))

    list_encoded : (end : List ℕ) (new : Writer) → IsEncoded c (numbered_in c depth node item n) was mid end new → IsEncoded c L was old end new
    list_encoded end new b = record {
      parts = Count n ∷ b.parts;
      written = record {
        list = b.written.list;
        encodes = λ to h.
            list_made A c.is_aligned node most_fragments Yes No kind n to b.parts b.written.list countable
            (b.written.encodes to (λ q. h q ∙ ap (λ (i : ℕ). i % 8) (sym at)));
        grown = subst (λ (i : ℕ). IsGrown was i end new.at b.written.list) at b.written.grown;
      };
      taken = e ∙ ap (λ (t : Parts). Count n ∷ t) b.taken;
    }

    list_misfit : (new : Writer) → IsFirstMisfit c (numbered_in c depth node item n) mid new → IsFirstMisfit c L old new
    list_misfit new m = record {
      kind = m.kind;
      reason = m.reason;
      first = λ to h.
          subst (λ (t : Parts). (L to).misfit t (record { node = new.node; left = length (tape c new.next); kind = m.kind })) (sym e)
          (inl (n, refl, inl (countable, m.first to (λ q. h q ∙ ap (λ (i : ℕ). i % 8) (sym at)))));
    }

    pub list_done : (end : List ℕ) (new : Writer) (r : Bool) → Outcome c (numbered_in c depth node item n) was mid end new r
        → Outcome c L was old end new r
    list_done end new true b = list_encoded end new b
    list_done end new false (inl m) = inl (list_misfit new m)
    list_done end new false (inr u) = inr u
