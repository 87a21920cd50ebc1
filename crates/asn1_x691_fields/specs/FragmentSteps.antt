-- What follows from steps over units in fragments (X.691 11.9.3.8).
use Rattle.std.proofs.Common.{◌≡◌, ℕ, zero, suc, ◌+◌, ◌-◌, ◌*◌, ◌%◌, ◌^◌, ◌<◌, ◌≤◌, List, [], ◌++◌, Bool, take, drop, refl, sym, ◌∙◌, ap, subst, arith, append_assoc, inl, inr}
use Rattle.std.specs.Prelude.{◌⊎◌}
use Rattle.std.proofs.Math.Nat.{mul-le-mul_right, mul-mod_right}
use Rattle.std.proofs.lemmas.Bool.{cases_lt}
use Rattle.std.proofs.lemmas.List.{append-nil}
use Rattle.asn1_schema.specs.declared.part.Fragments.{Fragments}
use Rattle.asn1_schema.specs.Encodings.{Fault, Encoding, Starts, IsAt, number, constant, invalid, in_case, anywhere}
use Rattle.asn1_schema.specs.PiecesOfParts.{bits_at, bits_of, whole_fragments, joined}
use Rattle.asn1_x691.specs.declared.fault.FaultKind.{FaultKind}
use Rattle.asn1_x691.specs.declared.fault.FaultKind.TheVariants.{Short, Fragment, NotMinimal}
use Rattle.asn1_x691.specs.Fragments.{units_after, units_octets, units_next, units, units_then, last_units, all_units, bits_of_units, string, octets, most_fragments}
use Rattle.asn1_x691_fields.specs.declared.state.State.{State}
use Rattle.asn1_x691_fields.specs.Fragments.{after_fragments}
use Rattle.asn1_x691_fields.specs.Outcomes.{rest, position, IsWithin, IsOnward}
use Rattle.asn1_x691_fields.specs.Steps.{then_starts, then_fault, constant_starts, turn_starts, turn_fault, moved_on, within_after}
use Rattle.asn1_x691_fields.specs.StringSteps.{starts_by}

-- a unit has at least one bit
pub as_many : (unit n : ℕ) → 1 ≤ unit → n ≤ unit * n
as_many unit n some =
    let p : 1 * n ≤ unit * n = mul-le-mul_right n some in
    omega (arith, p)

pub zero_units : (unit : ℕ) → 0 % unit ≡ 0
zero_units unit =
    let e : unit * 0 ≡ 0 = omega arith in
    sym (ap (λ (n : ℕ). n % unit) e) ∙ mul-mod_right unit 0

-- ---- the number of the units of a fragment

module _ (node first : ℕ) (list mid : List Bool) (s : Starts (number 8 Short node).encodes list first mid) (large : 192 ≤ first) where
  pub fragment_starts : 1 ≤ first - 192 → first - 192 ≤ 4 → Starts (units_octets node).encodes list (16384 * (first - 192)) mid
  fragment_starts some few =
      let small : 128 ≤ first = omega (arith, large) in
      then_starts (number 8 Short node) (λ x n. n) (λ x. units_after node x) list mid mid first (16384 * (first - 192)) s
      (record { front = []; encoded = inr (small, inr (large, inl ((some, few), (refl, refl)))); parts = refl })

  pub no_fragment : (e : Fault FaultKind) → (first - 192 < 1) ⊎ (4 < first - 192) → IsAt Fragment node mid e
      → (units_octets node).fault list e
  no_fragment e wrong w =
      let small : 128 ≤ first = omega (arith, large) in
      then_fault (number 8 Short node) (λ x n. n) (λ x. units_after node x) list mid first e s
      (inr (small, inr (large, inr (wrong, w))))

-- ---- fragments of 65,536 units

pub no_fragments_after : (unit at : ℕ) → after_fragments unit at 0 ≡ at
unfolding after_fragments
no_fragments_after unit at = refl

pub no_fragments : (unit : ℕ) (list : List Bool) (at : ℕ) → whole_fragments unit list at 0 ≡ []
unfolding whole_fragments
no_fragments unit list at = refl

one_more_after : (unit at times : ℕ) → after_fragments unit at (suc times) ≡ after_fragments unit at times + unit * 65536 + 8
unfolding after_fragments
one_more_after unit at zero = refl
one_more_after unit at (suc times) = one_more_after unit (at + unit * 65536 + 8) times

pub next_after : (unit at times : ℕ) → after_fragments unit at (times + 1) ≡ after_fragments unit at times + unit * 65536 + 8
next_after unit at times =
    let e : times + 1 ≡ suc times = omega arith in
    ap (λ (n : ℕ). after_fragments unit at n) e ∙ one_more_after unit at times

one_more_whole : (unit : ℕ) (list : List Bool) (at times : ℕ)
    → whole_fragments unit list at (suc times)
    ≡ whole_fragments unit list at times ++ bits_at list (after_fragments unit at times) (unit * 65536)
unfolding whole_fragments after_fragments
one_more_whole unit list at zero = append-nil (bits_at list at (unit * 65536))
one_more_whole unit list at (suc times) =
    ap (λ (l : List Bool). bits_at list at (unit * 65536) ++ l) (one_more_whole unit list (at + unit * 65536 + 8) times)
    ∙ sym (append_assoc (bits_at list at (unit * 65536)) (whole_fragments unit list (at + unit * 65536 + 8) times)
    (bits_at list (after_fragments unit (at + unit * 65536 + 8) times) (unit * 65536)))

next_whole : (unit : ℕ) (list : List Bool) (at times : ℕ)
    → whole_fragments unit list at (times + 1)
    ≡ whole_fragments unit list at times ++ bits_at list (after_fragments unit at times) (unit * 65536)
next_whole unit list at times =
    let e : times + 1 ≡ suc times = omega arith in
    ap (λ (n : ℕ). whole_fragments unit list at n) e ∙ one_more_whole unit list at times

-- ---- units after their number

module _ (unit : ℕ) (aligned : Bool) (node : ℕ) where
  abbrev U : ℕ → ℕ → Encoding FaultKind (List Bool)
  U = bits_of_units unit node

  abbrev join : List Bool → List Bool → List Bool
  join a b = a ++ b

  -- what follows a number of units, where `more` fragments may follow
  abbrev pub after_number : ℕ → ℕ → ℕ → Encoding FaultKind (ℕ × List Bool)
  after_number more n = in_case (n < 16384) (units U join aligned node n) (16384 ≤ n)
      (in_case (n < 65536) (units_then U join aligned node n (last_units U join aligned node)) (65536 ≤ n)
      (units_then U join aligned node n (all_units U join aligned node more)))

  module _ (list : List Bool) (old mid : State) (h : IsWithin list old) (g : IsOnward list old mid) (n : ℕ) where
    -- the last units
    few_units : (y left : List Bool) → Starts (U n (position old)).encodes (rest list old) y (rest list mid)
        → Starts (units U join aligned node n (position old)).encodes (rest list old) (n, y) (rest list mid)
    few_units y left s =
        turn_starts list old mid h g (U n) (λ z u. (n, z)) (λ z. anywhere (constant (tt {0}))) y s (rest list mid) tt
        (constant_starts tt (rest list mid))

    pub few_start : (more : ℕ) (y : List Bool) → n < 16384 → Starts (U n (position old)).encodes (rest list old) y (rest list mid)
        → Starts (after_number more n (position old)).encodes (rest list old) (n, y) (rest list mid)
    few_start more y few s =
        starts_by (λ v l. (units U join aligned node n (position old)).encodes v l) (λ v l. (after_number more n (position old)).encodes v l)
        (rest list old) (rest list mid) (n, y) (λ front p. inl (few, p)) (few_units y [] s)

    -- a fragment that is no whole one, and the last units
    pub middle_starts : (more : ℕ) (y left : List Bool) (v : ℕ × List Bool) → 16384 ≤ n → n < 65536
        → Starts (U n (position old)).encodes (rest list old) y (rest list mid)
        → Starts (last_units U join aligned node (position mid)).encodes (rest list mid) v left
        → Starts (after_number more n (position old)).encodes (rest list old) (n + v.0, y ++ v.1) left
    middle_starts more y left v some few s t =
        starts_by (λ v l. (units_then U join aligned node n (last_units U join aligned node) (position old)).encodes v l)
        (λ v l. (after_number more n (position old)).encodes v l) (rest list old) left (n + v.0, y ++ v.1)
        (λ front p. inr (some, inl (few, p)))
        (turn_starts list old mid h g (U n) (λ z w. (n + w.0, z ++ w.1)) (λ z. last_units U join aligned node) y s left v t)

    pub middle_fault : (more : ℕ) (y : List Bool) (e : Fault FaultKind) → 16384 ≤ n → n < 65536
        → Starts (U n (position old)).encodes (rest list old) y (rest list mid)
        → (last_units U join aligned node (position mid)).fault (rest list mid) e
        → (after_number more n (position old)).fault (rest list old) e
    middle_fault more y e some few s w =
        let f : List Bool → ℕ × List Bool → ℕ × List Bool = λ z v. (n + v.0, z ++ v.1) in
        inr (some, inl (few, turn_fault list old mid h g (U n) f (λ z. last_units U join aligned node) y s e w))

    -- a whole fragment, and what follows the next number
    pub whole_starts : (more : ℕ) (y left : List Bool) (v : ℕ × List Bool) (next : State) (m : ℕ) → 65536 ≤ n
        → Starts (U n (position old)).encodes (rest list old) y (rest list mid) → IsOnward list mid next
        → Starts (units_next aligned node (position mid)).encodes (rest list mid) m (rest list next)
        → Starts (after_number more m (position next)).encodes (rest list next) v left
        → Starts (after_number (suc more) n (position old)).encodes (rest list old) (n + v.0, y ++ v.1) left
    whole_starts more y left v next m large s k r t =
        starts_by (λ v l. (units_then U join aligned node n (all_units U join aligned node (suc more)) (position old)).encodes v l)
        (λ v l. (after_number (suc more) n (position old)).encodes v l) (rest list old) left (n + v.0, y ++ v.1)
        (λ front p. inr (omega (arith, large), inr (large, p)))
        (turn_starts list old mid h g (U n) (λ z w. (n + w.0, z ++ w.1)) (λ z. all_units U join aligned node (suc more)) y s left v
        (turn_starts list mid next (within_after list old mid h (moved_on list old mid g)) k (units_next aligned node) (λ z w. w)
        (after_number more) m r left v t))

    pub whole_fault : (more : ℕ) (y : List Bool) (e : Fault FaultKind) → 65536 ≤ n
        → Starts (U n (position old)).encodes (rest list old) y (rest list mid)
        → (all_units U join aligned node (suc more) (position mid)).fault (rest list mid) e
        → (after_number (suc more) n (position old)).fault (rest list old) e
    whole_fault more y e large s w =
        let f : List Bool → ℕ × List Bool → ℕ × List Bool = λ z v. (n + v.0, z ++ v.1) in
        inr (omega (arith, large), inr (large, turn_fault list old mid h g (U n) f (λ z. all_units U join aligned node (suc more)) y s e w))

    -- a number, and what it tells, are all units
    pub number_starts_all : (more : ℕ) (v : ℕ × List Bool) (left : List Bool)
        → Starts (units_next aligned node (position old)).encodes (rest list old) n (rest list mid)
        → Starts (after_number more n (position mid)).encodes (rest list mid) v left
        → Starts (all_units U join aligned node (suc more) (position old)).encodes (rest list old) v left
    number_starts_all more v left s t =
        turn_starts list old mid h g (units_next aligned node) (λ z w. w) (after_number more) n s left v t

    pub number_fault_all : (more : ℕ) (e : Fault FaultKind)
        → Starts (units_next aligned node (position old)).encodes (rest list old) n (rest list mid)
        → (after_number more n (position mid)).fault (rest list mid) e
        → (all_units U join aligned node (suc more) (position old)).fault (rest list old) e
    number_fault_all more e s w =
        turn_fault list old mid h g (units_next aligned node) (λ z w. w) (after_number more) n s e w

  pub few_fault : (more n at : ℕ) (list : List Bool) (e : Fault FaultKind) → (U n at).fault list e → (after_number more n at).fault list e
  few_fault more n at list e w = elim (cases_lt n 16384) [
    | inl lt ↦ inl (lt, inl w)
    | inr le ↦ elim (cases_lt n 65536) [
      | inl lt ↦ inr (le, inl (lt, inl w))
      | inr large ↦ inr (le, inr (large, inl w))
    ]
  ]

  -- ---- the last units

  abbrev after_last : ℕ → ℕ → Encoding FaultKind (ℕ × List Bool)
  after_last n = in_case (n < 16384) (units U join aligned node n) (16384 ≤ n) (anywhere (invalid NotMinimal node))

  module _ (list : List Bool) (old mid : State) (h : IsWithin list old) (g : IsOnward list old mid) (n : ℕ)
      (s : Starts (units_next aligned node (position old)).encodes (rest list old) n (rest list mid)) where
    pub last_start : (new : State) (y : List Bool) → n < 16384 → IsOnward list mid new
        → Starts (U n (position mid)).encodes (rest list mid) y (rest list new)
        → Starts (last_units U join aligned node (position old)).encodes (rest list old) (n, y) (rest list new)
    last_start new y few k t =
        turn_starts list old mid h g (units_next aligned node) (λ z w. w) after_last n s (rest list new) (n, y)
        (starts_by (λ v l. (units U join aligned node n (position mid)).encodes v l) (λ v l. (after_last n (position mid)).encodes v l)
        (rest list mid) (rest list new) (n, y) (λ front p. inl (few, p))
        (few_units list mid new (within_after list old mid h (moved_on list old mid g)) k n y [] t))

    pub last_fault : (e : Fault FaultKind) → n < 16384 → (U n (position mid)).fault (rest list mid) e
        → (last_units U join aligned node (position old)).fault (rest list old) e
    last_fault e few w = turn_fault list old mid h g (units_next aligned node) (λ z w. w) after_last n s e (inl (few, inl w))

    pub last_too_large : (e : Fault FaultKind) → 16384 ≤ n → IsAt NotMinimal node (rest list mid) e
        → (last_units U join aligned node (position old)).fault (rest list old) e
    last_too_large e large w = turn_fault list old mid h g (units_next aligned node) (λ z w. w) after_last n s e (inr (large, w))

-- ---- the loop over fragments of 65,536 units

-- what a number of units says from here on, after `whole` fragments, all say from the first number on
pub record AreUnderway (unit : ℕ) (aligned : Bool) (node : ℕ) (list : List Bool) (old now : State) (at whole n : ℕ) : Type 0 where
  pub done : (v : ℕ × List Bool) (left : List Bool)
      → Starts (after_number unit aligned node (most_fragments - 1 - whole) n (position now)).encodes (rest list now) v left
      → Starts (string most_fragments aligned unit node (position old)).encodes (rest list old) (65536 * whole + v.0, whole_fragments unit list at whole ++ v.1) left
  pub fault : (e : Fault FaultKind) → (after_number unit aligned node (most_fragments - 1 - whole) n (position now)).fault (rest list now) e
      → (string most_fragments aligned unit node (position old)).fault (rest list old) e

module _ (unit : ℕ) (aligned : Bool) (node : ℕ) (list : List Bool) (old : State) (h : IsWithin list old) where
  abbrev S : Encoding FaultKind (ℕ × List Bool)
  S = string most_fragments aligned unit node (position old)

  most_is : suc (most_fragments - 1 - 0) ≡ most_fragments
  unfolding most_fragments
  most_is = refl

  pub underway_begins : (now : State) (at n : ℕ) → IsOnward list old now
      → Starts (units_next aligned node (position old)).encodes (rest list old) n (rest list now)
      → AreUnderway unit aligned node list old now at 0 n
  underway_begins now at n g s =
      let same : (k : ℕ) → 65536 * 0 + k ≡ k = λ k. omega arith in
      record {
        done = λ v left t.
            let p : Starts (all_units (bits_of_units unit node) (λ a b. a ++ b) aligned node (suc (most_fragments - 1 - 0)) (position old)).encodes
            (rest list old) v left = number_starts_all unit aligned node list old now h g n (most_fragments - 1 - 0) v left s t in
            let q : Starts S.encodes (rest list old) v left =
            subst (λ (m : ℕ). Starts (all_units (bits_of_units unit node) (λ a b. a ++ b) aligned node m (position old)).encodes (rest list old) v left)
            most_is p in
            subst (λ (l : List Bool). Starts S.encodes (rest list old) (65536 * 0 + v.0, l ++ v.1) left) (sym (no_fragments unit list at))
            (subst (λ (m : ℕ). Starts S.encodes (rest list old) (m, v.1) left) (sym (same v.0)) q);
        fault = λ e w.
            subst (λ (m : ℕ). (all_units (bits_of_units unit node) (λ a b. a ++ b) aligned node m (position old)).fault (rest list old) e)
            most_is (number_fault_all unit aligned node list old now h g n (most_fragments - 1 - 0) e s w);
      }

  module _ (now mid : State) (at whole n : ℕ) (w : IsWithin list now) (g : IsOnward list now mid) (is : n ≡ 65536)
      (place : now.at ≡ after_fragments unit at whole) (fuel : whole + 1 < most_fragments)
      (u : AreUnderway unit aligned node list old now at whole n)
      (s : Starts (bits_of_units unit node n (position now)).encodes (rest list now) (take (unit * n) (drop now.at list)) (rest list mid)) where
    fuel_is : most_fragments - 1 - whole ≡ suc (most_fragments - 1 - (whole + 1))
    fuel_is = omega (arith, fuel)

    abbrev y : List Bool
    y = take (unit * n) (drop now.at list)

    pub underway_goes_on : (next : State) (m : ℕ) → IsOnward list mid next
        → Starts (units_next aligned node (position mid)).encodes (rest list mid) m (rest list next)
        → AreUnderway unit aligned node list old next at (whole + 1) m
    underway_goes_on next m k r = record {
      done = λ v left t.
          let p = whole_starts unit aligned node list now mid w g n (most_fragments - 1 - (whole + 1)) y left v next m (omega (arith, is)) s k r t in
          let q = u.done (n + v.0, y ++ v.1) left
          (subst (λ (f : ℕ). Starts (after_number unit aligned node f n (position now)).encodes (rest list now) (n + v.0, y ++ v.1) left) (sym fuel_is) p) in
          let count : 65536 * whole + (n + v.0) ≡ 65536 * (whole + 1) + v.0 = omega (arith, is) in
          let bits : whole_fragments unit list at whole ++ (y ++ v.1) ≡ whole_fragments unit list at (whole + 1) ++ v.1 =
          sym (append_assoc (whole_fragments unit list at whole) y v.1)
          ∙ ap (λ (l : List Bool). l ++ v.1)
          (ap (λ (i : ℕ). whole_fragments unit list at whole ++ take (unit * n) (drop i list)) place
          ∙ ap (λ (i : ℕ). whole_fragments unit list at whole ++ bits_at list (after_fragments unit at whole) (unit * i)) is
          ∙ sym (next_whole unit list at whole)) in
          subst (λ (c : ℕ). Starts S.encodes (rest list old) (c, whole_fragments unit list at (whole + 1) ++ v.1) left) count
          (subst (λ (l : List Bool). Starts S.encodes (rest list old) (65536 * whole + (n + v.0), l) left) bits q);
      fault = λ e f.
          u.fault e (subst (λ (z : ℕ). (after_number unit aligned node z n (position now)).fault (rest list now) e) (sym fuel_is)
          (whole_fault unit aligned node list now mid w g n (most_fragments - 1 - (whole + 1)) y e (omega (arith, is)) s
          (number_fault_all unit aligned node list mid next (within_after list now mid w (moved_on list now mid g)) k m
          (most_fragments - 1 - (whole + 1)) e r f)));
    }

    pub underway_number_fault : (e : Fault FaultKind) → (units_next aligned node (position mid)).fault (rest list mid) e → S.fault (rest list old) e
    underway_number_fault e f =
        u.fault e (subst (λ (z : ℕ). (after_number unit aligned node z n (position now)).fault (rest list now) e) (sym fuel_is)
        (whole_fault unit aligned node list now mid w g n (most_fragments - 1 - (whole + 1)) y e (omega (arith, is)) s (inl f)))

pub fuel_left : (whole at : ℕ) → 65536 * (whole + 1) ≤ at → at < 2 ^ 64 → whole + 1 < most_fragments
unfolding most_fragments
fuel_left whole at far few = omega (arith, far, few)

-- units that are in no fragments
pub one_piece : (unit : ℕ) (list : List Bool) (f : Fragments) → f.whole ≡ 0 → f.middle.count ≡ 0 → bits_of list f.last ≡ joined unit list f
one_piece unit list f none empty =
    let a : whole_fragments unit list f.at f.whole ≡ [] =
    ap (λ (n : ℕ). whole_fragments unit list f.at n) none ∙ no_fragments unit list f.at in
    let b : bits_of list f.middle ≡ [] = ap (λ (n : ℕ). take n (drop f.middle.at list)) empty in
    sym (ap (λ (l : List Bool). l ++ (bits_of list f.middle ++ bits_of list f.last)) a ∙ ap (λ (l : List Bool). l ++ bits_of list f.last) b)

-- units of eight bits are octets
module _ (list : List Bool) (old mid : State) (h : IsWithin list old) (g : IsOnward list old mid) (aligned : Bool) (node : ℕ)
    (v : ℕ × List Bool) (s : Starts (string most_fragments aligned 8 node (position old)).encodes (rest list old) v (rest list mid)) where
  pub octets_start : Starts (octets most_fragments aligned node (position old)).encodes (rest list old) v.1 (rest list mid)
  octets_start =
      turn_starts list old mid h g (string most_fragments aligned 8 node) (λ x u. x.1) (λ x. anywhere (constant (tt {0}))) v s (rest list mid) tt
      (constant_starts tt (rest list mid))
