-- What follows from steps over units and their number.
use Rattle.std.proofs.Common.{◌≡◌, ℕ, zero, suc, ◌+◌, ◌-◌, ◌*◌, ◌<◌, ◌≤◌, List, [], Bool, take, drop, refl, sym, ◌∙◌, ap, subst, arith, inl, inr, Option, Some, None}
use Rattle.std.specs.Prelude.{◌⊎◌, IfSome}
use Rattle.asn1_schema.specs.Encodings.{Fault, Encoding, Starts, invalid, number, constant, then, in_turn, in_case, anywhere}
use Rattle.asn1_x691.specs.declared.fault.FaultKind.{FaultKind}
use Rattle.asn1_x691.specs.declared.fault.FaultKind.TheVariants.{Short, Fragment, Unsupported}
use Rattle.asn1_x691.specs.Fields.{long_enough, on_octet}
use Rattle.asn1_x691.specs.Fragments.{units_after, units_octets, units_next, units, all_units}
use Rattle.asn1_x691.specs.Strings.{where_size}
use Rattle.asn1_x691_fields.specs.declared.state.State.{State}
use Rattle.asn1_x691_fields.specs.Outcomes.{rest, position, fault_of, IsWithin, IsOnward, IsRead}
use Rattle.asn1_x691_fields.specs.NumberSteps.{octet_starts, octet_fault}
use Rattle.asn1_x691_fields.specs.Steps.{fault_at, then_starts, then_fault, constant_starts, turn_starts, turn_fault, moved_on, within_after}

-- the same bits, by another encoding
pub starts_by : {X : Type 0} (P Q : X → List Bool → Type 0) (list left : List Bool) (x : X) → ((front : List Bool) → P x front → Q x front)
    → Starts P list x left → Starts Q list x left
starts_by P Q list left x f s = record { front = s.front; encoded = f s.front s.encoded; parts = s.parts }

pub none_read : {X T : Type 0} (A : ℕ → Encoding FaultKind X) (f : T → X) (list : List Bool) (old new : State) (r : Option T) → r ≡ None
    → (A (position old)).fault (rest list old) (fault_of new) → IsRead A f list old new r
none_read A f list old new r e w = subst (λ (o : Option _). IsRead A f list old new o) (sym e) w

-- ---- the number of the units

pub long_count : (node first second : ℕ) (list mid left : List Bool) → Starts (number 8 Short node).encodes list first mid
    → Starts (number 8 Short node).encodes mid second left → 128 ≤ first → first < 192 → 128 ≤ 256 * (first - 128) + second
    → Starts (units_octets node).encodes list (256 * (first - 128) + second) left
long_count node first second list mid left s t a b c =
    let n = 256 * (first - 128) + second in
    then_starts (number 8 Short node) (λ x m. m) (λ x. units_after node x) list mid left first n s
    (starts_by (λ m l. (then (number 8 Short node) (λ x m. m) (λ x. long_enough node (256 * (first - 128) + x))).encodes m l)
    (λ m l. (units_after node first).encodes m l) mid left n
    (λ front p. inr (a, inl (b, p)))
    (then_starts (number 8 Short node) (λ x m. m) (λ x. long_enough node (256 * (first - 128) + x)) mid left left second n t
    (record { front = []; encoded = inl (c, (refl, refl)); parts = refl })))

-- a fragment, or the fault of its first octet
module _ (list : List Bool) (old mid new : State) (node first : ℕ) (g : IsOnward list old mid)
    (s : Starts (number 8 Short node).encodes (rest list old) first (rest list mid)) (many : 192 ≤ first) where
  fragment_starts : (n : ℕ) → rest list new ≡ rest list mid → (1 ≤ first - 192) × (first - 192 ≤ 4) → n ≡ 16384 * (first - 192)
      → Starts (units_octets node).encodes (rest list old) n (rest list new)
  fragment_starts n same p is =
      then_starts (number 8 Short node) (λ x m. m) (λ x. units_after node x) (rest list old) (rest list mid) (rest list new) first n s
      (record { front = []; encoded = inr (omega (arith, many), inr (many, inl (p, (is, refl)))); parts = sym same })

  fragment_fault : (first - 192 < 1) ⊎ (4 < first - 192) → new.at ≡ mid.at → new.end ≡ mid.end → new.node ≡ node → new.kind ≡ Fragment
      → (units_octets node).fault (rest list old) (fault_of new)
  fragment_fault p at end place kind =
      then_fault (number 8 Short node) (λ x m. m) (λ x. units_after node x) (rest list old) (rest list mid) first (fault_of new) s
      (inr (omega (arith, many), inr (many, inr (p, fault_at list mid new node Fragment g.inside at end place kind))))

  pub fragment_read : (r : Option ℕ) → IfSome r (λ n. (1 ≤ first - 192) × (first - 192 ≤ 4) × (n ≡ 16384 * (first - 192)))
      → (r ≡ None → ((first - 192 < 1) ⊎ (4 < first - 192)) × (new.node ≡ node) × (new.kind ≡ Fragment)) → new.at ≡ mid.at
      → new.end ≡ mid.end → IsRead (λ at. units_octets node) (λ n. n) list old new r
  fragment_read (Some n) p q at end =
      let same : rest list new ≡ rest list mid =
      ap (λ (k : ℕ). drop k (take new.end list)) at ∙ ap (λ (k : ℕ). drop mid.at (take k list)) end in
      fragment_starts n same (p.0, p.1) p.2
  fragment_read None p q at end = let w = q refl in fragment_fault w.0 at end w.1 w.2

-- ---- the units

module _ {Y : Type 0} (U : ℕ → ℕ → Encoding FaultKind Y) (join : Y → Y → Y) (aligned : Bool) (node : ℕ) where
  abbrev B : ℕ → ℕ → Encoding FaultKind (ℕ × Y)
  B n = in_case (n < 16384) (units U join aligned node n) (16384 ≤ n) (anywhere (invalid Unsupported node))

  module _ (list : List Bool) (old mid : State) (h : IsWithin list old) (g : IsOnward list old mid) (n : ℕ)
      (s : Starts (units_next aligned node (position old)).encodes (rest list old) n (rest list mid)) where
    pub units_start : n < 16384 → (new : State) (y : Y) → IsOnward list mid new
        → Starts (U n (position mid)).encodes (rest list mid) y (rest list new)
        → Starts (all_units U join aligned node 0 (position old)).encodes (rest list old) (n, y) (rest list new)
    units_start few new y k t =
        turn_starts list old mid h g (units_next aligned node) (λ m v. v) B n s (rest list new) (n, y)
        (starts_by (λ v l. (units U join aligned node n (position mid)).encodes v l) (λ v l. (B n (position mid)).encodes v l)
        (rest list mid) (rest list new) (n, y) (λ front p. inl (few, p))
        (turn_starts list mid new (within_after list old mid h (moved_on list old mid g)) k (U n) (λ z u. (n, z))
        (λ z. anywhere (constant (tt {0}))) y t (rest list new) tt (constant_starts tt (rest list new))))

    pub units_fault : n < 16384 → (e : Fault FaultKind) → (U n (position mid)).fault (rest list mid) e
        → (all_units U join aligned node 0 (position old)).fault (rest list old) e
    units_fault few e w =
        turn_fault list old mid h g (units_next aligned node) (λ m v. v) B n s e (inl (few, inl w))

    -- a fragment exceeds the limit
    pub limit_fault : 16384 ≤ n → (new : State) → new.at ≡ mid.at → new.end ≡ mid.end → new.node ≡ node → new.kind ≡ Unsupported
        → (all_units U join aligned node 0 (position old)).fault (rest list old) (fault_of new)
    limit_fault many new at end place kind =
        turn_fault list old mid h g (units_next aligned node) (λ m v. v) B n s (fault_of new)
        (inr (many, fault_at list mid new node Unsupported g.inside at end place kind))

  pub count_fault : (most at : ℕ) (list : List Bool) (e : Fault FaultKind) → (units_next aligned node at).fault list e
      → (all_units U join aligned node most at).fault list e
  count_fault zero at list e w = inl w
  count_fault (suc more) at list e w = inl w

pub counted_after_start : {X T : Type 0} (A : Encoding FaultKind X) (node : ℕ) (aligned : Bool) (list : List Bool) (old mid new : State)
    (f : T → X) (r : Option T)
    → Starts (on_octet aligned node (constant {K = FaultKind} (tt {0})) (position old)).encodes (rest list old) tt (rest list mid)
    → IsRead (λ at. A) f list mid new r → IsRead (on_octet aligned node A) f list old new r
counted_after_start A node aligned list old mid new f (Some t) s p =
    octet_starts node A (position old) aligned (rest list old) (rest list mid) (rest list new) (f t) s p
counted_after_start A node aligned list old mid new f None s w =
    octet_fault node A (position old) aligned (rest list old) (rest list mid) (fault_of new) s w

-- units of a permitted number
pub sized_starts : {X : Type 0} (A : ℕ → Encoding FaultKind (ℕ × X)) (node : ℕ) (Yes No : ℕ → Type 0) (kind : FaultKind) (list : List Bool)
    (old mid : State) → IsWithin list old → IsOnward list old mid → (v : ℕ × X)
    → Starts (A (position old)).encodes (rest list old) v (rest list mid) → Yes v.0
    → Starts (in_turn A (λ v x. x) (λ v. where_size Yes No kind node v) (position old)).encodes (rest list old) v.1 (rest list mid)
sized_starts A node Yes No kind list old mid h g v s fits =
    turn_starts list old mid h g A (λ v x. x) (λ v. where_size Yes No kind node v) v s (rest list mid) v.1
    (record { front = []; encoded = inl (fits, (refl, refl)); parts = refl })
