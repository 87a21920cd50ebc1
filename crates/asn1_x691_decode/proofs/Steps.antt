-- Steps of a decoder.
use Rattle.std.proofs.Common.{◌≡◌, ℕ, zero, suc, ◌+◌, ◌-◌, ◌<◌, ◌≤◌, List, [], ◌∷◌, ◌++◌, Bool, true, false, length, take, drop, refl, sym, ◌∙◌, ap, subst, arith, append_assoc, Option, Some, None, inl}
use Rattle.std.specs.Prelude.{slice_get}
use Rattle.std.proofs.lemmas.List.{append-nil}
use Rattle.std.proofs.lemmas.Option.{slice_get_past}
use Rattle.asn1_bits.specs.Bits.{bits}
use Rattle.asn1_schema.specs.declared.tables.Node.{Node}
use Rattle.asn1_schema.specs.declared.tables.Member.{Member}
use Rattle.asn1_schema.specs.declared.tables.Presence.{Presence}
use Rattle.asn1_schema.specs.declared.tables.Presence.TheVariants as presence
use Rattle.asn1_schema.specs.declared.part.Part.{Part}
use Rattle.asn1_schema.specs.declared.tables.Range.{Range}
use Rattle.asn1_schema.specs.Pieces.{Piece, Parts, Absent}
use Rattle.asn1_schema.specs.PiecesOfParts.{piece_of}
use Rattle.asn1_schema.specs.Encodings.{Fault, Encoding, Starts, constant, invalid, cases, in_turn, IsAt}
use Rattle.asn1_x691.specs.declared.fault.FaultKind.{FaultKind}
use Rattle.asn1_x691.specs.declared.fault.FaultKind.TheVariants.{NoNode, TooDeep}
use Rattle.asn1_x691.specs.Types.{component_by, component}
use Rattle.asn1_x691_fields.specs.declared.state.State.{State}
use Rattle.asn1_x691_fields.specs.Outcomes.{rest, position, fault_of, IsWithin, IsMoved, IsOnward, IsRead}
use Rattle.asn1_x691_fields.specs.Steps.{constant_starts, after_starts, after_fault, moved_on}
use Rattle.asn1_x691_decode.specs.declared.context.Context.{Context}
use Rattle.asn1_schema.specs.Room.{Holds, IsGrown}
use Rattle.asn1_x691_decode.specs.Room.{IsKept}
use Rattle.asn1_x691_decode.specs.Decoding.{Outcome, decoder_limits, defaults_in, IsDecoded, types, type_in, value_in, components_in, component_in, bits_after, bits_after_one}

-- ---- parts that follow others

pub grown_over : (ranges : List Range) (list : List Bool) (was mid now : List Part) (a b c : ℕ) (ts us : Parts) → IsGrown ranges list was a mid b ts
    → IsGrown ranges list mid b now c us → IsGrown ranges list was a now c (ts ++ us)
grown_over ranges list was mid now a b c ts us g h = λ tape k.
    subst (λ (l : Parts). Holds ranges list now c l) (append_assoc tape ts us) (h (tape ++ ts) (g tape k))

pub none_grown : (ranges : List Range) (list : List Bool) (was : List Part) (n : ℕ) → IsGrown ranges list was n was n []
none_grown ranges list was n = λ tape k. subst (λ (l : Parts). Holds ranges list was n l) (sym (append-nil tape)) k

-- ---- where only the count of parts differs

pub record IsSamePlace (old new : State) : Type 0 where
  pub at : new.at ≡ old.at
  pub first : new.first ≡ old.first
  pub end : new.end ≡ old.end

pub same_rest : (list : List Bool) (old new : State) → IsSamePlace old new → rest list new ≡ rest list old
same_rest list old new s = ap (λ (n : ℕ). drop n (take new.end list)) s.at ∙ ap (λ (n : ℕ). drop old.at (take n list)) s.end

pub same_position : (old new : State) → IsSamePlace old new → position new ≡ position old
same_position old new s = omega (arith, s.at, s.first)

pub same_fault : (old new : State) → IsSamePlace old new → new.node ≡ old.node → new.kind ≡ old.kind → fault_of new ≡ fault_of old
same_fault old new s n k = rw (s.at, s.end, n, k) refl

pub same_within : (list : List Bool) (old new : State) → IsSamePlace old new → IsWithin list old → IsWithin list new
same_within list old new s h = record {
  begins = omega (arith, s.at, s.first, h.begins);
  ends = omega (arith, s.at, s.end, h.ends);
  inside = omega (arith, s.end, h.inside);
}

-- ---- outcomes

module _ (c : Context) where
  abbrev list : List Bool
  list = bits c.octets.now

  -- what `rule` says from here on, `whole` says of all
  pub record IsUnderway (whole rule : ℕ → Encoding FaultKind Parts) (old now : State) (was is : List Part) : Type 0 where
    pub done : (new : State) (next : List Part) → IsDecoded c.tables.ranges.now (rule (position now)).encodes list now new is next
        → IsDecoded c.tables.ranges.now (whole (position old)).encodes list old new was next
    pub fault : (e : Fault FaultKind) → (rule (position now)).fault (rest list now) e
        → (whole (position old)).fault (rest list old) e

  pub same_step : (A : ℕ → Encoding FaultKind Parts) (s : State) (was : List Part) → IsUnderway A A s s was was
  same_step A s was = record { done = λ new next d. d; fault = λ e w. w }

  pub over : (A B C : ℕ → Encoding FaultKind Parts) (old now new : State) (was is next : List Part) → IsUnderway A B old now was is
      → IsUnderway B C now new is next → IsUnderway A C old new was next
  over A B C old now new was is next p q = record {
    done = λ s ps d. p.done s ps (q.done s ps d);
    fault = λ e w. p.fault e (q.fault e w);
  }

  pub outcome_on : (A B : ℕ → Encoding FaultKind Parts) (old now new : State) (was is next : List Part) (r : Bool)
      → IsUnderway A B old now was is → Outcome c B now new is next r → Outcome c A old new was next r
  outcome_on A B old now new was is next true p d = p.done new next d
  outcome_on A B old now new was is next false p w = p.fault (fault_of new) w

  pub by_true : (A : ℕ → Encoding FaultKind Parts) (old new : State) (was is : List Part) (r : Bool) → r ≡ true
      → Outcome c A old new was is r → IsDecoded c.tables.ranges.now (A (position old)).encodes list old new was is
  by_true A old new was is r e o = subst (λ (b : Bool). Outcome c A old new was is b) e o

  pub by_false : (A : ℕ → Encoding FaultKind Parts) (old new : State) (was is : List Part) (r : Bool) → r ≡ false
      → Outcome c A old new was is r → (A (position old)).fault (rest list old) (fault_of new)
  by_false A old new was is r e o = subst (λ (b : Bool). Outcome c A old new was is b) e o

  -- the same outcome for a step that failed
  pub fails_on : (A B : ℕ → Encoding FaultKind Parts) (old now new : State) (was is next : List Part) → IsUnderway A B old now was is
      → (B (position now)).fault (rest list now) (fault_of new)
      → (A (position old)).fault (rest list old) (fault_of new)
  fails_on A B old now new was is next p w = p.fault (fault_of new) w

  -- no bits and these parts
  pub nothing_decoded : (s : State) (was : List Part) → IsDecoded c.tables.ranges.now (constant {K = FaultKind} []).encodes list s s was was
  nothing_decoded s was =
      record { parts = []; starts = constant_starts [] (rest list s); grown = none_grown c.tables.ranges.now list was s.count }

  -- one part, and no bits
  pub part_decoded : (p : Piece) (old new : State) (was is : List Part) → IsSamePlace old new
      → IsGrown c.tables.ranges.now list was old.count is new.count (p ∷ []) → IsDecoded c.tables.ranges.now (constant {K = FaultKind} (p ∷ [])).encodes list old new was is
  part_decoded p old new was is s g = record {
    parts = p ∷ [];
    starts = subst (λ (l : List Bool). Starts (constant {K = FaultKind} (p ∷ [])).encodes (rest list old) (p ∷ []) l)
        (sym (same_rest list old new s)) (constant_starts (p ∷ []) (rest list old));
    grown = g;
  }

  -- bits that are in no part, and what they tell
  pub header_step : {X : Type 0} (A : ℕ → Encoding FaultKind X) (B : X → ℕ → Encoding FaultKind Parts) (old now : State) (was : List Part)
      (x : X) → IsWithin list old → IsOnward list old now → Starts (A (position old)).encodes (rest list old) x (rest list now)
      → IsUnderway (in_turn A (λ y ts. ts) B) (B x) old now was was
  header_step A B old now was x h g s = record {
    done = λ new next d. record {
      parts = d.parts;
      starts = after_starts list old now h (moved_on list old now g) A (λ y ts. ts) B x s (rest list new) d.parts d.starts;
      grown = subst (λ (n : ℕ). IsGrown c.tables.ranges.now list was n next new.count d.parts) g.same_count d.grown;
    };
    fault = λ e w. after_fault list old now h (moved_on list old now g) A (λ y ts. ts) B x s e w;
  }

  -- bits that are a part, and what follows them
  pub part_step : {X : Type 0} (A : ℕ → Encoding FaultKind X) (is : X → Piece) (B : X → ℕ → Encoding FaultKind Parts)
      (old mid now : State) (was next : List Part) (x : X) → IsWithin list old → IsOnward list old mid
      → Starts (A (position old)).encodes (rest list old) x (rest list mid) → IsSamePlace mid now
      → IsGrown c.tables.ranges.now list was mid.count next now.count (is x ∷ [])
      → IsUnderway (in_turn A (λ y ts. is y ∷ ts) B) (B x) old now was next
  part_step A is B old mid now was next x h g s same grown = record {
    done = λ new later d. record {
      parts = is x ∷ d.parts;
      starts = after_starts list old mid h (moved_on list old mid g) A (λ y ts. is y ∷ ts) B x s (rest list new) d.parts
          (subst (λ (l : List Bool). Starts (B x (position mid)).encodes l d.parts (rest list new)) (same_rest list mid now same)
          (subst (λ (n : ℕ). Starts (B x n).encodes (rest list now) d.parts (rest list new)) (same_position mid now same) d.starts));
      grown = grown_over c.tables.ranges.now list was next later old.count now.count new.count (is x ∷ []) d.parts
          (subst (λ (n : ℕ). IsGrown c.tables.ranges.now list was n next now.count (is x ∷ [])) g.same_count grown) d.grown;
    };
    fault = λ e w. after_fault list old mid h (moved_on list old mid g) A (λ y ts. is y ∷ ts) B x s e
        (subst (λ (l : List Bool). (B x (position mid)).fault l e) (same_rest list mid now same)
        (subst (λ (n : ℕ). (B x n).fault (rest list now) e) (same_position mid now same) w));
  }

  -- a value, and what follows it
  pub value_step : (A : ℕ → Encoding FaultKind Parts) (B : ℕ → Encoding FaultKind Parts) (old now : State) (was is : List Part)
      → IsWithin list old → IsMoved list old now → IsDecoded c.tables.ranges.now (A (position old)).encodes list old now was is
      → IsUnderway (in_turn A (λ ts us. ts ++ us) (λ ts. B)) B old now was is
  value_step A B old now was is h g a = record {
    done = λ new next d. record {
      parts = a.parts ++ d.parts;
      starts = after_starts list old now h g A (λ ts us. ts ++ us) (λ ts. B) a.parts a.starts (rest list new) d.parts d.starts;
      grown = grown_over c.tables.ranges.now list was is next old.count now.count new.count a.parts d.parts a.grown d.grown;
    };
    fault = λ e w. after_fault list old now h g A (λ ts us. ts ++ us) (λ ts. B) a.parts a.starts e w;
  }

  -- the first of two cases
  pub first_case : (C D : Type 0) (A B : ℕ → Encoding FaultKind Parts) (s : State) (was : List Part) → C
      → IsUnderway (λ at. cases C (A at) D (B at)) A s s was was
  first_case C D A B s was holds = record {
    done = λ new next d. record {
      parts = d.parts;
      starts = record { front = d.starts.front; encoded = inl (holds, d.starts.encoded); parts = d.starts.parts };
      grown = d.grown;
    };
    fault = λ e w. inl (holds, w);
  }

  onward_none : (s : State) → IsWithin list s → IsOnward list s s
  onward_none s h = record { same_first = refl; same_end = refl; same_count = refl; on = omega arith; ends = h.ends; inside = h.inside }

  -- a part that no bits tell, and what follows it
  pub put_step : (p : Piece) (B : ℕ → Encoding FaultKind Parts) (old now : State) (was next : List Part) → IsWithin list old
      → IsSamePlace old now → IsGrown c.tables.ranges.now list was old.count next now.count (p ∷ [])
      → IsUnderway (in_turn (λ at. constant (tt {0})) (λ u ts. p ∷ ts) (λ u. B)) B old now was next
  put_step p B old now was next h same grown =
      part_step (λ at. constant (tt {0})) (λ u. p) (λ u. B) old old now was next tt h (onward_none old h)
      (constant_starts tt (rest list old)) same grown

  -- a part and its bits, and nothing else
  pub leaf_decoded : {X : Type 0} (A : ℕ → Encoding FaultKind X) (is : X → Piece) (old mid now : State) (was next : List Part) (x : X)
      → IsWithin list old → IsOnward list old mid → Starts (A (position old)).encodes (rest list old) x (rest list mid)
      → IsSamePlace mid now → IsGrown c.tables.ranges.now list was mid.count next now.count (is x ∷ [])
      → IsDecoded c.tables.ranges.now (in_turn A (λ y ts. is y ∷ ts) (λ y at. constant {K = FaultKind} []) (position old)).encodes list old now was next
  leaf_decoded A is old mid now was next x h g s same grown =
      (part_step A is (λ y at. constant []) old mid now was next x h g s same grown).done now next (nothing_decoded now next)

  -- ---- the type at a node

  pub at_node : (node depth : ℕ) (kind : Option Node) (P : (ℕ → Encoding FaultKind Parts) → Type 0) → 0 < depth
      → slice_get c.tables.nodes.now node ≡ kind → P (λ at. (type_in c (depth - 1) node kind at).encoding)
      → P (λ at. (types c depth node at).encoding)
  at_node node zero kind P some is p = absurd (omega (arith, some))
  at_node node (suc depth) kind P some is p =
      let e : suc depth - 1 ≡ depth = omega arith in
      subst (λ (k : Option Node). P (λ at. (type_in c depth node k at).encoding)) (sym is)
      (subst (λ (d : ℕ). P (λ at. (type_in c d node kind at).encoding)) e p)

  pub too_deep : (node depth at : ℕ) (l : List Bool) (e : Fault FaultKind) → depth ≡ 0 → IsAt TooDeep node l e
      → (types c depth node at).encoding.fault l e
  too_deep node zero at l e z w = w
  too_deep node (suc depth) at l e z w = absurd (omega (arith, z))

  -- ---- components

  module _ (depth node : ℕ) where
    abbrev pub C : ℕ → ℕ → List Bool → ℕ → Encoding FaultKind Parts
    C count from p at = (components_in c depth node count from at).after p

    abbrev V : Presence → ℕ → ℕ → Encoding FaultKind Parts
    V m inner at = (value_in c depth node m inner at).encoding

    -- one component, and others
    one_step : (m : Presence) (inner count from : ℕ) (p : List Bool) (old now : State) (was is : List Part) → IsWithin list old
        → IsMoved list old now → IsDecoded c.tables.ranges.now (component_in c depth node m inner p (position old)).encodes list old now was is
        → IsUnderway (λ at. (component_by decoder_limits c.is_aligned (types c depth) c.tables.members.now c.tables.ranges.now
        (defaults_in c) node m (value_in c depth node m inner)
        (components_in c depth node count from) at).after p) (C count from (bits_after m p)) old now was is
    one_step presence.Mandatory inner count from p old now was is h g d =
        value_step (V presence.Mandatory inner) (C count from p) old now was is h g d
    one_step presence.Optional inner count from [] old now was is h g d = absurd d.starts.encoded
    one_step presence.Optional inner count from (false ∷ p) old now was is h g d =
        value_step (λ at. constant (Absent ∷ [])) (C count from p) old now was is h g d
    one_step presence.Optional inner count from (true ∷ p) old now was is h g d =
        value_step (V presence.Optional inner) (C count from p) old now was is h g d
    one_step (presence.Default v) inner count from [] old now was is h g d = absurd d.starts.encoded
    one_step (presence.Default v) inner count from (false ∷ p) old now was is h g d =
        value_step (λ at. constant (Absent ∷ [])) (C count from p) old now was is h g d
    one_step (presence.Default v) inner count from (true ∷ p) old now was is h g d =
        value_step (V (presence.Default v) inner) (C count from p) old now was is h g d

    one_fault : (m : Presence) (inner count from : ℕ) (p : List Bool) (at : ℕ) (l : List Bool) (e : Fault FaultKind)
        → (component_in c depth node m inner p at).fault l e
        → ((component_by decoder_limits c.is_aligned (types c depth) c.tables.members.now c.tables.ranges.now
        (defaults_in c) node m (value_in c depth node m inner)
        (components_in c depth node count from) at).after p).fault l e
    one_fault presence.Mandatory inner count from p at l e w = inl w
    one_fault presence.Optional inner count from [] at l e w = w
    one_fault presence.Optional inner count from (false ∷ p) at l e w = absurd w
    one_fault presence.Optional inner count from (true ∷ p) at l e w = inl w
    one_fault (presence.Default v) inner count from [] at l e w = w
    one_fault (presence.Default v) inner count from (false ∷ p) at l e w = absurd w
    one_fault (presence.Default v) inner count from (true ∷ p) at l e w = inl w

    abbrev K : Option Member → ℕ → ℕ → List Bool → ℕ → Encoding FaultKind Parts
    K o count from p at = (component decoder_limits c.is_aligned (types c depth) c.tables.members.now c.tables.ranges.now
        (defaults_in c) node o (components_in c depth node count from) at).after p

    pub component_step : (count from index : ℕ) (m : Member) (p q : List Bool) (old now : State) (was is : List Part) → index < count
        → slice_get c.tables.members.now (from + index) ≡ Some m → IsWithin list old → IsMoved list old now
        → IsDecoded c.tables.ranges.now (component_in c depth node m.presence m.node p (position old)).encodes list old now was is
        → q ≡ bits_after m.presence p
        → IsUnderway (C (count - index) (from + index) p) (C (count - (index + 1)) (from + (index + 1)) q) old now was is
    component_step count from index m p q old now was is lt some h g d e =
        let k = count - (index + 1) in
        let many : suc k ≡ count - index = omega (arith, lt) in
        let next : from + index + 1 ≡ from + (index + 1) = omega arith in
        let a : IsUnderway (K (slice_get c.tables.members.now (from + index)) k (from + index + 1) p)
        (C k (from + index + 1) (bits_after m.presence p)) old now was is =
        subst (λ (o : Option Member). IsUnderway (K o k (from + index + 1) p) (C k (from + index + 1) (bits_after m.presence p)) old now was is)
        (sym some) (one_step m.presence m.node k (from + index + 1) p old now was is h g d) in
        let b : IsUnderway (C (suc k) (from + index) p) (C k (from + (index + 1)) (bits_after m.presence p)) old now was is =
        subst (λ (n : ℕ). IsUnderway (C (suc k) (from + index) p) (C k n (bits_after m.presence p)) old now was is) next a in
        subst (λ (n : ℕ). IsUnderway (C n (from + index) p) (C k (from + (index + 1)) q) old now was is) many
        (subst (λ (l : List Bool). IsUnderway (C (suc k) (from + index) p) (C k (from + (index + 1)) l) old now was is) (sym e) b)

    pub component_fault : (count from index : ℕ) (m : Member) (p : List Bool) (at : ℕ) (l : List Bool) (e : Fault FaultKind) → index < count
        → slice_get c.tables.members.now (from + index) ≡ Some m → (component_in c depth node m.presence m.node p at).fault l e
        → (C (count - index) (from + index) p at).fault l e
    component_fault count from index m p at l e lt some w =
        let k = count - (index + 1) in
        let many : suc k ≡ count - index = omega (arith, lt) in
        subst (λ (n : ℕ). (C n (from + index) p at).fault l e) many
        (subst (λ (o : Option Member). (K o k (from + index + 1) p at).fault l e) (sym some)
        (one_fault m.presence m.node k (from + index + 1) p at l e w))

    -- members that the table has not
    pub no_member : (count from : ℕ) (p : List Bool) (at : ℕ) (l : List Bool) (e : Fault FaultKind) → 0 < count
        → length c.tables.members.now ≤ from → IsAt NoNode node l e → (C count from p at).fault l e
    no_member zero from p at l e some past w = absurd (omega (arith, some))
    no_member (suc count) from p at l e some past w =
        subst (λ (o : Option Member). (K o count (from + 1) p at).fault l e) (sym (slice_get_past c.tables.members.now from past)) w

    pub bits_left : (count from : ℕ) (p : List Bool) (at : ℕ) (l : List Bool) (e : Fault FaultKind) → count ≡ 0 → 0 < length p
        → IsAt NoNode node l e → (C count from p at).fault l e
    bits_left zero from [] at l e z some w = absurd (omega (arith, some))
    bits_left zero from (b ∷ p) at l e z some w = w
    bits_left (suc count) from p at l e z some w = absurd (omega (arith, z))

    pub no_components : (count from : ℕ) (p : List Bool) (s : State) (was : List Part) → count ≡ 0 → length p ≡ 0
        → IsDecoded c.tables.ranges.now (C count from p (position s)).encodes list s s was was
    no_components zero from [] s was z none = nothing_decoded s was
    no_components zero from (b ∷ p) s was z none = absurd (omega (arith, none))
    no_components (suc count) from p s was z none = absurd (omega (arith, z))

    pub components_begin : (count from : ℕ) (p : List Bool) (s : State) (was : List Part)
        → IsUnderway (C count from p) (C (count - 0) (from + 0) p) s s was was
    components_begin count from p s was =
        let a : from ≡ from + 0 = omega arith in
        let b : count ≡ count - 0 = omega arith in
        subst (λ (k : ℕ). IsUnderway (C count from p) (C (count - 0) k p) s s was was) a
        (subst (λ (n : ℕ). IsUnderway (C count from p) (C n from p) s s was was) b (same_step (C count from p) s was))

  -- ---- a component that is absent or present

  pub absent_of : (depth node : ℕ) (m : Presence) (inner : ℕ) (was now : List Bool) (P : Encoding FaultKind Parts → Type 0) (at : ℕ)
      → (m ≡ presence.Mandatory → ⊥) → was ≡ false ∷ now → P (constant (Absent ∷ [])) → P (component_in c depth node m inner was at)
  absent_of depth node presence.Mandatory inner was now P at not e p = absurd (not refl)
  absent_of depth node presence.Optional inner was now P at not e p =
      subst (λ (l : List Bool). P (component_in c depth node presence.Optional inner l at)) (sym e) p
  absent_of depth node (presence.Default v) inner was now P at not e p =
      subst (λ (l : List Bool). P (component_in c depth node (presence.Default v) inner l at)) (sym e) p

  pub present_of : (depth node : ℕ) (m : Presence) (inner : ℕ) (was now : List Bool) (P : Encoding FaultKind Parts → Type 0) (at : ℕ)
      → (m ≡ presence.Mandatory → ⊥) → was ≡ true ∷ now → P (value_in c depth node m inner at).encoding
      → P (component_in c depth node m inner was at)
  present_of depth node presence.Mandatory inner was now P at not e p = absurd (not refl)
  present_of depth node presence.Optional inner was now P at not e p =
      subst (λ (l : List Bool). P (component_in c depth node presence.Optional inner l at)) (sym e) p
  present_of depth node (presence.Default v) inner was now P at not e p =
      subst (λ (l : List Bool). P (component_in c depth node (presence.Default v) inner l at)) (sym e) p

  pub untold_of : (depth node : ℕ) (m : Presence) (inner : ℕ) (was : List Bool) (P : Encoding FaultKind Parts → Type 0) (at : ℕ)
      → (m ≡ presence.Mandatory → ⊥) → was ≡ [] → P (invalid NoNode node) → P (component_in c depth node m inner was at)
  untold_of depth node presence.Mandatory inner was P at not e p = absurd (not refl)
  untold_of depth node presence.Optional inner was P at not e p =
      subst (λ (l : List Bool). P (component_in c depth node presence.Optional inner l at)) (sym e) p
  untold_of depth node (presence.Default v) inner was P at not e p =
      subst (λ (l : List Bool). P (component_in c depth node (presence.Default v) inner l at)) (sym e) p

  pub mandatory_of : (depth node : ℕ) (m : Presence) (inner : ℕ) (was : List Bool) (P : Encoding FaultKind Parts → Type 0) (at : ℕ)
      → m ≡ presence.Mandatory → P (value_in c depth node m inner at).encoding → P (component_in c depth node m inner was at)
  mandatory_of depth node presence.Mandatory inner was P at e p = p
  mandatory_of depth node presence.Optional inner was P at e p = absurd cc
  mandatory_of depth node (presence.Default v) inner was P at e p = absurd cc

pub told_after : (m : Presence) (was now : List Bool) (b : Bool) → (m ≡ presence.Mandatory → ⊥) → was ≡ b ∷ now → now ≡ bits_after m was
told_after presence.Mandatory was now b not e = absurd (not refl)
told_after presence.Optional was now b not e = sym (ap bits_after_one e)
told_after (presence.Default v) was now b not e = sym (ap bits_after_one e)

pub told_mandatory : (m : Presence) (was : List Bool) → m ≡ presence.Mandatory → was ≡ bits_after m was
told_mandatory presence.Mandatory was e = refl
told_mandatory presence.Optional was e = absurd cc
told_mandatory (presence.Default v) was e = absurd cc

module _ (c : Context) where
  abbrev bs : List Bool
  bs = bits c.octets.now

  -- a part that was read and kept, or the fault
  pub kept_outcome : (A : ℕ → Encoding FaultKind Parts) (old mid new : State) (was is : List Part) (part : Option Part) (r : Bool)
      → IsOnward bs old mid → IsRead A (λ p. piece_of c.tables.ranges.now bs p ∷ []) bs old mid part → IsSamePlace mid new
      → IsKept part mid new was is r → Outcome c A old new was is r
  kept_outcome A old mid new was is None r g t s k =
      subst (λ (b : Bool). Outcome c A old new was is b) (sym k.0)
      (subst (λ (f : Fault FaultKind). (A (position old)).fault (rest bs old) f) (sym (same_fault mid new s k.1 k.2)) t)
  kept_outcome A old mid new was is (Some p) r g t s k =
      subst (λ (b : Bool). Outcome c A old new was is b) (sym k.0) (record {
        parts = piece_of c.tables.ranges.now bs p ∷ [];
        starts = subst (λ (l : List Bool). Starts (A (position old)).encodes (rest bs old) (piece_of c.tables.ranges.now bs p ∷ []) l) (sym (same_rest bs mid new s)) t;
        grown = subst (λ (n : ℕ). IsGrown c.tables.ranges.now bs was n is new.count (piece_of c.tables.ranges.now bs p ∷ [])) g.same_count (k.1 c.tables.ranges.now bs);
      })
