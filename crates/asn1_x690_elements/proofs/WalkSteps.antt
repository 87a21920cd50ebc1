-- Steps of a walk over elements.
use Rattle.std.proofs.Common.{◌≡◌, ℕ, zero, suc, ◌+◌, ◌-◌, ◌<◌, ◌≤◌, List, [], ◌∷◌, ◌++◌, Bool, true, false, length, take, drop, refl, sym, ◌∙◌, ap, subst, arith, append_assoc, inl, inr}
use Rattle.std.specs.Prelude.{not}
use Rattle.std.proofs.lemmas.List.{append-nil, length-append, drop-take, take_all}
use Rattle.asn1_bits.specs.Bits.{bits}
use Rattle.asn1_schema.specs.Encodings.{Fault, Encoding, Contents, Starts, items, with_more_after}
use Rattle.asn1_schema.specs.PiecesOfParts.{bits_at}
use Rattle.asn1_x690.specs.declared.fault.FaultKind.{FaultKind}
use Rattle.asn1_x690.specs.declared.fault.FaultKind.TheVariants.{Extra}
use Rattle.asn1_x690.specs.declared.tables.Identifier.{Identifier}
use Rattle.asn1_x690.specs.Elements.{any_element}
use Rattle.asn1_x690.specs.Laws.ElementLaws.{element_some}
use Rattle.asn1_x690_fields.specs.declared.state.State.{State}
use Rattle.asn1_x690_fields.specs.declared.header.Header.{Header}
use Rattle.asn1_x690_fields.specs.Outcomes.{rest, fault_of, IsWithin, IsOnward, IsHeader}
use Rattle.asn1_x690_fields.specs.Steps.{rest_length}
use Rattle.asn1_x690_elements.specs.Elements.{Element, inside, element, levels}
use Rattle.asn1_x690_elements.specs.Room.{Holds, IsGrown, shown}
use Rattle.asn1_x690_elements.specs.Walks.{IsMoved, IsFilled, Outcome, InnerOutcome, AreElements, IsFirstFault}
use Rattle.asn1_x690_elements.specs.declared.elements.Fault.{Fault as FoundFault}

-- ---- elements that follow others

pub grown_over : (list : List Bool) (was mid now : List Header) (a b c : ℕ) (xs ys : List Element) → IsGrown list was a mid b xs
    → IsGrown list mid b now c ys → IsGrown list was a now c (xs ++ ys)
grown_over list was mid now a b c xs ys g h = λ zs k.
    subst (λ (l : List Element). Holds list now c l) (append_assoc zs xs ys) (h (zs ++ xs) (g zs k))

pub none_grown : (list : List Bool) (was : List Header) (n : ℕ) → IsGrown list was n was n []
none_grown list was n = λ zs k. subst (λ (l : List Element). Holds list was n l) (sym (append-nil zs)) k

-- ---- elements to the end

module _ (A : Encoding FaultKind (List Element)) where
  abbrev pub Items : List Bool → ℕ → Contents FaultKind (List Element)
  Items before most = items Extra 0 (λ b. A) [] (λ xs ys. xs ++ ys) before most

  not_empty : (l : List Bool) → 0 < length l → l ≡ [] → ⊥
  not_empty l some e = let z : length l ≡ 0 = ap length e in omega (arith, some, z)

  module _ (l front left : List Bool) (parts : l ≡ front ++ left) (some : 0 < length front) (xs : List Element) (p : A.encodes xs front) where
    all : 0 < length l
    all = let n : length l ≡ length front + length left = ap length parts ∙ length-append front left in omega (arith, n, some)

    pub item_done : (most : ℕ) (before : List Bool) (ys : List Element) → length l ≤ most → (Items front (most - 1)).fills ys left
        → (Items before most).fills (xs ++ ys) l
    item_done zero before ys few q = absurd (omega (arith, few, all))
    item_done (suc k) before ys few q =
        let e : suc k - 1 ≡ k = omega arith in
        inr (
          not_empty l all,
          record {
            value = (xs, front);
            after = ys;
            front = front;
            rest = left;
            first = (p, refl);
            second = subst (λ (n : ℕ). (Items front n).fills ys left) e q;
            is = refl;
            parts = parts;
          },
        )

    pub item_fault : (most : ℕ) (before : List Bool) (e : Fault FaultKind) → length l ≤ most → (Items front (most - 1)).fault left e
        → (Items before most).fault l e
    item_fault zero before e few w = absurd (omega (arith, few, all))
    item_fault (suc k) before e few w =
        let n : suc k - 1 ≡ k = omega arith in
        inr (
          not_empty l all,
          inr (record {
            value = (xs, front);
            rest = left;
            starts = record { front = front; encoded = (p, refl); parts = parts };
            holds = subst (λ (m : ℕ). (Items front m).fault left e) n w;
          }),
        )

  pub first_fault : (most : ℕ) (before l : List Bool) (e : Fault FaultKind) → 0 < length l → length l ≤ most → A.fault l e
      → (Items before most).fault l e
  first_fault zero before l e some few w = absurd (omega (arith, some, few))
  first_fault (suc k) before l e some few w = inr (not_empty l some, inl w)

  pub no_items : (most : ℕ) (before l : List Bool) → length l ≡ 0 → (Items before most).fills [] l
  no_items zero before [] e = (refl, refl)
  no_items (suc k) before [] e = inl (refl, (refl, refl))
  no_items most before (b ∷ l) e = absurd (omega (arith, e))

-- some elements were found, and others are left
pub record IsUnderway (list : List Bool) (depth : ℕ) (old now : State) (was is : List Header) : Type 0 where
  pub most : ℕ
  pub before : List Bool
  pub elements : List Element
  pub few : length (rest list now) ≤ most
  pub done : (others : List Element) → (Items (element (levels depth)) before most).fills others (rest list now)
      → (levels (suc depth)).fills (elements ++ others) (rest list old)
  pub fault : (e : Fault FaultKind) → (Items (element (levels depth)) before most).fault (rest list now) e
      → (levels (suc depth)).fault (rest list old) e
  pub grown : IsGrown list was old.count is now.count elements

module _ (list : List Bool) (depth : ℕ) where
  pub begins : (s : State) (was : List Header) → IsUnderway list depth s s was was
  begins s was = record {
    most = length (rest list s);
    before = [];
    elements = [];
    few = omega arith;
    done = λ others p. p;
    fault = λ e w. w;
    grown = none_grown list was s.count;
  }

  module _ (old now : State) (was is : List Header) (u : IsUnderway list depth old now was is) where
    pub ends : IsWithin list now → (now.at < now.end → ⊥)
        → IsFilled (levels (suc depth)) list (rest list old) old now was is
    ends h at =
        let none : length (rest list now) ≡ 0 = rest_length list now h.inside ∙ left now.at now.end at in
        let xs = u.elements in
        record {
          elements = xs ++ [];
          fills = u.done [] (no_items (element (levels depth)) u.most u.before (rest list now) none);
          grown = subst (λ (zs : List Element). IsGrown list was old.count is now.count zs) (sym (append-nil xs)) u.grown;
        }
      where
        left : (at end : ℕ) → (at < end → ⊥) → end - at ≡ 0
        left at end not = omega (arith, not)

    -- no element was found
    pub header_fails : (new : State) → IsWithin list now → now.at < now.end → (any_element 0).fault (rest list now) (fault_of new)
        → (levels (suc depth)).fault (rest list old) (fault_of new)
    header_fails new h at w =
        let some : 0 < length (rest list now) = (let n = rest_length list now h.inside in omega (arith, n, at)) in
        u.fault (fault_of new) (first_fault (element (levels depth)) u.most u.before (rest list now) (fault_of new) some u.few (inl w))

    -- an element was found
    module _ (mid pushed new : State) (next last : List Header) (h : Header) (v : Identifier × List Bool) (is_header : IsHeader list h v)
        (s : Starts (any_element 0).encodes (rest list now) v (rest list mid)) (to : h.to ≡ mid.at) (g : IsOnward list now mid)
        (same_at : pushed.at ≡ mid.at) (same_end : pushed.end ≡ mid.end)
        (pushes : IsGrown list is mid.count next pushed.count (shown list h ∷ [])) where
      same : inside (levels depth) h.identifier.is_constructed ≡ inside (levels depth) v.0.is_constructed
      same = ap (λ (b : Bool). inside (levels depth) b) is_header.identifier.form

      pub inner_fails : (e : Fault FaultKind)
          → (inside (levels depth) h.identifier.is_constructed).fault (bits_at list h.from (h.to - h.from)) e
          → fault_of new ≡ with_more_after (pushed.end - h.to) e → (levels (suc depth)).fault (rest list old) (fault_of new)
      inner_fails e w same_fault =
          let some : 0 < length (rest list now) =
          (let n = element_some 0 v s.front s.encoded in
          let m = length-append s.front (rest list mid) in
          let k : length (rest list now) ≡ length (s.front ++ rest list mid) = ap length s.parts in
          omega (arith, n, m, k)) in
          let size : pushed.end - h.to ≡ length (rest list mid) =
          (let n = rest_length list mid g.inside in omega (arith, n, to, same_end)) in
          u.fault (fault_of new)
          (first_fault (element (levels depth)) u.most u.before (rest list now) (fault_of new) some u.few
          (inr (record {
            value = v;
            rest = rest list mid;
            starts = s;
            holds = (
              e,
              subst (λ (l : List Bool). (inside (levels depth) v.0.is_constructed).fault l e) (sym is_header.contents)
                  (subst (λ (F : Contents FaultKind (List Element)). F.fault (bits_at list h.from (h.to - h.from)) e) same w),
              same_fault ∙ ap (λ (n : ℕ). with_more_after n e) size,
            );
          })))

      module _ (f : IsFilled (inside (levels depth) h.identifier.is_constructed) list (bits_at list h.from (h.to - h.from)) pushed new next last)
          (stays : new.at ≡ pushed.at) (end : new.end ≡ pushed.end) where
        abbrev xs : List Element
        xs = (h.identifier, v.1) ∷ f.elements

        encodes : (element (levels depth)).encodes xs s.front
        encodes = (
          v,
          s.encoded,
          (
            h.identifier,
            f.elements,
            is_header.identifier,
            subst (λ (l : List Bool). (inside (levels depth) v.0.is_constructed).fills f.elements l) (sym is_header.contents)
                (subst (λ (F : Contents FaultKind (List Element)). F.fills f.elements (bits_at list h.from (h.to - h.from))) same f.fills),
            refl,
          ),
        )

        after : rest list new ≡ rest list mid
        after = ap (λ (n : ℕ). drop n (take new.end list)) (stays ∙ same_at) ∙ ap (λ (n : ℕ). drop mid.at (take n list)) (end ∙ same_end)

        some_front : 0 < length s.front
        some_front = let n = element_some 0 v s.front s.encoded in omega (arith, n)

        sizes : length (rest list now) ≡ length s.front + length (rest list mid)
        sizes = ap length s.parts ∙ length-append s.front (rest list mid)

        pub goes_on : IsUnderway list depth old new was last
        goes_on = record {
          most = u.most - 1;
          before = s.front;
          elements = u.elements ++ xs;
          few = (let n = u.few in let m : length (rest list new) ≡ length (rest list mid) = ap length after in
              let k = sizes in let j = some_front in omega (arith, n, m, k, j));
          done = λ others p.
              subst (λ (l : List Element). (levels (suc depth)).fills l (rest list old)) (sym (append_assoc u.elements xs others))
              (u.done (xs ++ others)
              (item_done (element (levels depth)) (rest list now) s.front (rest list mid) s.parts some_front xs encodes u.most u.before others
              u.few (subst (λ (l : List Bool). (Items (element (levels depth)) s.front (u.most - 1)).fills others l) after p)));
          fault = λ e w.
              u.fault e
              (item_fault (element (levels depth)) (rest list now) s.front (rest list mid) s.parts some_front xs encodes u.most u.before e u.few
              (subst (λ (l : List Bool). (Items (element (levels depth)) s.front (u.most - 1)).fault l e) after w));
          grown = grown_over list was is last old.count now.count new.count u.elements xs u.grown
              (grown_over list is next last now.count pushed.count new.count ((h.identifier, v.1) ∷ []) f.elements
              (subst (λ (n : ℕ). IsGrown list is n next pushed.count ((h.identifier, v.1) ∷ [])) g.same_count
              (subst (λ (l : List Bool). IsGrown list is mid.count next pushed.count ((h.identifier, l) ∷ [])) (sym is_header.contents) pushes))
              f.grown);
        }

-- ---- in an element

pub is_true : (b : Bool) → not b ≡ false → b ≡ true
is_true true e = refl
is_true false e = absurd cc

pub inner_rest : (list : List Bool) (from to : ℕ) → from ≤ to → drop from (take to list) ≡ bits_at list from (to - from)
inner_rest list from to le =
    let e : to ≡ from + (to - from) = omega (arith, le) in
    ap (λ (n : ℕ). drop from (take n list)) e ∙ drop-take from (to - from) list

module _ (list : List Bool) (F : Contents FaultKind (List Element)) (h : Header) (old new : State) (was is : List Header) where
  pub primitive_outcome : h.identifier.is_constructed ≡ false → InnerOutcome list F h old old was was true
  primitive_outcome e =
      let c = bits_at list h.from (h.to - h.from) in
      record {
        elements = [];
        fills = subst (λ (b : Bool). (inside F b).fills [] c) (sym e) (c, refl, refl);
        grown = none_grown list was old.count;
      }

  -- the state at the first bit of the contents, and that after a walk over them
  pub constructed_outcome : (first last : State) (r : Bool) → h.identifier.is_constructed ≡ true → h.from ≤ h.to → first.at ≡ h.from
      → first.end ≡ h.to → first.count ≡ old.count → IsMoved list first last → h.to ≤ old.end → new.end ≡ old.end
      → new.count ≡ last.count → new.node ≡ last.node → new.kind ≡ last.kind → (r ≡ false → new.at ≡ last.at)
      → Outcome list F first last was is r → InnerOutcome list F h old new was is r
  constructed_outcome first last true e le at end count g within same_end same_count same_node same_kind same_at o =
      let c = bits_at list h.from (h.to - h.from) in
      let same : rest list first ≡ c =
      ap (λ (n : ℕ). drop n (take first.end list)) at ∙ ap (λ (n : ℕ). drop h.from (take n list)) end ∙ inner_rest list h.from h.to le in
      record {
        elements = o.elements;
        fills = subst (λ (b : Bool). (inside F b).fills o.elements c) (sym e)
            (subst (λ (l : List Bool). F.fills o.elements l) same o.fills);
        grown = subst (λ (n : ℕ). IsGrown list was n is new.count o.elements) count
            (subst (λ (n : ℕ). IsGrown list was first.count is n o.elements) (sym same_count) o.grown);
      }
  constructed_outcome first last false e le at end count g within same_end same_count same_node same_kind same_at o =
      let c = bits_at list h.from (h.to - h.from) in
      let same : rest list first ≡ c =
      ap (λ (n : ℕ). drop n (take first.end list)) at ∙ ap (λ (n : ℕ). drop h.from (take n list)) end ∙ inner_rest list h.from h.to le in
      let here = same_at refl in
      let left : new.end - new.at ≡ last.end - last.at + (old.end - h.to) =
      omega (arith, here, same_end, g.same_end, end, g.ends, within) in (
        fault_of last,
        subst (λ (b : Bool). (inside F b).fault c (fault_of last)) (sym e) (subst (λ (l : List Bool). F.fault l (fault_of last)) same o),
        rw (left, same_node, same_kind) refl,
      )

-- ---- outcomes

pub moved_over : (list : List Bool) (old now mid new : State) → IsMoved list old now → IsOnward list now mid → new.at ≡ mid.at
    → new.end ≡ mid.end → IsMoved list old new
moved_over list old now mid new g k at end = record {
  same_end = end ∙ k.same_end ∙ g.same_end;
  on = (let a = g.on in let b = k.on in omega (arith, a, b, at));
  ends = (let a = k.ends in omega (arith, a, at, end));
  inside = (let a = k.inside in omega (arith, a, end));
}

pub by_inner : (list : List Bool) (F : Contents FaultKind (List Element)) (h : Header) (old new : State) (was is : List Header) (r b : Bool)
    → r ≡ b → InnerOutcome list F h old new was is r → InnerOutcome list F h old new was is b
by_inner list F h old new was is r b e o = subst (λ (c : Bool). InnerOutcome list F h old new was is c) e o

pub by_outcome : (list : List Bool) (F : Contents FaultKind (List Element)) (old new : State) (was is : List Header) (r b : Bool) → r ≡ b
    → Outcome list F old new was is r → Outcome list F old new was is b
by_outcome list F old new was is r b e o = subst (λ (c : Bool). Outcome list F old new was is c) e o

-- ---- a whole message

none_held : (list : List Bool) (room : List Header) → Holds list room 0 []
none_held list [] = record { kept = refl; many = inl refl }
none_held list (h ∷ room) = record { kept = refl; many = inl refl }

module _ (octets : List ℕ) (depth : ℕ) (first last : State) (was is : List Header) (at : first.at ≡ 0)
    (end : first.end ≡ length (bits octets)) where
  whole : rest (bits octets) first ≡ bits octets
  whole = ap (λ (n : ℕ). drop n (take first.end (bits octets))) at ∙ take_all first.end (bits octets) (omega (arith, end))

  pub are_elements : first.count ≡ 0 → IsFilled (levels depth) (bits octets) (rest (bits octets) first) first last was is
      → AreElements octets depth is last.count
  are_elements count f = record {
    elements = f.elements;
    fills = subst (λ (l : List Bool). (levels depth).fills f.elements l) whole f.fills;
    held = (subst (λ (n : ℕ). IsGrown (bits octets) was n is last.count f.elements) count f.grown) [] (none_held (bits octets) was);
  }

  pub is_first_fault : (e : FoundFault) → last.end ≡ first.end → e.at ≡ last.at → e.kind ≡ last.kind
      → (levels depth).fault (rest (bits octets) first) (fault_of last) → IsFirstFault octets depth e
  is_first_fault e ended here kind w = (
    last.node,
    subst (λ (f : Fault FaultKind). (levels depth).fault (bits octets) f) (rw (sym here, sym kind, ended ∙ end) refl)
        (subst (λ (l : List Bool). (levels depth).fault l (fault_of last)) whole w),
  )
