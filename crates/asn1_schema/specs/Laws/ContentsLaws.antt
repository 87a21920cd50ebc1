-- Laws of contents: each combinator keeps `AreSound`.
use Rattle.std.proofs.Common.{◌≡◌, ℕ, zero, suc, ◌+◌, ◌-◌, ◌<◌, ◌≤◌, inl, inr, List, [], ◌++◌, Bool, length, take, drop, sym, ◌∙◌, ap, subst, arith}
use Rattle.std.specs.Prelude.{◌⊎◌}
use Rattle.std.proofs.lemmas.List.{length-append, length-take-le, append-nil}
use Rattle.std.proofs.Math.Seq.{take-append_seam, drop-append_seam}
use Rattle.asn1_schema.specs.Encodings.{Fault, Encoding, Contents, Starts, CanDecode, Then, IsAt, InSequence, FillsOne, NamesUnfit, constant, with_bits, of_size, with_more_after, invalid_contents, only, then_contents, if_next, by_size, mapped, items, repeated}
use Rattle.asn1_schema.specs.Laws.EncodingLaws.{IsSound, at_inside, fewer, can, moved, constant_sound, with_bits_sound}

-- What all contents are proved to keep: a list is one value at most; its first fault is one, excludes a value, and lies within
-- the list.
pub record AreSound {K X : Type 0} (F : Contents K X) : Type 0 where
  pub one : FillsOne F.fills
  pub names : NamesUnfit F.fills F.fault
  pub inside : (list : List Bool) (e : Fault K) → F.fault list e → e.left ≤ length list

pub invalid_contents_are_sound : {K X : Type 0} (kind : K) (node : ℕ) → AreSound (invalid_contents {X = X} kind node)
invalid_contents_are_sound kind node = record {
  one = record { one = λ list x y p q. absurd p };
  names = record { excludes = λ list e p x q. q; one = λ list e g p q. p ∙ sym q };
  inside = λ list e p. at_inside kind node list e p;
}

-- a value alone begins its own bits
alone : {X : Type 0} (P : X → List Bool → Type 0) (x : X) (list : List Bool) → P x list → Starts P list x []
alone P x list p = record { front = list; encoded = p; parts = sym (append-nil list) }

module _ {K X : Type 0} (extra : K) (node : ℕ) (A : Encoding K X) (a : IsSound A) where
  abbrev W : Fault K → X → List Bool → Type 0
  W e x rest = (0 < length rest) × IsAt extra node rest e

  only_excludes : (list : List Bool) (e : Fault K) → A.fault list e ⊎ Then A.encodes (W e) list → (x : X) → A.encodes x list → ⊥
  only_excludes list e (inl p) x q = a.names.excludes list e p (record { value = x; rest = []; starts = alone A.encodes x list q })
  only_excludes list e (inr p) x q =
      let some : 0 < length {A = Bool} [] = (moved A.encodes a.one (W e) list p x [] (alone A.encodes x list q)).0 in
      omega (arith, some)

  only_one : (list : List Bool) (e g : Fault K) → A.fault list e ⊎ Then A.encodes (W e) list
      → A.fault list g ⊎ Then A.encodes (W g) list → e ≡ g
  only_one list e g (inl p) (inl q) = a.names.one list e g p q
  only_one list e g (inl p) (inr q) = absurd (a.names.excludes list e p (can A.encodes (W g) list q))
  only_one list e g (inr p) (inl q) = absurd (a.names.excludes list g q (can A.encodes (W e) list p))
  only_one list e g (inr p) (inr q) = (moved A.encodes a.one (W e) list p q.value q.rest q.starts).1 ∙ sym q.holds.1

  only_inside : (list : List Bool) (e : Fault K) → A.fault list e ⊎ Then A.encodes (W e) list → e.left ≤ length list
  only_inside list e (inl p) = a.inside list e p
  only_inside list e (inr p) =
      let low = at_inside extra node p.rest e p.holds.1 in
      let high = fewer A.encodes list p.value p.rest p.starts in
      omega (arith, low, high)

  pub only_are_sound : AreSound (only extra node A)
  only_are_sound = record {
    one = record { one = λ list x y p q. (a.one.one list x y [] [] (alone A.encodes x list p) (alone A.encodes y list q)).0 };
    names = record { excludes = only_excludes; one = only_one };
    inside = only_inside;
  }

module _ {K X Y Z : Type 0} (A : Encoding K X) (f : X → Y → Z) (F : X → Contents K Y) (a : IsSound A) (b : (x : X) → AreSound (F x)) where
  abbrev V : Fault K → X → List Bool → Type 0
  V e x rest = (F x).fault rest e

  abbrev T : Z → List Bool → Type 0
  T z list = InSequence A.encodes f (λ x. (F x).fills) z list

  first : (list : List Bool) (z : Z) (p : T z list) → Starts A.encodes list p.value p.rest
  first list z p = record { front = p.front; encoded = p.first; parts = p.parts }

  then_contents_excludes : (list : List Bool) (e : Fault K) → A.fault list e ⊎ Then A.encodes (V e) list → (z : Z) → T z list → ⊥
  then_contents_excludes list e (inl p) z q =
      a.names.excludes list e p (record { value = q.value; rest = q.rest; starts = first list z q })
  then_contents_excludes list e (inr p) z q =
      (b q.value).names.excludes q.rest e (moved A.encodes a.one (V e) list p q.value q.rest (first list z q)) q.after q.second

  then_contents_one : (list : List Bool) (e g : Fault K) → A.fault list e ⊎ Then A.encodes (V e) list
      → A.fault list g ⊎ Then A.encodes (V g) list → e ≡ g
  then_contents_one list e g (inl p) (inl q) = a.names.one list e g p q
  then_contents_one list e g (inl p) (inr q) = absurd (a.names.excludes list e p (can A.encodes (V g) list q))
  then_contents_one list e g (inr p) (inl q) = absurd (a.names.excludes list g q (can A.encodes (V e) list p))
  then_contents_one list e g (inr p) (inr q) =
      (b q.value).names.one q.rest e g (moved A.encodes a.one (V e) list p q.value q.rest q.starts) q.holds

  then_contents_inside : (list : List Bool) (e : Fault K) → A.fault list e ⊎ Then A.encodes (V e) list → e.left ≤ length list
  then_contents_inside list e (inl p) = a.inside list e p
  then_contents_inside list e (inr p) =
      let low = (b p.value).inside p.rest e p.holds in
      let high = fewer A.encodes list p.value p.rest p.starts in
      omega (arith, low, high)

  pub then_contents_are_sound : AreSound (then_contents A f F)
  then_contents_are_sound = record {
    one = record {
      one = λ list z w p q.
          let e = a.one.one list p.value q.value p.rest q.rest (first list z p) (first list w q) in
          let m : (F q.value).fills p.after q.rest =
          subst (λ (l : List Bool). (F q.value).fills p.after l) e.1
          (subst (λ (x : X). (F x).fills p.after p.rest) e.0 p.second) in
          let g = (b q.value).one.one q.rest p.after q.after m q.second in
          p.is ∙ ap (λ (x : X). f x p.after) e.0 ∙ ap (λ (y : Y). f q.value y) g ∙ sym q.is;
    };
    names = record { excludes = then_contents_excludes; one = then_contents_one };
    inside = then_contents_inside;
  }

module _ {K X : Type 0} (C : List Bool → Type 0) (F G : Contents K X) (a : AreSound F) (b : AreSound G) where
  if_next_one : (list : List Bool) (x y : X) → (C list × F.fills x list) ⊎ (¬ (C list) × G.fills x list)
      → (C list × F.fills y list) ⊎ (¬ (C list) × G.fills y list) → x ≡ y
  if_next_one list x y (inl p) (inl q) = a.one.one list x y p.1 q.1
  if_next_one list x y (inl p) (inr q) = absurd (q.0 p.0)
  if_next_one list x y (inr p) (inl q) = absurd (p.0 q.0)
  if_next_one list x y (inr p) (inr q) = b.one.one list x y p.1 q.1

  if_next_excludes : (list : List Bool) (e : Fault K) → (C list × F.fault list e) ⊎ (¬ (C list) × G.fault list e)
      → (x : X) → (C list × F.fills x list) ⊎ (¬ (C list) × G.fills x list) → ⊥
  if_next_excludes list e (inl p) x (inl q) = a.names.excludes list e p.1 x q.1
  if_next_excludes list e (inl p) x (inr q) = q.0 p.0
  if_next_excludes list e (inr p) x (inl q) = p.0 q.0
  if_next_excludes list e (inr p) x (inr q) = b.names.excludes list e p.1 x q.1

  if_next_fault : (list : List Bool) (e g : Fault K) → (C list × F.fault list e) ⊎ (¬ (C list) × G.fault list e)
      → (C list × F.fault list g) ⊎ (¬ (C list) × G.fault list g) → e ≡ g
  if_next_fault list e g (inl p) (inl q) = a.names.one list e g p.1 q.1
  if_next_fault list e g (inl p) (inr q) = absurd (q.0 p.0)
  if_next_fault list e g (inr p) (inl q) = absurd (p.0 q.0)
  if_next_fault list e g (inr p) (inr q) = b.names.one list e g p.1 q.1

  if_next_inside : (list : List Bool) (e : Fault K) → (C list × F.fault list e) ⊎ (¬ (C list) × G.fault list e) → e.left ≤ length list
  if_next_inside list e (inl p) = a.inside list e p.1
  if_next_inside list e (inr p) = b.inside list e p.1

  pub if_next_are_sound : AreSound (if_next C F G)
  if_next_are_sound = record {
    one = record { one = if_next_one };
    names = record { excludes = if_next_excludes; one = if_next_fault };
    inside = if_next_inside;
  }

pub by_size_are_sound : {K X : Type 0} (F : ℕ → Contents K X) → ((n : ℕ) → AreSound (F n)) → AreSound (by_size F)
by_size_are_sound F fits = record {
  one = record { one = λ list x y p q. (fits (length list)).one.one list x y p q };
  names = record {
    excludes = λ list e p x q. (fits (length list)).names.excludes list e p x q;
    one = λ list e g p q. (fits (length list)).names.one list e g p q;
  };
  inside = λ list e p. (fits (length list)).inside list e p;
}

pub mapped_are_sound : {K X Y : Type 0} (f : X → Y) (F : Contents K X) → AreSound F → AreSound (mapped f F)
mapped_are_sound f F a = record {
  one = record { one = λ list x y p q. p.2 ∙ ap f (a.one.one list p.0 q.0 p.1 q.1) ∙ sym q.2 };
  names = record { excludes = λ list e p y q. a.names.excludes list e p q.0 q.1; one = a.names.one };
  inside = a.inside;
}

module _ {K X Y : Type 0} (extra : K) (node : ℕ) (A : List Bool → Encoding K X) (none : Y) (f : X → Y → Y)
    (a : (before : List Bool) → IsSound (A before)) where
  pub items_are_sound : (before : List Bool) (most : ℕ) → AreSound (items extra node A none f before most)
  items_are_sound before zero = only_are_sound extra node (constant none) (constant_sound none)
  items_are_sound before (suc most) =
      if_next_are_sound (λ list. list ≡ []) (only extra node (constant none))
      (then_contents (with_bits (A before)) (λ v y. f v.0 y) (λ v. items extra node A none f v.1 most))
      (only_are_sound extra node (constant none) (constant_sound none))
      (then_contents_are_sound (with_bits (A before)) (λ v y. f v.0 y) (λ v. items extra node A none f v.1 most)
      (with_bits_sound (A before) (a before)) (λ v. items_are_sound v.1 most))

  pub repeated_are_sound : AreSound (repeated extra node A none f)
  repeated_are_sound = by_size_are_sound (λ size. items extra node A none f [] size) (λ size. items_are_sound [] size)

-- ---- contents of a number of bits

module _ {K X : Type 0} (count : ℕ) (short : K) (node : ℕ) (F : Contents K X) (a : AreSound F) where
  abbrev R : Encoding K X
  R = of_size count short node F

  -- the contents, and what is after them
  cut : (list rest : List Bool) (x : X) → Starts R.encodes list x rest
      → (count ≤ length list) × F.fills x (take count list) × (rest ≡ drop count list)
  cut list rest x s =
      let many : length s.front ≡ count = s.encoded.0 in
      let only : length list ≡ length s.front + length rest = ap length s.parts ∙ length-append s.front rest in
      let front : s.front ≡ take count list =
      sym (take-append_seam s.front rest) ∙ ap (λ (k : ℕ). take k (s.front ++ rest)) many
      ∙ ap (λ (l : List Bool). take count l) (sym s.parts) in
      let after : rest ≡ drop count list =
      sym (drop-append_seam s.front rest) ∙ ap (λ (k : ℕ). drop k (s.front ++ rest)) many
      ∙ ap (λ (l : List Bool). drop count l) (sym s.parts) in
      (omega arith, subst (λ (l : List Bool). F.fills x l) front s.encoded.1, after)

  of_size_excludes : (list : List Bool) (e : Fault K) → R.fault list e → CanDecode R.encodes list → ⊥
  of_size_excludes list e (inl p) able =
      let f = cut list able.rest able.value able.starts in
      omega (arith, f.0, p.0)
  of_size_excludes list e (inr p) able =
      let f = cut list able.rest able.value able.starts in
      a.names.excludes (take count list) p.1.0 p.1.1 able.value f.1

  of_size_one : (list : List Bool) (e g : Fault K) → R.fault list e → R.fault list g → e ≡ g
  of_size_one list e g (inl p) (inl q) = p.1 ∙ sym q.1
  of_size_one list e g (inl p) (inr q) = absurd (omega (arith, p.0, q.0))
  of_size_one list e g (inr p) (inl q) = absurd (omega (arith, p.0, q.0))
  of_size_one list e g (inr p) (inr q) =
      let same = a.names.one (take count list) p.1.0 q.1.0 p.1.1 q.1.1 in
      p.1.2 ∙ ap (λ (f : Fault K). with_more_after (length list - count) f) same ∙ sym q.1.2

  of_size_inside : (list : List Bool) (e : Fault K) → R.fault list e → e.left ≤ length list
  of_size_inside list e (inl p) = at_inside short node list e p.1
  of_size_inside list e (inr p) =
      let low = a.inside (take count list) p.1.0 p.1.1 in
      let many = length-take-le count list p.0 in
      let same : e.left ≡ p.1.0.left + (length list - count) = ap (λ (f : Fault K). f.left) p.1.2 in
      omega (arith, low, many, p.0, same)

  pub of_size_sound : IsSound (of_size count short node F)
  of_size_sound = record {
    one = record {
      one = λ list x y rest other s t.
          let f = cut list rest x s in
          let g = cut list other y t in
          (a.one.one (take count list) x y f.1 g.1, f.2 ∙ sym g.2);
    };
    names = record { excludes = of_size_excludes; one = of_size_one };
    inside = of_size_inside;
  }
