-- Laws of encodings that depend on their position, and of those that a header encloses.
use Rattle.std.proofs.Common.{◌≡◌, ℕ, ◌+◌, ◌≤◌, inl, inr, Bool, List, length, refl, sym, ◌∙◌, ap, subst, arith}
use Rattle.std.proofs.lemmas.List.{length-append}
use Rattle.asn1_schema.specs.Encodings.{Fault, Encoding, Contents, Starts, CanDecode, then, with_bits, within, with_more_after, in_turn, in_case}
use Rattle.asn1_schema.specs.Laws.EncodingLaws.{IsSound, can, moved, then_sound, cases_sound, with_bits_sound}
use Rattle.asn1_schema.specs.Laws.ContentsLaws.{AreSound}

-- sound at every position
abbrev pub IsSoundEverywhere : {K X : Type 0} → (ℕ → Encoding K X) → Type 0
IsSoundEverywhere A = (at : ℕ) → IsSound (A at)

module _ {K X Y Z : Type 0} (A : ℕ → Encoding K X) (f : X → Y → Z) (B : X → ℕ → Encoding K Y) (at : ℕ) where
  -- the same by `then`: the bits of the first value tell the position of the second
  abbrev R : Encoding K Z
  R = then (with_bits (A at)) (λ v y. f v.0 y) (λ v. B v.0 (at + length v.1))

  as_then : (list : List Bool) (z : Z) (rest : List Bool) → Starts (in_turn A f B at).encodes list z rest → Starts R.encodes list z rest
  as_then list z rest s = record {
    front = s.front;
    encoded = record {
      value = (s.encoded.value, s.encoded.front);
      after = s.encoded.after;
      front = s.encoded.front;
      rest = s.encoded.rest;
      first = (s.encoded.first, refl);
      second = s.encoded.second;
      is = s.encoded.is;
      parts = s.encoded.parts;
    };
    parts = s.parts;
  }

  from_then : IsSound R → IsSound (in_turn A f B at)
  from_then l = record {
    one = record { one = λ list y z rest other s t. l.one.one list y z rest other (as_then list y rest s) (as_then list z other t) };
    names = record {
      excludes = λ list e p can. l.names.excludes list e p
          (record { value = can.value; rest = can.rest; starts = as_then list can.value can.rest can.starts });
      one = l.names.one;
    };
    inside = l.inside;
  }

pub in_turn_sound : {K X Y Z : Type 0} (A : ℕ → Encoding K X) (f : X → Y → Z) (B : X → ℕ → Encoding K Y) (at : ℕ) → IsSound (A at)
    → ((x : X) (n : ℕ) → IsSound (B x n)) → IsSound (in_turn A f B at)
in_turn_sound A f B at a b =
    from_then A f B at
    (then_sound (with_bits (A at)) (λ v y. f v.0 y) (λ v. B v.0 (at + length v.1)) (with_bits_sound (A at) a)
    (λ v. b v.0 (at + length v.1)))

pub in_case_sound : {K X : Type 0} (C : Type 0) (A : ℕ → Encoding K X) (D : Type 0) (B : ℕ → Encoding K X) → (C → D → ⊥)
    → IsSoundEverywhere A → IsSoundEverywhere B → IsSoundEverywhere (in_case C A D B)
in_case_sound C A D B apart a b at = cases_sound C (A at) D (B at) apart (a at) (b at)

-- ---- contents that a header encloses

module _ {K T X : Type 0} (H : Encoding K (T × List Bool)) (F : T → Contents K X) (h : IsSound H) (f : (t : T) → AreSound (F t))
    (fewer : (v : T × List Bool) (list : List Bool) → H.encodes v list → length v.1 ≤ length list) where
  abbrev W : Fault K → T × List Bool → List Bool → Type 0
  W e v rest = (g : Fault K) × (F v.0).fault v.1 g × (e ≡ with_more_after (length rest) g)

  abbrev E : Encoding K X
  E = within H F

  header_of : (list : List Bool) (x : X) (rest : List Bool) → (s : Starts E.encodes list x rest)
      → Starts H.encodes list s.encoded.0 rest
  header_of list x rest s = record { front = s.front; encoded = s.encoded.1; parts = s.parts }

  within_excludes : (list : List Bool) (e : Fault K) → E.fault list e → CanDecode E.encodes list → ⊥
  within_excludes list e (inl p) able =
      h.names.excludes list e p
      (record { value = able.starts.encoded.0; rest = able.rest; starts = header_of list able.value able.rest able.starts })
  within_excludes list e (inr p) able =
      let s = able.starts in
      let m = moved H.encodes h.one (W e) list p s.encoded.0 able.rest (header_of list able.value able.rest s) in
      (f s.encoded.0.0).names.excludes s.encoded.0.1 m.0 m.1 able.value s.encoded.2

  within_names_one : (list : List Bool) (e g : Fault K) → E.fault list e → E.fault list g → e ≡ g
  within_names_one list e g (inl p) (inl q) = h.names.one list e g p q
  within_names_one list e g (inl p) (inr q) = absurd (h.names.excludes list e p (can H.encodes (W g) list q))
  within_names_one list e g (inr p) (inl q) = absurd (h.names.excludes list g q (can H.encodes (W e) list p))
  within_names_one list e g (inr p) (inr q) =
      let m = moved H.encodes h.one (W e) list p q.value q.rest q.starts in
      let same = (f q.value.0).names.one q.value.1 m.0 q.holds.0 m.1 q.holds.1 in
      m.2 ∙ ap (λ (i : Fault K). with_more_after (length q.rest) i) same ∙ sym q.holds.2

  within_inside : (list : List Bool) (e : Fault K) → E.fault list e → e.left ≤ length list
  within_inside list e (inl p) = h.inside list e p
  within_inside list e (inr p) =
      let low = (f p.value.0).inside p.value.1 p.holds.0 p.holds.1 in
      let mid = fewer p.value p.starts.front p.starts.encoded in
      let all : length list ≡ length p.starts.front + length p.rest =
      ap length p.starts.parts ∙ length-append p.starts.front p.rest in
      let same : e.left ≡ p.holds.0.left + length p.rest = ap (λ (i : Fault K). i.left) p.holds.2 in
      omega (arith, low, mid, all, same)

  within_one : (list : List Bool) (x y : X) (rest other : List Bool) → Starts E.encodes list x rest → Starts E.encodes list y other
      → (x ≡ y) × (rest ≡ other)
  within_one list x y rest other s t =
      let e = h.one.one list s.encoded.0 t.encoded.0 rest other (header_of list x rest s) (header_of list y other t) in
      let m : (F t.encoded.0.0).fills x t.encoded.0.1 =
      subst (λ (v : T × List Bool). (F v.0).fills x v.1) e.0 s.encoded.2 in
      ((f t.encoded.0.0).one.one t.encoded.0.1 x y m t.encoded.2, e.1)

  pub within_sound : IsSound (within H F)
  within_sound = record {
    one = record { one = within_one };
    names = record { excludes = within_excludes; one = within_names_one };
    inside = within_inside;
  }
