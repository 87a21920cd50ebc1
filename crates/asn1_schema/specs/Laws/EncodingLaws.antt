-- Laws of encodings: each combinator keeps `IsSound`.
use Rattle.std.proofs.Common.{◌≡◌, ℕ, ◌+◌, ◌<◌, ◌≤◌, inl, inr, List, ◌++◌, Bool, length, take, drop, refl, sym, ◌∙◌, ap, subst, arith, append_assoc}
use Rattle.std.specs.Prelude.{◌⊎◌}
use Rattle.std.proofs.lemmas.List.{length-append}
use Rattle.std.proofs.Math.Seq.{take-append_seam, drop-append_seam}
use Rattle.asn1_bits.specs.Bits.{digits, number as number_of}
use Rattle.asn1_bits.specs.Laws.DigitLaws.{length-digits}
use Rattle.asn1_bits.specs.Laws.NumberLaws.{number_of-digits}
use Rattle.asn1_schema.specs.Encodings.{Fault, Encoding, Starts, CanDecode, Then, IsAt, InSequence, DecodesOne, EncodesOne, NamesFault, IsNumber, constant, invalid, then, cases, with_bits, except, number}

-- two fronts of one list that are equally long are one, and so are the rests
pub same_fronts : {A : Type 0} (a b r s : List A) → a ++ r ≡ b ++ s → length a ≡ length b → (a ≡ b) × (r ≡ s)
same_fronts a b r s e l = (
  sym (take-append_seam a r) ∙ ap (λ k. take k (a ++ r)) l ∙ ap (λ t. take (length b) t) e ∙ take-append_seam b s,
  sym (drop-append_seam a r) ∙ ap (λ k. drop k (a ++ r)) l ∙ ap (λ t. drop (length b) t) e ∙ drop-append_seam b s,
)

-- What every encoding is proved to keep: a list begins with one value at most; its first fault is one, excludes a value, and
-- lies within the list.
pub record IsSound {K X : Type 0} (R : Encoding K X) : Type 0 where
  pub one : DecodesOne R.encodes
  pub names : NamesFault R.encodes R.fault
  pub inside : (list : List Bool) (e : Fault K) → R.fault list e → e.left ≤ length list

pub at_inside : {K : Type 0} (kind : K) (node : ℕ) (list : List Bool) (e : Fault K) → IsAt kind node list e → e.left ≤ length list
at_inside {K = K} kind node list e p =
    let same : e.left ≡ length list = ap (λ (f : Fault K). f.left) p in
    omega arith

pub constant_sound : {K X : Type 0} (x : X) → IsSound (constant {K = K} x)
constant_sound x = record {
  one = record {
    one = λ list y z rest other s t. (
      s.encoded.0 ∙ sym t.encoded.0,
      sym (s.parts ∙ ap (λ (l : List Bool). l ++ rest) s.encoded.1) ∙ t.parts ∙ ap (λ (l : List Bool). l ++ other) t.encoded.1,
    );
  };
  names = record { excludes = λ list e p can. p; one = λ list e g p q. absurd p };
  inside = λ list e p. absurd p;
}

pub invalid_sound : {K X : Type 0} (kind : K) (node : ℕ) → IsSound (invalid {X = X} kind node)
invalid_sound {X = X} kind node = record {
  one = record { one = λ list y z rest other s t. absurd s.encoded };
  names = record { excludes = λ list e p can. can.starts.encoded; one = λ list e g p q. p ∙ sym q };
  inside = λ list e p. at_inside kind node list e p;
}

-- the digits of a number before a list are `width`
pub number_size : (width : ℕ) (list : List Bool) (n : ℕ) (rest : List Bool) → (s : Starts (IsNumber width) list n rest)
    → length s.front ≡ width
number_size width list n rest s = ap length s.encoded.1 ∙ length-digits n width

pub number_decodes_one : (width : ℕ) → DecodesOne (IsNumber width)
number_decodes_one width = record {
  one = λ list x y rest other s t.
      let la = number_size width list x rest s in
      let lb = number_size width list y other t in
      let f = same_fronts s.front t.front rest other (sym s.parts ∙ t.parts) (la ∙ sym lb) in
      let same : digits x width ≡ digits y width = sym s.encoded.1 ∙ f.0 ∙ t.encoded.1 in
      (sym (number_of-digits x width s.encoded.0) ∙ ap number_of same ∙ number_of-digits y width t.encoded.0, f.1);
}

pub number_encodes_one : (width : ℕ) → EncodesOne (IsNumber width)
number_encodes_one width = record { one = λ x a b p q. p.1 ∙ sym q.1 }

short_number : (width : ℕ) (list : List Bool) → length list < width → CanDecode (IsNumber width) list → ⊥
short_number width list few can =
    let s = can.starts in
    let front = number_size width list can.value can.rest s in
    let all : length list ≡ length s.front + length can.rest = ap length s.parts ∙ length-append s.front can.rest in
    omega arith

pub number_sound : {K : Type 0} (width : ℕ) (short : K) (node : ℕ) → IsSound (number width short node)
number_sound width short node = record {
  one = number_decodes_one width;
  names = record { excludes = λ list e p can. short_number width list p.0 can; one = λ list e g p q. p.1 ∙ sym q.1 };
  inside = λ list e p. at_inside _ node list e p.1;
}

-- a rule whose faults are those of a part, each of a kind of its own, before it
pub at_front_sound : {K X F : Type 0} (P : X → List Bool → Type 0) (W : List Bool → F → Type 0) (kind : F → K) (node : ℕ)
    → DecodesOne P → NamesFault P W
    → IsSound (record { encodes = P; fault = λ list e. (f : F) × W list f × IsAt (kind f) node list e })
at_front_sound {K = K} {F = F} P W kind node one names = record {
  one = one;
  names = record {
    excludes = λ list e p can. names.excludes list p.0 p.1 can;
    one = λ list e g p q.
        let fault : F → Fault K = λ f. record { node = node; left = length list; kind = kind f } in
        p.2 ∙ ap fault (names.one list p.0 q.0 p.1 q.1) ∙ sym q.2;
  };
  inside = λ list e p. at_inside _ node list e p.2;
}

-- ---- rules of others

module _ {X Y Z : Type 0} (P : X → List Bool → Type 0) (f : X → Y → Z) (Q : X → Y → List Bool → Type 0) where
  -- the first part, and the second after it
  pub apart : (list : List Bool) (z : Z) (rest : List Bool) → Starts (λ w l. InSequence P f Q w l) list z rest
      → (x : X) × (y : Y) × (mid : List Bool) × Starts P list x mid × Starts (Q x) mid y rest × (z ≡ f x y)
  apart list z rest s = (
    s.encoded.value,
    s.encoded.after,
    s.encoded.rest ++ rest,
    record {
      front = s.encoded.front;
      encoded = s.encoded.first;
      parts = s.parts ∙ ap (λ (l : List Bool). l ++ rest) s.encoded.parts ∙ append_assoc s.encoded.front s.encoded.rest rest;
    },
    record { front = s.encoded.rest; encoded = s.encoded.second; parts = refl },
    s.encoded.is,
  )

pub fewer : {X : Type 0} (P : X → List Bool → Type 0) (list : List Bool) (x : X) (rest : List Bool) → Starts P list x rest
    → length rest ≤ length list
fewer P list x rest s =
    let only : length list ≡ length s.front + length rest = ap length s.parts ∙ length-append s.front rest in
    omega arith

pub can : {X : Type 0} (P : X → List Bool → Type 0) (W : X → List Bool → Type 0) (list : List Bool) → Then P W list → CanDecode P list
can P W list p = record { value = p.value; rest = p.rest; starts = p.starts }

-- what holds after a value holds after any that can be read
pub moved : {X : Type 0} (P : X → List Bool → Type 0) → DecodesOne P → (W : X → List Bool → Type 0) (list : List Bool)
    → (p : Then P W list) (x : X) (rest : List Bool) → Starts P list x rest → W x rest
moved {X = X} P one W list p x rest s =
    let same = one.one list p.value x p.rest rest p.starts s in
    subst (λ (l : List Bool). W x l) same.1 (subst (λ (y : X). W y p.rest) same.0 p.holds)

module _ {K X Y Z : Type 0} (A : Encoding K X) (f : X → Y → Z) (B : X → Encoding K Y) (a : IsSound A) (b : (x : X) → IsSound (B x)) where
  abbrev V : Fault K → X → List Bool → Type 0
  V e x rest = (B x).fault rest e

  then_excludes : (list : List Bool) (e : Fault K) → A.fault list e ⊎ Then A.encodes (V e) list → CanDecode (then A f B).encodes list → ⊥
  then_excludes list e (inl p) able =
      let d = apart A.encodes f (λ x. (B x).encodes) list able.value able.rest able.starts in
      a.names.excludes list e p (record { value = d.0; rest = d.2; starts = d.3 })
  then_excludes list e (inr p) able =
      let d = apart A.encodes f (λ x. (B x).encodes) list able.value able.rest able.starts in
      (b d.0).names.excludes d.2 e (moved A.encodes a.one (V e) list p d.0 d.2 d.3)
      (record { value = d.1; rest = able.rest; starts = d.4 })

  then_one : (list : List Bool) (e g : Fault K) → A.fault list e ⊎ Then A.encodes (V e) list
      → A.fault list g ⊎ Then A.encodes (V g) list → e ≡ g
  then_one list e g (inl p) (inl q) = a.names.one list e g p q
  then_one list e g (inl p) (inr q) = absurd (a.names.excludes list e p (can A.encodes (V g) list q))
  then_one list e g (inr p) (inl q) = absurd (a.names.excludes list g q (can A.encodes (V e) list p))
  then_one list e g (inr p) (inr q) =
      (b q.value).names.one q.rest e g (moved A.encodes a.one (V e) list p q.value q.rest q.starts) q.holds

  then_inside : (list : List Bool) (e : Fault K) → A.fault list e ⊎ Then A.encodes (V e) list → e.left ≤ length list
  then_inside list e (inl p) = a.inside list e p
  then_inside list e (inr p) =
      let low = (b p.value).inside p.rest e p.holds in
      let high = fewer A.encodes list p.value p.rest p.starts in
      omega (arith, low, high)

  pub then_sound : IsSound (then A f B)
  then_sound = record {
    one = record {
      one = λ list z w rest other s t.
          let c = apart A.encodes f (λ x. (B x).encodes) list z rest s in
          let d = apart A.encodes f (λ x. (B x).encodes) list w other t in
          let e = a.one.one list c.0 d.0 c.2 d.2 c.3 d.3 in
          let m : Starts (B d.0).encodes d.2 c.1 rest =
          subst (λ (l : List Bool). Starts (B d.0).encodes l c.1 rest) e.1
          (subst (λ (x : X). Starts (B x).encodes c.2 c.1 rest) e.0 c.4) in
          let g = (b d.0).one.one d.2 c.1 d.1 rest other m d.4 in
          (c.5 ∙ ap (λ (x : X). f x c.1) e.0 ∙ ap (λ (y : Y). f d.0 y) g.0 ∙ sym d.5, g.1);
    };
    names = record { excludes = then_excludes; one = then_one };
    inside = then_inside;
  }

module _ {K X : Type 0} (C : Type 0) (A : Encoding K X) (D : Type 0) (B : Encoding K X) (apart : C → D → ⊥) (a : IsSound A) (b : IsSound B) where
  cases_reads : (list : List Bool) (x y : X) (rest other fa fb : List Bool) → (C × A.encodes x fa) ⊎ (D × B.encodes x fa) → list ≡ fa ++ rest
      → (C × A.encodes y fb) ⊎ (D × B.encodes y fb) → list ≡ fb ++ other → (x ≡ y) × (rest ≡ other)
  cases_reads list x y rest other fa fb (inl p) e (inl q) g =
      a.one.one list x y rest other (record { front = fa; encoded = p.1; parts = e }) (record { front = fb; encoded = q.1; parts = g })
  cases_reads list x y rest other fa fb (inr p) e (inr q) g =
      b.one.one list x y rest other (record { front = fa; encoded = p.1; parts = e }) (record { front = fb; encoded = q.1; parts = g })
  cases_reads list x y rest other fa fb (inl p) e (inr q) g = absurd (apart p.0 q.0)
  cases_reads list x y rest other fa fb (inr p) e (inl q) g = absurd (apart q.0 p.0)

  cases_excludes : (list : List Bool) (e : Fault K) (x : X) (rest front : List Bool) → (C × A.fault list e) ⊎ (D × B.fault list e)
      → (C × A.encodes x front) ⊎ (D × B.encodes x front) → list ≡ front ++ rest → ⊥
  cases_excludes list e x rest front (inl p) (inl q) g =
      a.names.excludes list e p.1 (record { value = x; rest = rest; starts = record { front = front; encoded = q.1; parts = g } })
  cases_excludes list e x rest front (inr p) (inr q) g =
      b.names.excludes list e p.1 (record { value = x; rest = rest; starts = record { front = front; encoded = q.1; parts = g } })
  cases_excludes list e x rest front (inl p) (inr q) g = apart p.0 q.0
  cases_excludes list e x rest front (inr p) (inl q) g = apart q.0 p.0

  cases_one : (list : List Bool) (e g : Fault K) → (C × A.fault list e) ⊎ (D × B.fault list e)
      → (C × A.fault list g) ⊎ (D × B.fault list g) → e ≡ g
  cases_one list e g (inl p) (inl q) = a.names.one list e g p.1 q.1
  cases_one list e g (inr p) (inr q) = b.names.one list e g p.1 q.1
  cases_one list e g (inl p) (inr q) = absurd (apart p.0 q.0)
  cases_one list e g (inr p) (inl q) = absurd (apart q.0 p.0)

  cases_inside : (list : List Bool) (e : Fault K) → (C × A.fault list e) ⊎ (D × B.fault list e) → e.left ≤ length list
  cases_inside list e (inl p) = a.inside list e p.1
  cases_inside list e (inr p) = b.inside list e p.1

  pub cases_sound : IsSound (cases C A D B)
  cases_sound = record {
    one = record {
      one = λ list x y rest other s t. cases_reads list x y rest other s.front t.front s.encoded s.parts t.encoded t.parts;
    };
    names = record {
      excludes = λ list e p can. cases_excludes list e can.value can.rest can.starts.front p can.starts.encoded can.starts.parts;
      one = cases_one;
    };
    inside = cases_inside;
  }

-- ---- the bits of a value

module _ {K X : Type 0} (A : Encoding K X) (a : IsSound A) where
  without : (list : List Bool) (v : X × List Bool) (rest : List Bool) → Starts (with_bits A).encodes list v rest → Starts A.encodes list v.0 rest
  without list v rest s = record { front = s.front; encoded = s.encoded.0; parts = s.parts }

  pub with_bits_one : DecodesOne (with_bits A).encodes
  with_bits_one = record {
    one = λ list v w rest other s t.
        let e = a.one.one list v.0 w.0 rest other (without list v rest s) (without list w other t) in
        let f = same_ends list s.front t.front rest other s.parts t.parts e.1 in
        let bits : v.1 ≡ w.1 = sym s.encoded.1 ∙ f ∙ t.encoded.1 in
        (ap (λ (x : X). (x, v.1)) e.0 ∙ ap (λ (l : List Bool). (w.0, l)) bits, e.1);
  }
    where
      same_ends : (list f g rest other : List Bool) → list ≡ f ++ rest → list ≡ g ++ other → rest ≡ other → f ≡ g
      same_ends list f g rest other p q e =
          let lf : length list ≡ length f + length rest = ap length p ∙ length-append f rest in
          let lg : length list ≡ length g + length other = ap length q ∙ length-append g other in
          let le : length rest ≡ length other = ap length e in
          (same_fronts f g rest other (sym p ∙ q) (omega arith)).0

  pub with_bits_sound : IsSound (with_bits A)
  with_bits_sound = record {
    one = with_bits_one;
    names = record {
      excludes = λ list e p able.
          a.names.excludes list e p
          (record { value = able.value.0; rest = able.rest; starts = without list able.value able.rest able.starts });
      one = a.names.one;
    };
    inside = a.inside;
  }

  module _ (C : List Bool → Type 0) (kind : K) (node : ℕ) where
    abbrev R : Encoding K X
    R = except C kind node A

    read : (list : List Bool) (x : X) (rest : List Bool) → Starts R.encodes list x rest → Starts A.encodes list x rest
    read list x rest s = record { front = s.front; encoded = s.encoded.0; parts = s.parts }

    held : (list : List Bool) (x : X) (rest : List Bool) → (s : Starts R.encodes list x rest)
        → Starts (with_bits A).encodes list (x, s.front) rest
    held list x rest s = record { front = s.front; encoded = (s.encoded.0, refl); parts = s.parts }

    abbrev B : List Bool → Fault K → Type 0
    B list e = Then (with_bits A).encodes (λ v rest. C v.1) list × IsAt kind node list e

    except_excludes : (list : List Bool) (e : Fault K) → A.fault list e ⊎ B list e → CanDecode R.encodes list → ⊥
    except_excludes list e (inl p) able =
        a.names.excludes list e p
        (record { value = able.value; rest = able.rest; starts = read list able.value able.rest able.starts })
    except_excludes list e (inr p) able =
        able.starts.encoded.1
        (moved (with_bits A).encodes with_bits_one (λ v rest. C v.1) list p.0 (able.value, able.starts.front) able.rest
        (held list able.value able.rest able.starts))

    bad_can : (list : List Bool) (e : Fault K) → B list e → CanDecode A.encodes list
    bad_can list e p = record { value = p.0.value.0; rest = p.0.rest; starts = without list p.0.value p.0.rest p.0.starts }

    except_one : (list : List Bool) (e g : Fault K) → A.fault list e ⊎ B list e → A.fault list g ⊎ B list g → e ≡ g
    except_one list e g (inl p) (inl q) = a.names.one list e g p q
    except_one list e g (inl p) (inr q) = absurd (a.names.excludes list e p (bad_can list g q))
    except_one list e g (inr p) (inl q) = absurd (a.names.excludes list g q (bad_can list e p))
    except_one list e g (inr p) (inr q) = p.1 ∙ sym q.1

    except_inside : (list : List Bool) (e : Fault K) → A.fault list e ⊎ B list e → e.left ≤ length list
    except_inside list e (inl p) = a.inside list e p
    except_inside list e (inr p) = at_inside kind node list e p.1

    pub except_sound : IsSound (except C kind node A)
    except_sound = record {
      one = record {
        one = λ list x y rest other s t. a.one.one list x y rest other (read list x rest s) (read list y other t);
      };
      names = record { excludes = except_excludes; one = except_one };
      inside = except_inside;
    }
