-- What follows of fields that were written one after another.
use Rattle.std.proofs.Common.{◌≡◌, ℕ, ◌+◌, ◌-◌, ◌%◌, ◌^◌, ◌<◌, List, [], ◌++◌, Bool, true, false, length, refl, sym, ap, inl, inr, arith}
use Rattle.std.proofs.lemmas.List.{append-nil}
use Rattle.std.proofs.lemmas.Nat.{pow_pos}
use Rattle.asn1_bits.specs.Bits.{digits}
use Rattle.asn1_schema.specs.Encodings.{Encoding, constant, invalid, cases, permitted, number, anywhere, then, in_turn, in_case}
use Rattle.asn1_x691.specs.declared.fault.FaultKind.{FaultKind}
use Rattle.asn1_x691.specs.Fields.{to_octet, on_octet}
use Rattle.asn1_x691_writers.specs.Written.{IsGrown, IsAlike, IsWritten, start_of}
use Rattle.asn1_x691_writers.specs.GrownSteps.{index_octet, grown_both}

pub number_written : (aligned : Bool) (width node : ℕ) (kind : FaultKind) (n : ℕ) (was now : List ℕ) (old new : ℕ) → n < 2 ^ width
    → IsGrown was old now new (digits n width) → IsWritten aligned (anywhere (number width kind node)) n was old now new
number_written aligned width node kind n was now old new few g = record {
  list = digits n width;
  encodes = λ at h. (few, refl);
  grown = g;
}

-- ---- one field after another

pub alike_after : (aligned : Bool) (was mid : List ℕ) (old new at : ℕ) (list : List Bool) → IsGrown was old mid new list
    → IsAlike aligned at old → IsAlike aligned (at + length list) new
alike_after aligned was mid old new at list g h e =
    let a = h e in
    let b = index_octet new (old + length list) (g.index old (inl refl)) in
    omega (arith, a, b)

pub turn_written : {X Y Z : Type 0} (aligned : Bool) (A : ℕ → Encoding FaultKind X) (f : X → Y → Z) (B : X → ℕ → Encoding FaultKind Y)
    (x : X) (y : Y) (was mid now : List ℕ) (old at new : ℕ) → IsWritten aligned A x was old mid at
    → IsWritten aligned (B x) y mid at now new → IsWritten aligned (in_turn A f B) (f x y) was old now new
turn_written aligned A f B x y was mid now old at new a b = record {
  list = a.list ++ b.list;
  encodes = λ p h. record {
    value = x;
    after = y;
    front = a.list;
    rest = b.list;
    first = a.encodes p h;
    second = b.encodes (p + length a.list) (alike_after aligned was mid old at p a.list a.grown h);
    is = refl;
    parts = refl;
  };
  grown = grown_both was mid now old at new a.list b.list a.grown b.grown;
}

pub then_written : {X Y Z : Type 0} (aligned : Bool) (A : Encoding FaultKind X) (f : X → Y → Z) (B : X → Encoding FaultKind Y)
    (x : X) (y : Y) (was mid now : List ℕ) (old at new : ℕ) → IsWritten aligned (anywhere A) x was old mid at
    → IsWritten aligned (anywhere (B x)) y mid at now new → IsWritten aligned (anywhere (then A f B)) (f x y) was old now new
then_written aligned A f B x y was mid now old at new a b = record {
  list = a.list ++ b.list;
  encodes = λ p h. record {
    value = x;
    after = y;
    front = a.list;
    rest = b.list;
    first = a.encodes p h;
    second = b.encodes (p + length a.list) (alike_after aligned was mid old at p a.list a.grown h);
    is = refl;
    parts = refl;
  };
  grown = grown_both was mid now old at new a.list b.list a.grown b.grown;
}

-- a field, and a value that takes no bits
module _ {X Y Z : Type 0} (aligned : Bool) (was now : List ℕ) (old new : ℕ) where
  pub turn_constant : (A : ℕ → Encoding FaultKind X) (f : X → Y → Z) (B : X → ℕ → Encoding FaultKind Y) (x : X) (y : Y)
      → IsWritten aligned A x was old now new → ((at : ℕ) → (B x at).encodes y [])
      → IsWritten aligned (in_turn A f B) (f x y) was old now new
  turn_constant A f B x y a b = record {
    list = a.list;
    encodes = λ p h. record {
      value = x;
      after = y;
      front = a.list;
      rest = [];
      first = a.encodes p h;
      second = b (p + length a.list);
      is = refl;
      parts = sym (append-nil a.list);
    };
    grown = a.grown;
  }

  pub then_constant : (A : Encoding FaultKind X) (f : X → Y → Z) (B : X → Encoding FaultKind Y) (x : X) (y : Y)
      → IsWritten aligned (anywhere A) x was old now new → (B x).encodes y []
      → IsWritten aligned (anywhere (then A f B)) (f x y) was old now new
  then_constant A f B x y a b = record {
    list = a.list;
    encodes = λ p h. record {
      value = x;
      after = y;
      front = a.list;
      rest = [];
      first = a.encodes p h;
      second = b;
      is = refl;
      parts = sym (append-nil a.list);
    };
    grown = a.grown;
  }

-- ---- a case of a field

module _ {X : Type 0} (aligned : Bool) (C D : Type 0) (A B : ℕ → Encoding FaultKind X) (x : X) (was now : List ℕ) (old new : ℕ) where
  pub first_written : C → IsWritten aligned A x was old now new → IsWritten aligned (in_case C A D B) x was old now new
  first_written c a = record { list = a.list; encodes = λ at h. inl (c, a.encodes at h); grown = a.grown }

  pub second_written : D → IsWritten aligned B x was old now new → IsWritten aligned (in_case C A D B) x was old now new
  second_written d b = record { list = b.list; encodes = λ at h. inr (d, b.encodes at h); grown = b.grown }

-- ---- a field that begins at an octet in the ALIGNED variant

same_start : (at old : ℕ) → at % 8 ≡ old % 8 → to_octet old ≡ to_octet at
same_start at old e = ap (λ (n : ℕ). (8 - n) % 8) (sym e)

-- the zeros and the field are one encoding
pub octet_encodes : {X : Type 0} (node : ℕ) (A : Encoding FaultKind X) (x : X) (old : ℕ) (list : List Bool) (aligned : Bool) → A.encodes x list
    → (at : ℕ) → IsAlike aligned at old → (on_octet aligned node A at).encodes x (start_of aligned old ++ list)
octet_encodes node A x old list false a at h = a
octet_encodes node A x old list true a at h =
    let zeros = digits 0 (to_octet old) in
    let e = same_start at old (h refl) in record {
      value = tt;
      after = x;
      front = zeros;
      rest = list;
      first = record {
        value = 0;
        after = tt;
        front = zeros;
        rest = [];
        first = (pow_pos (to_octet at), ap (λ (n : ℕ). digits 0 n) e);
        second = inl (refl, (refl, refl));
        is = refl;
        parts = sym (append-nil zeros);
      };
      second = a;
      is = refl;
      parts = refl;
    }

pub octet_written : {X : Type 0} (node : ℕ) (A : Encoding FaultKind X) (x : X) (was mid now : List ℕ) (old at new : ℕ) (aligned : Bool)
    → IsGrown was old mid at (start_of aligned old) → IsWritten aligned (anywhere A) x mid at now new
    → IsWritten aligned (on_octet aligned node A) x was old now new
octet_written node A x was mid now old at new aligned g a = record {
  list = start_of aligned old ++ a.list;
  encodes = octet_encodes node A x old a.list aligned (a.encodes at (λ e. refl));
  grown = grown_both was mid now old at new (start_of aligned old) a.list g a.grown;
}

-- ---- a value that is permitted

pub permitted_written : {X : Type 0} (aligned : Bool) (Yes No : X → Type 0) (kind : FaultKind) (node : ℕ) (A : ℕ → Encoding FaultKind X) (x : X)
    (was now : List ℕ) (old new : ℕ) → Yes x → IsWritten aligned A x was old now new
    → IsWritten aligned (permitted Yes No kind node A) x was old now new
permitted_written aligned Yes No kind node A x was now old new is a =
    turn_constant aligned was now old new A (λ y z. z) (λ y. anywhere (cases (Yes y) (constant y) (No y) (invalid kind node))) x x a
    (λ p. inl (is, (refl, refl)))
