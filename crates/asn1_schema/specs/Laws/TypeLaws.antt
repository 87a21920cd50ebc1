-- Laws of types: each combinator keeps `IsGood`.
use Rattle.std.proofs.Common.{◌≡◌, ℕ, zero, suc, ◌+◌, inl, inr, List, [], ◌∷◌, ◌++◌, Bool, length, refl, sym, ◌∙◌, ap, subst, append_assoc}
use Rattle.std.specs.Prelude.{◌⊎◌, ⊤}
use Rattle.asn1_schema.specs.declared.misfit.MisfitKind.{MisfitKind}
use Rattle.asn1_schema.specs.declared.misfit.MisfitKind.TheVariants.{NoEncoding, OtherPart, NoPart}
use Rattle.asn1_schema.specs.Pieces.{Piece, Absent, Parts}
use Rattle.asn1_schema.specs.Encodings.{Encoding, CanEncode, EncodesOne, constant, with_bits}
use Rattle.asn1_schema.specs.TypeEncodings.{Misfit, IsAtPart, TypeEncoding, AfterParts, PairMisfit, nothing, invalid_type, both, several, part, leaf, put, except_type, both_by_bits, several_by_bits}
use Rattle.asn1_schema.specs.Laws.EncodingLaws.{constant_sound, invalid_sound, with_bits_sound, except_sound}
use Rattle.asn1_schema.specs.Laws.PositionLaws.{IsSoundEverywhere, in_turn_sound}
use Rattle.asn1_schema.specs.Laws.WritingLaws.{IsGood, ArePresent, same_head, same_tail, not_empty, made, moved_parts, pair_encodes, pair_names, by_none, names_none, from_none, names_from_none}

-- good at every position
abbrev pub IsGoodEverywhere : {K : Type 0} → (ℕ → TypeEncoding K) → Type 0
IsGoodEverywhere A = (at : ℕ) → IsGood (A at)

pub nothing_good : {K : Type 0} (at : ℕ) → IsGood (nothing {K = K} at)
nothing_good at = record {
  decodes = constant_sound [];
  encodes = record {
    one = λ tape xs ys rest other a b p q s t. (
      p.0 ∙ sym q.0,
      sym (s ∙ ap (λ (zs : Parts). zs ++ rest) p.0) ∙ t ∙ ap (λ (zs : Parts). zs ++ other) q.0,
      p.1 ∙ sym q.1,
    );
    excludes = λ tape e m xs rest a p s. m;
    one_misfit = λ tape e g m n. absurd m;
  };
  names = record { covers = λ tape sound able. able (made _ tape [] tape [] (refl, refl) refl) };
}

pub invalid_type_good : {K : Type 0} (fault : K) (kind : MisfitKind) (node at : ℕ) → IsGood (invalid_type fault kind node at)
invalid_type_good fault kind node at = record {
  decodes = invalid_sound fault node;
  encodes = record {
    one = λ tape xs ys rest other a b p q s t. absurd p;
    excludes = λ tape e m xs rest a p s. p;
    one_misfit = λ tape e g m n. m ∙ sym n;
  };
  names = record { covers = λ tape sound able. sound (record { node = node; left = length tape; kind = kind }) refl };
}

-- ---- one value and then another

module _ {K : Type 0} (A B : ℕ → TypeEncoding K) (a : IsGoodEverywhere A) (b : IsGoodEverywhere B) where
  abbrev Q : ℕ → ⊤ → Parts → List Bool → Type 0
  Q n u xs l = (B n).encoding.encodes xs l

  abbrev U : ℕ → Parts → Misfit → Type 0
  U n tape e = (B n).misfit tape e

  abbrev P : ℕ → Parts → List Bool → Type 0
  P at xs l = (both A B at).encoding.encodes xs l

  pub both_good : IsGoodEverywhere (both A B)
  both_good at = record {
    decodes = in_turn_sound (λ n. (A n).encoding) (λ ts us. ts ++ us) (λ ts n. (B n).encoding) at (a at).decodes (λ ts n. (b n).decodes);
    encodes = from_none (P at) (PairMisfit (A at) U at)
        (pair_encodes (A at) Q U at (a at).encodes (λ n. by_none (Q n tt) (U n) (b n).encodes));
    names = names_from_none (P at) (PairMisfit (A at) U at)
        (pair_names (A at) Q U at (a at).encodes (λ n. by_none (Q n tt) (U n) (b n).encodes) (a at).names
        (λ n. names_none (Q n tt) (U n) (b n).names));
  }

pub several_good : {K : Type 0} (A : ℕ → TypeEncoding K) → IsGoodEverywhere A → (count : ℕ) → IsGoodEverywhere (several A count)
several_good A a zero = nothing_good
several_good A a (suc n) = both_good A (several A n) a (several_good A a n)

-- ---- a part that its bits tell

module _ {K X : Type 0} (A : ℕ → Encoding K X) (is : X → Piece) (B : X → ℕ → TypeEncoding K) (node : ℕ) (a : IsSoundEverywhere A)
    (one : (at : ℕ) → EncodesOne (A at).encodes) (alike : (x y : X) → is x ≡ is y → x ≡ y)
    (b : (x : X) → IsGoodEverywhere (B x)) (at : ℕ) where
  abbrev H : Parts → List Bool → Type 0
  H xs l = (part A is B node at).encoding.encodes xs l

  abbrev W : Parts → Misfit → Type 0
  W tape e = (part A is B node at).misfit tape e

  -- the fault of the part of the value, or of those after it
  abbrev V : X → Parts → Parts → Misfit → Type 0
  V x tape rest e =
      (¬ (CanEncode (A at).encodes x) × IsAtPart NoEncoding node tape e)
      ⊎ ((list : List Bool) × (A at).encodes x list × (B x (at + length list)).misfit rest e)

  front : (tape xs rest : Parts) (l : List Bool) (r : H xs l) → tape ≡ xs ++ rest → tape ≡ is r.value ∷ (r.after ++ rest)
  front tape xs rest l r s = s ∙ ap (λ (zs : Parts). zs ++ rest) r.is

  -- the second relation at another value, and another front of as many bits
  second : (x y : X) (m n xs k : _) → x ≡ y → m ≡ n → (B x (at + length {A = Bool} m)).encoding.encodes xs k
      → (B y (at + length {A = Bool} n)).encoding.encodes xs k
  second x y m n xs k p q h =
      subst (λ (i : List Bool). (B y (at + length i)).encoding.encodes xs k) q
      (subst (λ (z : X). (B z (at + length m)).encoding.encodes xs k) p h)

  part_one : (tape xs ys rest other : Parts) (k l : List Bool) → H xs k → H ys l → tape ≡ xs ++ rest → tape ≡ ys ++ other
      → (xs ≡ ys) × (rest ≡ other) × (k ≡ l)
  part_one tape xs ys rest other k l p q s t =
      let e = sym (front tape xs rest k p s) ∙ front tape ys other l q t in
      let x : p.value ≡ q.value = alike p.value q.value (same_head (is p.value) (is q.value) (p.after ++ rest) (q.after ++ other) e) in
      let f : p.front ≡ q.front = (one at).one q.value p.front q.front (subst (λ (y : X). (A at).encodes y p.front) x p.first) q.first in
      let m = second p.value q.value p.front q.front p.after p.rest x f p.second in
      let g = (b q.value (at + length q.front)).encodes.one (p.after ++ rest) p.after q.after rest other p.rest q.rest m q.second refl
      (same_tail (is p.value) (is q.value) (p.after ++ rest) (q.after ++ other) e) in (
        p.is ∙ ap (λ (y : X). is y ∷ p.after) x ∙ ap (λ (zs : Parts). is q.value ∷ zs) g.0 ∙ sym q.is,
        g.1,
        p.parts ∙ ap (λ (m : List Bool). m ++ p.rest) f ∙ ap (λ (m : List Bool). q.front ++ m) g.2 ∙ sym q.parts,
      )

  value_excludes : (x : X) (tape ps : Parts) (e : Misfit) → V x tape ps e → (xs rest : Parts) (l : List Bool) → (r : H xs l)
      → r.value ≡ x → ps ≡ r.after ++ rest → ⊥
  value_excludes x tape ps e (inl m) xs rest l r same s =
      m.0 (record { list = r.front; encoded = subst (λ (y : X). (A at).encodes y r.front) same r.first })
  value_excludes x tape ps e (inr m) xs rest l r same s =
      let f : r.front ≡ m.0 = (one at).one x r.front m.0 (subst (λ (y : X). (A at).encodes y r.front) same r.first) m.1 in
      (b x (at + length m.0)).encodes.excludes ps e m.2 r.after rest r.rest
      (second r.value x r.front m.0 r.after r.rest same f r.second) s

  part_excludes : (tape : Parts) (e : Misfit) → W tape e → (xs rest : Parts) (l : List Bool) → H xs l → tape ≡ xs ++ rest → ⊥
  part_excludes [] e m xs rest l r s = not_empty (is r.value) (r.after ++ rest) (front [] xs rest l r s)
  part_excludes (p ∷ ps) e (inr m) xs rest l r s =
      m.0 r.value (same_head p (is r.value) ps (r.after ++ rest) (front (p ∷ ps) xs rest l r s))
  part_excludes (p ∷ ps) e (inl (x, h, m)) xs rest l r s =
      let f = front (p ∷ ps) xs rest l r s in
      value_excludes x (p ∷ ps) ps e m xs rest l r
      (alike r.value x (sym (same_head p (is r.value) ps (r.after ++ rest) f) ∙ h))
      (same_tail p (is r.value) ps (r.after ++ rest) f)

  value_one : (x y : X) (tape ps : Parts) (e g : Misfit) → x ≡ y → V x tape ps e → V y tape ps g → e ≡ g
  value_one x y tape ps e g h (inl m) (inl n) = m.1 ∙ sym n.1
  value_one x y tape ps e g h (inl m) (inr n) =
      absurd (m.0 (record { list = n.0; encoded = subst (λ (z : X). (A at).encodes z n.0) (sym h) n.1 }))
  value_one x y tape ps e g h (inr m) (inl n) =
      absurd (n.0 (record { list = m.0; encoded = subst (λ (z : X). (A at).encodes z m.0) h m.1 }))
  value_one x y tape ps e g h (inr m) (inr n) =
      let f : m.0 ≡ n.0 = (one at).one y m.0 n.0 (subst (λ (z : X). (A at).encodes z m.0) h m.1) n.1 in
      (b y (at + length n.0)).encodes.one_misfit ps e g
      (subst (λ (i : List Bool). (B y (at + length i)).misfit ps e) f
      (subst (λ (z : X). (B z (at + length m.0)).misfit ps e) h m.2)) n.2

  part_one_misfit : (tape : Parts) (e g : Misfit) → W tape e → W tape g → e ≡ g
  part_one_misfit [] e g m n = m ∙ sym n
  part_one_misfit (p ∷ ps) e g (inl m) (inl n) = value_one m.0 n.0 (p ∷ ps) ps e g (alike m.0 n.0 (sym m.1 ∙ n.1)) m.2 n.2
  part_one_misfit (p ∷ ps) e g (inl m) (inr n) = absurd (n.0 m.0 m.1)
  part_one_misfit (p ∷ ps) e g (inr m) (inl n) = absurd (m.0 n.0 n.1)
  part_one_misfit (p ∷ ps) e g (inr m) (inr n) = m.1 ∙ sym n.1

  part_covers : (tape : Parts) → ((e : Misfit) → W tape e → ⊥) → (AfterParts H (λ l r. ⊤) tape → ⊥) → ⊥
  part_covers [] sound able = sound (record { node = node; left = 0; kind = NoPart }) refl
  part_covers (p ∷ ps) sound able =
      sound (record { node = node; left = length (p ∷ ps); kind = OtherPart })
      (inr (
        (λ x h.
            sound (record { node = node; left = length (p ∷ ps); kind = NoEncoding })
            (inl (
              x,
              h,
              inl (
                (λ can.
                    (b x (at + length can.list)).names.covers ps
                    (λ e m. sound e (inl (x, h, inr (can.list, can.encoded, m))))
                    (λ t. able
                    (made H (p ∷ ps) (is x ∷ t.parts) t.rest (can.list ++ t.list)
                    (record {
                      value = x;
                      after = t.parts;
                      front = can.list;
                      rest = t.list;
                      first = can.encoded;
                      second = t.encodes;
                      is = refl;
                      parts = refl;
                    })
                    (ap (λ (i : Piece). i ∷ ps) h ∙ ap (λ (ys : Parts). is x ∷ ys) t.are)))),
                refl,
              ),
            ))),
        refl,
      ))

  pub part_good : IsGood (part A is B node at)
  part_good = record {
    decodes = in_turn_sound A (λ x ts. is x ∷ ts) (λ x n. (B x n).encoding) at (a at) (λ x n. (b x n).decodes);
    encodes = record { one = part_one; excludes = part_excludes; one_misfit = part_one_misfit };
    names = record { covers = part_covers };
  }

  pub part_present : ((x : X) → is x ≡ Absent → ⊥) → ArePresent (part A is B node at)
  part_present not = record {
    each = λ xs l r. record { first = is r.value; others = r.after; are = r.is; present = not r.value };
  }

pub leaf_good : {K X : Type 0} (A : ℕ → Encoding K X) (is : X → Piece) (node : ℕ) → IsSoundEverywhere A
    → ((at : ℕ) → EncodesOne (A at).encodes) → ((x y : X) → is x ≡ is y → x ≡ y) → IsGoodEverywhere (leaf A is node)
leaf_good A is node a one alike at = part_good A is (λ x. nothing) node a one alike (λ x. nothing_good) at

-- ---- a part that no bits tell

constant_encodes_one : {X : Type 0} (x : X) → EncodesOne (λ y (list : List Bool). (y ≡ x) × (list ≡ []))
constant_encodes_one x = record { one = λ y a b p q. p.1 ∙ sym q.1 }

pub put_good : {K : Type 0} (p : Piece) (A : ℕ → TypeEncoding K) (node : ℕ) → IsGoodEverywhere A → IsGoodEverywhere (put p A node)
put_good p A node a at =
    part_good (λ n. constant (tt {0})) (λ u. p) (λ u. A) node (λ n. constant_sound (tt {0})) (λ n. constant_encodes_one (tt {0})) (λ x y e. refl)
    (λ u. a) at

pub put_present : {K : Type 0} (p : Piece) (A : ℕ → TypeEncoding K) (node : ℕ) → IsGoodEverywhere A → (p ≡ Absent → ⊥) → (at : ℕ)
    → ArePresent (put p A node at)
put_present p A node a not at =
    part_present (λ n. constant (tt {0})) (λ u. p) (λ u. A) node (λ n. constant_sound (tt {0})) (λ n. constant_encodes_one (tt {0})) (λ x y e. refl)
    (λ u. a) at (λ u. not)

-- ---- a value of whose bits something does not hold

module _ {K : Type 0} (C : List Bool → Type 0) (fault : K) (kind : MisfitKind) (node : ℕ) (A : TypeEncoding K) (a : IsGood A) where
  abbrev E : Parts → List Bool → Type 0
  E xs l = A.encoding.encodes xs l × ¬ (C l)

  abbrev EW : Parts → Misfit → Type 0
  EW tape e = (except_type C fault kind node A).misfit tape e

  except_excludes : (tape : Parts) (e : Misfit) → EW tape e → (xs rest : Parts) (l : List Bool) → E xs l → tape ≡ xs ++ rest → ⊥
  except_excludes tape e (inl m) xs rest l p s = a.encodes.excludes tape e m xs rest l p.0 s
  except_excludes tape e (inr m) xs rest l p s =
      p.1 (moved_parts A.encoding.encodes A.misfit a.encodes (λ list r. C list) tape xs rest l m.0 p.0 s)

  except_one_misfit : (tape : Parts) (e g : Misfit) → EW tape e → EW tape g → e ≡ g
  except_one_misfit tape e g (inl m) (inl n) = a.encodes.one_misfit tape e g m n
  except_one_misfit tape e g (inl m) (inr n) =
      absurd (a.encodes.excludes tape e m n.0.parts n.0.rest n.0.list n.0.encodes n.0.are)
  except_one_misfit tape e g (inr m) (inl n) =
      absurd (a.encodes.excludes tape g n m.0.parts m.0.rest m.0.list m.0.encodes m.0.are)
  except_one_misfit tape e g (inr m) (inr n) = m.1 ∙ sym n.1

  pub except_type_good : IsGood (except_type C fault kind node A)
  except_type_good = record {
    decodes = except_sound A.encoding a.decodes C fault node;
    encodes = record {
      one = λ tape xs ys rest other k l p q s t. a.encodes.one tape xs ys rest other k l p.0 q.0 s t;
      excludes = except_excludes;
      one_misfit = except_one_misfit;
    };
    names = record {
      covers = λ tape sound able.
          a.names.covers tape (λ e m. sound e (inl m))
          (λ t.
          let not : C t.list → ⊥ = λ c.
          sound (record { node = node; left = length tape; kind = kind })
          (inr (record { parts = t.parts; list = t.list; rest = t.rest; encodes = t.encodes; are = t.are; holds = c }, refl)) in
          able (made E tape t.parts t.rest t.list (t.encodes, not) t.are));
    };
  }

  pub except_type_present : ArePresent A → ArePresent (except_type C fault kind node A)
  except_type_present there = record { each = λ xs l p. there.each xs l p.0 }

-- ---- a value, and another that depends on its bits

module _ {K : Type 0} (A : ℕ → TypeEncoding K) (B : List Bool → ℕ → TypeEncoding K) (a : IsGoodEverywhere A)
    (b : (list : List Bool) → IsGoodEverywhere (B list)) (at : ℕ) where
  abbrev T : Parts → List Bool → Type 0
  T xs l = (both_by_bits A B at).encoding.encodes xs l

  abbrev TW : Parts → Misfit → Type 0
  TW tape e = (both_by_bits A B at).misfit tape e

  abbrev After : Misfit → List Bool → Parts → Type 0
  After e list rest = (B list (at + length list)).misfit rest e

  begin : (tape zs rest : Parts) (l : List Bool) (r : T zs l) → tape ≡ zs ++ rest → tape ≡ r.value.0 ++ (r.after ++ rest)
  begin tape zs rest l r s = s ∙ ap (λ (ys : Parts). ys ++ rest) r.is ∙ append_assoc r.value.0 r.after rest

  -- the second value as its bits before tell it
  told : (zs : Parts) (l : List Bool) (r : T zs l) → (B r.front (at + length r.front)).encoding.encodes r.after r.rest
  told zs l r = subst (λ (k : List Bool). (B k (at + length r.front)).encoding.encodes r.after r.rest) (sym r.first.1) r.second

  by_bits_one : (tape xs ys rest other : Parts) (k l : List Bool) → T xs k → T ys l → tape ≡ xs ++ rest → tape ≡ ys ++ other
      → (xs ≡ ys) × (rest ≡ other) × (k ≡ l)
  by_bits_one tape xs ys rest other k l p q s t =
      let e = (a at).encodes.one tape p.value.0 q.value.0 (p.after ++ rest) (q.after ++ other) p.front q.front p.first.0 q.first.0
      (begin tape xs rest k p s) (begin tape ys other l q t) in
      let m : (B q.front (at + length q.front)).encoding.encodes p.after p.rest =
      subst (λ (i : List Bool). (B i (at + length i)).encoding.encodes p.after p.rest) e.2 (told xs k p) in
      let f = (b q.front (at + length q.front)).encodes.one (p.after ++ rest) p.after q.after rest other p.rest q.rest m (told ys l q) refl
      e.1 in (
        p.is ∙ ap (λ (zs : Parts). zs ++ p.after) e.0 ∙ ap (λ (zs : Parts). q.value.0 ++ zs) f.0 ∙ sym q.is,
        f.1,
        p.parts ∙ ap (λ (i : List Bool). i ++ p.rest) e.2 ∙ ap (λ (i : List Bool). q.front ++ i) f.2 ∙ sym q.parts,
      )

  by_bits_excludes : (tape : Parts) (e : Misfit) → TW tape e → (xs rest : Parts) (l : List Bool) → T xs l → tape ≡ xs ++ rest → ⊥
  by_bits_excludes tape e (inl m) xs rest l r s =
      (a at).encodes.excludes tape e m r.value.0 (r.after ++ rest) r.front r.first.0 (begin tape xs rest l r s)
  by_bits_excludes tape e (inr m) xs rest l r s =
      (b r.front (at + length r.front)).encodes.excludes (r.after ++ rest) e
      (moved_parts (A at).encoding.encodes (A at).misfit (a at).encodes (After e) tape r.value.0 (r.after ++ rest) r.front m r.first.0
      (begin tape xs rest l r s))
      r.after rest r.rest (told xs l r) refl

  by_bits_one_misfit : (tape : Parts) (e g : Misfit) → TW tape e → TW tape g → e ≡ g
  by_bits_one_misfit tape e g (inl m) (inl n) = (a at).encodes.one_misfit tape e g m n
  by_bits_one_misfit tape e g (inl m) (inr n) = absurd ((a at).encodes.excludes tape e m n.parts n.rest n.list n.encodes n.are)
  by_bits_one_misfit tape e g (inr m) (inl n) = absurd ((a at).encodes.excludes tape g n m.parts m.rest m.list m.encodes m.are)
  by_bits_one_misfit tape e g (inr m) (inr n) =
      (b n.list (at + length n.list)).encodes.one_misfit n.rest e g
      (moved_parts (A at).encoding.encodes (A at).misfit (a at).encodes (After e) tape n.parts n.rest n.list m n.encodes n.are) n.holds

  pub both_by_bits_good : IsGood (both_by_bits A B at)
  both_by_bits_good = record {
    decodes = in_turn_sound (λ n. with_bits (A n).encoding) (λ v us. v.0 ++ us) (λ v n. (B v.1 n).encoding) at
        (with_bits_sound (A at).encoding (a at).decodes) (λ v n. (b v.1 n).decodes);
    encodes = record { one = by_bits_one; excludes = by_bits_excludes; one_misfit = by_bits_one_misfit };
    names = record {
      covers = λ tape sound able.
          (a at).names.covers tape (λ e m. sound e (inl m))
          (λ t. (b t.list (at + length t.list)).names.covers t.rest
          (λ e m. sound e (inr (record { parts = t.parts; list = t.list; rest = t.rest; encodes = t.encodes; are = t.are; holds = m })))
          (λ u. able
          (made T tape (t.parts ++ u.parts) u.rest (t.list ++ u.list)
          (record {
            value = (t.parts, t.list);
            after = u.parts;
            front = t.list;
            rest = u.list;
            first = (t.encodes, refl);
            second = u.encodes;
            is = refl;
            parts = refl;
          })
          (t.are ∙ ap (λ (ys : Parts). t.parts ++ ys) u.are ∙ sym (append_assoc t.parts u.parts u.rest)))));
    };
  }

pub several_by_bits_good : {K : Type 0} (A : List Bool → ℕ → TypeEncoding K) → ((list : List Bool) → IsGoodEverywhere (A list))
    → (before : List Bool) (count : ℕ) → IsGoodEverywhere (several_by_bits A before count)
several_by_bits_good A a before zero = nothing_good
several_by_bits_good A a before (suc n) =
    both_by_bits_good (A before) (λ list. several_by_bits A list n) (a before) (λ list. several_by_bits_good A a list n)
