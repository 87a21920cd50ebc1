-- Laws of parts and their bits: what every combinator of types keeps.
use Rattle.std.proofs.Common.{◌≡◌, ℕ, suc, ◌+◌, inl, inr, List, [], ◌∷◌, ◌++◌, Bool, length, refl, sym, ◌∙◌, ap, subst, arith, append_assoc}
use Rattle.std.specs.Prelude.{⊤}
use Rattle.asn1_schema.specs.Pieces.{Piece, Absent, Parts}
use Rattle.asn1_schema.specs.Encodings.{InTurn}
use Rattle.asn1_schema.specs.TypeEncodings.{Misfit, TypeEncoding, AfterHeader, AfterParts, PairMisfit, EncodesUniquely, NamesEachMisfit}
use Rattle.asn1_schema.specs.Laws.EncodingLaws.{IsSound}

-- as `EncodesUniquely`, where P says a value too, which the parts tell
pub record EncodesUniquelyBy {X : Type 0} (P : X → Parts → List Bool → Type 0) (W : Parts → Misfit → Type 0) : Type 0 where
  pub one : (x y : X) (tape xs ys rest other : Parts) (a b : List Bool) → P x xs a → P y ys b → tape ≡ xs ++ rest
      → tape ≡ ys ++ other → (x ≡ y) × (xs ≡ ys) × (rest ≡ other) × (a ≡ b)
  pub excludes : (tape : Parts) (e : Misfit) → W tape e → (x : X) (xs rest : Parts) (a : List Bool) → P x xs a → tape ≡ xs ++ rest
      → ⊥
  pub one_misfit : (tape : Parts) (e g : Misfit) → W tape e → W tape g → e ≡ g

-- as `AfterParts`, where P says a value too
pub record AfterPartsBy {X : Type 0} (P : X → Parts → List Bool → Type 0) (tape : Parts) : Type 0 where
  pub value : X
  pub parts : Parts
  pub list : List Bool
  pub rest : Parts
  pub encodes : P value parts list
  pub are : tape ≡ parts ++ rest

pub record NamesEachMisfitBy {X : Type 0} (P : X → Parts → List Bool → Type 0) (W : Parts → Misfit → Type 0) : Type 0 where
  pub covers : (tape : Parts) → ((e : Misfit) → W tape e → ⊥) → (AfterPartsBy P tape → ⊥) → ⊥

-- a type of which all promises hold
pub record IsGood {K : Type 0} (A : TypeEncoding K) : Type 0 where
  pub decodes : IsSound A.encoding
  pub encodes : EncodesUniquely A.encoding.encodes A.misfit
  pub names : NamesEachMisfit A.encoding.encodes A.misfit

pub record IsGoodAfter {K X : Type 0} (B : AfterHeader K X) : Type 0 where
  pub decodes : (x : X) → IsSound (B.after x)
  pub encodes : EncodesUniquelyBy (λ x xs a. (B.after x).encodes xs a) B.misfit
  pub names : NamesEachMisfitBy (λ x xs a. (B.after x).encodes xs a) B.misfit

-- ---- parts

abbrev head_or : Piece → Parts → Piece
head_or d [] = d
head_or d (p ∷ ps) = p

abbrev tail_of : Parts → Parts
tail_of [] = []
tail_of (p ∷ ps) = ps

pub same_head : (p q : Piece) (ps qs : Parts) → p ∷ ps ≡ q ∷ qs → p ≡ q
same_head p q ps qs e = ap (head_or p) e

pub same_tail : (p q : Piece) (ps qs : Parts) → p ∷ ps ≡ q ∷ qs → ps ≡ qs
same_tail p q ps qs e = ap tail_of e

pub not_empty : (p : Piece) (ps : Parts) → [] ≡ p ∷ ps → ⊥
not_empty p ps e = let z : 0 ≡ suc (length ps) = ap length e in omega arith

-- there is a first part, and it does not say that a component is absent
pub record IsPresent (parts : Parts) : Type 0 where
  pub first : Piece
  pub others : Parts
  pub are : parts ≡ first ∷ others
  pub present : first ≡ Absent → ⊥

pub record ArePresent {K : Type 0} (A : TypeEncoding K) : Type 0 where
  pub each : (xs : Parts) (a : List Bool) → A.encoding.encodes xs a → IsPresent xs

pub made : (P : Parts → List Bool → Type 0) (tape xs rest : Parts) (l : List Bool) → P xs l → tape ≡ xs ++ rest
    → AfterParts P (λ k r. ⊤) tape
made P tape xs rest l p s = record { parts = xs; list = l; rest = rest; encodes = p; are = s; holds = tt }

-- what holds after parts before holds after any that are
pub moved_parts : (P : Parts → List Bool → Type 0) (W : Parts → Misfit → Type 0) → EncodesUniquely P W
    → (V : List Bool → Parts → Type 0) (tape xs rest : Parts) (a : List Bool) → AfterParts P V tape → P xs a → tape ≡ xs ++ rest
    → V a rest
moved_parts P W w V tape xs rest a p q s =
    let same = w.one tape p.parts xs p.rest rest p.list a p.encodes q p.are s in
    subst (λ (l : List Bool). V l rest) same.2 (subst (λ (r : Parts). V p.list r) same.1 p.holds)

pub same_misfit : {e f g : Misfit} → e ≡ g → f ≡ g → e ≡ f
same_misfit p q = p ∙ sym q

-- ---- a value, then what may depend on its position

module _ {K X : Type 0} (A : TypeEncoding K) (Q : ℕ → X → Parts → List Bool → Type 0) (U : ℕ → Parts → Misfit → Type 0) (at : ℕ)
    (a : EncodesUniquely A.encoding.encodes A.misfit) (q : (n : ℕ) → EncodesUniquelyBy (Q n) (U n)) where
  abbrev pub Pair : X → Parts → List Bool → Type 0
  Pair x zs list = InTurn A.encoding.encodes (λ ts us. ts ++ us) (λ ts n us l. Q n x us l) at zs list

  abbrev S : Parts → Misfit → Type 0
  S tape e = PairMisfit A U at tape e

  abbrev V : Misfit → List Bool → Parts → Type 0
  V e list rest = U (at + length list) rest e

  pub ahead : (x : X) (tape zs rest : Parts) (list : List Bool) (r : Pair x zs list) → tape ≡ zs ++ rest
      → tape ≡ r.value ++ (r.after ++ rest)
  ahead x tape zs rest list r s = s ∙ ap (λ (ys : Parts). ys ++ rest) r.is ∙ append_assoc r.value r.after rest

  pair_one : (x y : X) (tape xs ys rest other : Parts) (k l : List Bool) → Pair x xs k → Pair y ys l → tape ≡ xs ++ rest
      → tape ≡ ys ++ other → (x ≡ y) × (xs ≡ ys) × (rest ≡ other) × (k ≡ l)
  pair_one x y tape xs ys rest other k l p r s t =
      let e = a.one tape p.value r.value (p.after ++ rest) (r.after ++ other) p.front r.front p.first r.first
      (ahead x tape xs rest k p s) (ahead y tape ys other l r t) in
      let m : Q (at + length r.front) x p.after p.rest =
      subst (λ (i : List Bool). Q (at + length i) x p.after p.rest) e.2 p.second in
      let f = (q (at + length r.front)).one x y (p.after ++ rest) p.after r.after rest other p.rest r.rest m r.second refl e.1 in (
        f.0,
        p.is ∙ ap (λ (zs : Parts). zs ++ p.after) e.0 ∙ ap (λ (zs : Parts). r.value ++ zs) f.1 ∙ sym r.is,
        f.2,
        p.parts ∙ ap (λ (i : List Bool). i ++ p.rest) e.2 ∙ ap (λ (i : List Bool). r.front ++ i) f.3 ∙ sym r.parts,
      )

  pair_excludes : (tape : Parts) (e : Misfit) → S tape e → (x : X) (xs rest : Parts) (l : List Bool) → Pair x xs l → tape ≡ xs ++ rest
      → ⊥
  pair_excludes tape e (inl m) x xs rest l r s =
      a.excludes tape e m r.value (r.after ++ rest) r.front r.first (ahead x tape xs rest l r s)
  pair_excludes tape e (inr m) x xs rest l r s =
      (q (at + length r.front)).excludes (r.after ++ rest) e
      (moved_parts A.encoding.encodes A.misfit a (V e) tape r.value (r.after ++ rest) r.front m r.first (ahead x tape xs rest l r s))
      x r.after rest r.rest r.second refl

  pair_one_misfit : (tape : Parts) (e g : Misfit) → S tape e → S tape g → e ≡ g
  pair_one_misfit tape e g (inl m) (inl n) = a.one_misfit tape e g m n
  pair_one_misfit tape e g (inl m) (inr n) = absurd (a.excludes tape e m n.parts n.rest n.list n.encodes n.are)
  pair_one_misfit tape e g (inr m) (inl n) = absurd (a.excludes tape g n m.parts m.rest m.list m.encodes m.are)
  pair_one_misfit tape e g (inr m) (inr n) =
      (q (at + length n.list)).one_misfit n.rest e g
      (moved_parts A.encoding.encodes A.misfit a (V e) tape n.parts n.rest n.list m n.encodes n.are) n.holds

  pub pair_encodes : EncodesUniquelyBy Pair S
  pair_encodes = record { one = pair_one; excludes = pair_excludes; one_misfit = pair_one_misfit }

  pub pair_names : NamesEachMisfit A.encoding.encodes A.misfit → ((n : ℕ) → NamesEachMisfitBy (Q n) (U n)) → NamesEachMisfitBy Pair S
  pair_names b c = record {
    covers = λ tape sound able.
        b.covers tape (λ e m. sound e (inl m))
        (λ t. (c (at + length t.list)).covers t.rest
        (λ e m. sound e (inr (record { parts = t.parts; list = t.list; rest = t.rest; encodes = t.encodes; are = t.are; holds = m })))
        (λ u. able
        (record {
          value = u.value;
          parts = t.parts ++ u.parts;
          list = t.list ++ u.list;
          rest = u.rest;
          encodes = record {
            value = t.parts;
            after = u.parts;
            front = t.list;
            rest = u.list;
            first = t.encodes;
            second = u.encodes;
            is = refl;
            parts = refl;
          };
          are = t.are ∙ ap (λ (ys : Parts). t.parts ++ ys) u.are ∙ sym (append_assoc t.parts u.parts u.rest);
        })));
  }

-- ---- a type alone is what follows a header without a value

pub by_none : (P : Parts → List Bool → Type 0) (W : Parts → Misfit → Type 0) → EncodesUniquely P W
    → EncodesUniquelyBy {X = ⊤} (λ u. P) W
by_none P W w = record {
  one = λ x y tape xs ys rest other a b p q s t.
      let e = w.one tape xs ys rest other a b p q s t in
      (refl, e.0, e.1, e.2);
  excludes = λ tape e m x xs rest a p s. w.excludes tape e m xs rest a p s;
  one_misfit = w.one_misfit;
}

pub names_none : (P : Parts → List Bool → Type 0) (W : Parts → Misfit → Type 0) → NamesEachMisfit P W
    → NamesEachMisfitBy {X = ⊤} (λ u. P) W
names_none P W w = record {
  covers = λ tape sound able. w.covers tape sound (λ t. able
      (record { value = tt; parts = t.parts; list = t.list; rest = t.rest; encodes = t.encodes; are = t.are }));
}

pub from_none : (P : Parts → List Bool → Type 0) (W : Parts → Misfit → Type 0) → EncodesUniquelyBy {X = ⊤} (λ u. P) W
    → EncodesUniquely P W
from_none P W w = record {
  one = λ tape xs ys rest other a b p q s t.
      let e = w.one tt tt tape xs ys rest other a b p q s t in
      (e.1, e.2, e.3);
  excludes = λ tape e m xs rest a p s. w.excludes tape e m tt xs rest a p s;
  one_misfit = w.one_misfit;
}

pub names_from_none : (P : Parts → List Bool → Type 0) (W : Parts → Misfit → Type 0) → NamesEachMisfitBy {X = ⊤} (λ u. P) W
    → NamesEachMisfit P W
names_from_none P W w = record {
  covers = λ tape sound able. w.covers tape sound (λ t. able (made P tape t.parts t.rest t.list t.encodes t.are));
}
