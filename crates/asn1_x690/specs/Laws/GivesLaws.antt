-- How many values the parts of contents are: one lemma a combinator.
use Rattle.std.proofs.Common.{◌≡◌, ℕ, zero, suc, ◌+◌, Bool, true, false, List, [], ◌∷◌, ◌++◌, length, refl, sym, ap, subst, arith, inl, inr}
use Rattle.std.specs.Prelude.{⊤}
use Rattle.asn1_schema.specs.Pieces.{Piece, Absent, Parts}
use Rattle.asn1_schema.specs.Encodings.{Encoding, Contents, items}
use Rattle.asn1_schema.specs.TypeEncodings.{TypeEncoding}
use Rattle.asn1_schema.specs.Values.{held_by, AreValues, none}
use Rattle.asn1_schema.specs.Laws.ValueLaws.{values_append, one_value, as_many, same_parts}
use Rattle.asn1_x690.specs.TypeContents.{TypeContents, ToldContents, ByHeader, headed, only_header, any_header, either, leaf_contents, told, nothing_more, present, required, perhaps, prefixed, to_end, renamed, some_or_none}
use Rattle.asn1_x690.specs.Laws.GroupLaws.{values_split}

-- the parts of each value are `n` values
abbrev pub GivesValues : {K : Type 0} → ℕ → TypeEncoding K → Type 0
GivesValues n A = (parts : Parts) (list : List Bool) → A.encoding.encodes parts list → AreValues n parts

abbrev pub ContentsGive : {K : Type 0} → ℕ → TypeContents K → Type 0
ContentsGive n F = (parts : Parts) (list : List Bool) → F.contents.fills parts list → AreValues n parts

abbrev pub HeaderGives : {K T : Type 0} → ℕ → ByHeader K T → Type 0
HeaderGives n B = (t : _) (parts : Parts) (list : List Bool) → (B.contents t).fills parts list → AreValues n parts

-- R tells how many values the parts are, by what the contents tell
abbrev pub ToldGives : {K X : Type 0} → (X → ℕ → Type 0) → ToldContents K X → Type 0
ToldGives {K} {X} R F = (v : X × Parts) (list : List Bool) → F.contents.fills v list → (n : ℕ) × (R v.0 n × AreValues n v.1)

-- `count` values more
abbrev pub After : {X : Type 0} → ℕ → (X → ℕ → Type 0) → X → ℕ → Type 0
After count R x n = (m : ℕ) × (R x m × (n ≡ count + m))

module _ {K T : Type 0} where
  pub headed_gives : (H : Encoding K (T × List Bool)) (node n : ℕ) (B : ByHeader K T) → HeaderGives n B → GivesValues n (headed H node B)
  headed_gives H node n B b parts list p = b p.0.0 parts p.0.1 p.2

  pub only_header_gives : (h : T) (fault : K) (node n : ℕ) (F : TypeContents K) → ContentsGive n F → HeaderGives n (only_header h fault node F)
  only_header_gives h fault node n F f t parts list (inl p) = f parts list p.1
  only_header_gives h fault node n F f t parts list (inr p) = absurd p.1

  pub any_header_gives : (H : Encoding K (T × List Bool)) (is : List Bool → Piece) (node : ℕ) → ((list : List Bool) → held_by (is list) ≡ 0)
      → HeaderGives 1 (any_header H is node)
  any_header_gives H is node e t parts list p = same_parts p.2 (one_value (is p.0) [] (as_many (sym (e p.0)) none))

  pub either_gives : (P : T → Type 0) (node : ℕ) (q : Piece) (A B : ByHeader K T) → held_by q ≡ 1 → HeaderGives 1 A → HeaderGives 1 B
      → HeaderGives 1 (either P node q A B)
  either_gives P node q A B e a b t parts list (inl p) =
      same_parts p.1.2 (one_value q p.1.0 (as_many (sym e) (a t p.1.0 list p.1.1)))
  either_gives P node q A B e a b t parts list (inr p) = b t parts list p.1

module _ {K X : Type 0} where
  pub leaf_contents_give : (F : Contents K X) (is : X → Piece) (node : ℕ) → ((x : X) (list : List Bool) → F.fills x list → held_by (is x) ≡ 0)
      → ContentsGive 1 (leaf_contents F is node)
  leaf_contents_give F is node e parts list p =
      same_parts p.2 (one_value (is p.0) [] (as_many (sym (e p.0 list p.1)) none))

  pub told_gives : (R : X → ℕ → Type 0) (is : X → Piece) (Yes : X → Type 0) (kind : K) (node : ℕ) (F : ToldContents K X)
      → ((x : X) (n : ℕ) → R x n → n ≡ held_by (is x)) → ToldGives R F → ContentsGive 1 (told is Yes kind node F)
  told_gives R is Yes kind node F e f parts list p =
      let v = p.0 in
      let t = f v list p.1.0 in
      same_parts p.2 (one_value (is v.0) v.1 (as_many (e v.0 t.0 t.1.0) t.1.1))

  pub present_gives : (count : ℕ) (R : X → ℕ → Type 0) (A : TypeEncoding K) (F : ToldContents K X) → GivesValues 1 A → ToldGives (After count R) F
      → ToldGives (After (suc count) R) (present A F)
  present_gives count R A F a f v list p =
      let w = p.after in
      let t = f w p.rest p.second in
      let told_same : v.0 ≡ w.0 = ap (λ (u : X × Parts). u.0) p.is in
      let parts_same : v.1 ≡ p.value ++ w.1 = ap (λ (u : X × Parts). u.1) p.is in (
        suc t.0,
        (
          (t.1.0.0, (subst (λ (x : X). R x t.1.0.0) (sym told_same) t.1.0.1.0, omega (arith, t.1.0.1.1))),
          same_parts parts_same (as_many (omega arith) (values_append t.0 w.1 (a p.value p.front p.first) t.1.1)),
        ),
      )

  pub required_gives : (R : X → ℕ → Type 0) (missing : K) (node : ℕ) (F : ToldContents K X) → ToldGives R F → ToldGives R (required missing node F)
  required_gives R missing node F f v list (inl p) = absurd p.1
  required_gives R missing node F f v list (inr p) = f v list p.1

  pub perhaps_gives : (count : ℕ) (R : X → ℕ → Type 0) (C : List Bool → Type 0) (node : ℕ) (G F : ToldContents K X)
      → ToldGives (After (suc count) R) G → ToldGives (After count R) F → ToldGives (After (suc count) R) (perhaps C node G F)
  perhaps_gives count R C node G F g f v list (inl p) = g v list p.1
  perhaps_gives count R C node G F g f v list (inr p) =
      let w = p.1.0 in
      let t = f w list p.1.1 in
      let told_same : v.0 ≡ w.0 = ap (λ (u : X × Parts). u.0) p.1.2 in
      let parts_same : v.1 ≡ Absent ∷ w.1 = ap (λ (u : X × Parts). u.1) p.1.2 in (
        suc t.0,
        (
          (t.1.0.0, (subst (λ (x : X). R x t.1.0.0) (sym told_same) t.1.0.1.0, omega (arith, t.1.0.1.1))),
          same_parts parts_same (as_many (omega arith) (values_append t.0 w.1 (one_value Absent [] none) t.1.1)),
        ),
      )

  -- the part holds the first values after it
  pub prefixed_gives : (count : ℕ) (R : X → ℕ → Type 0) (q : Piece) (node : ℕ) (F : ToldContents K X) → held_by q ≡ count
      → ToldGives (After count R) F → ToldGives (After 1 R) (prefixed q node F)
  prefixed_gives count R q node F e f v list p =
      let w = p.0 in
      let t = f w list p.1 in
      let r = t.1.0 in
      let told_same : v.0 ≡ w.0 = ap (λ (u : X × Parts). u.0) p.2 in
      let parts_same : v.1 ≡ q ∷ w.1 = ap (λ (u : X × Parts). u.1) p.2 in
      let s = values_split count r.0 t.1.1 r.1.1 in (
        1 + r.0,
        (
          (r.0, (subst (λ (x : X). R x r.0) (sym told_same) r.1.0, refl)),
          same_parts parts_same
              (same_parts (ap (λ (zs : Parts). q ∷ zs) s.are)
              (values_append r.0 s.others (one_value q s.held (as_many (sym e) s.first)) s.second)),
        ),
      )

-- no parts
abbrev pub NoValue : ⊤ → ℕ → Type 0
NoValue u n = n ≡ 0

pub nothing_more_gives : {K : Type 0} (extra : K) (node : ℕ) → ToldGives NoValue (nothing_more extra node)
nothing_more_gives extra node v list p = (0, (refl, same_parts (ap (λ (u : ⊤ × Parts). u.1) p.0) none))

-- as many values as are told
abbrev pub AsMany : ℕ → ℕ → Type 0
AsMany x n = n ≡ x

module _ {K : Type 0} (extra : K) (node : ℕ) (A : List Bool → TypeEncoding K) (a : (before : List Bool) → GivesValues 1 (A before)) where
  pub items_give : (most : ℕ) (before : List Bool) (v : ℕ × Parts) (list : List Bool)
      → (items {Y = ℕ × Parts} extra node (λ l. (A l).encoding) (0, []) (λ ts u. (suc u.0, ts ++ u.1)) before most).fills v list → AreValues v.0 v.1
  items_give zero before v list p =
      subst (λ (u : ℕ × Parts). AreValues u.0 u.1) (sym p.0) none
  items_give (suc most) before v list (inl p) =
      subst (λ (u : ℕ × Parts). AreValues u.0 u.1) (sym p.1.0) none
  items_give (suc most) before v list (inr p) =
      let q = p.1 in
      subst (λ (u : ℕ × Parts). AreValues u.0 u.1) (sym q.is)
      (as_many (omega arith)
      (values_append q.after.0 q.after.1 (a before q.value.0 q.front q.first.0) (items_give most q.value.1 q.after q.rest q.second)))

  pub to_end_gives : ToldGives AsMany (to_end extra node A)
  to_end_gives v list p = (v.0, (refl, items_give (length list) [] v list p))

-- `count`, and those that are told
abbrev pub Beyond : ℕ → ℕ → ℕ → Type 0
Beyond count x n = x ≡ count + n

pub renamed_gives : {K : Type 0} (count node : ℕ) (F : ToldContents K ℕ) → ToldGives AsMany F → ToldGives (Beyond count) (renamed (λ n. count + n) node F)
renamed_gives count node F f v list p =
    let w = p.0 in
    let t = f w list p.1 in
    let told_same : v.0 ≡ count + w.0 = ap (λ (u : ℕ × Parts). u.0) p.2 in
    let parts_same : v.1 ≡ w.1 = ap (λ (u : ℕ × Parts). u.1) p.2 in
    (t.0, (omega (arith, told_same, t.1.0), same_parts parts_same t.1.1))

-- one value where there is something
abbrev pub one_if : Bool → ℕ
one_if false = 0
one_if true = 1

abbrev pub OneIf : Bool → ℕ → Type 0
OneIf b n = n ≡ one_if b

pub some_or_none_gives : {K : Type 0} (extra : K) (node : ℕ) (F : TypeContents K) → ContentsGive 1 F → ToldGives OneIf (some_or_none extra node F)
some_or_none_gives extra node F f v list (inl p) =
    (0, (ap (λ (u : Bool × Parts). one_if u.0) (sym p.1.0), same_parts (ap (λ (u : Bool × Parts). u.1) p.1.0) none))
some_or_none_gives extra node F f v list (inr p) =
    (1, (ap (λ (u : Bool × Parts). one_if u.0) (sym p.1.2), same_parts (ap (λ (u : Bool × Parts). u.1) p.1.2) (f p.1.0 list p.1.1)))
