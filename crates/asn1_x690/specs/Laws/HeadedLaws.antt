-- Laws of headers and of the contents that they enclose: each combinator keeps `IsGoodByHeader`.
use Rattle.std.proofs.Common.{◌≡◌, ℕ, ◌≤◌, inl, inr, List, [], ◌∷◌, ◌++◌, Bool, length, refl, sym, ◌∙◌, ap, subst}
use Rattle.std.specs.Prelude.{◌⊎◌}
use Rattle.asn1_schema.specs.declared.misfit.MisfitKind.{MisfitKind}
use Rattle.asn1_schema.specs.declared.misfit.MisfitKind.TheVariants.{NoEncoding, OtherPart, NoPart}
use Rattle.asn1_schema.specs.Pieces.{Piece, Absent, Parts}
use Rattle.asn1_schema.specs.Encodings.{Encoding, EncodesOne, Starts, invalid_contents, mapped}
use Rattle.asn1_schema.specs.TypeEncodings.{Misfit, EncodesUniquely, NamesEachMisfit}
use Rattle.asn1_schema.specs.Laws.EncodingLaws.{IsSound}
use Rattle.asn1_schema.specs.Laws.ContentsLaws.{AreSound, invalid_contents_are_sound, if_next_are_sound, mapped_are_sound}
use Rattle.asn1_schema.specs.Laws.PositionLaws.{within_sound}
use Rattle.asn1_schema.specs.Laws.WritingLaws.{EncodesUniquelyBy, AfterPartsBy, NamesEachMisfitBy, IsGood, IsPresent, ArePresent, same_head, same_tail, not_empty, made}
use Rattle.asn1_x690.specs.TypeContents.{TypeContents, ByHeader, headed, invalid_header, only_header, any_header, HeaderMisfit, either}

-- contents of which all promises hold
pub record IsGoodContents {K : Type 0} (F : TypeContents K) : Type 0 where
  pub fills : AreSound F.contents
  pub encodes : EncodesUniquely F.contents.fills F.misfit
  pub names : NamesEachMisfit F.contents.fills F.misfit
  pub present : (xs : Parts) (c : List Bool) → F.contents.fills xs c → IsPresent xs

pub record IsGoodByHeader {K T : Type 0} (B : ByHeader K T) : Type 0 where
  pub fills : (t : T) → AreSound (B.contents t)
  pub encodes : EncodesUniquelyBy (λ t xs c. (B.contents t).fills xs c) B.misfit
  pub names : NamesEachMisfitBy (λ t xs c. (B.contents t).fills xs c) B.misfit
  pub present : (t : T) (xs : Parts) (c : List Bool) → (B.contents t).fills xs c → IsPresent xs

-- ---- a header and contents

module _ {K T : Type 0} (H : Encoding K (T × List Bool)) (node : ℕ) (B : ByHeader K T) (h : IsSound H) (one : EncodesOne H.encodes)
    (fewer : (v : T × List Bool) (list : List Bool) → H.encodes v list → length v.1 ≤ length list) (b : IsGoodByHeader B) where
  abbrev P : Parts → List Bool → Type 0
  P xs l = (headed H node B).encoding.encodes xs l

  abbrev W : Parts → Misfit → Type 0
  W tape e = (headed H node B).misfit tape e

  -- the same header and contents
  same : (v w : T × List Bool) (a : List Bool) → v.0 ≡ w.0 → v.1 ≡ w.1 → H.encodes v a → H.encodes w a
  same v w a p q r =
      subst (λ (t : T). H.encodes (t, w.1) a) p (subst (λ (c : List Bool). H.encodes (v.0, c) a) q r)

  headed_one : (tape xs ys rest other : Parts) (k l : List Bool) → P xs k → P ys l → tape ≡ xs ++ rest → tape ≡ ys ++ other
      → (xs ≡ ys) × (rest ≡ other) × (k ≡ l)
  headed_one tape xs ys rest other k l p q s t =
      let e = b.encodes.one p.0.0 q.0.0 tape xs ys rest other p.0.1 q.0.1 p.2 q.2 s t in
      (e.1, e.2, one.one q.0 k l (same p.0 q.0 k e.0 e.3 p.1) q.1)

  headed_excludes : (tape : Parts) (e : Misfit) → W tape e → (xs rest : Parts) (l : List Bool) → P xs l → tape ≡ xs ++ rest → ⊥
  headed_excludes tape e (inl m) xs rest l p s = b.encodes.excludes tape e m p.0.0 xs rest p.0.1 p.2 s
  headed_excludes tape e (inr m) xs rest l p s =
      let u = m.0 in
      let e = b.encodes.one p.0.0 u.value tape xs u.parts rest u.rest p.0.1 u.list p.2 u.encodes s u.are in
      u.none (record { list = l; encoded = same p.0 (u.value, u.list) l e.0 e.3 p.1 })

  headed_one_misfit : (tape : Parts) (e g : Misfit) → W tape e → W tape g → e ≡ g
  headed_one_misfit tape e g (inl m) (inl n) = b.encodes.one_misfit tape e g m n
  headed_one_misfit tape e g (inl m) (inr n) =
      absurd (b.encodes.excludes tape e m n.0.value n.0.parts n.0.rest n.0.list n.0.encodes n.0.are)
  headed_one_misfit tape e g (inr m) (inl n) =
      absurd (b.encodes.excludes tape g n m.0.value m.0.parts m.0.rest m.0.list m.0.encodes m.0.are)
  headed_one_misfit tape e g (inr m) (inr n) = m.1 ∙ sym n.1

  pub headed_good : IsGood (headed H node B)
  headed_good = record {
    decodes = within_sound H B.contents h b.fills fewer;
    encodes = record { one = headed_one; excludes = headed_excludes; one_misfit = headed_one_misfit };
    names = record {
      covers = λ tape sound able.
          b.names.covers tape (λ e m. sound e (inl m))
          (λ t. sound (record { node = node; left = length tape; kind = NoEncoding })
          (inr (
            record {
              value = t.value;
              parts = t.parts;
              list = t.list;
              rest = t.rest;
              encodes = t.encodes;
              are = t.are;
              none = λ f. able (made P tape t.parts t.rest f.list ((t.value, t.list), f.encoded, t.encodes) t.are);
            },
            refl,
          )));
    };
  }

  pub headed_present : ArePresent (headed H node B)
  headed_present = record { each = λ xs l p. b.present p.0.0 xs p.0.1 p.2 }

pub invalid_header_good : {K T : Type 0} (fault : K) (kind : MisfitKind) (node : ℕ) → IsGoodByHeader (invalid_header {T = T} fault kind node)
invalid_header_good fault kind node = record {
  fills = λ t. invalid_contents_are_sound fault node;
  encodes = record {
    one = λ t u tape xs ys rest other a b p q r s. absurd p;
    excludes = λ tape e m t xs rest a p s. p;
    one_misfit = λ tape e g m n. m ∙ sym n;
  };
  names = record { covers = λ tape sound able. sound (record { node = node; left = length tape; kind = kind }) refl };
  present = λ t xs c p. absurd p;
}

module _ {K T : Type 0} (h : T) (fault : K) (node : ℕ) (F : TypeContents K) (f : IsGoodContents F) where
  abbrev O : T → Parts → List Bool → Type 0
  O t xs c = ((only_header h fault node F).contents t).fills xs c

  of_header : (t : T) (xs : Parts) (c : List Bool) → O t xs c → (t ≡ h) × F.contents.fills xs c
  of_header t xs c (inl p) = p
  of_header t xs c (inr p) = absurd p.1

  pub only_header_good : IsGoodByHeader (only_header h fault node F)
  only_header_good = record {
    fills = λ t. if_next_are_sound (λ list. t ≡ h) F.contents (invalid_contents fault node) f.fills (invalid_contents_are_sound fault node);
    encodes = record {
      one = λ t u tape xs ys rest other a b p q r s.
          let x = of_header t xs a p in
          let y = of_header u ys b q in
          let e = f.encodes.one tape xs ys rest other a b x.1 y.1 r s in
          (x.0 ∙ sym y.0, e.0, e.1, e.2);
      excludes = λ tape e m t xs rest a p s. f.encodes.excludes tape e m xs rest a (of_header t xs a p).1 s;
      one_misfit = f.encodes.one_misfit;
    };
    names = record {
      covers = λ tape sound able.
          f.names.covers tape sound
          (λ t. able
          (record { value = h; parts = t.parts; list = t.list; rest = t.rest; encodes = inl (refl, t.encodes); are = t.are }));
    };
    present = λ t xs c p. f.present xs c (of_header t xs c p).1;
  }

-- ---- any header

module _ {K T : Type 0} (H : Encoding K (T × List Bool)) (is : List Bool → Piece) (node : ℕ) (h : IsSound H) (one : EncodesOne H.encodes)
    (alike : (x y : List Bool) → is x ≡ is y → x ≡ y) (not : (x : List Bool) → is x ≡ Absent → ⊥) where
  abbrev A : T → Parts → List Bool → Type 0
  A t xs c = ((any_header H is node).contents t).fills xs c

  abbrev AW : Parts → Misfit → Type 0
  AW tape e = (any_header H is node).misfit tape e

  begins : (t : T) (tape xs rest : Parts) (c : List Bool) → (p : A t xs c) → tape ≡ xs ++ rest → tape ≡ is p.0 ∷ rest
  begins t tape xs rest c p s = s ∙ ap (λ (zs : Parts). zs ++ rest) p.2

  starts : (v : T × List Bool) (list : List Bool) → H.encodes v list → Starts H.encodes list v []
  starts v list p = record { front = list; encoded = p; parts = sym (append_nil list) }
    where
      append_nil : (l : List Bool) → l ++ [] ≡ l
      append_nil [] = refl
      append_nil (x ∷ xs) = ap (λ (ys : List Bool). x ∷ ys) (append_nil xs)

  any_one : (t u : T) (tape xs ys rest other : Parts) (c d : List Bool) → A t xs c → A u ys d → tape ≡ xs ++ rest → tape ≡ ys ++ other
      → (t ≡ u) × (xs ≡ ys) × (rest ≡ other) × (c ≡ d)
  any_one t u tape xs ys rest other c d p q r s =
      let e = sym (begins t tape xs rest c p r) ∙ begins u tape ys other d q s in
      let bits : p.0 ≡ q.0 = alike p.0 q.0 (same_head (is p.0) (is q.0) rest other e) in
      let f = h.one.one q.0 (t, c) (u, d) [] [] (starts (t, c) q.0 (subst (λ (l : List Bool). H.encodes (t, c) l) bits p.1))
      (starts (u, d) q.0 q.1) in (
        ap (λ (v : T × List Bool). v.0) f.0,
        p.2 ∙ ap (λ (l : List Bool). is l ∷ []) bits ∙ sym q.2,
        same_tail (is p.0) (is q.0) rest other e,
        ap (λ (v : T × List Bool). v.1) f.0,
      )

  any_excludes : (tape : Parts) (e : Misfit) → AW tape e → (t : T) (xs rest : Parts) (c : List Bool) → A t xs c → tape ≡ xs ++ rest → ⊥
  any_excludes [] e m t xs rest c p s = not_empty (is p.0) rest (begins t [] xs rest c p s)
  any_excludes (q ∷ ps) e (inl m) t xs rest c p s =
      let bits : p.0 ≡ m.0 = alike p.0 m.0 (sym (same_head q (is p.0) ps rest (begins t (q ∷ ps) xs rest c p s)) ∙ m.1) in
      m.2 (t, c) (subst (λ (l : List Bool). H.encodes (t, c) l) bits p.1)
  any_excludes (q ∷ ps) e (inr m) t xs rest c p s = m.0 p.0 (same_head q (is p.0) ps rest (begins t (q ∷ ps) xs rest c p s))

  any_one_misfit : (tape : Parts) (e g : Misfit) → AW tape e → AW tape g → e ≡ g
  any_one_misfit [] e g m n = m ∙ sym n
  any_one_misfit (q ∷ ps) e g (inl m) (inl n) = m.3 ∙ sym n.3
  any_one_misfit (q ∷ ps) e g (inl m) (inr n) = absurd (n.0 m.0 m.1)
  any_one_misfit (q ∷ ps) e g (inr m) (inl n) = absurd (m.0 n.0 n.1)
  any_one_misfit (q ∷ ps) e g (inr m) (inr n) = m.1 ∙ sym n.1

  any_covers : (tape : Parts) → ((e : Misfit) → AW tape e → ⊥) → (AfterPartsBy A tape → ⊥) → ⊥
  any_covers [] sound able = sound (record { node = node; left = 0; kind = NoPart }) refl
  any_covers (q ∷ ps) sound able =
      sound (record { node = node; left = length (q ∷ ps); kind = OtherPart })
      (inr (
        (λ list e.
            sound (record { node = node; left = length (q ∷ ps); kind = NoEncoding })
            (inl (
              list,
              e,
              (λ v p. able
                  (record {
                    value = v.0;
                    parts = is list ∷ [];
                    list = v.1;
                    rest = ps;
                    encodes = (list, p, refl);
                    are = ap (λ (i : Piece). i ∷ ps) e;
                  })),
              refl,
            ))),
        refl,
      ))

  pub any_header_good : IsGoodByHeader (any_header H is node)
  any_header_good = record {
    fills = λ t. record {
      one = record {
        one = λ c x y p q. p.2 ∙ ap (λ (l : List Bool). is l ∷ []) (one.one (t, c) p.0 q.0 p.1 q.1) ∙ sym q.2;
      };
      names = record { excludes = λ c e p x q. p; one = λ c e g p q. absurd p };
      inside = λ c e p. absurd p;
    };
    encodes = record { one = any_one; excludes = any_excludes; one_misfit = any_one_misfit };
    names = record { covers = any_covers };
    present = λ t xs c p. record { first = is p.0; others = []; are = p.2; present = not p.0 };
  }

-- ---- one or another by the header

module _ {K T : Type 0} (A : ByHeader K T) (a : IsGoodByHeader A) (C : T → Type 0) (node : ℕ) (tape : Parts) where
  by_excludes : (rest : Parts) (e : Misfit) → HeaderMisfit A C node tape rest e → (t : T) (xs other : Parts) (l : List Bool)
      → (A.contents t).fills xs l → rest ≡ xs ++ other → (C t → ⊥) → ⊥
  by_excludes rest e (inl m) t xs other l p s not = a.encodes.excludes rest e m t xs other l p s
  by_excludes rest e (inr m) t xs other l p s not =
      let u = m.0.1 in
      let same = a.encodes.one m.0.0 t rest u.parts xs u.rest other u.list l u.encodes p u.are s in
      not (subst C same.0 u.holds)

  by_one : (rest : Parts) (e g : Misfit) → HeaderMisfit A C node tape rest e → HeaderMisfit A C node tape rest g → e ≡ g
  by_one rest e g (inl m) (inl n) = a.encodes.one_misfit rest e g m n
  by_one rest e g (inl m) (inr n) =
      let u = n.0.1 in
      absurd (a.encodes.excludes rest e m n.0.0 u.parts u.rest u.list u.encodes u.are)
  by_one rest e g (inr m) (inl n) =
      let u = m.0.1 in
      absurd (a.encodes.excludes rest g n m.0.0 u.parts u.rest u.list u.encodes u.are)
  by_one rest e g (inr m) (inr n) = m.1 ∙ sym n.1

-- no value begins with this part
abbrev pub NeverBegins : {K T : Type 0} → Piece → ByHeader K T → Type 0
NeverBegins {T = T} q B =
    (t : T) (xs : Parts) (c : List Bool) → (B.contents t).fills xs c → (others : Parts) → xs ≡ q ∷ others → ⊥

module _ {K T : Type 0} (P : T → Type 0) (node : ℕ) (q : Piece) (A B : ByHeader K T) (a : IsGoodByHeader A) (b : IsGoodByHeader B)
    (not : q ≡ Absent → ⊥) (never : NeverBegins q B) where
  abbrev After : T → Parts → List Bool → Type 0
  After t xs l = (ts : Parts) × (A.contents t).fills ts l × (xs ≡ q ∷ ts)

  abbrev R : T → Parts → List Bool → Type 0
  R t xs l = (P t × After t xs l) ⊎ (¬ (P t) × (B.contents t).fills xs l)

  abbrev EW : Parts → Misfit → Type 0
  EW tape e = (either P node q A B).misfit tape e

  front : (t : T) (tape xs rest : Parts) (l : List Bool) → (p : After t xs l) → tape ≡ xs ++ rest → tape ≡ q ∷ (p.0 ++ rest)
  front t tape xs rest l p s = s ∙ ap (λ (zs : Parts). zs ++ rest) p.2

  -- the two do not begin alike
  differ : (t : T) (tape xs rest others : Parts) (l : List Bool) → (B.contents t).fills xs l → tape ≡ xs ++ rest → tape ≡ q ∷ others → ⊥
  differ t tape xs rest others l p s h =
      let c = b.present t xs l p in
      let e = sym (s ∙ ap (λ (zs : Parts). zs ++ rest) c.are) ∙ h in
      never t xs l p c.others
      (c.are ∙ ap (λ (i : Piece). i ∷ c.others) (same_head c.first q (c.others ++ rest) others e))

  either_encodes : (t u : T) (tape xs ys rest other : Parts) (k l : List Bool) → R t xs k → R u ys l → tape ≡ xs ++ rest
      → tape ≡ ys ++ other → (t ≡ u) × (xs ≡ ys) × (rest ≡ other) × (k ≡ l)
  either_encodes t u tape xs ys rest other k l (inl m) (inl n) r s =
      let x = m.1 in
      let y = n.1 in
      let e = same_tail q q (x.0 ++ rest) (y.0 ++ other) (sym (front t tape xs rest k x r) ∙ front u tape ys other l y s) in
      let f = a.encodes.one t u (x.0 ++ rest) x.0 y.0 rest other k l x.1 y.1 refl e in
      (f.0, x.2 ∙ ap (λ (zs : Parts). q ∷ zs) f.1 ∙ sym y.2, f.2, f.3)
  either_encodes t u tape xs ys rest other k l (inl m) (inr n) r s =
      absurd (differ u tape ys other (m.1.0 ++ rest) l n.1 s (front t tape xs rest k m.1 r))
  either_encodes t u tape xs ys rest other k l (inr m) (inl n) r s =
      absurd (differ t tape xs rest (n.1.0 ++ other) k m.1 r (front u tape ys other l n.1 s))
  either_encodes t u tape xs ys rest other k l (inr m) (inr n) r s = b.encodes.one t u tape xs ys rest other k l m.1 n.1 r s

  either_excludes : (tape : Parts) (e : Misfit) → EW tape e → (t : T) (xs rest : Parts) (l : List Bool) → R t xs l
      → tape ≡ xs ++ rest → ⊥
  either_excludes [] e m t xs rest l (inl n) s = not_empty q (n.1.0 ++ rest) (front t [] xs rest l n.1 s)
  either_excludes [] e m t xs rest l (inr n) s =
      let c = b.present t xs l n.1 in
      not_empty c.first (c.others ++ rest) (s ∙ ap (λ (zs : Parts). zs ++ rest) c.are)
  either_excludes (c ∷ ps) e (inl m) t xs rest l (inl n) s =
      by_excludes A a (λ u. ¬ (P u)) node (c ∷ ps) ps e m.1 t n.1.0 rest l n.1.1
      (same_tail c q ps (n.1.0 ++ rest) (front t (c ∷ ps) xs rest l n.1 s)) (λ i. i n.0)
  either_excludes (c ∷ ps) e (inl m) t xs rest l (inr n) s =
      differ t (c ∷ ps) xs rest ps l n.1 s (ap (λ (i : Piece). i ∷ ps) m.0)
  either_excludes (c ∷ ps) e (inr m) t xs rest l (inl n) s =
      m.0 (same_head c q ps (n.1.0 ++ rest) (front t (c ∷ ps) xs rest l n.1 s))
  either_excludes (c ∷ ps) e (inr m) t xs rest l (inr n) s =
      by_excludes B b P node (c ∷ ps) (c ∷ ps) e m.1 t xs rest l n.1 s n.0

  either_one_misfit : (tape : Parts) (e g : Misfit) → EW tape e → EW tape g → e ≡ g
  either_one_misfit [] e g m n = m ∙ sym n
  either_one_misfit (c ∷ ps) e g (inl m) (inl n) = by_one A a (λ u. ¬ (P u)) node (c ∷ ps) ps e g m.1 n.1
  either_one_misfit (c ∷ ps) e g (inl m) (inr n) = absurd (n.0 m.0)
  either_one_misfit (c ∷ ps) e g (inr m) (inl n) = absurd (m.0 n.0)
  either_one_misfit (c ∷ ps) e g (inr m) (inr n) = by_one B b P node (c ∷ ps) (c ∷ ps) e g m.1 n.1

  either_covers : (tape : Parts) → ((e : Misfit) → EW tape e → ⊥) → (AfterPartsBy R tape → ⊥) → ⊥
  either_covers [] sound able = sound (record { node = node; left = 0; kind = NoPart }) refl
  either_covers (c ∷ ps) sound able =
      let other : c ≡ q → ⊥ = λ e.
      a.names.covers ps (λ g m. sound g (inl (e, inl m)))
      (λ t.
      sound (record { node = node; left = length (c ∷ ps); kind = NoEncoding })
      (inl (
        e,
        inr (
          (
            t.value,
            record {
              parts = t.parts;
              list = t.list;
              rest = t.rest;
              encodes = t.encodes;
              are = t.are;
              holds = λ i. able
                  (record {
                    value = t.value;
                    parts = q ∷ t.parts;
                    list = t.list;
                    rest = t.rest;
                    encodes = inl (i, (t.parts, t.encodes, refl));
                    are = ap (λ (j : Piece). j ∷ ps) e ∙ ap (λ (ys : Parts). q ∷ ys) t.are;
                  });
            },
          ),
          refl,
        ),
      ))) in
      b.names.covers (c ∷ ps) (λ g m. sound g (inr (other, inl m)))
      (λ t.
      let n : P t.value → ⊥ = λ i.
      sound (record { node = node; left = length (c ∷ ps); kind = NoEncoding })
      (inr (
        other,
        inr (
          (t.value, record { parts = t.parts; list = t.list; rest = t.rest; encodes = t.encodes; are = t.are; holds = i }),
          refl,
        ),
      )) in
      able
      (record {
        value = t.value;
        parts = t.parts;
        list = t.list;
        rest = t.rest;
        encodes = inr (n, t.encodes);
        are = t.are;
      }))

  either_present : (t : T) (xs : Parts) (l : List Bool) → R t xs l → IsPresent xs
  either_present t xs l (inl m) = record { first = q; others = m.1.0; are = m.1.2; present = not }
  either_present t xs l (inr m) = b.present t xs l m.1

  pub either_good : IsGoodByHeader (either P node q A B)
  either_good = record {
    fills = λ t. if_next_are_sound (λ list. P t) (mapped (λ (ts : Parts). q ∷ ts) (A.contents t)) (B.contents t)
        (mapped_are_sound (λ (ts : Parts). q ∷ ts) (A.contents t) (a.fills t)) (b.fills t);
    encodes = record { one = either_encodes; excludes = either_excludes; one_misfit = either_one_misfit };
    names = record { covers = either_covers };
    present = either_present;
  }
