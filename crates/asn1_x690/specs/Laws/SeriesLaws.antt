-- Laws of series.
use Rattle.std.proofs.Common.{◌≡◌, ℕ, zero, suc, ◌≤◌, inl, inr, Bool, List, [], ◌∷◌, ◌++◌, length, refl, sym, ◌∙◌, ap, subst, arith, append_assoc}
use Rattle.asn1_schema.specs.Encodings.{Fault, Encoding, Starts, CanDecode, EncodesOne}
use Rattle.asn1_schema.specs.Laws.EncodingLaws.{IsSound, can, fewer, moved}
use Rattle.asn1_x690.specs.Series.{IsSeries, SeriesFault, series}

module _ {K X : Type 0} (A : Encoding K X) (More Last : X → Type 0) (apart : (x : X) → More x → Last x → ⊥) (a : IsSound A) where
  abbrev P : List X → List Bool → Type 0
  P = IsSeries A.encodes More Last

  abbrev starts : (list : List Bool) (x : X) (front rest : List Bool) → A.encodes x front → list ≡ front ++ rest
      → Starts A.encodes list x rest
  starts list x front rest p e = record { front = front; encoded = p; parts = e }

  ahead : (list f m rest : List Bool) (g : List Bool) → list ≡ f ++ rest → f ≡ g ++ m → list ≡ g ++ (m ++ rest)
  ahead list f m rest g e h = e ∙ ap (λ (l : List Bool). l ++ rest) h ∙ append_assoc g m rest

  series_one : (xs ys : List X) (list f g rest other : List Bool) → P xs f → P ys g → list ≡ f ++ rest → list ≡ g ++ other
      → (xs ≡ ys) × (rest ≡ other)
  series_one [] ys list f g rest other p q e h = absurd p
  series_one (x ∷ xs) [] list f g rest other p q e h = absurd q
  series_one (x ∷ xs) (y ∷ ys) list f g rest other (inl p) (inl q) e h =
      let s = a.one.one list x y rest other (starts list x f rest p.1 e) (starts list y g other q.1 h) in
      (ap (λ (zs : List X). x ∷ zs) p.2 ∙ ap (λ (z : X). z ∷ []) s.0 ∙ sym (ap (λ (zs : List X). y ∷ zs) q.2), s.1)
  series_one (x ∷ xs) (y ∷ ys) list f g rest other (inl p) (inr q) e h =
      let r = q.1 in
      let s = a.one.one list x y rest (r.1 ++ other) (starts list x f rest p.1 e)
      (starts list y r.0 (r.1 ++ other) r.2 (ahead list g r.1 other r.0 h r.4)) in
      absurd (apart y q.0 (subst Last s.0 p.0))
  series_one (x ∷ xs) (y ∷ ys) list f g rest other (inr p) (inl q) e h =
      let r = p.1 in
      let s = a.one.one list x y (r.1 ++ rest) other (starts list x r.0 (r.1 ++ rest) r.2 (ahead list f r.1 rest r.0 e r.4))
      (starts list y g other q.1 h) in
      absurd (apart y (subst More s.0 p.0) q.0)
  series_one (x ∷ xs) (y ∷ ys) list f g rest other (inr p) (inr q) e h =
      let r = p.1 in
      let t = q.1 in
      let s = a.one.one list x y (r.1 ++ rest) (t.1 ++ other) (starts list x r.0 (r.1 ++ rest) r.2 (ahead list f r.1 rest r.0 e r.4))
      (starts list y t.0 (t.1 ++ other) t.2 (ahead list g t.1 other t.0 h t.4)) in
      let u = series_one xs ys (r.1 ++ rest) r.1 t.1 rest other r.3 t.3 refl s.1 in
      (ap (λ (z : X). z ∷ xs) s.0 ∙ ap (λ (zs : List X). y ∷ zs) u.0, u.1)

  able : (list : List Bool) (x : X) (front rest : List Bool) → A.encodes x front → list ≡ front ++ rest → CanDecode A.encodes list
  able list x front rest p e = record { value = x; rest = rest; starts = starts list x front rest p e }

  series_excludes : (n : ℕ) (list : List Bool) (e : Fault K) → SeriesFault A More n list e → (xs : List X) (f rest : List Bool)
      → P xs f → list ≡ f ++ rest → ⊥
  series_excludes n list e m [] f rest p s = p
  series_excludes zero list e m (x ∷ xs) f rest (inl p) s = a.names.excludes list e m (able list x f rest p.1 s)
  series_excludes zero list e m (x ∷ xs) f rest (inr p) s =
      let r = p.1 in
      a.names.excludes list e m (able list x r.0 (r.1 ++ rest) r.2 (ahead list f r.1 rest r.0 s r.4))
  series_excludes (suc n) list e m (x ∷ xs) f rest (inl p) s =
      apart x (moved A.encodes a.one (λ y l. More y × SeriesFault A More n l e) list m x rest (starts list x f rest p.1 s)).0 p.0
  series_excludes (suc n) list e m (x ∷ xs) f rest (inr p) s =
      let r = p.1 in
      let k = moved A.encodes a.one (λ y l. More y × SeriesFault A More n l e) list m x (r.1 ++ rest)
      (starts list x r.0 (r.1 ++ rest) r.2 (ahead list f r.1 rest r.0 s r.4)) in
      series_excludes n (r.1 ++ rest) e k.1 xs r.1 rest r.3 refl

  series_names_one : (n m : ℕ) (list : List Bool) (e g : Fault K) → SeriesFault A More n list e → SeriesFault A More m list g → e ≡ g
  series_names_one zero zero list e g p q = a.names.one list e g p q
  series_names_one zero (suc m) list e g p q =
      absurd (a.names.excludes list e p (can A.encodes (λ y l. More y × SeriesFault A More m l g) list q))
  series_names_one (suc n) zero list e g p q =
      absurd (a.names.excludes list g q (can A.encodes (λ y l. More y × SeriesFault A More n l e) list p))
  series_names_one (suc n) (suc m) list e g p q =
      let k = moved A.encodes a.one (λ y l. More y × SeriesFault A More n l e) list p q.value q.rest q.starts in
      series_names_one n m q.rest e g k.1 q.holds.1

  series_inside : (n : ℕ) (list : List Bool) (e : Fault K) → SeriesFault A More n list e → e.left ≤ length list
  series_inside zero list e p = a.inside list e p
  series_inside (suc n) list e p =
      let low = series_inside n p.rest e p.holds.1 in
      let high = fewer A.encodes list p.value p.rest p.starts in
      omega (arith, low, high)

  pub series_sound : IsSound (series A More Last)
  series_sound = record {
    one = record {
      one = λ list xs ys rest other s t.
          series_one xs ys list s.front t.front rest other s.encoded t.encoded s.parts t.parts;
    };
    names = record {
      excludes = λ list e p able.
          series_excludes p.0 list e p.1 able.value able.starts.front able.rest able.starts.encoded able.starts.parts;
      one = λ list e g p q. series_names_one p.0 q.0 list e g p.1 q.1;
    };
    inside = λ list e p. series_inside p.0 list e p.1;
  }

  module _ (one : EncodesOne A.encodes) where
    series_encoding : (xs : List X) (f g : List Bool) → P xs f → P xs g → f ≡ g
    series_encoding [] f g p q = absurd p
    series_encoding (x ∷ xs) f g (inl p) (inl q) = one.one x f g p.1 q.1
    series_encoding (x ∷ xs) f g (inl p) (inr q) = absurd (apart x q.0 p.0)
    series_encoding (x ∷ xs) f g (inr p) (inl q) = absurd (apart x p.0 q.0)
    series_encoding (x ∷ xs) f g (inr p) (inr q) =
        let r = p.1 in
        let t = q.1 in
        r.4 ∙ ap (λ (l : List Bool). l ++ r.1) (one.one x r.0 t.0 r.2 t.2)
        ∙ ap (λ (l : List Bool). t.0 ++ l) (series_encoding xs r.1 t.1 r.3 t.3) ∙ sym t.4

    pub series_encode_one : EncodesOne (series A More Last).encodes
    series_encode_one = record { one = series_encoding }
