-- Steps over values one after another to the end of contents.
use Rattle.std.proofs.Common.{◌≡◌, ℕ, zero, suc, ◌+◌, ◌-◌, ◌<◌, ◌≤◌, List, [], ◌∷◌, ◌++◌, Bool, length, refl, sym, ◌∙◌, ap, subst, arith, append_assoc, inl, inr}
use Rattle.std.proofs.lemmas.List.{append-nil, length-append}
use Rattle.asn1_schema.specs.declared.part.Part.{Part}
use Rattle.asn1_schema.specs.declared.tables.Range.{Range}
use Rattle.asn1_schema.specs.Pieces.{Parts}
use Rattle.asn1_schema.specs.Room.{IsGrown}
use Rattle.asn1_schema.specs.Encodings.{Fault, Contents, Starts, items}
use Rattle.asn1_schema.specs.TypeEncodings.{TypeEncoding}
use Rattle.asn1_x690.specs.declared.fault.FaultKind.{FaultKind}
use Rattle.asn1_x690.specs.TypeContents.{to_end}
use Rattle.asn1_x690_fields.specs.declared.state.State.{State}
use Rattle.asn1_x690_fields.specs.Outcomes.{rest, IsWithin}
use Rattle.asn1_x690_fields.specs.Steps.{rest_length}
use Rattle.asn1_x690_decode.specs.Decoding.{IsFound}
use Rattle.asn1_x690_decode.proofs.StateSteps.{grown_over, none_grown}

module _ (extra : FaultKind) (node : ℕ) (A : List Bool → TypeEncoding FaultKind) where
  abbrev pub Items : List Bool → ℕ → Contents FaultKind (ℕ × Parts)
  Items before most = items extra node (λ b. (A b).encoding) (0, []) (λ ts v. (suc v.0, ts ++ v.1)) before most

  abbrev pub All : Contents FaultKind (ℕ × Parts)
  All = (to_end extra node A).contents

  not_empty : (l : List Bool) → 0 < length l → l ≡ [] → ⊥
  not_empty l some e = let n : length l ≡ 0 = ap length e in omega (arith, n, some)

  -- one item, then others
  module _ (l front left : List Bool) (parts : l ≡ front ++ left) (some : 0 < length front) (before : List Bool) (xs : Parts)
      (p : (A before).encoding.encodes xs front) where
    all : 0 < length l
    all = let n : length l ≡ length front + length left = ap length parts ∙ length-append front left in omega (arith, n, some)

    pub item_done : (most : ℕ) (v : ℕ × Parts) → length l ≤ most → (Items front (most - 1)).fills v left
        → (Items before most).fills (suc v.0, xs ++ v.1) l
    item_done zero v few q = absurd (let n = all in omega (arith, few, n))
    item_done (suc k) v few q =
        let e : suc k - 1 ≡ k = omega arith in
        inr (
          not_empty l all,
          record {
            value = (xs, front);
            after = v;
            front = front;
            rest = left;
            first = (p, refl);
            second = subst (λ (n : ℕ). (Items front n).fills v left) e q;
            is = refl;
            parts = parts;
          },
        )

    pub item_fault : (most : ℕ) (e : Fault FaultKind) → length l ≤ most → (Items front (most - 1)).fault left e
        → (Items before most).fault l e
    item_fault zero e few w = absurd (let n = all in omega (arith, few, n))
    item_fault (suc k) e few w =
        let n : suc k - 1 ≡ k = omega arith in
        inr (
          not_empty l all,
          inr (record {
            value = (xs, front);
            rest = left;
            starts = record { front = front; encoded = (p, refl); parts = parts };
            holds = subst (λ (m : ℕ). (Items front m).fault left e) n w;
          }),
        )

  first_fault : (most : ℕ) (before l : List Bool) (e : Fault FaultKind) → 0 < length l → length l ≤ most
      → (A before).encoding.fault l e → (Items before most).fault l e
  first_fault zero before l e some few w = absurd (omega (arith, some, few))
  first_fault (suc k) before l e some few w = inr (not_empty l some, inl w)

  no_items : (most : ℕ) (before l : List Bool) → length l ≡ 0 → (Items before most).fills (0, []) l
  no_items zero before [] e = (refl, refl)
  no_items (suc k) before [] e = inl (refl, (refl, refl))
  no_items most before (b ∷ l) e = absurd (omega (arith, e))

  -- `count` items were found, the last of these bits, and others are left
  pub record IsUnderway (ranges : List Range) (list : List Bool) (old now : State) (was is : List Part) (before : List Bool) (count : ℕ) : Type 0 where
    pub most : ℕ
    pub parts : Parts
    pub few : length (rest list now) ≤ most
    pub done : (v : ℕ × Parts) → (Items before most).fills v (rest list now) → All.fills (count + v.0, parts ++ v.1) (rest list old)
    pub fault : (e : Fault FaultKind) → (Items before most).fault (rest list now) e → All.fault (rest list old) e
    pub grown : IsGrown ranges list was old.count is now.count parts

  module _ (ranges : List Range) (list : List Bool) where
    pub begins : (s : State) (was : List Part) (before : List Bool) → before ≡ [] → IsUnderway ranges list s s was was before 0
    begins s was before none =
        subst (λ (b : List Bool). IsUnderway ranges list s s was was b 0) (sym none)
        (record {
          most = length (rest list s);
          parts = [];
          few = omega arith;
          done = λ v p. subst (λ (n : ℕ). All.fills (n, v.1) (rest list s)) (omega arith) p;
          fault = λ e w. w;
          grown = none_grown ranges list was s.count;
        })

    module _ (old now : State) (was is : List Part) (before : List Bool) (count : ℕ)
        (u : IsUnderway ranges list old now was is before count) where
      pub ends : IsWithin list now → (now.at < now.end → ⊥) → IsFound ranges (λ l xs others. All.fills (count, xs) l) list old now was is
      ends h at =
          let none : length (rest list now) ≡ 0 = rest_length list now h.inside ∙ left now.at now.end at in
          record {
            parts = u.parts ++ [];
            are = subst (λ (n : ℕ). All.fills (n, u.parts ++ []) (rest list old)) (omega arith)
                (u.done (0, []) (no_items u.most before (rest list now) none));
            grown = subst (λ (zs : Parts). IsGrown ranges list was old.count is now.count zs) (sym (append-nil u.parts)) u.grown;
          }
        where
          left : (at end : ℕ) → (at < end → ⊥) → end - at ≡ 0
          left at end not = omega (arith, not)

      pub fails : IsWithin list now → now.at < now.end → (e : Fault FaultKind) → (A before).encoding.fault (rest list now) e
          → All.fault (rest list old) e
      fails h at e w =
          let some : 0 < length (rest list now) = (let n = rest_length list now h.inside in omega (arith, n, at)) in
          u.fault e (first_fault u.most before (rest list now) e some u.few w)

      -- one more item, of these bits
      pub goes_on : (new : State) (next : List Part) (xs : Parts) (s : Starts (A before).encoding.encodes (rest list now) xs (rest list new))
          → 0 < length s.front → (last : List Bool) → last ≡ s.front → (more : ℕ) → more ≡ count + 1
          → IsGrown ranges list is now.count next new.count xs → IsUnderway ranges list old new was next last more
      goes_on new next xs s some last same more one grown =
          subst (λ (b : List Bool). IsUnderway ranges list old new was next b more) (sym same)
          (subst (λ (n : ℕ). IsUnderway ranges list old new was next s.front n) (sym one)
          (record {
            most = u.most - 1;
            parts = u.parts ++ xs;
            few = (let n = u.few in
                let m : length (rest list now) ≡ length s.front + length (rest list new) =
                ap length s.parts ∙ length-append s.front (rest list new) in
                omega (arith, n, m, some));
            done = λ v p.
                subst (λ (n : ℕ). All.fills (n, u.parts ++ xs ++ v.1) (rest list old)) (omega arith)
                (subst (λ (l : Parts). All.fills (count + suc v.0, l) (rest list old)) (sym (append_assoc u.parts xs v.1))
                (u.done (suc v.0, xs ++ v.1)
                (item_done (rest list now) s.front (rest list new) s.parts some before xs s.encoded u.most v u.few p)));
            fault = λ e w.
                u.fault e (item_fault (rest list now) s.front (rest list new) s.parts some before xs s.encoded u.most e u.few w);
            grown = grown_over ranges list was is next old.count now.count new.count u.parts xs u.grown grown;
          }))
