-- Steps over a SET OF, whose items are in ascending order.
use Rattle.std.proofs.Common.{◌≡◌, ◌≢◌, ℕ, zero, suc, ◌+◌, ◌-◌, ◌<◌, ◌%◌, List, [], ◌∷◌, ◌++◌, Bool, true, false, length, take, drop, refl, sym, ap, subst, arith, inl, inr}
use Rattle.std.specs.declared.cmp.Ordering.TheVariants.{Less}
use Rattle.asn1_bits.specs.Bits.{bits}
use Rattle.asn1_bits.specs.BitLists.{bits_cmp}
use Rattle.asn1_schema.specs.declared.part.Part.{Part}
use Rattle.asn1_schema.specs.Pieces.{Parts}
use Rattle.asn1_schema.specs.PiecesOfParts.{bits_at}
use Rattle.asn1_schema.specs.Encodings.{Fault, Encoding, Starts, with_bits}
use Rattle.asn1_x691.specs.declared.fault.FaultKind.{FaultKind}
use Rattle.asn1_x691.specs.Fields.{phase}
use Rattle.asn1_x691.specs.Limits.{IsOffOctet}
use Rattle.asn1_x691.specs.Types.{IsMisplaced}
use Rattle.asn1_x691.specs.Laws.SetLaws as laws
use Rattle.asn1_x691.specs.Laws.SetLaws.{some_before}
use Rattle.asn1_x691_fields.specs.declared.state.State.{State}
use Rattle.asn1_x691_fields.specs.Outcomes.{rest, position, IsWithin, IsMoved}
use Rattle.asn1_x691_fields.specs.Steps.{after_starts, after_fault, front_length}
use Rattle.asn1_x691_decode.specs.declared.context.Context.{Context}
use Rattle.asn1_x691_decode.specs.Decoding.{IsDecoded, decoder_limits, defaults_in, types, in_order_in, set_items_in, IsItemBefore}
use Rattle.asn1_x691_decode.proofs.Steps.{IsUnderway, grown_over, nothing_decoded}
use Rattle.asn1_x691_decode.proofs.ExceptSteps.{front_bits}

-- ---- the order of two items

module _ (c : Context) (depth item : ℕ) where
  abbrev list : List Bool
  list = bits c.octets.now

  abbrev P : ℕ → Parts → List Bool → Type 0
  P at = (types c depth item at).encoding.encodes

  pub in_place : (before : List Bool) (at : ℕ) (l : List Bool) → (IsOffOctet true c.is_aligned before at → ⊥)
      → IsMisplaced c.is_aligned (λ n. types c depth item n) before at l → bits_cmp l before ≡ Less
  in_place =
      laws.in_place decoder_limits c.is_aligned c.tables.nodes.now c.tables.members.now c.tables.ranges.now (defaults_in c) depth item

  pub misplaced_item : (s : State) (from : ℕ) (y : Parts) (l : List Bool) → IsWithin list s → IsItemBefore c depth item from s
      → (IsOffOctet true c.is_aligned (bits_at list from (s.at - from)) (position s) → ⊥) → P (position s) y l
      → bits_cmp l (bits_at list from (s.at - from)) ≡ Less
      → IsMisplaced c.is_aligned (λ n. types c depth item n) (bits_at list from (s.at - from)) (position s) l
  misplaced_item s from y l h b on q e =
      let before = bits_at list from (s.at - from) in
      let size = front_length list from (s.at - from) (omega (arith, b.ends, h.ends, h.inside)) in
      let some = some_before l before e in
      elim b.is [
        | inl same ↦ absurd (omega (arith, same, size, some))
        | inr i ↦
            let ends : from - s.first + length before ≡ position s = omega (arith, size, b.begins, b.ends, h.begins) in
            laws.misplaced decoder_limits c.is_aligned c.tables.nodes.now c.tables.members.now c.tables.ranges.now (defaults_in c) depth item
            before (position s) (from - s.first) i.parts y l on (ap (λ (n : ℕ). phase c.is_aligned n) ends) i.encodes q e
      ]

-- ---- items, each of which depends on the bits of the one before it

module _ (c : Context) (depth node item : ℕ) where
  abbrev bs : List Bool
  bs = bits c.octets.now

  abbrev pub I : List Bool → ℕ → ℕ → Encoding FaultKind Parts
  I before n at = (set_items_in c depth node item before n at).encoding

  abbrev pub O : List Bool → ℕ → Encoding FaultKind Parts
  O before at = (in_order_in c depth node item before at).encoding

  next_step : (before : List Bool) (more : ℕ) (old now : State) (was is : List Part) → IsWithin bs old → IsMoved bs old now
      → IsDecoded c.tables.ranges.now (O before (position old)).encodes bs old now was is
      → IsUnderway c (I before (suc more)) (I (bits_at bs old.at (now.at - old.at)) more) old now was is
  next_step before more old now was is h g a =
      let f = front_bits bs old now h g (O before (position old)).encodes a.parts a.starts in
      let A : ℕ → Encoding FaultKind (Parts × List Bool) = λ n. with_bits (O before n) in
      let B : Parts × List Bool → ℕ → Encoding FaultKind Parts = λ v n. I v.1 more n in
      let s : Starts (A (position old)).encodes (rest bs old) (a.parts, a.starts.front) (rest bs now) =
      record { front = a.starts.front; encoded = (a.starts.encoded, refl); parts = a.starts.parts } in
      subst (λ (l : List Bool). IsUnderway c (I before (suc more)) (I l more) old now was is) f
      (record {
        done = λ new next d. record {
          parts = a.parts ++ d.parts;
          starts = after_starts bs old now h g A (λ v us. v.0 ++ us) B (a.parts, a.starts.front) s (rest bs new) d.parts d.starts;
          grown = grown_over c.tables.ranges.now bs was is next old.count now.count new.count a.parts d.parts a.grown d.grown;
        };
        fault = λ e w. after_fault bs old now h g A (λ v us. v.0 ++ us) B (a.parts, a.starts.front) s e w;
      })

  pub item_step : (before : List Bool) (left more : ℕ) (old now : State) (was is : List Part) → more + 1 ≡ left → IsWithin bs old
      → IsMoved bs old now → IsDecoded c.tables.ranges.now (O before (position old)).encodes bs old now was is
      → IsUnderway c (I before left) (I (bits_at bs old.at (now.at - old.at)) more) old now was is
  item_step before left more old now was is e h g d =
      let a : suc more ≡ left = omega (arith, e) in
      subst (λ (n : ℕ). IsUnderway c (I before n) (I (bits_at bs old.at (now.at - old.at)) more) old now was is) a
      (next_step before more old now was is h g d)

  pub item_fault : (before : List Bool) (left at : ℕ) (l : List Bool) (e : Fault FaultKind) → 0 < left → (O before at).fault l e
      → (I before left at).fault l e
  item_fault before zero at l e some w = absurd (omega (arith, some))
  item_fault before (suc left) at l e some w = inl w

  pub no_items : (before : List Bool) (left : ℕ) (s : State) (was : List Part) → left ≡ 0
      → IsDecoded c.tables.ranges.now (I before left (position s)).encodes bs s s was was
  no_items before zero s was z = nothing_decoded c s was
  no_items before (suc left) s was z = absurd (omega (arith, z))

  -- before the first item there is none
  pub nothing_before : (s : State) → bits_at bs s.at (s.at - s.at) ≡ []
  nothing_before s = ap (λ (n : ℕ). take n (drop s.at bs)) (no_more s.at)
    where
      no_more : (n : ℕ) → n - n ≡ 0
      no_more n = omega arith

  -- an item precedes the next one
  pub item_before : (before : List Bool) (old now : State) (was is : List Part) → IsWithin bs old → IsMoved bs old now
      → IsDecoded c.tables.ranges.now (O before (position old)).encodes bs old now was is → IsItemBefore c depth item old.at now
  item_before before old now was is h g d = record {
    begins = omega (arith, g.same_first, h.begins);
    ends = g.on;
    is = inr (record {
      parts = d.parts;
      encodes = subst (λ (n : ℕ). (types c depth item n).encoding.encodes d.parts (bits_at bs old.at (now.at - old.at)))
          (ap (λ (n : ℕ). old.at - n) (sym g.same_first))
          (subst (λ (l : List Bool). (types c depth item (position old)).encoding.encodes d.parts l)
          (front_bits bs old now h g (O before (position old)).encodes d.parts d.starts) d.starts.encoded.0.0);
    });
  }
