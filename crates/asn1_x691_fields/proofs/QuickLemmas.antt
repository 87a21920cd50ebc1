-- Short strings of characters that one word of a message has.
use Rattle.std.proofs.Common.{◌≡◌, ℕ, zero, suc, ◌+◌, ◌-◌, ◌*◌, ◌%◌, ◌^◌, ◌<◌, ◌≤◌, ◌⊎◌, inl, inr, List, [], ◌++◌, Bool, true, false, take, drop, refl, sym, ◌∙◌, ap, subst, arith}
use Rattle.std.proofs.Math.Logic.{⊎_elim}
use Rattle.asn1_bits.specs.Bits.{number}
use Rattle.asn1_schema.specs.declared.tables.Range.{Range}
use Rattle.asn1_schema.specs.Encodings.{Starts, number as number_of, each}
use Rattle.asn1_x691.specs.declared.fault.FaultKind.{FaultKind}
use Rattle.asn1_x691.specs.declared.fault.FaultKind.TheVariants.{Short}
use Rattle.asn1_x691.specs.Alphabets.{width_of}
use Rattle.asn1_x691.specs.Characters.{character, sized_characters, sized_text}
use Rattle.asn1_x691.specs.Fields.{width_to, up_to, constrained}
use Rattle.asn1_x691_fields.specs.declared.state.State.{State}
use Rattle.asn1_x691_fields.specs.Outcomes.{IsWithin, IsOnward, rest, position}
use Rattle.asn1_x691_fields.specs.Steps.{split, number_starts, then_starts, turn_starts}
use Rattle.asn1_x691_fields.specs.WindowSteps.{is_inline_or_on_octet}

-- the number of the characters, and the characters, in the UNALIGNED variant
pub sized_quickly : (list : List Bool) (old new : State) → IsWithin list old → (aligned : Bool) (ranges : List Range)
    → (node least range more first size : ℕ) (text : List ℕ) → aligned ≡ false → more ≤ range → first ≡ width_to range
    → more ≡ number (take first (drop old.at list)) → old.at + (first + size) ≤ old.end
    → (each (character aligned ranges node) (least + more)).encodes text (take size (drop (old.at + first) list))
    → new.at ≡ old.at + (first + size) → new.end ≡ old.end
    → Starts (sized_text aligned ranges node least range (position old)).encodes (rest list old) text (rest list new)
sized_quickly list old new h true ranges node least range more first size text unaligned few width is fits codes at end = absurd cc
sized_quickly list old new h false ranges node least range more first size text unaligned few width is fits codes at end =
    let mid : State =
    record { at = old.at + first; first = old.first; end = old.end; count = old.count; node = old.node; kind = old.kind } in
    let on : IsOnward list old mid = record {
      same_first = refl;
      same_end = refl;
      same_count = refl;
      on = omega arith;
      ends = omega (arith, fits);
      inside = h.inside;
    } in
    let counted : Starts (number_of {K = FaultKind} (width_to range) Short node).encodes (rest list old) more (rest list mid) =
    subst (λ (w : ℕ). Starts (number_of {K = FaultKind} w Short node).encodes (rest list old) more (rest list mid)) width
    (number_starts list old first node (omega (arith, fits)) h.inside more is) in
    let first_one : Starts (constrained false range node (position old)).encodes (rest list old) more (rest list mid) =
    then_starts (number_of (width_to range) Short node) (λ d n. n) (λ d. up_to range node d) (rest list old) (rest list mid) (rest list mid)
    more more counted (record { front = []; encoded = inl (few, (refl, refl)); parts = refl }) in
    let w = width_of false ranges in
    let place : old.at + first + size ≡ new.at = omega (arith, at) in
    let left : drop (old.at + first + size) (take old.end list) ≡ rest list new =
    ap (λ (n : ℕ). drop n (take old.end list)) place ∙ ap (λ (n : ℕ). drop new.at (take n list)) (sym end) in
    let others : Starts (sized_characters false ranges node least range (least + more) (position mid)).encodes (rest list mid) text (rest list new) =
    record {
      front = take size (drop (old.at + first) list);
      encoded = ⊎_elim (λ i. inl (i, codes)) (λ o. inr (o, codes)) (is_inline_or_on_octet w least range (least + more));
      parts = split list (old.at + first) size old.end (omega (arith, fits))
          ∙ ap (λ (l : List Bool). take size (drop (old.at + first) list) ++ l) left;
    } in
    turn_starts list old mid h on (constrained false range node) (λ d text. text)
    (λ d. sized_characters false ranges node least range (least + d)) more first_one (rest list new) text others
