-- Codes of an alphabet, and the alphabets of the same ranges.
use Rattle.std.proofs.Common.{◌≡◌, ℕ, ◌-◌, ◌^◌, Bool, List, [], ◌∷◌, map, drop, Option, Some, None, sym, ◌∙◌, ap, subst}
use Rattle.std.specs.List.{AllByRecursion}
use Rattle.asn1_schema.specs.Encodings.{Encoding, Starts}
use Rattle.asn1_schema.specs.CharactersOfParts.{numbers_in}
use Rattle.asn1_schema.specs.declared.tables.Range.{Range}
use Rattle.asn1_x691.specs.declared.fault.FaultKind.{FaultKind}
use Rattle.asn1_x691.specs.Alphabets.{HasCode, width_of, are_within}
use Rattle.asn1_x691_fields.specs.declared.alphabets.Alphabet.{Alphabet}
use Rattle.asn1_x691_fields.specs.declared.state.State.{State}
use Rattle.asn1_x691_fields.specs.Outcomes.{IsRead, rest, position}
use Rattle.asn1_x691_fields.specs.Characters.{IsAlphabet, AreCodes, character_by, characters_at}

module _ (a : Alphabet) (P : ℕ → Type 0) where
  -- numbers of which P holds are codes, where P holds of codes alone
  pub all_codes : ((i : ℕ) → P i → HasCode a.is_aligned a.ranges.now i (character_by a.are_numbers a.ranges.now i))
      → (codes : List ℕ) → AllByRecursion P codes → AreCodes a codes
  all_codes f [] h = tt
  all_codes f (i ∷ codes) h = (f i h.0, all_codes f codes h.1)

  -- P holds of codes, where it holds of each code
  pub codes_all : ((i c : ℕ) → HasCode a.is_aligned a.ranges.now i c → P i) → (codes : List ℕ) → AreCodes a codes
      → AllByRecursion P codes
  codes_all f [] h = tt
  codes_all f (i ∷ codes) h = (f i (character_by a.are_numbers a.ranges.now i) h.0, codes_all f codes h.1)

-- two alphabets of the same ranges have the same characters
module _ (a b : Alphabet) (p : IsAlphabet a) (q : IsAlphabet b) (ranges : a.ranges.now ≡ b.ranges.now) (variant : a.is_aligned ≡ b.is_aligned) where
  pub same_width : a.width ≡ b.width
  same_width =
      p.width ∙ ap (λ (v : Bool). width_of v a.ranges.now) variant ∙ ap (λ (r : List Range). width_of b.is_aligned r) ranges ∙ sym q.width

  same_numbers : a.are_numbers ≡ b.are_numbers
  same_numbers =
      p.numbers ∙ ap (λ (v : Bool). are_within a.ranges.now (2 ^ width_of v a.ranges.now - 1)) variant
      ∙ ap (λ (r : List Range). are_within r (2 ^ width_of b.is_aligned r - 1)) ranges ∙ sym q.numbers

  pub same_characters : (list : List Bool) (at count : ℕ) → characters_at a list at count ≡ characters_at b list at count
  same_characters list at count =
      ap (λ (n : ℕ). map (character_by a.are_numbers a.ranges.now) (numbers_in n count (drop at list))) same_width
      ∙ ap (λ (v : Bool). map (character_by v a.ranges.now) (numbers_in b.width count (drop at list))) same_numbers
      ∙ ap (λ (r : List Range). map (character_by b.are_numbers r) (numbers_in b.width count (drop at list))) ranges

-- what was read is also g of the result, where g is the same as f
pub read_by : {X T : Type 0} (A : ℕ → Encoding FaultKind X) (f g : T → X) (list : List Bool) (old new : State) (r : Option T)
    → ((t : T) → f t ≡ g t) → IsRead A f list old new r → IsRead A g list old new r
read_by A f g list old new None e h = h
read_by A f g list old new (Some t) e h =
    subst (λ (x : _). Starts (A (position old)).encodes (rest list old) x (rest list new)) (e t) h
