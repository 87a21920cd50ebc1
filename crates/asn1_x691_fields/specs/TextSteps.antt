-- What follows from steps over characters.
use Rattle.std.proofs.Common.{◌≡◌, ℕ, zero, suc, ◌+◌, ◌*◌, ◌^◌, ◌<◌, ◌≤◌, List, [], ◌∷◌, Bool, true, false, length, map, take, drop, refl, sym, ◌∙◌, ap, subst, arith, inl}
use Rattle.std.proofs.lemmas.List.{append-nil, drop-drop, length-take-le, length-drop}
use Rattle.std.proofs.Math.Seq.{take-add}
use Rattle.asn1_bits.specs.Bits.{number, digits}
use Rattle.asn1_bits.specs.Laws.NumberLaws.{number-lt, digits_of-number}
use Rattle.asn1_schema.specs.declared.tables.Range.{Range}
use Rattle.asn1_schema.specs.declared.tables.Rows.{Rows}
use Rattle.asn1_schema.specs.CharactersOfParts.{numbers_in, character_at, character_of, characters_of}
use Rattle.asn1_schema.specs.Encodings.{Fault, Encoding, Starts, IsAt, IsNumber, number as number_of, value_where, each}
use Rattle.asn1_x691.specs.declared.fault.FaultKind.{FaultKind}
use Rattle.asn1_x691.specs.declared.fault.FaultKind.TheVariants.{Short, NotInAlphabet}
use Rattle.asn1_x691.specs.Alphabets.{width_of, HasCode}
use Rattle.asn1_x691.specs.Characters.{character}
use Rattle.asn1_x691_fields.specs.declared.alphabets.Alphabet.{Alphabet}
use Rattle.asn1_x691_fields.specs.declared.state.State.{State}
use Rattle.asn1_x691_fields.specs.Outcomes.{rest}
use Rattle.asn1_x691_fields.specs.Characters.{rows_of, character_by, characters_at, codes_by, AreCodes}
use Rattle.asn1_x691_fields.specs.Steps.{then_starts, then_fault, constant_starts}

-- the first of `left` numbers, and the others
pub first_number : (width left more at : ℕ) (list : List Bool) → more + 1 ≡ left
    → numbers_in width left (drop at list) ≡ number (take width (drop at list)) ∷ numbers_in width more (drop (at + width) list)
first_number width zero more at list e = absurd (omega (arith, e))
first_number width (suc left) more at list e =
    let same : left ≡ more = omega (arith, e) in
    ap (λ (l : List Bool). number (take width (drop at list)) ∷ numbers_in width left l) (drop-drop width at list)
    ∙ ap (λ (n : ℕ). number (take width (drop at list)) ∷ numbers_in width n (drop (at + width) list)) same

-- ---- one character

module _ (aligned : Bool) (ranges : List Range) (width node i : ℕ) (is : width ≡ width_of aligned ranges) (list mid : List Bool)
    (s : Starts (number_of {K = FaultKind} width Short node).encodes list i mid) where
  code_starts : Starts (number_of {K = FaultKind} (width_of aligned ranges) Short node).encodes list i mid
  code_starts = subst (λ (w : ℕ). Starts (number_of {K = FaultKind} w Short node).encodes list i mid) is s

  abbrev B : ℕ → Encoding FaultKind ℕ
  B n = value_where (λ c. HasCode aligned ranges n c) NotInAlphabet node

  pub character_starts : (c : ℕ) → HasCode aligned ranges i c → Starts (character aligned ranges node).encodes list c mid
  character_starts c h =
      then_starts (number_of (width_of aligned ranges) Short node) (λ n d. d) B list mid mid i c code_starts
      (record { front = []; encoded = (h, refl); parts = refl })

  pub character_fault : (e : Fault FaultKind) → ((c : ℕ) → HasCode aligned ranges i c → ⊥) → IsAt NotInAlphabet node mid e
      → (character aligned ranges node).fault list e
  character_fault e none w =
      then_fault (number_of (width_of aligned ranges) Short node) (λ n d. d) B list mid i e code_starts (none, w)

pub code_fault : (aligned : Bool) (ranges : List Range) (width node : ℕ) (list : List Bool) (e : Fault FaultKind)
    → width ≡ width_of aligned ranges → (number_of width Short node).fault list e → (character aligned ranges node).fault list e
code_fault aligned ranges width node list e is w =
    inl (subst (λ (n : ℕ). (number_of {K = FaultKind} n Short node).fault list e) is w)

-- ---- many characters

module _ (A : Encoding FaultKind ℕ) (list : List Bool) where
  -- what the characters that are left say from here on, all say from the first on
  pub record IsGoingOn (count left : ℕ) (whole more : List ℕ) (old now : State) : Type 0 where
    pub done : (after : List Bool) → Starts (each A left).encodes (rest list now) more after
        → Starts (each A count).encodes (rest list old) whole after
    pub fault : (e : Fault FaultKind) → (each A left).fault (rest list now) e → (each A count).fault (rest list old) e

  pub going_begins : (count : ℕ) (whole : List ℕ) (s : State) → IsGoingOn count count whole whole s s
  going_begins count whole s = record { done = λ after t. t; fault = λ e w. w }

  one_goes_on : (count left : ℕ) (whole more : List ℕ) (x : ℕ) (old now new : State)
      → IsGoingOn count (suc left) whole (x ∷ more) old now → Starts A.encodes (rest list now) x (rest list new)
      → IsGoingOn count left whole more old new
  one_goes_on count left whole more x old now new g s = record {
    done = λ after t. g.done after (then_starts A (λ y ys. y ∷ ys) (λ y. each A left) (rest list now) (rest list new) after x more s t);
    fault = λ e w. g.fault e (then_fault A (λ y ys. y ∷ ys) (λ y. each A left) (rest list now) (rest list new) x e s w);
  }

  one_fault : (count left : ℕ) (whole more : List ℕ) (old now : State) (e : Fault FaultKind) → 0 < left
      → IsGoingOn count left whole more old now → A.fault (rest list now) e → (each A count).fault (rest list old) e
  one_fault count zero whole more old now e some g w = absurd (omega (arith, some))
  one_fault count (suc left) whole more old now e some g w = g.fault e (inl w)

  pub going_ends : (count left : ℕ) (whole more : List ℕ) (old now : State) → left ≡ 0 → more ≡ [] → IsGoingOn count left whole more old now
      → Starts (each A count).encodes (rest list old) whole (rest list now)
  going_ends count zero whole more old now z none g =
      g.done (rest list now) (subst (λ (l : List ℕ). Starts (each A zero).encodes (rest list now) l (rest list now)) (sym none)
      (constant_starts [] (rest list now)))
  going_ends count (suc left) whole more old now z none g = absurd (omega (arith, z))

-- the first of some characters, and the others
first_character : (a : Alphabet) (list : List Bool) (at left : ℕ)
    → characters_at a list at (suc left)
    ≡ character_by a.are_numbers a.ranges.now (number (take a.width (drop at list))) ∷ characters_at a list (at + a.width) left
first_character a list at left =
    ap (λ (l : List Bool). character_by a.are_numbers a.ranges.now (number (take a.width (drop at list)))
    ∷ map (character_by a.are_numbers a.ranges.now) (numbers_in a.width left l)) (drop-drop a.width at list)

pub no_characters : (a : Alphabet) (list : List Bool) (at left : ℕ) → left ≡ 0 → characters_at a list at left ≡ []
no_characters a list at zero z = refl
no_characters a list at (suc left) z = absurd (omega (arith, z))

module _ (a : Alphabet) (node : ℕ) (list : List Bool) where
  abbrev A : Encoding FaultKind ℕ
  A = character a.is_aligned a.ranges.now node

  abbrev T : ℕ → ℕ → List ℕ
  T at count = characters_at a list at count

  abbrev pub AreGoingOn : ℕ → ℕ → State → State → Type 0
  AreGoingOn count left old now = IsGoingOn A list count left (T old.at count) (T now.at left) old now

  -- after one more character
  pub characters_go_on : (count left more : ℕ) (old now new : State) → more + 1 ≡ left → AreGoingOn count left old now
      → new.at ≡ now.at + a.width
      → Starts A.encodes (rest list now) (character_by a.are_numbers a.ranges.now (number (take a.width (drop now.at list)))) (rest list new)
      → AreGoingOn count more old new
  characters_go_on count zero more old now new e g at s = absurd (omega (arith, e))
  characters_go_on count (suc left) more old now new e g at s =
      let same : left ≡ more = omega (arith, e) in
      let x = character_by a.are_numbers a.ranges.now (number (take a.width (drop now.at list))) in
      let h = subst (λ (l : List ℕ). IsGoingOn A list count (suc left) (T old.at count) l old now) (first_character a list now.at left) g in
      subst (λ (n : ℕ). AreGoingOn count n old new) same
      (subst (λ (n : ℕ). IsGoingOn A list count left (T old.at count) (T n left) old new) (sym at)
      (one_goes_on A list count left (T old.at count) (T (now.at + a.width) left) x old now new h s))

  pub characters_fault : (count left : ℕ) (old now : State) (e : Fault FaultKind) → 0 < left → AreGoingOn count left old now
      → A.fault (rest list now) e → (each A count).fault (rest list old) e
  characters_fault count left old now e some g w = one_fault A list count left (T old.at count) (T now.at left) old now e some g w

  pub characters_end : (count left : ℕ) (old now : State) → left ≡ 0 → AreGoingOn count left old now
      → Starts (each A count).encodes (rest list old) (T old.at count) (rest list now)
  characters_end count left old now z g =
      going_ends A list count left (T old.at count) (T now.at left) old now z (no_characters a list now.at left z) g

-- ---- the part of a string

by_codes : (b : Bool) (table : List Range) (rows : Rows) (ranges : List Range) (l : List ℕ) → ranges ≡ rows_of table rows
    → map (character_of table (codes_by b rows)) l ≡ map (character_by b ranges) l
by_codes true table rows ranges l e = refl
by_codes false table rows ranges l e = ap (λ (r : List Range). map (character_at r) l) (sym e)

pub text_piece : (a : Alphabet) (table : List Range) (rows : Rows) (list : List Bool) (at count : ℕ) → a.ranges.now ≡ rows_of table rows
    → characters_of table list (record { at = at; count = count; width = a.width; codes = codes_by a.are_numbers rows })
    ≡ characters_at a list at count
text_piece a table rows list at count e =
    by_codes a.are_numbers table rows a.ranges.now (numbers_in a.width count (drop at list)) e

-- ---- codes that are all of characters

module _ (a : Alphabet) (node : ℕ) where
  abbrev One : Encoding FaultKind ℕ
  One = character a.is_aligned a.ranges.now node

  one_character : (i : ℕ) (front : List Bool) → i < 2 ^ a.width → front ≡ digits i a.width → a.width ≡ width_of a.is_aligned a.ranges.now
      → HasCode a.is_aligned a.ranges.now i (character_by a.are_numbers a.ranges.now i)
      → One.encodes (character_by a.are_numbers a.ranges.now i) front
  one_character i front below is width h = record {
    value = i;
    after = character_by a.are_numbers a.ranges.now i;
    front = front;
    rest = [];
    first = subst (λ (w : ℕ). IsNumber w i front) width (below, is);
    second = (h, refl);
    is = refl;
    parts = sym (append-nil front);
  }

  -- they are the encoding of these characters
  pub codes_encode : (count : ℕ) (list : List Bool) → a.width ≡ width_of a.is_aligned a.ranges.now → a.width * count ≤ length list
      → AreCodes a (numbers_in a.width count list)
      → (each One count).encodes (map (character_by a.are_numbers a.ranges.now) (numbers_in a.width count list)) (take (a.width * count) list)
  codes_encode zero list width h codes =
      let none : a.width * 0 ≡ 0 = omega arith in (refl, ap (λ (n : ℕ). take n list) none)
  codes_encode (suc count) list width h codes =
      let e : a.width * suc count ≡ a.width + a.width * count = omega arith in
      let size : length (take a.width list) ≡ a.width = length-take-le a.width list (omega (arith, h, e)) in
      record {
        value = character_by a.are_numbers a.ranges.now (number (take a.width list));
        after = map (character_by a.are_numbers a.ranges.now) (numbers_in a.width count (drop a.width list));
        front = take a.width list;
        rest = take (a.width * count) (drop a.width list);
        first = one_character (number (take a.width list)) (take a.width list)
            (subst (λ (n : ℕ). number (take a.width list) < 2 ^ n) size (number-lt (take a.width list)))
            (sym (digits_of-number (take a.width list) a.width size)) width codes.0;
        second = codes_encode count (drop a.width list) width (omega (arith, h, e, length-drop a.width list)) codes.1;
        is = refl;
        parts = ap (λ (n : ℕ). take n list) e ∙ take-add a.width (a.width * count) list;
      }
