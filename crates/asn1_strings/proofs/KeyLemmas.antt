-- The first invalid key.
use Rattle.std.proofs.Common.{◌≡◌, ℕ, suc, ◌+◌, ◌*◌, ◌/◌, ◌%◌, ◌^◌, ◌<◌, ◌≤◌, Bool, true, false, not, List, [], ◌∷◌, ◌++◌, ◌&&◌, length, get_or, map, take, drop, Option, Some, None, Result, Ok, Err, refl, ap, sym, ◌∙◌, inl, inr, arith}
use Rattle.std.specs.Prelude.{◌≢◌}
use Rattle.std.specs.Option.{option_map_or, unwrap_or}
use Rattle.std.specs.List.{All, filter_map}
use Rattle.std.proofs.Math.Nat.{div-mul-le_self, mul-le-mul_right}
use Rattle.std.proofs.lemmas.Bool.{cases_lt}
use Rattle.std.proofs.lemmas.List.{length-map, get_or-map, get_or_append_left, get_or_push, ext_get_or, take_at, drop_at, drop-drop, drop-take, take-take}
use Rattle.asn1_bits.specs.Bits.{digits, number}
use Rattle.asn1_bits.specs.Laws.DigitLaws.{length-digits}
use Rattle.asn1_bits.specs.Laws.NumberLaws.{digits-append, number-digits}
use Rattle.asn1_characters.specs.Sets.{base_set, has_character}
use Rattle.asn1_characters.specs.Errors.{own_error}
use Rattle.asn1_strings.specs.Pieces.{piece, pieces}
use Rattle.asn1_strings.specs.Strings.{first_outside, string_of_characters, Refuses}
use Rattle.asn1_strings.specs.Maps.{is_wrong_key, key_error, string_of_keys}
use Rattle.asn1_strings.specs.KeyWalk.{itself, AreCharactersOf}
use Rattle.asn1_strings.proofs.StringLemmas.{find_first, find_nothing, all_right}
use Rattle.asn1_strings.proofs.PieceLemmas.{get_or-pieces}
use Rattle.asn1_characters.specs.declared.character_set.CharacterSetName.{CharacterSetName}
use Rattle.asn1_characters.specs.declared.error.PermittedAlphabetError.{PermittedAlphabetError}
use Rattle.asn1_characters.specs.declared.error.PermittedAlphabetError.TheVariants.{IndexNotFound, InvalidRestrictedString, Memory}

-- what is read where the search for an invalid key ends so
abbrev after_search : CharacterSetName → (ℕ → Option ℕ) → List ℕ → Option ℕ → Result (List ℕ) PermittedAlphabetError
after_search name get keys o = option_map_or (λ k. Err (key_error name k (get k))) o (Ok (filter_map get keys))

-- the string fails for its first invalid key
keyed_wrong : (name : CharacterSetName) (get : ℕ → Option ℕ) (keys : List ℕ) (i : ℕ) → i < length keys
    → ((k : ℕ) → k < i → is_wrong_key name get (get_or keys k 0) ≡ false)
    → is_wrong_key name get (get_or keys i 0) ≡ true
    → string_of_keys name get keys ≡ Err (key_error name (get_or keys i 0) (get (get_or keys i 0)))
keyed_wrong name get keys i lt before here =
    ap (after_search name get keys) (find_first (is_wrong_key name get) keys i lt before here)

-- where each key is right, the characters are those at the keys
kept_all : (name : CharacterSetName) (get : ℕ → Option ℕ) (keys : List ℕ)
    → ((k : ℕ) → k < length keys → is_wrong_key name get (get_or keys k 0) ≡ false)
    → filter_map get keys ≡ map (λ k. unwrap_or (get k) 0) keys
kept_all name get [] right = refl
kept_all name get (x ∷ keys) right = by_case (get x) refl (kept_all name get keys (λ k h. right (suc k) (omega arith)))
  where
    by_case : (o : Option ℕ) → get x ≡ o → filter_map get keys ≡ map (λ k. unwrap_or (get k) 0) keys
        → filter_map get (x ∷ keys) ≡ map (λ k. unwrap_or (get k) 0) (x ∷ keys)
    by_case None e rest = let wrong = rw e at (right 0 (omega arith)) in cc
    by_case (Some c) e rest = rw (e, rest) refl

-- where each key is right, the string is the characters at them
pub keyed_right : (name : CharacterSetName) (get : ℕ → Option ℕ) (keys : List ℕ)
    → ((k : ℕ) → k < length keys → is_wrong_key name get (get_or keys k 0) ≡ false)
    → string_of_keys name get keys ≡ Ok (map (λ k. unwrap_or (get k) 0) keys)
keyed_right name get keys right =
    ap (after_search name get keys) (find_nothing (is_wrong_key name get) keys right)
    ∙ ap Ok (kept_all name get keys right)

mapped_none : (f : ℕ → ℕ) (keys : List ℕ) → map f keys ≡ [] → keys ≡ []
mapped_none f [] e = refl
mapped_none f (x ∷ keys) e = cc

-- where there are keys and each is right, `Memory` is an error
pub keyed_wanting : (name : CharacterSetName) (get : ℕ → Option ℕ) (keys : List ℕ) → keys ≢ []
    → ((k : ℕ) → k < length keys → is_wrong_key name get (get_or keys k 0) ≡ false)
    → Refuses Memory (string_of_keys name get keys)
keyed_wanting name get keys some right =
    rw (keyed_right name get keys right) (λ none. some (mapped_none (λ (k : ℕ). unwrap_or (get k) 0) keys none))

-- where the characters at all keys were read, they are the string
pub keyed_read : (name : CharacterSetName) (get : ℕ → Option ℕ) (keys cs : List ℕ) → length cs ≡ length keys
    → AreCharactersOf name get keys (length keys) cs → string_of_keys name get keys ≡ Ok cs
keyed_read name get keys cs long read =
    keyed_right name get keys (λ k h. rw ((read k h).0, (read k h).1) refl)
    ∙ ap Ok (ext_get_or 0 (map (λ (k : ℕ). unwrap_or (get k) 0) keys) cs
    (length-map keys (λ (k : ℕ). unwrap_or (get k) 0) ∙ sym long) (λ k h.
    let lt : k < length keys = rw (length-map keys (λ (k : ℕ). unwrap_or (get k) 0)) at h in
    get_or-map (λ (k : ℕ). unwrap_or (get k) 0) keys k 0 0 lt ∙ ap (λ o. unwrap_or o 0) (read k lt).0))

-- and each is in the set
pub read_in_set : (name : CharacterSetName) (get : ℕ → Option ℕ) (keys cs : List ℕ) → length cs ≡ length keys
    → AreCharactersOf name get keys (length keys) cs → All (λ c. has_character (base_set name) c ≡ true) cs
read_in_set name get keys cs long read =
    all_right (base_set name) cs (λ k h. (read k (omega arith)).1)

filter_map-all : (xs : List ℕ) → filter_map Some xs ≡ xs
filter_map-all [] = refl
filter_map-all (x ∷ xs) = rw (filter_map-all xs) refl

-- numbers that are their own keys are the characters
pub keyed_itself : (name : CharacterSetName) (cs : List ℕ)
    → string_of_keys name itself.get cs ≡ string_of_characters name cs
keyed_itself name cs =
    ap (λ (l : List ℕ). option_map_or (λ c. Err (InvalidRestrictedString (own_error name c)))
    (first_outside (base_set name) cs) (Ok l)) (filter_map-all cs)

-- two tests that both held
pub both_held : (a b : Bool) → (a && b) ≡ true → (a ≡ true) × (b ≡ true)
both_held true b e = (refl, e)
both_held false b e = cc

-- one more character was read
pub read_next : (name : CharacterSetName) (get : ℕ → Option ℕ) (keys cs : List ℕ) (n key c : ℕ) → length cs ≡ n
    → AreCharactersOf name get keys n cs → get_or keys n 0 ≡ key → get key ≡ Some c
    → has_character (base_set name) c ≡ true → AreCharactersOf name get keys (n + 1) (cs ++ c ∷ [])
read_next name get keys cs n key c long read at found has = λ k h. elim (cases_lt k n) [
  | inl lt ↦ rw (get_or_append_left cs (c ∷ []) 0 k (omega arith)) (read k lt)
  | inr ge ↦
      let e : k ≡ n = omega arith in
      rw (get_or_push cs c 0 k (omega arith))
      ((let a : get_or keys k 0 ≡ key = ap (λ (i : ℕ). get_or keys i 0) e ∙ at in cc), has)
]

-- ---- keys in a word

split_word : (j m w : ℕ) → (j + 1 + m) * w ≡ j * w + (w + w * m)
split_word j m w = omega arith

-- the key at an index of a word is the number of some of its digits
pub key_of_word : (bits : List Bool) (w n j m count word : ℕ) → j + 1 + m ≡ count
    → n + count ≤ length bits / w
    → digits word (count * w) ≡ take (count * w) (drop (n * w) bits)
    → get_or (map number (pieces w bits)) (n + j) 0 ≡ word / 2 ^ (w * m) % 2 ^ w
key_of_word bits w n j m count word e within read =
    let all = drop (n * w) bits in
    let whole : count * w ≡ j * w + (w + w * m) = rw (sym e) (split_word j m w) in
    let place : (n + j) * w ≡ n * w + j * w = omega arith in
    let front = digits (word / 2 ^ (w + w * m)) (j * w) in
    let rest = digits word (w + w * m) in
    let cut : digits word (count * w) ≡ front ++ rest =
    ap (digits word) whole ∙ digits-append word (j * w) (w + w * m) in
    let behind : drop (j * w) (digits word (count * w)) ≡ rest =
    ap (drop (j * w)) cut ∙ drop_at front rest (j * w) (length-digits (word / 2 ^ (w + w * m)) (j * w)) in
    let own : take w rest ≡ digits (word / 2 ^ (w * m)) w =
    ap (take w) (digits-append word w (w * m))
    ∙ take_at (digits (word / 2 ^ (w * m)) w) (digits word (w * m)) w (length-digits (word / 2 ^ (w * m)) w) in
    let seen : drop (j * w) (take (count * w) all) ≡ take (w + w * m) (drop (j * w) all) =
    ap (λ (k : ℕ). drop (j * w) (take k all)) whole ∙ drop-take (j * w) (w + w * m) all in
    let here : take w (drop (j * w) all) ≡ digits (word / 2 ^ (w * m)) w =
    sym (take-take w (w + w * m) (drop (j * w) all) (omega arith))
    ∙ ap (take w) (sym seen ∙ ap (drop (j * w)) (sym read))
    ∙ ap (take w) behind ∙ own in
    let piece_is : piece w bits (n + j) ≡ digits (word / 2 ^ (w * m)) w =
    ap (λ (k : ℕ). take w (drop k bits)) place ∙ ap (take w) (sym (drop-drop (j * w) (n * w) bits)) ∙ here in
    get_or-pieces number w bits (n + j) (omega arith) ∙ ap number piece_is ∙ number-digits (word / 2 ^ (w * m)) w

-- keys that there are lie within the bits
pub keys_within : (n w len : ℕ) → n ≤ len / w → n * w ≤ len
keys_within n w len le =
    let up : n * w ≤ len / w * w = mul-le-mul_right w le in
    let down = div-mul-le_self len w in
    omega arith

-- the first invalid key is not in the map
pub keyed_missing : (name : CharacterSetName) (get : ℕ → Option ℕ) (keys : List ℕ) (i : ℕ) → i < length keys
    → ((k : ℕ) → k < i → is_wrong_key name get (get_or keys k 0) ≡ false) → get (get_or keys i 0) ≡ None
    → string_of_keys name get keys ≡ Err (IndexNotFound (get_or keys i 0))
keyed_missing name get keys i lt before none =
    keyed_wrong name get keys i lt before
    (ap (λ o. option_map_or (λ c. not (has_character (base_set name) c)) o true) none)
    ∙ ap (λ o. Err (key_error name (get_or keys i 0) o)) none

-- the character at the first invalid key is not in the set
pub keyed_outside : (name : CharacterSetName) (get : ℕ → Option ℕ) (keys : List ℕ) (i c : ℕ) → i < length keys
    → ((k : ℕ) → k < i → is_wrong_key name get (get_or keys k 0) ≡ false) → get (get_or keys i 0) ≡ Some c
    → has_character (base_set name) c ≡ false
    → string_of_keys name get keys ≡ Err (InvalidRestrictedString (own_error name c))
keyed_outside name get keys i c lt before some outside =
    keyed_wrong name get keys i lt before
    (ap (λ o. option_map_or (λ c. not (has_character (base_set name) c)) o true) some ∙ ap not outside)
    ∙ ap (λ o. Err (key_error name (get_or keys i 0) o)) some
