-- Dotted text, cut at its full stops.
use Rattle.std.proofs.Common.{◌≡◌, ◌≢◌, ℕ, ◌+◌, ◌-◌, ◌/◌, ◌%◌, ◌^◌, ◌<◌, ◌≤◌, List, [], ◌∷◌, ◌++◌, length, get_or, take, drop, sym, ap, ◌∙◌, arith, append-nil, append_assoc}
use Rattle.std.specs.List.{flat_map}
use Rattle.std.specs.Fmt.{decimal}
use Rattle.std.proofs.lemmas.Fmt.{decimal_digit, decimal_step, decimal_nonempty, length-decimal-le}
use Rattle.std.proofs.Math.ListN.{set}
use Rattle.std.proofs.Math.Seq.{take-append_seam, drop-append-add}
use Rattle.std.proofs.lemmas.Grind.{flat_map-append}
use Rattle.std.proofs.lemmas.List.{drop-set, length-set, length-append, length-drop, take_more, take-append-drop, drop-drop}
use Rattle.asn1_oid.specs.Arcs.{full_stop, dotted}

-- the dotted text of a first arc and others
abbrev pub dotted_from : ℕ → List ℕ → List ℕ
dotted_from first others = decimal first ++ flat_map (λ arc. full_stop ∷ decimal arc) others

pub joined : (x : ℕ) (xs : List ℕ) → dotted_from x xs ≡ dotted (x ∷ xs)
joined x [] = append-nil (decimal x)
joined x (y ∷ ys) = ap (λ t. decimal x ++ (full_stop ∷ t)) (joined y ys)

-- ---- the decimal of a number, digit by digit from the end

-- one digit more at the front of those that are written
pub digit_stored : (octets : List ℕ) (i left : ℕ) → length octets ≡ 11 → i < 10
    → drop (10 - i) (set octets (10 - i) (48 + left % 10)) ≡ (48 + left % 10) ∷ drop (11 - i) octets
digit_stored octets i left l lt =
    let next : (10 - i) + 1 ≡ 11 - i = omega arith in
    drop-set octets (10 - i) (48 + left % 10) (omega arith) ∙ ap (λ k. (48 + left % 10) ∷ drop k octets) next

pub last_digit : (number left i : ℕ) (octets : List ℕ) → left < 2 ^ 32 → length octets ≡ 11 → i < 10 → left / 10 ≡ 0
    → decimal number ≡ decimal left ++ drop (11 - i) octets
    → drop (9 - i) (set (set octets (10 - i) (48 + left % 10)) (9 - i) 46) ≡ full_stop ∷ decimal number
last_digit number left i octets small l lt none text =
    let inner : List ℕ = set octets (10 - i) (48 + left % 10) in
    let next : (9 - i) + 1 ≡ 10 - i = omega arith in
    let same : left % 10 ≡ left = omega arith in
    drop-set inner (9 - i) 46 (omega (arith, length-set octets (10 - i) (48 + left % 10)))
    ∙ ap (λ k. 46 ∷ drop k inner) next
    ∙ ap (λ t. 46 ∷ t) (digit_stored octets i left l lt ∙ ap (λ k. (48 + k) ∷ drop (11 - i) octets) same
    ∙ ap (λ t. t ++ drop (11 - i) octets) (sym (decimal_digit left (omega arith))) ∙ sym text)

pub more_digits : (number left i : ℕ) (octets : List ℕ) → left < 2 ^ 32 → length octets ≡ 11 → i < 10 → left / 10 ≢ 0
    → decimal number ≡ decimal left ++ drop (11 - i) octets
    → decimal number ≡ decimal (left / 10) ++ drop (11 - (i + 1)) (set octets (10 - i) (48 + left % 10))
more_digits number left i octets small l lt some text =
    let place : 11 - (i + 1) ≡ 10 - i = omega arith in
    text ∙ ap (λ t. t ++ drop (11 - i) octets) (decimal_step left (omega arith) (omega arith))
    ∙ append_assoc (decimal (left / 10)) ((48 + left % 10) ∷ []) (drop (11 - i) octets)
    ∙ ap (λ t. decimal (left / 10) ++ t) (sym (digit_stored octets i left l lt))
    ∙ ap (λ k. decimal (left / 10) ++ drop k (set octets (10 - i) (48 + left % 10))) (sym place)

-- ten digits are enough
pub no_more_digits : (number left i : ℕ) (octets : List ℕ) → number < 2 ^ 32 → left < 2 ^ 32 → length octets ≡ 11
    → 10 ≤ i → i ≤ 10
    → decimal number ≡ decimal left ++ drop (11 - i) octets → ⊥
no_more_digits number left i octets n_small small l ge le text =
    let n = length-decimal-le 10 number (omega arith) (omega arith) (omega arith) in
    let some = decimal_nonempty left (omega arith) in
    omega (arith, ap length text, length-append (decimal left) (drop (11 - i) octets), length-drop (11 - i) octets)

-- ---- the text, arc by arc

behind_more : (xs : List ℕ) (i d : ℕ) → i < length xs
    → flat_map (λ arc. full_stop ∷ decimal arc) (take (i + 1) xs) ≡ flat_map (λ arc. full_stop ∷ decimal arc)
    (take i xs) ++ (full_stop ∷ decimal (get_or xs i d))
behind_more xs i d lt =
    ap (flat_map (λ arc. full_stop ∷ decimal arc)) (take_more xs i d lt)
    ∙ flat_map-append (λ arc. full_stop ∷ decimal arc) (take i xs) (get_or xs i d ∷ [])
    ∙ ap (λ t. flat_map (λ arc. full_stop ∷ decimal arc) (take i xs) ++ (full_stop ∷ t))
    (append-nil (decimal (get_or xs i d)))

pub dotted_more : (x : ℕ) (xs : List ℕ) (i d : ℕ) → i < length xs
    → dotted_from x (take (i + 1) xs) ≡ dotted_from x (take i xs) ++ (full_stop ∷ decimal (get_or xs i d))
dotted_more x xs i d lt =
    ap (λ t. decimal x ++ t) (behind_more xs i d lt)
    ∙ sym (append_assoc (decimal x) (flat_map (λ arc. full_stop ∷ decimal arc) (take i xs))
    (full_stop ∷ decimal (get_or xs i d)))

pub length-dotted_more : (x : ℕ) (xs : List ℕ) (i d : ℕ) → i < length xs
    → length (dotted_from x (take (i + 1) xs)) ≡ length (dotted_from x (take i xs)) + length
    (full_stop ∷ decimal (get_or xs i d))
length-dotted_more x xs i d lt = ap length (dotted_more x xs i d lt)
    ∙ length-append (dotted_from x (take i xs)) (full_stop ∷ decimal (get_or xs i d))

-- a front is no longer than the whole
pub dotted_front : (x : ℕ) (xs : List ℕ) (i : ℕ) → length (dotted_from x (take i xs)) ≤ length (dotted_from x xs)
dotted_front x xs i =
    let parts = ap (flat_map (λ arc. full_stop ∷ decimal arc)) (sym (take-append-drop i xs))
    ∙ flat_map-append (λ arc. full_stop ∷ decimal arc) (take i xs) (drop i xs) in
    omega (
      arith,
      ap length parts,
      length-append (flat_map (λ arc. full_stop ∷ decimal arc) (take i xs))
          (flat_map (λ arc. full_stop ∷ decimal arc) (drop i xs)),
      length-append (decimal x) (flat_map (λ arc. full_stop ∷ decimal arc) (take i xs)),
      length-append (decimal x) (flat_map (λ arc. full_stop ∷ decimal arc) xs),
    )

-- what was put after what was written
pub put_behind : (front part room : List ℕ) (at : ℕ) → at ≡ length front → at + length part ≤ length room
    → take at (front ++ drop at room) ++ (part ++ drop (at + length part) (front ++ drop at room)) ≡ (front ++ part) ++
    drop (at + length part) room
put_behind front part room at e le =
    let f : take at (front ++ drop at room) ≡ front = ap (λ k. take k (front ++ drop at room)) e
    ∙ take-append_seam front (drop at room) in
    let b : drop (at + length part) (front ++ drop at room) ≡ drop (at + length part) room =
    ap (λ k. drop (k + length part) (front ++ drop at room)) e ∙ drop-append-add front (drop at room) (length part)
    ∙ drop-drop (length part) at room in
    ap (λ l. l ++ (part ++ drop (at + length part) (front ++ drop at room))) f ∙ ap (λ l. front ++ (part ++ l)) b
    ∙ sym (append_assoc front part (drop (at + length part) room))

-- what is after the full stop
pub digits_behind : (octets : List ℕ) (first n : ℕ) → drop first octets ≡ full_stop ∷ decimal n
    → drop (first + 1) octets ≡ decimal n
digits_behind octets first n e = sym (drop-drop 1 first octets) ∙ ap (drop 1) e
