-- Lemmas on dotted text.
use Rattle.std.proofs.Common.{◌≡◌, ℕ, zero, suc, ◌+◌, ◌^◌, ◌<◌, ◌≤◌, List, [], ◌∷◌, ◌++◌, length, get_or, drop, map, refl, sym, ap, ◌∙◌, arith, append-nil}
use Rattle.std.proofs.lemmas.List.{drop-append-le}
use Rattle.std.proofs.lemmas.Grind.{flat_map-append}
use Rattle.std.specs.List.{flat_map, join_with_byte}
use Rattle.std.specs.Fmt.{decimal}
use Rattle.std.specs.Str.{IsAscii}
use Rattle.std.proofs.lemmas.Str.{IsAscii-append}
use Rattle.std.proofs.lemmas.Str.Ascii.{IsAscii-nil}
use Rattle.std.proofs.lemmas.Fmt.{IsAscii-decimal}
use Rattle.asn1_oid.specs.Arcs.{full_stop, dotted, with_stops}

joined : (x : ℕ) (xs : List ℕ)
    → decimal x ++ flat_map (λ b. full_stop ∷ decimal b) xs ≡ join_with_byte full_stop (map decimal (x ∷ xs))
joined x [] = append-nil (decimal x)
joined x (y ∷ ys) = ap (λ t. decimal x ++ (full_stop ∷ t)) (joined y ys)

-- the text from an index on begins with a full stop and that arc
pub stops_from : (arcs : List ℕ) (i j x : ℕ) → i < length arcs → j ≡ i + 1 → x ≡ get_or arcs i 0 →
    full_stop ∷ (decimal x ++ with_stops (drop j arcs)) ≡ with_stops (drop i arcs)
stops_from [] i j x l n e = absurd (omega arith)
stops_from (y ∷ ys) zero j x l n e =
    let one : j ≡ 1 = omega arith in
    ap (λ z. full_stop ∷ (decimal z ++ with_stops (drop j (y ∷ ys)))) e
    ∙ ap (λ k. full_stop ∷ (decimal y ++ with_stops (drop k (y ∷ ys)))) one
stops_from (y ∷ ys) (suc i) zero x l n e = absurd (omega arith)
stops_from (y ∷ ys) (suc i) (suc j) x l n e = stops_from ys i j x (omega arith) (omega arith) e

-- with the first full stop left out it is the dotted text
pub dotted_behind_stop : (arcs : List ℕ) → 0 < length arcs → drop 1 (with_stops arcs) ≡ dotted arcs
dotted_behind_stop [] l = absurd (omega arith)
dotted_behind_stop (x ∷ xs) l = joined x xs

-- the text is ASCII
stop_is_ascii : IsAscii (full_stop ∷ [])
stop_is_ascii zero = omega arith
stop_is_ascii (suc i) = omega arith

pub stops_are_ascii : (arcs : List ℕ) → ((i : ℕ) → get_or arcs i 0 < 2 ^ 32) → IsAscii (with_stops arcs)
stops_are_ascii [] small = IsAscii-nil
stops_are_ascii (x ∷ xs) small =
    let head : x < 2 ^ 32 = small 0 in
    IsAscii-append (full_stop ∷ decimal x) (with_stops xs)
    (IsAscii-append (full_stop ∷ []) (decimal x) stop_is_ascii (IsAscii-decimal x (omega (arith, head))))
    (stops_are_ascii xs (λ i. small (suc i)))

-- the text of a group, and of the arcs after it, is that of them all
pub stops_go_on : (arcs group others : List ℕ) (skipped : ℕ) → arcs ≡ group ++ others → 0 < length group → skipped ≤ 1 →
    drop skipped (with_stops group) ++ with_stops others ≡ drop skipped (with_stops arcs)
stops_go_on arcs [] others skipped e some few = absurd (omega arith)
stops_go_on arcs (x ∷ xs) others skipped e some few =
    let long : length (with_stops (x ∷ xs)) ≡ suc (length (decimal x ++ with_stops xs)) = refl in
    sym (drop-append-le skipped (with_stops (x ∷ xs)) (with_stops others) (omega (arith, long)))
    ∙ ap (drop skipped) (sym (flat_map-append (λ b. full_stop ∷ decimal b) (x ∷ xs) others) ∙ ap with_stops (sym e))
