-- A text is the dotted text of one list of arcs.
use Rattle.std.proofs.Common.{◌≡◌, ℕ, ◌^◌, ◌<◌, false, eqb, List, [], ◌∷◌, map, refl, sym, ap, ◌∙◌, arith}
use Rattle.std.specs.Prelude.{All}
use Rattle.std.specs.List.{join_with_byte, slice_split}
use Rattle.std.specs.Fmt.{decimal}
use Rattle.std.specs.Str.Parse.{AllDigits}
use Rattle.std.proofs.lemmas.Bool.{ne_eqb}
use Rattle.std.proofs.lemmas.Fmt.{decimal_is_IsNumeral, decimal_injective}
use Rattle.std.proofs.lemmas.Str.Parse.{digit_from_value}
use Rattle.std.proofs.lemmas.List.Splits.{join_with_byte-slice_split, slice_split_at, slice_split_none}
use Rattle.std.proofs.lemmas.List.Elements.{All-nil, All-cons, All-head, All-tail}
use Rattle.asn1_oid.specs.Arcs.{dotted}
use Rattle.asn1_oid.specs.DottedText.{IsDottedText}

no_stop_in_digits : (ds : List ℕ) → AllDigits 10 ds → All (λ b. eqb b 46 ≡ false) ds
no_stop_in_digits [] d = All-nil (λ b. eqb b 46 ≡ false)
no_stop_in_digits (c ∷ cs) d =
    let k = digit_from_value c d.0 in
    All-cons (λ b. eqb b 46 ≡ false) c cs (ne_eqb c 46 (λ e. omega arith)) (no_stop_in_digits cs d.1)

no_stop : (n : ℕ) → n < 2 ^ 64 → All (λ b. eqb b 46 ≡ false) (decimal n)
no_stop n lt = no_stop_in_digits (decimal n) (decimal_is_IsNumeral n lt).0.1

pub split_dotted : (x : ℕ) (xs : List ℕ) → All (λ n. n < 2 ^ 32) (x ∷ xs)
    → slice_split (λ b. eqb b 46) (dotted (x ∷ xs)) ≡ map decimal (x ∷ xs)
split_dotted x [] fit = let lt =
    All-head (λ n. n < 2 ^ 32) x [] fit in slice_split_none (λ b. eqb b 46) (decimal x) (no_stop x (omega arith))
split_dotted x (y ∷ ys) fit =
    let lt = All-head (λ n. n < 2 ^ 32) x (y ∷ ys) fit in
    slice_split_at (λ b. eqb b 46) (decimal x) 46 (dotted (y ∷ ys)) (no_stop x (omega arith)) refl
    ∙ ap (λ l. decimal x ∷ l) (split_dotted y ys (All-tail (λ n. n < 2 ^ 32) x (y ∷ ys) fit))

pub dotted_of_split : (text arcs : List ℕ) → slice_split (λ b. eqb b 46) text ≡ map decimal arcs → dotted arcs ≡ text
dotted_of_split text arcs e = ap (join_with_byte 46) (sym e) ∙ join_with_byte-slice_split 46 text

pub parts_are : (arcs text : List ℕ) → IsDottedText arcs text → slice_split (λ b. eqb b 46) text ≡ map decimal arcs
parts_are [] text d = absurd (let s = d.valid.some in omega arith)
parts_are (x ∷ xs) text d = ap (slice_split (λ b. eqb b 46)) (sym d.spelled) ∙ split_dotted x xs d.fit

pub same_arcs : (xs ys : List ℕ) → All (λ n. n < 2 ^ 32) xs → All (λ n. n < 2 ^ 32) ys → map decimal xs ≡ map decimal ys
    → xs ≡ ys
same_arcs [] [] f g e = refl
same_arcs [] (y ∷ ys) f g e = absurd cc
same_arcs (x ∷ xs) [] f g e = absurd cc
same_arcs (x ∷ xs) (y ∷ ys) f g e =
    let h : decimal x ≡ decimal y = cc in
    let t : map decimal xs ≡ map decimal ys = cc in
    let lx = All-head (λ n. n < 2 ^ 32) x xs f in
    let ly = All-head (λ n. n < 2 ^ 32) y ys g in
    ap (λ n. n ∷ xs) (decimal_injective x y (omega arith) (omega arith) h)
    ∙ ap (λ l. y ∷ l) (same_arcs xs ys (All-tail (λ n. n < 2 ^ 32) x xs f) (All-tail (λ n. n < 2 ^ 32) y ys g) t)

-- a text is that of one list of arcs
pub one_text : (xs ys text : List ℕ) → IsDottedText xs text → IsDottedText ys text → xs ≡ ys
one_text xs ys text d e = same_arcs xs ys d.fit e.fit (sym (parts_are xs text d) ∙ parts_are ys text e)
