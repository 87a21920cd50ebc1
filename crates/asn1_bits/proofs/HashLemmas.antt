-- The words of a list of bits, as a hasher is fed them.
use Rattle.std.proofs.Common.{◌≡◌, ℕ, ◌+◌, ◌*◌, ◌^◌, ◌<◌, ◌≤◌, Bool, List, [], ◌∷◌, ◌++◌, length, take, drop, refl, sym, ap, ◌∙◌, arith}
use Rattle.std.specs.Hash as fed
use Rattle.std.proofs.Math.Nat.{mod-eq_of_lt}
use Rattle.std.proofs.lemmas.List.{take_all}
use Rattle.std.proofs.lemmas.List.FromFn.{map-range_with_len_more}
use Rattle.asn1_bits.specs.Bits.{digits, number}
use Rattle.asn1_bits.specs.BitLists.{words_fed}
use Rattle.asn1_bits.specs.Laws.NumberLaws.{number-digits}

-- before the first word nothing is fed
pub fed-none : (list : List Bool) → words_fed list 0 ≡ []
unfolding words_fed
fed-none list = refl

-- the next word of 64 bits, fed after those before it
pub fed-more : (list : List Bool) (n word : ℕ) → word ≡ number (take 64 (drop (64 * n) list))
    → words_fed list (n + 1) ≡ words_fed list n ++ fed.le_bytes 8 word ∷ []
unfolding words_fed
fed-more list n word e =
    map-range_with_len_more (λ k. fed.le_bytes 8 (number (take 64 (drop (64 * k) list)))) 0 n n (omega arith)
    ∙ ap (λ (w : ℕ). words_fed list n ++ fed.le_bytes 8 w ∷ []) (sym e)

-- a word is the number of its digits
pub number-word : (list : List Bool) (word : ℕ) → word < 2 ^ 64 → digits word 64 ≡ list → word ≡ number list
number-word list word h e = sym (mod-eq_of_lt h) ∙ sym (number-digits word 64) ∙ ap number e

-- the last bits, fewer than a word
pub number-last : (list last : List Bool) (n width word : ℕ) → word ≡ number (take width last)
    → last ≡ drop (64 * n) list → length last ≡ width → width ≤ 64
    → word ≡ number (take 64 (drop (64 * n) list))
number-last list last n width word e is len h =
    e ∙ ap number (take_all width last (omega (arith, len)) ∙ sym (take_all 64 last (omega (arith, len))))
    ∙ ap (λ (l : List Bool). number (take 64 l)) is
