-- The octets of a number, most significant first, have its digits.
use Rattle.std.proofs.Common.{◌≡◌, ℕ, zero, suc, ◌+◌, ◌*◌, ◌/◌, ◌%◌, ◌^◌, Bool, List, ◌++◌, refl, sym, ap, ◌∙◌, arith}
use Rattle.std.specs.Int.{byte_at, bytes_high_first}
use Rattle.std.proofs.Math.Nat.{div-one, pow-suc}
use Rattle.std.proofs.lemmas.Nat.{div-add-mod', pow-add}
use Rattle.asn1_bits.specs.Bits.{digits, bits}
use Rattle.asn1_bits.specs.Laws.NumberLaws.{digits-append, digits-low}

-- digits see no more of a number than their count
pub digits-mod : (n width : ℕ) → digits (n % 2 ^ width) width ≡ digits n width
digits-mod n width =
    sym (digits-low (n / 2 ^ width) (n % 2 ^ width) width) ∙ ap (λ (m : ℕ). digits m width) (div-add-mod' n (2 ^ width))

octet_power : (k : ℕ) → 256 ^ k ≡ 2 ^ (8 * k)
octet_power zero = refl
octet_power (suc k) =
    let e : 8 * suc k ≡ 8 * k + 8 = omega arith in
    pow-suc 256 k ∙ ap (λ (m : ℕ). m * 256) (octet_power k) ∙ sym (ap (λ (j : ℕ). 2 ^ j) e ∙ pow-add 2 (8 * k) 8)

-- an octet of a number, counted from the lowest
pub byte_at_is : (k n : ℕ) → byte_at k n ≡ n / 2 ^ (8 * k) % 256
byte_at_is zero n = ap (λ (m : ℕ). m % 256) (sym (div-one n))
byte_at_is (suc k) n = ap (λ (m : ℕ). n / m % 256) (octet_power (suc k))

-- the bits of a number's octets are its digits
pub bits-bytes : (k n : ℕ) → bits (bytes_high_first k n) ≡ digits n (8 * k)
unfolding bits digits
bits-bytes zero n = refl
bits-bytes (suc k) n =
    ap (λ (l : List Bool). l ++ bits (bytes_high_first k n))
    (ap (λ (b : ℕ). digits b 8) (byte_at_is k n) ∙ digits-mod (n / 2 ^ (8 * k)) 8)
    ∙ ap (λ (l : List Bool). digits (n / 2 ^ (8 * k)) 8 ++ l) (bits-bytes k n)
    ∙ sym (digits-append n 8 (8 * k))
    ∙ (let e : 8 + 8 * k ≡ 8 * suc k = omega arith in ap (digits n) e)
