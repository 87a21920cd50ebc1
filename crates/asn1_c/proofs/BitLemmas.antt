-- The digits of a number that lie in its octets.
use Rattle.std.proofs.Common.{◌≡◌, ℕ, ◌+◌, ◌-◌, ◌/◌, ◌^◌, ◌≤◌, Bool, List, ◌++◌, take, drop, ap, ◌∙◌, arith}
use Rattle.std.specs.Int.{to_be_bytes, w128}
use Rattle.std.proofs.lemmas.List.{drop_at, take_all}
use Rattle.asn1_bits.specs.Bits.{digits, bits}
use Rattle.asn1_bits.specs.Laws.ByteLaws.{bits-bytes}
use Rattle.asn1_bits.specs.View.{View, list_of}
use Rattle.asn1_bits.specs.Laws.DigitLaws.{length-digits}
use Rattle.asn1_bits.specs.Laws.NumberLaws.{digits-append}

-- the last digits of more of them
pub last_digits : (n width : ℕ) → width ≤ 128 → take width (drop (128 - width) (digits n 128)) ≡ digits n width
last_digits n width le =
    let high : List Bool = digits (n / 2 ^ width) (128 - width) in
    let sum : 128 ≡ (128 - width) + width = omega arith in
    let parts : digits n 128 ≡ high ++ digits n width = ap (digits n) sum ∙ digits-append n (128 - width) width in
    let cut : drop (128 - width) (high ++ digits n width) ≡ digits n width =
    drop_at high (digits n width) (128 - width) (length-digits (n / 2 ^ width) (128 - width)) in
    ap (λ (l : List Bool). take width (drop (128 - width) l)) parts ∙ ap (take width) cut
    ∙ take_all width (digits n width) (omega (arith, length-digits n width))

-- the view of the last bits of a number's sixteen octets has its lowest digits
pub placed : (v : View) (octets : List ℕ) (n width : ℕ) → width ≤ 128
    → v ≡ record { storage = octets; first = 128 - width; len = width } → octets ≡ to_be_bytes w128 n
    → list_of v ≡ digits n width
unfolding list_of
placed v octets n width le e o =
    ap list_of e ∙ ap (λ (l : List ℕ). take width (drop (128 - width) (bits l))) o
    ∙ ap (λ (l : List Bool). take width (drop (128 - width) l)) (bits-bytes 16 n)
    ∙ last_digits n width le
