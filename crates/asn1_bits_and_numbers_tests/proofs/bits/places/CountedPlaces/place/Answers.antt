use Rattle.std.proofs.Common.{◌≡◌, ℕ, ◌+◌, ◌-◌, ◌/◌, ◌^◌, ◌≤◌, Bool, List, drop, length, rules, ap, ◌∙◌, arith}
use Rattle.std.proofs.lemmas.List.{drop_at}
use Rattle.asn1_bits.specs.Bits.{bits, digits, ored}
use Rattle.asn1_bits.specs.Laws.ByteLaws.{bits-bytes}
use Rattle.asn1_bits.specs.Laws.DigitLaws.{length-bits, length-digits}
use Rattle.asn1_bits.specs.Laws.NumberLaws.{digits-append}
use Rattle.asn1_bits.specs.View.{View}
use Rattle.asn1_bits_and_numbers_tests.proofs.bits.places.CountedPlaces.place.Goals as goal

-- the last digits of a word are its lowest
lowest : (n width : ℕ) → width ≤ 64 → drop (64 - width) (digits n 64) ≡ digits n width
lowest n width le =
    let front = 64 - width in
    let e : 64 ≡ front + width = omega arith in
    ap (λ (k : ℕ). drop front (digits n k)) e
    ∙ ap (λ (l : List Bool). drop front l) (digits-append n front width)
    ∙ drop_at (digits (n / 2 ^ width) front) (digits n width) front (length-digits (n / 2 ^ width) front)

pub split_at-requires : goal.split_at-requires
split_at-requires c =
    let eight = ap (λ (l : List ℕ). length l) c.to_be_bytes-octets.ensures in
    omega (arith, eight, ap (λ (v : View). v.len) c.from_octets.ensures.view)

pub write_bitslice-requires-clause-room : goal.write_bitslice-requires-clause-room
write_bitslice-requires-clause-room c =
    let eight = ap (λ (l : List ℕ). length l) c.to_be_bytes-octets.ensures in
    let all = ap (λ (v : View). v.len) c.from_octets.ensures.view in
    let some = ap (λ (v : View). v.len) c.split_at.ensures.back in
    omega (arith, eight, all, some, length-bits c.args.self.now.octets, c.requires.width, c.requires.within)

pub write_bitslice-requires-clause-fits : goal.write_bitslice-requires-clause-fits
write_bitslice-requires-clause-fits c =
    let n : length c.args.self.now.octets ≡ 128 = search rules in
    let eight = ap (λ (l : List ℕ). length l) c.to_be_bytes-octets.ensures in
    let all = ap (λ (v : View). v.len) c.from_octets.ensures.view in
    let some = ap (λ (v : View). v.len) c.split_at.ensures.back in
    omega (arith, n, eight, all, some, length-bits c.args.self.now.octets, c.requires.width, c.requires.within)

pub returns-clause-list : goal.returns-clause-list
returns-clause-list c =
    let word = c.args.word in
    let width = c.args.width in
    c.write_bitslice.ensures.bits
    ∙ ap (λ (l : List Bool). ored (bits c.args.self.now.octets) c.args.position l)
    (
    c.split_at.ensures.back_list
    ∙ ap (λ (l : List Bool). drop (64 - width) l)
    (c.from_octets.ensures.list ∙ ap bits c.to_be_bytes-octets.ensures ∙ bits-bytes 8 word)
    ∙ lowest word width c.requires.width
    )
