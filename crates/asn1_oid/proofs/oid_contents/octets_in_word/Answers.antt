use Rattle.std.proofs.Common.{◌≡◌, ℕ, ◌+◌, ◌*◌, ◌/◌, ◌%◌, refl}
use Rattle.asn1_oid.specs.Writing.{low_octets, last_octets}
use Rattle.asn1_oid.proofs.WritingLemmas.{one_in_word, more_in_word}
use Rattle.asn1_oid.proofs.oid_contents.octets_in_word.Goals as goal

-- one octet more, up to five
two_in_word : (n : ℕ) → low_octets (256 * (n % 128) + 128 + n / 128 % 128) 2 ≡ last_octets n 2
two_in_word n = more_in_word n (n % 128) (n / 128 % 128) 0 (one_in_word n) refl

three_in_word : (n : ℕ)
    → low_octets (256 * (256 * (n % 128) + 128 + n / 128 % 128) + 128 + n / 16384 % 128) 3 ≡ last_octets n 3
three_in_word n = more_in_word n (256 * (n % 128) + 128 + n / 128 % 128) (n / 16384 % 128) 1 (two_in_word n) refl

four_in_word : (n : ℕ)
    → low_octets (256 * (256 * (256 * (n % 128) + 128 + n / 128 % 128) + 128 + n / 16384 % 128) + 128
    + n / 2097152 % 128) 4 ≡ last_octets n 4
four_in_word n =
    more_in_word n (256 * (256 * (n % 128) + 128 + n / 128 % 128) + 128 + n / 16384 % 128) (n / 2097152 % 128) 2
    (three_in_word n) refl

pub returns-then-number-clause-octets : goal.returns-then-number-clause-octets
returns-then-number-clause-octets c = one_in_word c.args.number

pub returns-then-number-2-clause-octets : goal.returns-then-number-2-clause-octets
returns-then-number-2-clause-octets c = two_in_word c.args.number

pub returns-then-number-3-clause-octets : goal.returns-then-number-3-clause-octets
returns-then-number-3-clause-octets c = three_in_word c.args.number

pub returns-then-number-4-clause-octets : goal.returns-then-number-4-clause-octets
returns-then-number-4-clause-octets c = four_in_word c.args.number

pub returns-clause-octets : goal.returns-clause-octets
returns-clause-octets c =
    let n = c.args.number in
    more_in_word n
    (256 * (256 * (256 * (n % 128) + 128 + n / 128 % 128) + 128 + n / 16384 % 128) + 128 + n / 2097152 % 128)
    (n / 268435456 % 128) 3 (four_in_word n) refl
