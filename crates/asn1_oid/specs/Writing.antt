-- The octets of contents, computed. That they are the contents is ensured by `Oid::contents`.
use Rattle.std.specs.Prelude.{ℕ, zero, suc, ◌+◌, ◌-◌, ◌/◌, ◌%◌, ◌^◌, ◌<◌, ◌≤◌, ◌==◌, nat_lt, if◌then◌else◌, List, [], ◌∷◌, ◌++◌}
use Rattle.std.specs.List.{flat_map}

-- the last k octets of a subidentifier of n: seven binary digits each, and bit 8 in all but the
-- last
unfoldable pub last_octets : ℕ → ℕ → List ℕ
last_octets n zero = []
last_octets n (suc k) = ((if k == 0 then 0 else 128) + n / 128 ^ k % 128) ∷ last_octets n k

-- n has k digits to base 128; 0 has one
pub record HasDigits (n k : ℕ) : Type 0 where
  pub some : 1 ≤ k
  pub enough : n < 128 ^ k
  pub fewest : 1 < k → 128 ^ (k - 1) ≤ n

-- how many digits to base 128 n has, if it is at most `most`
abbrev pub digits_within : ℕ → ℕ → ℕ
digits_within zero n = 1
digits_within (suc most) n = if nat_lt n 128 then 1 else suc (digits_within most (n / 128))

unfoldable pub digit_count : ℕ → ℕ
digit_count n = digits_within n n

unfoldable pub subidentifier_octets : ℕ → List ℕ
subidentifier_octets n = last_octets n (digit_count n)

-- k octets of a subidentifier of n, and the subidentifiers of further arcs
unfoldable pub octets_left : ℕ → ℕ → List ℕ → List ℕ
octets_left n k arcs = last_octets n k ++ flat_map subidentifier_octets arcs

-- the lowest k octets of a word, the lowest first
unfoldable pub low_octets : ℕ → ℕ → List ℕ
low_octets word zero = []
low_octets word (suc k) = word % 256 ∷ low_octets (word / 256) k

-- k octets of a word, and the subidentifiers of further arcs
unfoldable pub word_left : ℕ → ℕ → List ℕ → List ℕ
word_left word k arcs = low_octets word k ++ flat_map subidentifier_octets arcs

-- then the lowest octets of a word after them
unfoldable pub both_left : ℕ → ℕ → List ℕ → ℕ → ℕ → List ℕ
both_left word k arcs back n = word_left word k arcs ++ low_octets back n
