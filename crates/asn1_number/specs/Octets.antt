-- What a list of octets encodes (X.690 8.3.2 and 8.3.3), most significant octet first.
use Rattle.std.specs.Prelude.{◌≡◌, ℕ, ◌+◌, ◌*◌, ◌^◌, ◌<◌, ◌≤◌, ℤ, pos, ◌-ℤ◌, List, [], ◌∷◌, length, nat_lt, if◌then◌else◌}
use Rattle.std.specs.List.{AllByRecursion}

-- each of them is below 256
abbrev pub IsOctets : List ℕ → Type 0
IsOctets o = AllByRecursion (λ b. b < 256) o

-- their positional sum to base 256
unfoldable pub unsigned : List ℕ → ℕ
unsigned [] = 0
unsigned (b ∷ bs) = b * 256 ^ length bs + unsigned bs

-- two's complement: the same sum, less 256 ^ their count where the first octet is at least 128
unfoldable pub signed : List ℕ → ℤ
signed [] = pos 0
signed (b ∷ bs) =
    if nat_lt b 128
    then pos (unsigned (b ∷ bs))
    else pos (unsigned (b ∷ bs)) -ℤ pos (256 ^ length (b ∷ bs))

-- o is the two's complement contents of n: its value is n, and no shorter list has that value
pub record IsShortest (n : ℤ) (o : List ℕ) : Type 0 where
  pub octets : IsOctets o
  pub some : 0 < length o
  pub value : signed o ≡ n
  pub least :
      (other : List ℕ) → IsOctets other → 0 < length other → signed other ≡ n →
      length o ≤ length other

-- o encodes n as unsigned: its positional sum is n, and no shorter list has that sum
pub record IsShortestUnsigned (n : ℕ) (o : List ℕ) : Type 0 where
  pub octets : IsOctets o
  pub some : 0 < length o
  pub value : unsigned o ≡ n
  pub least :
      (other : List ℕ) → IsOctets other → 0 < length other → unsigned other ≡ n →
      length o ≤ length other
