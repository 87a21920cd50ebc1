-- Times in the form that canonical encodings have, by the numbers of their characters: UTCTime (X.680 47, X.690 11.8) and
-- GeneralizedTime (X.680 46, X.690 11.7).
use Rattle.std.specs.Prelude.{◌≡◌, ◌≢◌, ℕ, ◌+◌, ◌-◌, ◌*◌, ◌%◌, ◌<◌, ◌≤◌, ◌⊎◌, ◌==◌, ◌&&◌, ◌||◌, not, nat_lt, if◌then◌else◌, Bool, List, length, slice_index}
use Rattle.asn1_schema.specs.declared.tables.TimeKind.{TimeKind}
use Rattle.asn1_schema.specs.declared.tables.TimeKind.TheVariants.{Utc, Generalized}

-- ---- days of the Gregorian calendar, and times of day

-- a year with a 29 February
abbrev pub is_leap : ℕ → Bool
is_leap year = (year % 4 == 0) && (not (year % 100 == 0) || (year % 400 == 0))

-- a month of thirty days
abbrev pub is_short : ℕ → Bool
is_short month = (month == 4) || ((month == 6) || ((month == 9) || (month == 11)))

abbrev pub days_of : ℕ → ℕ → ℕ
days_of year month = if month == 2 then (if is_leap year then 29 else 28) else (if is_short month then 30 else 31)

-- there is such a day, and such a time of day
pub record IsMoment (year month day hour minute second : ℕ) : Type 0 where
  pub month_from : 1 ≤ month
  pub month_to : month ≤ 12
  pub day_from : 1 ≤ day
  pub day_to : day ≤ days_of year month
  pub hour_to : hour < 24
  pub minute_to : minute < 60
  pub second_to : second < 60

-- ---- digits

abbrev pub IsDigit : ℕ → Type 0
IsDigit c = (48 ≤ c) × (c ≤ 57)

-- the characters from an index on are digits, up to another index
abbrev pub AreDigits : List ℕ → ℕ → ℕ → Type 0
AreDigits text from to = (i : ℕ) → from ≤ i → i < to → IsDigit (slice_index text i)

-- the number of the two digits at an index
abbrev pub pair_at : List ℕ → ℕ → ℕ
pair_at text i = 10 * (slice_index text i - 48) + (slice_index text (i + 1) - 48)

-- MMDDhhmmss, from an index on
abbrev pub IsMomentAt : List ℕ → ℕ → ℕ → Type 0
IsMomentAt text year i =
    IsMoment year (pair_at text i) (pair_at text (i + 2)) (pair_at text (i + 4)) (pair_at text (i + 6)) (pair_at text (i + 8))

-- ---- UTCTime: YYMMDDhhmmssZ (11.8)

-- the years are 1950 to 2049 (RFC 5280 4.1.2.5.1)
abbrev pub year_of : ℕ → ℕ
year_of n = if nat_lt n 50 then 2000 + n else 1900 + n

pub record IsUtcTime (text : List ℕ) : Type 0 where
  pub size : length text ≡ 13
  pub digits : AreDigits text 0 12
  pub moment : IsMomentAt text (year_of (pair_at text 0)) 2
  pub zone : slice_index text 12 ≡ 90

-- ---- GeneralizedTime: YYYYMMDDhhmmssZ, or with a fraction of a second YYYYMMDDhhmmss.fZ, where the last digit of f is not 0 (11.7)

pub record HasFraction (text : List ℕ) : Type 0 where
  pub size : 17 ≤ length text
  pub stop : slice_index text 14 ≡ 46
  pub digits : AreDigits text 15 (length text - 1)
  pub minimal : slice_index text (length text - 2) ≢ 48

pub record IsGeneralizedTime (text : List ℕ) : Type 0 where
  pub fraction : (length text ≡ 15) ⊎ HasFraction text
  pub digits : AreDigits text 0 14
  pub moment : IsMomentAt text (100 * pair_at text 0 + pair_at text 2) 4
  pub zone : slice_index text (length text - 1) ≡ 90

-- ---- both

abbrev pub IsTime : TimeKind → List ℕ → Type 0
IsTime Utc = IsUtcTime
IsTime Generalized = IsGeneralizedTime
