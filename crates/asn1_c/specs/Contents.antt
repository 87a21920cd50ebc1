-- Times that contents octets of DER are, as C receives them.
use Rattle.std.specs.Prelude.{◌≡◌, ℕ, List, ◌+◌, ◌*◌, length}
use Rattle.asn1_schema.specs.Times.{pair_at, year_of, IsUtcTime, IsGeneralizedTime}
use Rattle.asn1_c.specs.declared.contents.Time.{Time}

-- C receives a year, and the month, the day and the time of day of the digits from an index on
pub record IsMomentOf (octets : List ℕ) (y i : ℕ) (t : Time) : Type 0 where
  pub year : t.year ≡ y
  pub month : t.month ≡ pair_at octets i
  pub day : t.day ≡ pair_at octets (i + 2)
  pub hour : t.hour ≡ pair_at octets (i + 4)
  pub minute : t.minute ≡ pair_at octets (i + 6)
  pub second : t.second ≡ pair_at octets (i + 8)

-- the octets are a UTCTime, and C receives its moment in the years 1950 to 2049
pub record IsUtcTimeOf (octets : List ℕ) (t : Time) : Type 0 where
  pub valid : IsUtcTime octets
  pub moment : IsMomentOf octets (year_of (pair_at octets 0)) 2 t

-- the octets are a GeneralizedTime without a fraction of a second
abbrev pub IsWholeTime : List ℕ → Type 0
IsWholeTime octets = (length octets ≡ 15) × IsGeneralizedTime octets

-- they are, and C receives its moment
pub record IsGeneralizedTimeOf (octets : List ℕ) (t : Time) : Type 0 where
  pub valid : IsWholeTime octets
  pub moment : IsMomentOf octets (100 * pair_at octets 0 + pair_at octets 2) 4 t
