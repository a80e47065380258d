-- Moments in seconds since 1970 (leap seconds are not counted), and the days of the Gregorian calendar from 2000 to 2099.
use Rattle.std.specs.Prelude.{◌≡◌, ℕ, zero, suc, ◌+◌, ◌-◌, ◌/◌, ◌≤◌, nat_lt, Bool, ◌&&◌, nat_le, if◌then◌else◌, pos, true}
use Rattle.jiff_core.specs.Calendar.{days_in_month}
use Rattle.soc_raw.specs.declared.day.Date.{Date}

-- the first second of 2000, and the last one of 2099
abbrev pub first_moment : ℕ
first_moment = 946_684_800

abbrev pub last_moment : ℕ
last_moment = 4_102_444_799

-- a moment of the years 2000 to 2099
abbrev pub IsMoment : ℕ → Type 0
IsMoment moment = (first_moment ≤ moment) × (moment ≤ last_moment)

abbrev pub seconds_of_a_day : ℕ
seconds_of_a_day = 86_400

-- the days between 1 January 1970 and 1 January 2000
abbrev pub days_to_2000 : ℕ
days_to_2000 = 10_957

-- the day that follows
abbrev pub next_day : Date → Date
next_day d =
    if nat_lt d.day (days_in_month (pos d.year) d.month) then record { year = d.year; month = d.month; day = d.day + 1 }
    else if nat_lt d.month 12 then record { year = d.year; month = d.month + 1; day = 1 }
    else record { year = d.year + 1; month = 1; day = 1 }

-- the day that lies so many days after 1 January 2000
unfoldable pub days_after_2000 : ℕ → Date
days_after_2000 zero = record { year = 2000; month = 1; day = 1 }
days_after_2000 (suc n) = next_day (days_after_2000 n)

-- the day of a moment
unfoldable pub day_of : ℕ → Date
day_of moment = days_after_2000 (moment / seconds_of_a_day - days_to_2000)

-- the calendar has this month and this day
abbrev pub is_civil : ℕ → ℕ → ℕ → Bool
is_civil year month day = nat_le 1 month && nat_le month 12 && nat_le 1 day && nat_le day (days_in_month (pos year) month)

-- a day of the years 2000 to 2099
pub record IsDay (d : Date) : Type 0 where
  pub year_low : 2000 ≤ d.year
  pub year_high : d.year ≤ 2099
  pub civil : is_civil d.year d.month d.day ≡ true
