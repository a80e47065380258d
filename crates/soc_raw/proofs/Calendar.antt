-- The days after 1 January 2000 are jiff's days of the same numbers.
use Rattle.std.proofs.Common.{◌≡◌, ℕ, zero, suc, ◌+◌, ◌-◌, ◌/◌, ◌<◌, ◌≤◌, Bool, true, false, if◌then◌else◌, nat_lt, refl, sym, ◌∙◌, ap, subst, arith, ℤ, pos, ◌+ℤ◌, ◌*ℤ◌, unsigned_abs}
use Rattle.std.proofs.lemmas.Bool.Decides.{nat_tests}
use Rattle.std.specs.Int.{IsInRange}
use Rattle.jiff_core.specs.declared.civil.date.Date.{Date as JiffDate}
use Rattle.jiff_core.specs.Calendar.{days_in_month, days_from_civil, day_count, days_of_years, days_of_months}
use Rattle.jiff_core.specs.declared.civil.datetime.DateTime.{DateTime as JiffDateTime}
use Rattle.jiff_core.specs.Date.{epoch_day}
use Rattle.jiff_core.specs.DateTime.{civil_nanos}
use Rattle.jiff_core.proofs.SignedLemmas.{signed_arith}
use Rattle.jiff_core.proofs.CalendarLemmas.{days_in_month_bounds}
use Rattle.jiff_core.proofs.DateLemmas.{epoch_day_injective, days_from_civil-day, days_from_civil-next_month, days_from_civil-next_year}
use Rattle.jiff_core.proofs.DateTimeLemmas.{civil_nanos-parts, time_nanos_bound}
use Rattle.soc_raw.specs.declared.day.Date.{Date}
use Rattle.soc_raw.specs.Day.{next_day, days_after_2000, day_of, IsDay, IsMoment}

-- a day of these years, and its number
pub record Reached (d : Date) (n : ℕ) : Type 0 where
  pub low : 2000 ≤ d.year
  pub high : d.year ≤ 2099
  pub month : IsInRange 1 12 d.month
  pub day : IsInRange 1 (days_in_month (pos d.year) d.month) d.day
  pub number : days_from_civil (pos d.year) d.month d.day ≡ pos (10_957 + n)

begins : days_from_civil (pos 2000) 1 1 ≡ pos 10_957
unfolding days_from_civil day_count days_of_years days_of_months
begins = refl

ends : days_from_civil (pos 2100) 1 1 ≡ pos 47_482
unfolding days_from_civil day_count days_of_years days_of_months
ends = refl

choose : (P : Date → Type 0) (b : Bool) (x y : Date) → (b ≡ true → P x) → (b ≡ false → P y) → P (if b then x else y)
choose P true x y p q = p refl
choose P false x y p q = q refl

same_month : (d : Date) (n : ℕ) → Reached d n → d.day < days_in_month (pos d.year) d.month → Reached (record { year = d.year; month = d.month; day = d.day + 1 }) (n + 1)
same_month d n r inside =
    let moved = days_from_civil-day (pos d.year) d.month (d.day + 1) d.day (omega arith) r.day.0 in
    record {
      low = r.low;
      high = r.high;
      month = r.month;
      day = (omega arith, omega arith);
      number = (let at = r.number in omega (arith, signed_arith, moved, at));
    }

next_month : (d : Date) (n : ℕ) → Reached d n → days_in_month (pos d.year) d.month ≤ d.day → d.month < 12 → Reached (record { year = d.year; month = d.month + 1; day = 1 }) (n + 1)
next_month d n r last inside =
    let is_last : d.day ≡ days_in_month (pos d.year) d.month = (let top = r.day.1 in omega arith) in
    let moved = days_from_civil-next_month (pos d.year) d.month d.day r.month.0 is_last in
    let long = days_in_month_bounds (pos d.year) (d.month + 1) in
    record {
      low = r.low;
      high = r.high;
      month = (omega arith, omega arith);
      day = (omega arith, omega arith);
      number = (let at = r.number in omega (arith, signed_arith, moved, at));
    }

within : (year n : ℕ) → n + 1 ≤ 36_524 → days_from_civil (pos (year + 1)) 1 1 ≡ pos (10_957 + (n + 1)) → year ≤ 2099 → year + 1 ≤ 2099
within year n few number high =
    let not_past : ¬ (year + 1 ≡ 2100) = λ e.
    let clash : pos 47_482 ≡ pos (10_957 + (n + 1)) = sym ends ∙ ap (λ y. days_from_civil (pos y) 1 1) (sym e) ∙ number in
    omega (arith, signed_arith, clash) in
    omega (arith, not_past)

next_year : (d : Date) (n : ℕ) → n + 1 ≤ 36_524 → Reached d n → days_in_month (pos d.year) d.month ≤ d.day → 12 ≤ d.month → Reached (record { year = d.year + 1; month = 1; day = 1 }) (n + 1)
next_year d n few r last december =
    let is_12 : d.month ≡ 12 = (let top = r.month.1 in omega arith) in
    let long : d.day ≡ days_in_month (pos d.year) d.month = (let top = r.day.1 in omega arith) in
    let is_31 : d.day ≡ 31 = long ∙ ap (days_in_month (pos d.year)) is_12 in
    let at : days_from_civil (pos d.year) 12 31 ≡ pos (10_957 + n) =
    ap (λ m. days_from_civil (pos d.year) m 31) (sym is_12) ∙ ap (days_from_civil (pos d.year) d.month) (sym is_31) ∙ r.number in
    let moved = days_from_civil-next_year (pos d.year) (pos (d.year + 1)) (omega (arith, signed_arith)) (omega (arith, signed_arith)) in
    let number : days_from_civil (pos (d.year + 1)) 1 1 ≡ pos (10_957 + (n + 1)) = omega (arith, signed_arith, moved, at) in
    let first = days_in_month_bounds (pos (d.year + 1)) 1 in
    record {
      low = (let l = r.low in omega arith);
      high = within d.year n few number r.high;
      month = (omega arith, omega arith);
      day = (omega arith, omega arith);
      number = number;
    }

step : (d : Date) (n : ℕ) → n + 1 ≤ 36_524 → Reached d n → Reached (next_day d) (n + 1)
step d n few r =
    choose (λ e. Reached e (n + 1)) (nat_lt d.day (days_in_month (pos d.year) d.month)) _ _
    (λ lt. same_month d n r (grind (arith, nat_tests)))
    (λ ge. choose (λ e. Reached e (n + 1)) (nat_lt d.month 12) _ _
    (λ lt. next_month d n r (grind (arith, nat_tests)) (grind (arith, nat_tests)))
    (λ last. next_year d n few r (grind (arith, nat_tests)) (grind (arith, nat_tests))))

pub reached : (n : ℕ) → n ≤ 36_524 → Reached (days_after_2000 n) n
unfolding days_after_2000
reached zero few =
    record { low = omega arith; high = omega arith; month = (omega arith, omega arith); day = (omega arith, omega arith); number = begins }
reached (suc n) few =
    let more : Reached (next_day (days_after_2000 n)) (n + 1) = step (days_after_2000 n) n (omega arith) (reached n (omega arith)) in
    let P : ℕ → Type 0 = λ m. Reached (next_day (days_after_2000 n)) m in
    let e : n + 1 ≡ suc n = omega arith in
    subst P e more

as_jiff : (d : Date) (n : ℕ) → Reached d n → JiffDate
as_jiff d n r = record { year = pos d.year; month = d.month; day = d.day; year_in = (let h = r.high in (omega (arith, signed_arith), omega (arith, signed_arith))); month_in = r.month; day_in = r.day }

-- a day of jiff is the one that lies so many days after 1 January 2000
pub is_day_after : (e : JiffDate) (n : ℕ) → n ≤ 36_524 → epoch_day e ≡ pos (10_957 + n) → (e.year ≡ pos (days_after_2000 n).year) × (e.month ≡ (days_after_2000 n).month) × (e.day ≡ (days_after_2000 n).day)
unfolding as_jiff
is_day_after e n few number =
    epoch_day_injective e (as_jiff (days_after_2000 n) n (reached n few)) (number ∙ sym (reached n few).number)

pub real_day : (d : Date) (n : ℕ) → Reached d n → IsDay d
real_day d n r = record { year_low = r.low; year_high = r.high; civil = (let a = r.month in let b = r.day in grind (arith, nat_tests)) }

-- the days from 1 January 2000 to a moment
abbrev pub days_of : ℕ → ℕ
days_of moment = moment / 86_400 - 10_957

pub few_days : (moment : ℕ) → IsMoment moment → days_of moment ≤ 36_524
few_days moment h = omega arith

-- the day on which jiff has an instant
epoch_day_at : (at : JiffDateTime) (moment : ℕ) → civil_nanos at ≡ (pos moment *ℤ pos 1_000_000_000 +ℤ pos 0) → epoch_day at.date ≡ pos (moment / 86_400)
epoch_day_at at moment is = omega (arith, signed_arith, civil_nanos-parts at, time_nanos_bound at.time)

same_date : (a : Date) (year month day : ℕ) → year ≡ a.year → month ≡ a.month → day ≡ a.day → (let b : Date = record { year = year; month = month; day = day } in b) ≡ a
same_date a year month day y m d = rw (y, m, d) refl

-- jiff's date of an instant is the day of the moment
pub the_date : (at : JiffDateTime) (date : JiffDate) (moment year month day : ℕ) → IsMoment moment → civil_nanos at ≡ (pos moment *ℤ pos 1_000_000_000 +ℤ pos 0) → date ≡ at.date → year ≡ unsigned_abs date.year → month ≡ date.month → day ≡ date.day → (let b : Date = record { year = year; month = month; day = day } in b) ≡ day_of moment
unfolding day_of
the_date at date moment year month day h is same y m d =
    let number = ap epoch_day same ∙ epoch_day_at at moment is in
    let parts = is_day_after date (days_of moment) (few_days moment h) (let k : moment / 86_400 ≡ 10_957 + days_of moment = omega arith in omega (arith, signed_arith, number)) in
    same_date (days_after_2000 (days_of moment)) year month day (y ∙ ap unsigned_abs parts.0) (m ∙ parts.1) (d ∙ parts.2)

pub real_day_of : (moment : ℕ) → IsMoment moment → IsDay (day_of moment)
unfolding day_of
real_day_of moment h = real_day _ _ (reached (days_of moment) (few_days moment h))

pub real_date : (a b : Date) → a ≡ b → IsDay b → IsDay a
real_date a b e h = subst IsDay (sym e) h

-- a day's month and number have two digits at most
pub two_digits_do : (d : Date) → IsDay d → (d.month < 100) × (d.day < 100)
two_digits_do d h =
    let civil = h.civil in
    let long = days_in_month_bounds (pos d.year) d.month in
    grind (arith, nat_tests)
