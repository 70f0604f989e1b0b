-- Dates, computed from the definitions.
use Rattle.std.proofs.Common.{◌≡◌, ◌≤◌, ◌<◌, ℕ, zero, suc, ◌+◌, ◌-◌, ◌*◌, refl, sym, ap, ◌∙◌, ◌++◌, arith, Bool, true, false, cond}
use Rattle.std.specs.Prelude.{codes, pos, nat_lt, ◌-ℤ◌, ◌/◌}
use Rattle.std.proofs.lemmas.Bool.Decides.{nat_tests}
use Rattle.jiff_core.specs.Calendar.{days_in_year, days_in_month, days_of_years, days_of_months, days_from_civil, day_count}
use Rattle.jiff_core.specs.declared.civil.date.Date.{Date as CivilDate}
use Rattle.jiff_core.specs.Date.{epoch_day}
use Rattle.jiff_core.proofs.DateLemmas.{epoch_day_injective}
use Rattle.jiff_core.proofs.SignedLemmas.{signed_arith}
use Rattle.jiff_fmt.specs.Text.{date_text, year_text, pad2}
use Rattle.jiff_core.proofs.MarchLemmas.{leap_day, leap_day-shift, days_in_year-leap_day, days_of_years-suc, days_of_years-march_days}
use Rattle.jiff_core.proofs.CalendarLemmas.{day_count-epoch, days_of_months-zero, days_in_year_bounds, days_of_months_all, days_of_months_more}
use Rattle.sk_base.specs.Score.{last_moment}
use Rattle.sk_counters.specs.Date.{date_in, date_of, text_of, year_from, month_from, day_millis, first_year, most_years}

first_day : text_of (date_of 0) ≡ codes "1970-01-01"
unfolding date_of year_from month_from
first_day = refl

that_day : text_of (date_of 1700000000000) ≡ codes "2023-11-14"
unfolding date_of year_from month_from
that_day = refl

leap_days : (text_of (date_of 951782400000) ≡ codes "2000-02-29") × (text_of (date_of 951868799999) ≡ codes "2000-02-29") × (text_of (date_of 951868800000) ≡ codes "2000-03-01") × (text_of (date_of 4107542400000) ≡ codes "2100-03-01")
unfolding date_of year_from month_from
leap_days = (refl, refl, refl, refl)

-- ## The date is the calendar's

-- the days of all years before this one
abbrev pub days_before : ℕ → ℕ
days_before year = days_of_years (year + 10000)

days_before-next : (year : ℕ) → days_before (year + 1) ≡ days_before year + days_in_year (pos year)
days_before-next year =
    let next : year + 1 + 10000 ≡ suc (year + 10000) = omega arith in
    let same : leap_day (pos year) ≡ leap_day (pos (year + 10000)) = leap_day-shift (pos year) (year + 10000) refl in
    ap days_of_years next ∙ omega (arith, days_of_years-suc (year + 10000), same, days_in_year-leap_day (pos year))

-- what holds of both ways
either : {A : Type 0} (P : A → Type 0) (b : Bool) (one other : A) → (b ≡ true → P one) → (b ≡ false → P other) → P (cond b one other)
either P true one other f g = f refl
either P false one other f g = g refl

fits : (day days : ℕ) → nat_lt day days ≡ true → day < days
fits day days e = grind (arith, nat_tests)

passes : (day days : ℕ) → nat_lt day days ≡ false → days ≤ day
passes day days e = grind (arith, nat_tests)

year_sum : (most year day : ℕ) → days_before (year_from most year day).0 + (year_from most year day).1 ≡ days_before year + day
unfolding year_from
year_sum zero year day = refl
year_sum (suc most) year day = let days : ℕ = days_in_year (pos year) in
    either (λ (r : ℕ × ℕ). days_before r.0 + r.1 ≡ days_before year + day) (nat_lt day days) (year, day) (year_from most (year + 1) (day - days)) (λ y. refl)
    (λ n. omega (arith, passes day days n, days_before-next year, year_sum most (year + 1) (day - days)))

-- the day falls in the year, where there are years enough
year_fits : (most year day : ℕ) → day < 365 * suc most → (year_from most year day).1 < days_in_year (pos (year_from most year day).0)
unfolding year_from
year_fits zero year day few = omega (arith, few, days_in_year_bounds (pos year))
year_fits (suc most) year day few = let days : ℕ = days_in_year (pos year) in
    either (λ (r : ℕ × ℕ). r.1 < days_in_year (pos r.0)) (nat_lt day days) (year, day) (year_from most (year + 1) (day - days)) (λ y. fits day days y)
    (λ n. year_fits most (year + 1) (day - days) (omega (arith, few, passes day days n, days_in_year_bounds (pos year))))

year_least : (most year day : ℕ) → (year ≤ (year_from most year day).0) × ((year_from most year day).0 ≤ year + most)
unfolding year_from
year_least zero year day = (omega arith, omega arith)
year_least (suc most) year day = let days : ℕ = days_in_year (pos year) in
    either (λ (r : ℕ × ℕ). (year ≤ r.0) × (r.0 ≤ year + suc most)) (nat_lt day days) (year, day) (year_from most (year + 1) (day - days)) (λ y. (omega arith, omega arith))
    (λ n. let more = year_least most (year + 1) (day - days) in (omega (arith, more.0), omega (arith, more.1)))

month_sum : (most year month day : ℕ) → 1 ≤ month → let r : ℕ × ℕ = month_from most year month day in (days_of_months (pos year) (r.0 - 1) + r.1 ≡ days_of_months (pos year) (month - 1) + day) × (month ≤ r.0) × (r.0 ≤ month + most)
unfolding month_from
month_sum zero year month day some = (refl, omega arith, omega arith)
month_sum (suc most) year month day some = let days : ℕ = days_in_month (pos year) month in
    either (λ (r : ℕ × ℕ). (days_of_months (pos year) (r.0 - 1) + r.1 ≡ days_of_months (pos year) (month - 1) + day) × (month ≤ r.0) × (r.0 ≤ month + suc most)) (nat_lt day days) (month, day) (month_from most year (month + 1) (day - days))
    (λ y. (refl, omega arith, omega arith))
    (λ n. let more = month_sum most year (month + 1) (day - days) (omega arith) in
    let back : month + 1 - 1 ≡ month = omega arith in
    (omega (arith, more.0, ap (days_of_months (pos year)) back, passes day days n, days_of_months_more (pos year) month some), omega (arith, more.1), omega (arith, more.2)))

-- and in the month, where there are months enough
month_fits : (most year month day : ℕ) → 1 ≤ month → days_of_months (pos year) (month - 1) + day < days_of_months (pos year) (month + most) → (month_from most year month day).1 < days_in_month (pos year) (month_from most year month day).0
unfolding month_from
month_fits zero year month day some few = let same : month + 0 ≡ month = omega arith in omega (arith, few, ap (days_of_months (pos year)) same, days_of_months_more (pos year) month some)
month_fits (suc most) year month day some few = let days : ℕ = days_in_month (pos year) month in
    either (λ (r : ℕ × ℕ). r.1 < days_in_month (pos year) r.0) (nat_lt day days) (month, day) (month_from most year (month + 1) (day - days)) (λ y. fits day days y)
    (λ n. let back : month + 1 - 1 ≡ month = omega arith in
    let on : month + 1 + most ≡ month + suc most = omega arith in
    month_fits most year (month + 1) (day - days) (omega arith)
    (omega (arith, few, ap (days_of_months (pos year)) back, ap (days_of_months (pos year)) on, passes day days n, days_of_months_more (pos year) month some)))

-- the first day of 1970, and that of 10000
days_before-first : days_before 1970 ≡ 4371953
unfolding day_count
days_before-first = omega (arith, day_count-epoch, days_of_months-zero (pos 1970))

days_before-last : days_before 10000 ≡ 7304850
days_before-last = omega (arith, days_of_years-march_days 20000)

days_since : (year month day : ℕ) → 1 ≤ month → days_from_civil (pos year) month (day + 1) ≡ pos (days_before year + (days_of_months (pos year) (month - 1) + day)) -ℤ pos 4371953
unfolding days_from_civil day_count
days_since year month day some = rw day_count-epoch (omega (arith, signed_arith))

module _ (n : ℕ) (few : n < 365 * suc most_years) where
  year : ℕ × ℕ
  year = year_from most_years first_year n

  month : ℕ × ℕ
  month = month_from 11 year.0 1 year.1

  year_is : (days_before year.0 + year.1 ≡ 4371953 + n) × (first_year ≤ year.0) × (year.1 < days_in_year (pos year.0))
  unfolding year
  year_is = (omega (arith, year_sum most_years first_year n, days_before-first), (year_least most_years first_year n).0, year_fits most_years first_year n few)

  year_low : year.0 < 10000
  unfolding year
  year_low = omega (
    arith,
    year_is.0,
    (year_least most_years first_year n).1,
    few,
    days_of_years-march_days (year.0 + 10000),
    days_in_year-leap_day (pos (year.0 + 10000)),
    days_in_year_bounds (pos (year.0 + 10000)),
  )

  month_is : (days_of_months (pos year.0) (month.0 - 1) + month.1 ≡ year.1) × (1 ≤ month.0) × (month.0 ≤ 12) × (month.1 < days_in_month (pos year.0) month.0)
  unfolding month
  month_is =
      let sum = month_sum 11 year.0 1 year.1 (omega arith) in
      let none = days_of_months-zero (pos year.0) in (
        omega (arith, sum.0, none),
        omega (arith, sum.1),
        omega (arith, sum.2),
        month_fits 11 year.0 1 year.1 (omega arith) (omega (arith, none, days_of_months_all (pos year.0), year_is.2)),
      )

  own : CivilDate
  own = record {
    year = pos year.0;
    month = month.0;
    day = month.1 + 1;
    year_in = (omega (arith, signed_arith), omega (arith, signed_arith, year_low));
    month_in = (month_is.1, month_is.2);
    day_in = (omega arith, omega (arith, month_is.3));
  }

  own_day : epoch_day own ≡ pos n
  unfolding own
  own_day = days_since year.0 month.0 month.1 month_is.1 ∙ omega (arith, signed_arith, year_is.0, month_is.0)

  -- A date that the calendar has for the same day is this one.
  date_text_is : (d : CivilDate) → epoch_day d ≡ pos n → text_of (date_in (year_from most_years first_year n)) ≡ date_text d
  unfolding own month year
  date_text_is d e =
      let same = epoch_day_injective own d (own_day ∙ sym e) in
      ap (λ y. year_text y ++ codes "-" ++ pad2 month.0 ++ codes "-" ++ pad2 (month.1 + 1)) same.0
      ∙ ap (λ m. year_text d.year ++ codes "-" ++ pad2 m ++ codes "-" ++ pad2 (month.1 + 1)) same.1
      ∙ ap (λ day. year_text d.year ++ codes "-" ++ pad2 d.month ++ codes "-" ++ pad2 day) same.2

-- The date of a moment is that of the calendar's day.
pub date_is : (moment : ℕ) (d : CivilDate) → moment ≤ last_moment → epoch_day d ≡ pos (moment / day_millis) → text_of (date_of moment) ≡ date_text d
unfolding date_of
date_is moment d low e = date_text_is (moment / day_millis) (omega (arith, low)) d e
