-- The date of a moment, in UTC.
use Rattle.std.specs.Prelude.{ℕ, zero, suc, ◌+◌, ◌-◌, ◌/◌, pos, codes, ◌++◌, nat_lt, cond}
use Rattle.jiff_core.specs.Calendar.{days_in_year, days_in_month}
use Rattle.jiff_fmt.specs.Text.{year_text, pad2}
use Rattle.sk_resp.specs.Spelling.{Bytes}

-- Years, and then months, are passed over while as many days are left as they have. There are at most so many.

-- the year in which a day falls, and its place in the year, from 0, of a day that is counted from the first one of a year
unfoldable pub year_from : ℕ → ℕ → ℕ → ℕ × ℕ
year_from zero year day = (year, day)
year_from (suc most) year day = cond (nat_lt day (days_in_year (pos year))) (year, day) (year_from most (year + 1) (day - days_in_year (pos year)))

-- and the month in which a day falls, of a day that is counted from the first one of a month
unfoldable pub month_from : ℕ → ℕ → ℕ → ℕ → ℕ × ℕ
month_from zero year month day = (month, day)
month_from (suc most) year month day = cond (nat_lt day (days_in_month (pos year) month)) (month, day) (month_from most year (month + 1) (day - days_in_month (pos year) month))

-- milliseconds of a day
abbrev pub day_millis : ℕ
day_millis = 86400000

-- the first year, and the years up to the last moment
abbrev pub first_year : ℕ
first_year = 1970

abbrev pub most_years : ℕ
most_years = 8034

pub record Date : Type 0 where
  pub year : ℕ
  pub month : ℕ
  pub day : ℕ

abbrev pub date_from : ℕ × ℕ → ℕ × ℕ → Date
date_from year month = record { year = year.0; month = month.0; day = month.1 + 1 }

abbrev pub date_in : ℕ × ℕ → Date
date_in year = date_from year (month_from 11 year.0 1 year.1)

unfoldable pub date_of : ℕ → Date
date_of moment = date_in (year_from most_years first_year (moment / day_millis))

-- `2023-11-14`
abbrev pub text_of : Date → Bytes
text_of date = year_text (pos date.year) ++ codes "-" ++ pad2 date.month ++ codes "-" ++ pad2 date.day
