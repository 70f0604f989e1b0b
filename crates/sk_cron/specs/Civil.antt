-- The civil minute at a moment.
use Rattle.std.specs.Prelude.{◌≡◌, ℕ, ◌+◌, ◌%◌, ℤ, pos, ◌+ℤ◌, ◌*ℤ◌}
use Rattle.jiff_core.specs.declared.civil.datetime.DateTime.{DateTime}
use Rattle.jiff.specs.Words.{civil_nanos, weekday_of}
use Rattle.sk_cron.specs.declared.civil.Civil.{Civil}

-- A clock that is so many minutes ahead of UTC shows these fields at the moment, in milliseconds since 1970. Weekdays count from Sunday on.
pub record IsCivilAt (moment : ℕ) (offset : ℤ) (c : Civil) : Type 0 where
  pub shown : DateTime
  pub at : civil_nanos shown ≡ (pos moment +ℤ offset *ℤ pos 60_000) *ℤ pos 1_000_000
  pub minute : c.minute ≡ shown.time.minute
  pub hour : c.hour ≡ shown.time.hour
  pub day : c.day ≡ shown.date.day
  pub month : c.month ≡ shown.date.month
  pub weekday : c.weekday ≡ (weekday_of shown.date + 1) % 7
