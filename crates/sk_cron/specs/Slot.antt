-- The slots of a periodic job: the starts of minutes that match.
use Rattle.std.specs.Prelude.{◌≡◌, ◌≤◌, ◌+◌, ◌%◌, ℕ, ℤ, true, Option, Some, None}
use Rattle.sk_base.specs.declared.limits.TheConstants.{SLOT_LIFE}
use Rattle.sk_cron.specs.declared.civil.Civil.{Civil}
use Rattle.sk_cron.specs.Civil.{IsCivilAt}
use Rattle.sk_cron.specs.Times.{Times, matches}

-- the start of a matching minute, at most ten minutes ago; moments are milliseconds since 1970, and the clock is so many minutes ahead of UTC
pub record IsSlot (t : Times) (offset : ℤ) (now_ slot : ℕ) : Type 0 where
  pub start : slot % 60_000 ≡ 0
  pub past : slot ≤ now_
  pub recent : now_ ≤ slot + SLOT_LIFE
  pub civil : Civil
  pub at : IsCivilAt slot offset civil
  pub fits : matches t civil ≡ true

-- the latest one
abbrev pub IsLastSlot : Times → ℤ → ℕ → Option ℕ → Type 0
IsLastSlot t offset now_ None = (slot : ℕ) → IsSlot t offset now_ slot → ⊥
IsLastSlot t offset now_ (Some last) = IsSlot t offset now_ last × ((slot : ℕ) → IsSlot t offset now_ slot → slot ≤ last)
