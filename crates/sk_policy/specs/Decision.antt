-- What becomes of a job whose run failed (Sidekiq's wiki, "Error Handling").
use Rattle.std.specs.Prelude.{ℕ, pos, ◌+◌, ◌*◌, ◌^◌, ◌==◌, min, Bool, nat_lt, nat_le, unwrap_or, if◌then◌else◌}
use Rattle.std.specs.Option.{option_map_or}
use Rattle.sk_base.specs.Score.{last_moment}
use Rattle.sk_base.specs.declared.limits.TheConstants.{DEFAULT_RETRIES, LONGEST_DELAY}
use Rattle.sk_payload.specs.declared.head.Head.{Head}
use Rattle.sk_payload.specs.declared.head.Retry.{Retry}
use Rattle.sk_payload.specs.declared.head.Retry.TheVariants.{Default, Count, Never}
use Rattle.sk_policy.specs.declared.decision.Decision.{Decision}
use Rattle.sk_policy.specs.declared.decision.Decision.TheVariants as fate

-- When it is tried again, in millionths: the moment, and the delay with its jitter, of at most 10^9 seconds.
abbrev pub retry_score : ℕ → ℕ → ℕ → ℕ → ℕ
retry_score now jitter delay count = min now last_moment * 1000 + min LONGEST_DELAY (delay + jitter * (count + 1)) * 10 ^ 6

-- The first failure of a job that fails now. Where its text doesn't tell, it is now at the first run, and else counts from when the job was made.
abbrev pub first_failure : Head → ℕ → ℕ
first_failure h now = unwrap_or h.first_failed (if h.gen_ == 0 then now else h.created)

-- The job has no retry left: its time for them is over, or where it has none, it failed so often before.
abbrev pub is_exhausted : Head → ℕ → ℕ → Bool
is_exhausted h most now = option_map_or (λ seconds. nat_lt (first_failure h now + 1000 * seconds) now) h.retry_for (nat_le most h.gen_)

-- of a job that is tried again at most so often
abbrev pub decision_within : ℕ → Head → ℕ → ℕ → ℕ → Decision
decision_within most h now jitter delay =
    if is_exhausted h most now then (if h.dead then fate.Bury else fate.Discard) else fate.Retry (pos (retry_score now jitter delay h.gen_))

abbrev pub decision_by : Retry → Head → ℕ → ℕ → ℕ → Decision
decision_by Never h now jitter delay = fate.Discard
decision_by Default h now jitter delay = decision_within DEFAULT_RETRIES h now jitter delay
decision_by (Count most) h now jitter delay = decision_within most h now jitter delay

abbrev pub decision : Head → ℕ → ℕ → ℕ → Decision
decision h now jitter delay = decision_by h.retry h now jitter delay
