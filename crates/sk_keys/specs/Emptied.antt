-- Actions that are answered with a count, whatever the moment.
use Rattle.std.specs.Prelude.{◌≡◌, ℕ, Ok}
use Rattle.sk_value.specs.declared.action.Action.{Action}
use Rattle.sk_value.specs.Answer.{counted}
use Rattle.sk_value.specs.Apply.{answers, applied}
use Rattle.sk_value.specs.Keys.{Keys}

-- The action is answered with this count, and these keys are left.
abbrev pub CountsTo : ℕ → Action → Keys → Keys → Type 0
CountsTo count action before after = (now : ℕ) → applied now action before ≡ answers (Ok (counted count)) after
