-- The options of a subcommand while they are put together.
use Rattle.std.specs.Prelude.{◌≡◌, IfOk, Result}
use Rattle.std.specs.declared.alloc.AllocError.{AllocError}
use Rattle.clap.specs.Words.{App, Rule, app_of, with_rule}
use Rattle.clap.specs.declared.builder.command.Command.{Command}

-- The new options are the old ones with one more, of this rule, where there was memory.
abbrev pub Adds : Rule → Result Command AllocError → Result Command AllocError → Type 0
Adds rule old new = (app : App) → IfOk old (λ c. app_of c ≡ app) → IfOk new (λ c. app_of c ≡ with_rule app rule)
