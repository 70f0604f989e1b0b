use Rattle.std.proofs.Common.{◌∙◌}
use Rattle.sk_line.proofs.Reading.{refused, rows_read, taken}
use Rattle.sk_line.proofs.matches.matches_of.Goals as goal

pub returns-in-Ok-clause-taken : goal.returns-in-Ok-clause-taken
returns-in-Ok-clause-taken c = taken _ _ c.requires c.in-Ok.ensures.kinds

pub returns-in-Ok-clause-values : goal.returns-in-Ok-clause-values
returns-in-Ok-clause-values c = rows_read _ _ _ c.requires c.in-Ok.ensures.matches

pub returns-clause-refused : goal.returns-clause-refused
returns-clause-refused c = λ e. refused _ _ c.in-Err.error c.requires (λ m. c.in_default.not-OutOfMemory (c.kind.ensures ∙ m)) c.in-Err.ensures.kinds
