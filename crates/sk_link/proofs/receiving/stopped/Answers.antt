use Rattle.std.proofs.Common.{sym, ◌∙◌}
use Rattle.sk_link.proofs.receiving.stopped.Goals as goal

pub returns-in-Unreadable : goal.returns-in-Unreadable
returns-in-Unreadable c = c.unreadable.ensures.stuck (c.requires (λ e. cc (sym c.in-Unreadable.is ∙ e)))
