use Rattle.std.proofs.Common.{◌∙◌}
use Rattle.sk_base.proofs.Digits.{ends_in_zero, ends_in_none}
use Rattle.sk_base.proofs.score.+trimmed.Goals as goal

pub returns-then-last-ne48 : goal.returns-then-last-ne48
returns-then-last-ne48 t c = ends_in_none c.args.digits.now c.in-len1-up.len_at_least c.if-last-ne48.true

pub returns : goal.returns
returns t c = c.trimmed.ensures ∙ ends_in_zero c.args.digits.now c.in-len1-up.len_at_least c.if-last-ne48.false
