use Rattle.std.proofs.Common.{sym, ◌∙◌}
use Rattle.sk_payload.proofs.Openings.{no_head}
use Rattle.sk_payload.proofs.read.read_head.Goals as goal

pub returns-then-not-opens_object : goal.returns-then-not-opens_object
returns-then-not-opens_object c = sym (no_head c.args.text.now (sym c.opens_object.ensures ∙ c.if-not-opens_object.true))
