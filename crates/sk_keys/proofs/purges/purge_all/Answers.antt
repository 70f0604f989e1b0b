use Rattle.std.proofs.Common.{◌∙◌, sym}
use Rattle.sk_keys.proofs.purges.purge_all.Goals as goal

pub returns-clause-keys : goal.returns-clause-keys
returns-clause-keys c = sym (c.purge_first.ensures.clean c.loop-test.false) ∙ c.purge_first.ensures.keys ∙ c.loop.invariant.0
