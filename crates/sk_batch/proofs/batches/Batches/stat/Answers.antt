use Rattle.std.proofs.Common.{ap, ◌∙◌}
use Rattle.sk_batch.specs.Batched.{Batched}
use Rattle.sk_batch.specs.Stat.{stat}
use Rattle.sk_undo.specs.Versions.{Versions}
use Rattle.sk_batch.proofs.batches.Batches.stat.Goals as goal

pub returns-clause-is : goal.returns-clause-is
returns-clause-is c = c.stat.ensures.is ∙ ap (λ (v : Versions Batched). stat c.args.bid.now v.current) c.self.view_is
