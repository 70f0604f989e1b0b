use Rattle.std.proofs.Common.{◌∙◌, None, ap}
use Rattle.sk_undo.specs.Versions.{Versions}
use Rattle.sk_batch.specs.Batched.{Batched}
use Rattle.sk_batch.specs.Faults.{jids_fault}
use Rattle.sk_batch.specs.States.{seen_of}
use Rattle.sk_batch.proofs.batches.Batches.check_jids.Goals as goal

pub returns : goal.returns
returns c = c.check_jids.ensures (seen_of c.self.inside.batches.list.current) ∙ ap (λ (v : Versions Batched). jids_fault c.args.bid.now c.args.jids.now v.current None) c.self.view_is
