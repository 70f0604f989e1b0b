use Rattle.std.proofs.Common.{Ok}
use Rattle.sk_iter.specs.Transcript.{reach}
use Rattle.sk_iter.proofs.Calling.{without_cursor}
use Rattle.sk_iter.proofs.iteration.iterate_any.Goals as goal

pub returns-in-Ok-clause-told : goal.returns-in-Ok-clause-told
returns-in-Ok-clause-told g c = without_cursor _ _ _ _ _ (Ok c.in-Ok.iteration) c.in-Ok.ensures.told
