use Rattle.std.proofs.Common.{◌≡◌, List, arith, get_or, subst}
use Rattle.std.proofs.lemmas.Grind.{common_steps}
use Rattle.sk_undo.specs.UndoView.{UndoView}
use Rattle.sk_batch.specs.States.{StateEntry}
use Rattle.sk_batch.proofs.Walks.{ancestors_climbed}
use Rattle.sk_batch.proofs.batch_list.BatchList.climb.Goals as goal

pub returns-clause-ancestors : goal.returns-clause-ancestors
returns-clause-ancestors c =
    let here = subst (λ (k : UndoView (List StateEntry)). c.get-entry.result.now ≡ get_or k.list.current c.args.at c.get-entry.result.now) c.self.view_is c.get-entry.ensures in
    ancestors_climbed c.args.self.now.list.current c.args.at c.match-entry.above c.get-entry.result.now c.requires here (grind (arith, common_steps))
