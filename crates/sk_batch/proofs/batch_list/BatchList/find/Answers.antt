use Rattle.std.proofs.Common.{◌∙◌, List, ap, arith}
use Rattle.std.specs.List.{position_or_len}
use Rattle.sk_undo.specs.UndoView.{UndoView}
use Rattle.sk_batch.specs.Batched.{has_bid}
use Rattle.sk_batch.specs.States.{StateEntry}
use Rattle.sk_batch.proofs.Listed.{listed_there, listed_nowhere}
use Rattle.sk_batch.proofs.batch_list.BatchList.find.Goals as goal

pub overflow_sub-result-in-Some : goal.overflow_sub-result-in-Some
overflow_sub-result-in-Some c = let e = listed_there c.self.inside.entries.list c.self.inside.older.list c.self.invariant c.args.bid.now c.in-Some.older.now c.in-Some.ensures in omega (arith, e, c.len-len.ensures.is)

pub returns-in-Some-clause-is : goal.returns-in-Some-clause-is
returns-in-Some-clause-is c = let e = listed_there c.self.inside.entries.list c.self.inside.older.list c.self.invariant c.args.bid.now c.in-Some.older.now c.in-Some.ensures in omega (arith, e, c.len-len.ensures.is, ap (λ (k : UndoView (List StateEntry)). position_or_len (has_bid c.args.bid.now) k.list.current) c.self.view_is)

pub returns-in-None-clause-is : goal.returns-in-None-clause-is
returns-in-None-clause-is c = c.len-len.ensures.is ∙ listed_nowhere c.self.inside.entries.list c.self.inside.older.list c.self.invariant c.args.bid.now c.in-None.ensures ∙ ap (λ (k : UndoView (List StateEntry)). position_or_len (has_bid c.args.bid.now) k.list.current) c.self.view_is
