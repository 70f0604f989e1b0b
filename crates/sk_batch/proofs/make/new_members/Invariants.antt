use Rattle.std.proofs.Common.{◌≡◌, ◌++◌}
use Rattle.std.specs.Vec.Iter.{into_iter_items}
use Rattle.sk_batch.specs.Events.{members_of}
use Rattle.sk_batch.proofs.make.new_members.Given as goal

abbrev pub invariant-loop-jid : goal.invariant-loop-jid
invariant-loop-jid l = l.news.items ++ members_of l.bid (into_iter_items l.jid-iterator) ≡ members_of l.bid l.fn.jids.items
