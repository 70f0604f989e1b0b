use Rattle.std.proofs.Common.{◌≡◌, ◌≤◌, true}
use Rattle.std.specs.Vec.Iter.{into_iter_items, into_iter_len}
use Rattle.sk_batch.specs.Order.{is_ordered, put_all}
use Rattle.sk_batch.proofs.edits.add_members.Given as goal

abbrev pub invariant-loop-new : goal.invariant-loop-new
invariant-loop-new l = record {
  put : put_all (into_iter_items l.new-iterator) l.members.list.current ≡ put_all l.fn.news.items l.initial.members.list.current;
  saved : l.members.list.saved ≡ l.initial.members.list.saved;
  ordered : is_ordered l.members.list.current ≡ true;
  room : into_iter_len l.new-iterator ≤ l.members.room;
}
