use Rattle.std.proofs.Common.{◌≡◌, ◌+◌, ◌≤◌, vec_len}
use Rattle.std.specs.Vec.Iter.{into_iter_items, into_iter_len}
use Rattle.sk_model.specs.Change.{perform}
use Rattle.sk_model.specs.Deletes.{delete_each}
use Rattle.sk_store.specs.Stored.{IsReady, world}
use Rattle.sk_keyspace.proofs.deletes.delete_all.Given as goal

-- what was deleted, and what is left to delete
abbrev pub invariant-loop-name : goal.invariant-loop-name
invariant-loop-name l = record {
  counts : l.count + (delete_each (world l.store) (into_iter_items l.name-iterator)).count ≡ (delete_each (world l.initial.store) l.fn.names.items).count;
  worlds : perform (world l.store) (delete_each (world l.store) (into_iter_items l.name-iterator)).changes ≡ perform (world l.initial.store) (delete_each (world l.initial.store) l.fn.names.items).changes;
  small : l.count + into_iter_len l.name-iterator ≤ vec_len l.fn.names;
  ready : IsReady l.store;
}
