use Rattle.std.proofs.Common.{◌≡◌, map, true}
use Rattle.std.specs.List.{list_all}
use Rattle.std.specs.Vec.Iter.{into_iter_items}
use Rattle.sk_model.specs.Change.{Names, perform}
use Rattle.sk_payload.specs.Member.{is_name}
use Rattle.sk_store.specs.Stored.{InStep, world}
use Rattle.sk_keyspace.proofs.names.name_each.Given as goal

-- whatever is left to add comes on top of what was added
abbrev pub invariant-loop-name : goal.invariant-loop-name
invariant-loop-name l = record {
  names : list_all (is_name 255) (into_iter_items l.name-iterator) ≡ true;
  named : perform (world l.store) (map Names (into_iter_items l.name-iterator)) ≡ perform (world l.initial.store) (map Names l.fn.names.items);
  step : InStep l.initial.store l.store;
}
