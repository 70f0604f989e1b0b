use Rattle.std.proofs.Common.{OnOk, subst}
use Rattle.std.specs.Prelude.{◌≡◌}
use Rattle.sk_model.specs.Change.{perform}
use Rattle.sk_model.specs.Sets.{add_each}
use Rattle.sk_store.specs.declared.store.Store.{Store}
use Rattle.sk_store.specs.Stored.{world}
use Rattle.sk_store.proofs.Steps.{atomic}
use Rattle.sk_keyspace.proofs.sets.add_all.Goals as goal

pub returns : goal.returns
returns c =
    let after = c.add_each-done.new.store in
    let begun = c.begin.new.self in
    let did = subst (λ (b : Store). OnOk c.add_each-done.result (world after ≡ perform (world begun) (add_each (world b) c.args.set c.args.pairs.items))) c.begin.ensures c.add_each-done.ensures.ok in
    atomic c.args.store.now begun after c.close.new.self (add_each (world c.args.store.now) c.args.set c.args.pairs.items) c.add_each-done.result c.close.result
    c.requires.ready c.begin.ensures c.add_each-done.ensures.step did c.close.ensures.same c.close.ensures.ok c.close.ensures.err
