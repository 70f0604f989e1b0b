use Rattle.std.proofs.Common.{◌≡◌, ◌∷◌, ◌∙◌, ap, arith, length, sym}
use Rattle.std.specs.Vec.Iter.{into_iter_items}
use Rattle.sk_model.specs.Change.{perform}
use Rattle.sk_model.specs.Deletes.{delete_each}
use Rattle.sk_store.specs.Stored.{world}
use Rattle.sk_keyspace.proofs.Deleting.{one_if, each_count, each_world}
use Rattle.sk_keyspace.proofs.deletes.delete_all.Goals as goal

pub loop-name-preserved-then-delete_one : goal.loop-name-preserved-then-delete_one
loop-name-preserved-then-delete_one c =
    let was = c.loop-name.invariant in
    let rest = into_iter_items c.next.new.self in
    let is : into_iter_items c.loop-name.name-iterator ≡ c.in-Some.name ∷ rest = c.in-Some.ensures.steps.0 in
    let v = world c.loop-name.store in
    let after = world c.delete_one.new.store in
    record {
      counts = omega (arith, was.counts, ap (λ names. (delete_each v names).count) is, each_count v after c.in-Some.name rest c.delete_one.result c.delete_one.ensures.done, ap one_if c.if-delete_one.true);
      worlds = each_world v after c.in-Some.name rest c.delete_one.result c.delete_one.ensures.done ∙ ap (λ names. perform v (delete_each v names).changes) (sym is) ∙ was.worlds;
      small = omega (arith, was.small, ap length is);
      ready = c.delete_one.ensures.ready;
    }

pub loop-name-preserved : goal.loop-name-preserved
loop-name-preserved c =
    let was = c.loop-name.invariant in
    let rest = into_iter_items c.next.new.self in
    let is : into_iter_items c.loop-name.name-iterator ≡ c.in-Some.name ∷ rest = c.in-Some.ensures.steps.0 in
    let v = world c.loop-name.store in
    let after = world c.delete_one.new.store in
    record {
      counts = omega (arith, was.counts, ap (λ names. (delete_each v names).count) is, each_count v after c.in-Some.name rest c.delete_one.result c.delete_one.ensures.done, ap one_if c.if-delete_one.false);
      worlds = each_world v after c.in-Some.name rest c.delete_one.result c.delete_one.ensures.done ∙ ap (λ names. perform v (delete_each v names).changes) (sym is) ∙ was.worlds;
      small = omega (arith, was.small, ap length is);
      ready = c.delete_one.ensures.ready;
    }
