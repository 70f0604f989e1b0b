use Rattle.std.proofs.Common.{◌≡◌, ◌∷◌, ◌∙◌, ap, arith, length, rules, sym}
use Rattle.std.specs.Vec.Iter.{into_iter_items}
use Rattle.sk_value.specs.Keys.{how_many}
use Rattle.sk_model.specs.Held.{held}
use Rattle.sk_store.specs.Stored.{world}
use Rattle.sk_keyspace.proofs.Deleting.{one_if}
use Rattle.sk_keyspace.proofs.Classes.{one_more, no_more}
use Rattle.sk_keyspace.proofs.looks.count_there.Goals as goal

pub loop-name-preserved-then-branch : goal.loop-name-preserved-then-branch
loop-name-preserved-then-branch c =
    let was = c.loop-name.invariant in
    let rest = into_iter_items c.next.new.self in
    let is : into_iter_items c.loop-name.name-iterator ≡ c.in-Some.name ∷ rest = c.in-Some.ensures.steps.0 in
    let holds = held (world c.args.store.now) in
    record {
      counts = omega (arith, was.counts, ap (how_many holds) is, one_more holds c.in-Some.name rest, ap one_if (sym c.in_ok-has.ensures ∙ c.if-branch.true));
      small = omega (arith, was.small, ap length is);
    }

pub loop-name-preserved : goal.loop-name-preserved
loop-name-preserved c =
    let was = c.loop-name.invariant in
    let rest = into_iter_items c.next.new.self in
    let is : into_iter_items c.loop-name.name-iterator ≡ c.in-Some.name ∷ rest = c.in-Some.ensures.steps.0 in
    let holds = held (world c.args.store.now) in
    record {
      counts = omega (arith, was.counts, ap (how_many holds) is, one_more holds c.in-Some.name rest, ap one_if (sym c.in_ok-has.ensures ∙ c.if-branch.false));
      small = omega (arith, was.small, ap length is);
    }

pub returns-clause-count : goal.returns-clause-count
returns-clause-count c =
    let holds = held (world c.args.store.now) in
    let none : length (into_iter_items c.loop-name.name-iterator) ≡ 0 = search rules in
    omega (arith, c.loop-name.invariant.counts, no_more holds (into_iter_items c.loop-name.name-iterator) none)
