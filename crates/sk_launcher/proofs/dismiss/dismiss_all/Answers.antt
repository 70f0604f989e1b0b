use Rattle.std.proofs.Common.{◌∙◌, [], arith, refl, rules, sym}
use Rattle.std.proofs.lemmas.Iterator.Adapters.{YieldsList-from_vec}
use Rattle.std.proofs.lemmas.Iterator.Consumers.{YieldsList-end}
use Rattle.std.proofs.lemmas.List.{map-id}
use Rattle.sk_launcher.specs.Connections.{none}
use Rattle.sk_launcher.proofs.Leaving.{gone_more, nobody_returned}
use Rattle.sk_launcher.proofs.dismiss.dismiss_all.Goals as goal

pub loop-worker-init : goal.loop-worker-init
loop-worker-init g c = record {
  gone = ([], tt, none, nobody_returned _);
  teams = refl;
  tallies = refl;
  faults = refl;
  rules = refl;
  some_rules = search rules;
  some_teams = search rules;
  some_tallies = search rules;
  some_faults = search rules;
  same = refl;
}

pub loop-worker-preserved : goal.loop-worker-preserved
loop-worker-preserved g c =
    let i = c.loop-worker.invariant in
    let one = c.dismiss.ensures in
    record {
      gone = gone_more _ _ _ _ _ _ _ _ _ i.gone one.gone;
      teams = one.room.0 ∙ i.teams;
      tallies = one.room.1 ∙ i.tallies;
      faults = one.room.2 ∙ i.faults;
      rules = one.room.3 ∙ i.rules;
      some_rules = search rules;
      some_teams = search rules;
      some_tallies = search rules;
      some_faults = search rules;
      same = one.faults ∙ i.same;
    }

pub returns-clause-gone : goal.returns-clause-gone
returns-clause-gone g c =
    let i = c.loop-worker.invariant.gone in
    let gives = c.into_iter-worker-iterator.ensures.into_iter_gives in
    let road = YieldsList-from_vec c.args.staff.items gives.0 (omega (arith, gives.1)) in
    let ended = YieldsList-end road c.loop-worker.yielded c.loop-worker.worker-iterator c.loop-worker.yielded_by
    c.next.result c.next.new.self c.in-None.is c.next.ensures.steps in
    let all = sym (map-id c.loop-worker.yielded) ∙ ended.0 in
    (i.0, rw all at i.1, i.2, i.3)
