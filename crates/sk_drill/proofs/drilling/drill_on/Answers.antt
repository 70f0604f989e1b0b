use Rattle.std.proofs.Common.{◌≤◌, arith, length, subst}
use Rattle.sk_desk.specs.State.{IsConsistent}
use Rattle.sk_model.specs.World.{World}
use Rattle.sk_drill.specs.Drilled.{ended, starved}
use Rattle.sk_drill.proofs.Asked.{all_answered, teams_len}
use Rattle.sk_drill.proofs.Counted.{counts_as}
use Rattle.sk_drill.proofs.drilling.drill_on.Goals as goal

pub finish-requires-clause-answered : goal.finish-requires-clause-answered
finish-requires-clause-answered g c =
    let few : c.args.workers ≤ length c.args.teams.now.items = omega (arith, c.requires.workers.2, c.args.teams.now.ok) in
    all_answered _ _ _ _ _ _ _ c.in-Ok.ensures.stories (teams_len _ _ _ c.stories_at.ensures.teams few)

pub finish-requires-clause-sound : goal.finish-requires-clause-sound
finish-requires-clause-sound g c = subst (λ (start : World). IsConsistent start c.close.result) c.requires.start c.close.ensures.consistent

pub returns-in-Ok-clause-told : goal.returns-in-Ok-clause-told
returns-in-Ok-clause-told g c =
    let are = c.in-Ok.ensures.stories in
    let few : c.args.workers ≤ length c.args.teams.now.items = omega (arith, c.requires.workers.2, c.args.teams.now.ok) in
    ended c.in-Ok.stories.items c.finish.result are c.finish.ensures
    (counts_as _ _ _ _ _ _ _ are c.finish.result (teams_len _ _ _ c.stories_at.ensures.teams few) c.finish.ensures)

pub returns-clause-told : goal.returns-clause-told
returns-clause-told g c = starved
