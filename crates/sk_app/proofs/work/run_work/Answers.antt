use Rattle.sk_app.specs.Promises.{LaunchesTeams}
use Rattle.sk_app.proofs.Completes.{with_some, work_completes}
use Rattle.sk_app.proofs.Endings.{line_alone}
use Rattle.sk_app.proofs.work.run_work.Goals as goal

pub returns-clause-told : goal.returns-clause-told
returns-clause-told g c = (c.outcome_by-outcome.result, c.conclude.ensures.told, c.outcome_by-outcome.ensures.told)

pub returns-clause-untouched : goal.returns-clause-untouched
returns-clause-untouched g c = λ e.
    let same = c.outcome_by-outcome.ensures.untouched (line_alone _ _ _ _ c.conclude.ensures.told e) in
    (c.conclude.ensures.silent e, same.0, same.1)

pub returns-clause-completes : goal.returns-clause-completes
returns-clause-completes g c = λ line is whole.
    let did = c.outcome_by-outcome in
    with_some _ _ (λ rules line how. LaunchesTeams g.N.Door g.N.Conn.Source g.N.Conn.Sink (λ v. (goal.Job-dyn g v).runs v.1) rules
    c.args.net.now c.args.teams.now did.new.net did.new.teams line how) c.args.rules _
    (work_completes _ _ _ _ line _ _ _ _ is did.ensures.told c.conclude.ensures.told whole)
