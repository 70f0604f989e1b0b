use Rattle.std.proofs.Common.{◌≡◌, ◌∙◌, ◌++◌, arith, sym, ap, subst, append_assoc, map, option_map}
use Rattle.std.specs.Prelude.{option_to_list}
use Rattle.sk_base.specs.Outside.{Rose}
use Rattle.sk_launcher.specs.Connections.{door_tells}
use Rattle.sk_launcher.specs.Faults.{by_poll}
use Rattle.sk_launcher.specs.Launching.{Hindered, hindrance_of, office, work_faults}
use Rattle.sk_launcher.specs.Polling.{own_poller}
use Rattle.sk_launcher.specs.Teams.{HaveReturned, done_in, team_of, teams_of}
use Rattle.sk_launcher.specs.Working.{hired_worker, hired_workers}
use Rattle.sk_launcher.proofs.Employed.{all_worked, mapped, none_faulty, seen_classes, seen_rules, teams_back, teams_now, teams_returned, room_left, rules_back, zip_seen}
use Rattle.sk_launcher.proofs.Launches.{polls_same}
use Rattle.sk_launcher.proofs.launcher.run_process.Goals as goal

pub returns-clause-process : goal.returns-clause-process
returns-clause-process g c =
    let moments = g.C.Clock.moments in
    let left = c.dismiss_all.ensures.gone in
    let gone = left.0 in
    let employed = c.employ-hired.ensures in
    let result = c.employ-hired.result in
    let faults_now = c.keep_hindrance.new.faults.items in
    let zip = zip_seen _ (hired_worker moments (λ v. (goal.Job-dyn g v).runs v.1)) c.employ-hired.new.staff.items gone left.1 in
    let polls = option_to_list (option_map by_poll c.employ-hired.new.poller.fault) in
    let first : c.dismiss_poller-loops.new.faults.items ≡ polls = c.dismiss_poller-loops.ensures.given ∙ ap (λ xs. xs ++ polls) c.requires.empty.2 in
    let are : faults_now ≡ polls ++ (work_faults gone ++ hindrance_of result) =
    c.keep_hindrance.ensures ∙ ap (λ xs. xs ++ hindrance_of result) (left.3.faults ∙ ap (λ xs. xs ++ work_faults gone) first)
    ∙ append_assoc polls (work_faults gone) (hindrance_of result) in
    record {
      office_then = office (door_tells (g.N.Door.dialled c.employ-hired.new.net) (g.N.Door.kept c.employ-hired.new.net)) (teams_of (λ v. (goal.Job-dyn g v).runs v.1) c.employ-hired.new.outfit.teams.items)
          c.employ-hired.new.outfit.rules.items c.employ-hired.new.outfit.dice.items;
      done = own_poller moments c.employ-hired.new.poller;
      worked = hired_workers moments (λ v. (goal.Job-dyn g v).runs v.1) c.employ-hired.new.staff.items;
      door_then = door_tells (g.N.Door.dialled c.dismiss_poller-loops.new.net) (g.N.Door.kept c.dismiss_poller-loops.new.net);
      employed = employed.is;
      gone = gone;
      leaving_them = zip;
      kept_first = c.dismiss_poller-loops.ensures.kept;
      kept_others = left.2;
      hindrance = hindrance_of result;
      hindered = subst (λ n. Hindered (Rose (g.N.Door.door_faults c.args.net.now) n) (hindrance_of result))
          (sym (c.dismiss_all.ensures.faults ∙ c.dismiss_poller-loops.ensures.faults)) employed.cause;
      faults_are = are;
      counts_are = ap (map (λ t. t.counts)) (left.3.tallies ∙ ap (λ xs. xs ++ map (λ w. w.tally) gone) c.requires.empty.1) ∙ mapped (λ w. w.tally) (λ t. t.counts) gone;
      all = all_worked _ _ _ c.args.settings.now.threads c.args.settings.now.turns _ _ _ _ _ gone result faults_now employed.is zip are employed.all;
    }

pub returns-clause-teams : goal.returns-clause-teams
returns-clause-teams g c =
    let moments = g.C.Clock.moments in
    let left = c.dismiss_all.ensures.gone in
    let zip = zip_seen _ (hired_worker moments (λ v. (goal.Job-dyn g v).runs v.1)) c.employ-hired.new.staff.items left.0 left.1 in
    sym (mapped (team_of (λ v. (goal.Job-dyn g v).runs v.1)) seen_classes c.return_teams.new.teams.items)
    ∙ ap (map seen_classes) (teams_now _ _ _ _ _ c.return_teams.ensures left.3.teams (ap (teams_of (λ v. (goal.Job-dyn g v).runs v.1)) c.requires.empty.0))
    ∙ teams_back _ _ _ seen_classes (λ a b classes rules. classes) _ _ _ _ _ left.0 c.employ-hired.ensures.is zip
    ∙ mapped (team_of (λ v. (goal.Job-dyn g v).runs v.1)) seen_classes c.args.outfit.teams.items

pub returns-clause-rules : goal.returns-clause-rules
returns-clause-rules g c =
    let moments = g.C.Clock.moments in
    let left = c.dismiss_all.ensures.gone in
    let zip = zip_seen _ (hired_worker moments (λ v. (goal.Job-dyn g v).runs v.1)) c.employ-hired.new.staff.items left.0 left.1 in
    sym (mapped (team_of (λ v. (goal.Job-dyn g v).runs v.1)) seen_rules c.return_teams.new.teams.items)
    ∙ ap (map seen_rules) (teams_now _ _ _ _ _ c.return_teams.ensures left.3.teams (ap (teams_of (λ v. (goal.Job-dyn g v).runs v.1)) c.requires.empty.0))
    ∙ teams_back _ _ _ seen_rules (λ a b classes rules. rules) _ _ _ _ _ left.0 c.employ-hired.ensures.is zip
    ∙ mapped (team_of (λ v. (goal.Job-dyn g v).runs v.1)) seen_rules c.args.outfit.teams.items

pub return_rules-requires : goal.return_rules-requires
return_rules-requires g c =
    let moments = g.C.Clock.moments in
    let left = c.dismiss_all.ensures.gone in
    let zip = zip_seen _ (hired_worker moments (λ v. (goal.Job-dyn g v).runs v.1)) c.employ-hired.new.staff.items left.0 left.1 in
    let counted = room_left _ _ _ _ _ left.3.rules c.requires.empty.3 (rules_back _ _ _ _ _ _ _ _ left.0 c.employ-hired.ensures.is zip) in
    omega (arith, counted, c.dismiss_all.ensures.room_of_rules, c.requires.returns.3, c.requires.paired)

pub returns-clause-plain : goal.returns-clause-plain
returns-clause-plain g c =
    let moments = g.C.Clock.moments in
    let left = c.dismiss_all.ensures.gone in
    let zip = zip_seen _ (hired_worker moments (λ v. (goal.Job-dyn g v).runs v.1)) c.employ-hired.new.staff.items left.0 left.1 in
    teams_now _ _ _ _ _ c.return_rules.ensures left.3.rules c.requires.empty.3 ∙ rules_back _ _ _ _ _ _ _ _ left.0 c.employ-hired.ensures.is zip

pub returns-clause-loops : goal.returns-clause-loops
returns-clause-loops g c = c.dismiss_poller-loops.ensures.loops ∙ ap (λ (w : _). w.loops) (polls_same _ _ _ c.employ-hired.ensures.is.working.polled)

pub returns-clause-done : goal.returns-clause-done
returns-clause-done g c = λ no_fault.
    let moments = g.C.Clock.moments in
    let left = c.dismiss_all.ensures.gone in
    let gone = left.0 in
    let zip = zip_seen _ (hired_worker moments (λ v. (goal.Job-dyn g v).runs v.1)) c.employ-hired.new.staff.items gone left.1 in
    let none = none_faulty _ _ _ _ _ c.keep_hindrance.ensures left.3.faults no_fault in
    let now = teams_now _ _ _ _ _ c.return_teams.ensures left.3.teams (ap (teams_of (λ v. (goal.Job-dyn g v).runs v.1)) c.requires.empty.0) in
    let counts = ap (map (λ t. t.counts)) (left.3.tallies ∙ ap (λ xs. xs ++ map (λ w. w.tally) gone) c.requires.empty.1) ∙ mapped (λ w. w.tally) (λ t. t.counts) gone in
    subst (λ n. HaveReturned (teams_of (λ v. (goal.Job-dyn g v).runs v.1) c.args.outfit.teams.items) (teams_of (λ v. (goal.Job-dyn g v).runs v.1) c.return_teams.new.teams.items) n) (ap done_in (sym counts))
    (subst (λ ts. HaveReturned (teams_of (λ v. (goal.Job-dyn g v).runs v.1) c.args.outfit.teams.items) ts (done_in (map (λ w. w.tally.counts) gone))) (sym now)
    (teams_returned _ _ _ _ _ _ _ _ gone c.employ-hired.ensures.is zip none))
