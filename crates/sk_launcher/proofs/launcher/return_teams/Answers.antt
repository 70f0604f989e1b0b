use Rattle.std.proofs.Common.{◌≡◌, ◌∙◌, ◌++◌, ◌∷◌, [], ap, sym, append_assoc, append-nil, rules}
use Rattle.sk_launcher.specs.Teams.{team_of, teams_of}
use Rattle.sk_launcher.proofs.Hiring.{mapped_end}
use Rattle.sk_launcher.proofs.launcher.return_teams.Goals as goal

pub loop-team-preserved : goal.loop-team-preserved
loop-team-preserved g c =
    let i = c.loop-team.invariant in
    record {
      some = search rules;
      room = c.push_reserved.ensures.capacity ∙ i.room;
      teams = ap (λ xs. xs ++ teams_of (λ v. (goal.Job-dyn g v).runs v.1) c.pop_front.new.self.items) (mapped_end (team_of (λ v. (goal.Job-dyn g v).runs v.1)) c.loop-team.teams.items c.in-Some.team c.push_reserved.new.self.items c.push_reserved.ensures.items)
          ∙ append_assoc (teams_of (λ v. (goal.Job-dyn g v).runs v.1) c.loop-team.teams.items) (team_of (λ v. (goal.Job-dyn g v).runs v.1) c.in-Some.team ∷ []) (teams_of (λ v. (goal.Job-dyn g v).runs v.1) c.pop_front.new.self.items)
          ∙ ap (λ xs. teams_of (λ v. (goal.Job-dyn g v).runs v.1) c.loop-team.teams.items ++ teams_of (λ v. (goal.Job-dyn g v).runs v.1) xs) (sym c.in-Some.ensures.items) ∙ i.teams;
    }

pub returns : goal.returns
returns g c =
    let i = c.loop-team.invariant in
    let none : c.loop-team.left.items ≡ [] = search rules in
    sym (append-nil (teams_of (λ v. (goal.Job-dyn g v).runs v.1) c.loop-team.teams.items)) ∙ ap (λ xs. teams_of (λ v. (goal.Job-dyn g v).runs v.1) c.loop-team.teams.items ++ teams_of (λ v. (goal.Job-dyn g v).runs v.1) xs) (sym none) ∙ i.teams
