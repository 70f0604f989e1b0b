use Rattle.std.proofs.Common.{[], ◌∷◌, subst}
use Rattle.sk_edge.specs.Collected.{Keeps}
use Rattle.sk_launcher.specs.Teams.{team_of}
use Rattle.sk_launcher.proofs.Hiring.{mapped_end}
use Rattle.sk_launcher.proofs.dismiss.dismiss.Goals as goal

pub returns-clause-gone : goal.returns-clause-gone
returns-clause-gone g c = (
  _,
  c.leave.ensures.left,
  (
    c.leave-2.ensures.told.1,
    subst (λ conn. Keeps (g.N.Door.kept c.args.net.now) (conn ∷ []) (g.N.Door.kept c.leave-2.new.self)) c.into_conn.ensures c.leave-2.ensures.kept,
  ),
  record {
    teams = mapped_end (team_of (λ v. (goal.Job-dyn g v).runs v.1)) _ _ _ c.push_reserved.ensures.items;
    rules = c.push_reserved-2.ensures.items;
    tallies = c.push_reserved-3.ensures.items;
    faults = c.keep_fault.ensures.faults;
  },
)
