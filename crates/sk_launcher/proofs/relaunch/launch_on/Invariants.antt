use Rattle.std.proofs.Common.{◌≡◌, ◌≤◌, vec_len}
use Rattle.sk_launcher.specs.Connections.{classes_of, rules_of}
use Rattle.sk_launcher.specs.Promises.{EndedAt}
use Rattle.sk_launcher.proofs.Relaunches.{Stands}
use Rattle.sk_launcher.proofs.relaunch.launch_on.Given as goal

abbrev pub invariant-loop : goal.invariant-loop
invariant-loop g l = (goal.iterator-loop g).can_next l.iterator' × (goal.iterator-loop g).is_finite l.iterator'
    × Stands (EndedAt g.N.Door g.N.Conn.Source g.N.Conn.Sink (λ v. (goal.Job-dyn g v).runs v.1) l.fn.rules.items l.fn.own) l.fn.own
    (l.fn.net, g.D.Dice.words l.fn.dice, l.fn.teams) l.series.number l.series.counts l.own (l.net, g.D.Dice.words l.dice, l.teams)
    × (l.series.patience ≡ l.fn.own.patience)
    × (l.rules.items ≡ l.fn.rules.items)
    × (vec_len l.teams ≡ vec_len l.fn.teams)
    × (classes_of l.teams.items ≡ classes_of l.fn.teams.items)
    × (rules_of l.teams.items ≡ rules_of l.fn.teams.items)
    × (g.N.Door.door_faults l.fn.net ≤ g.N.Door.door_faults l.net)
