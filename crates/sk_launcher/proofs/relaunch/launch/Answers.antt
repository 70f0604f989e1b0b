use Rattle.std.proofs.Common.{◌≡◌, refl}
use Rattle.sk_launcher.specs.Counting.{no_turns}
use Rattle.sk_launcher.proofs.Relaunches.{all_end, stands_first, starved_end, unlaunched}
use Rattle.sk_launcher.proofs.relaunch.launch.Goals as goal

pub returns-in_default-clause-told : goal.returns-in_default-clause-told
returns-in_default-clause-told g c =
    all_end g.N.Door g.N.Conn.Source g.N.Conn.Sink (λ v. (goal.Job-dyn g v).runs v.1) c.args.rules c.args.settings _ _ _ _ _ _
    (c.args.net.now, g.D.Dice.words c.args.dice.now, c.args.teams.now) 1 no_turns c.args.settings (starved_end no_turns) _
    (stands_first _ _ _ 1 no_turns refl refl) (unlaunched _ _ _ _ _ _ _) refl

pub returns-clause-told : goal.returns-clause-told
returns-clause-told g c = c.launch_on.ensures.told
