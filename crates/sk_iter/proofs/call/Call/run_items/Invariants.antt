use Rattle.std.proofs.Common.{◌≡◌, Ok}
use Rattle.sk_iter.specs.Deeds.{returned}
use Rattle.sk_iter.specs.Performs.{Performs}
use Rattle.sk_iter.specs.Stages.{pace_of}
use Rattle.sk_iter.proofs.call.Call.run_items.Given as goal

abbrev pub invariant-loop-n : goal.invariant-loop-n
invariant-loop-n g l =
    (g.I.Items.count l.items ≡ g.I.Items.count l.initial.items)
    × Performs {T = Unit {0}} (g.L.Link.carried l.initial.link l.link) (g.I.Items.told l.initial.items) (g.I.Items.told l.items) l.self.jid.now (returned (pace_of l.self) l.n) (Ok tt)
