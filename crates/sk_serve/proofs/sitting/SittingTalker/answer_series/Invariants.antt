use Rattle.std.proofs.Common.{None, length}
use Rattle.std.specs.Vec.Iter.{drain_items}
use Rattle.sk_talk.specs.Series.{DoesSome}
use Rattle.sk_serve.specs.Session.{seen}
use Rattle.sk_serve.proofs.Seated.{Sits}
use Rattle.sk_serve.proofs.sitting.SittingTalker.answer_series.Given as goal

-- Some of the commands were done, and none of them stopped the talk.
abbrev pub invariant-series : goal.invariant-series
invariant-series g l =
    DoesSome (Sits g.D.Desk.wants_words l.fn.self l.fn.self (λ s. seen g.D.Desk.calls g.D.Desk.acked g.K.Clock.moments s.desk.now s.clock.now) (λ s. s.desk.ghost_name) (λ s. s.clock.ghost_name))
    l.fn.self (drain_items l.fn.commands) l.fn.replies.items None l.self (drain_items l.commands) l.replies.items

abbrev pub decreases-series : goal.decreases-series
decreases-series g l = length (drain_items l.commands)
