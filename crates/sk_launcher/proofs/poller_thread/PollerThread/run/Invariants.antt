use Rattle.std.proofs.Common.{◌≡◌, None}
use Rattle.sk_launcher.specs.Polling.{PollerAdvances, poller_of}
use Rattle.sk_launcher.proofs.poller_thread.PollerThread.run.Given as goal

abbrev pub invariant-loop-turn : goal.invariant-loop-turn
invariant-loop-turn g l = record {
  advances : PollerAdvances g.L.Link.carried l.shared.polls (poller_of g.C.Clock.moments g.D.Dice.words l.fn.self) (poller_of g.C.Clock.moments g.D.Dice.words l.self);
  whole : l.self.fault ≡ None;
  taken : l.self.taken ≡ l._turn;
}
