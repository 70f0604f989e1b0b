use Rattle.std.proofs.Common.{ap}
use Rattle.sk_store.proofs.Steps.{seated_ready}
use Rattle.sk_store.specs.Stored.{world}
use Rattle.sk_core.proofs.Stepping.{cut_keeps}
use Rattle.sk_core.proofs.store.Core.cut.Goals as goal

pub invariant_of-self : goal.invariant_of-self
invariant_of-self c =
    let s = c.self.inside.store in
    record {
      ready = seated_ready s c.cut.new.self c.self.invariant.ready;
      laws = cut_keeps (world s) (world (record s { seats = c.cut.new.self })) c.args.seat (ap (λ p. record (world s) { phases = p }) c.cut.ensures) c.self.invariant.laws;
    }
