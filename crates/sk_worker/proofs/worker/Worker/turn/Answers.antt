use Rattle.std.proofs.Common.{true, [], Err, refl, subst}
use Rattle.sk_worker.specs.Promises.{settings}
use Rattle.sk_worker.specs.Stage.{Settings}
use Rattle.sk_worker.specs.Turn.{TurnOf}
use Rattle.sk_worker.specs.declared.turn.WorkFault.TheVariants as fault
use Rattle.sk_worker.proofs.Events.{by_test, parts_calls}
use Rattle.sk_worker.proofs.Lost.{turn_ends}
use Rattle.sk_worker.proofs.Runs.{RunsTold-none}
use Rattle.sk_worker.proofs.worker.Worker.turn.Goals as goal

pub returns-then-self-clause-told : goal.returns-then-self-clause-told
returns-then-self-clause-told g c =
    let w : Settings = settings c.args.self.now c.args.registry.now in
    let held = c.args.self.now.held.items in (
      [],
      parts_calls [] (g.met.L.Link.carried_none _) (RunsTold-none c.args.registry.now.classes _) refl refl (record { each = tt }),
      by_test (λ b. TurnOf b w held [] held (Err fault.Ended)) c.args.self.now.ended true c.if-self.true (refl, refl, refl),
    )

pub returns-then-self-clause-link : goal.returns-then-self-clause-link
returns-then-self-clause-link g c = g.met.L.Link.carried_ends _ _ [] (g.met.L.Link.carried_none _)

pub returns-clause-link : goal.returns-clause-link
returns-clause-link g c =
    let w : Settings = settings c.args.self.now c.args.registry.now in
    let held = c.args.self.now.held.items in
    let t = c.take-result.ensures.told in
    let left = c.take-result.new.self.held.items in
    turn_ends w held t.0 left c.take-result.result _ _ (g.met.L.Link.carried_ends _ _ _ t.1.link)
    (subst (λ b. TurnOf b w held t.0 left c.take-result.result) c.if-self.false t.2)
