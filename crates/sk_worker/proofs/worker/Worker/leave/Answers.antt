use Rattle.std.proofs.Common.{◌||◌, true, false, [], Err, ap, map, refl, sym, ◌∙◌}
use Rattle.sk_link.specs.Call.{has_lost}
use Rattle.sk_worker.specs.Event.{asked}
use Rattle.sk_worker.specs.Leaving.{LeaveOf, leaving}
use Rattle.sk_worker.specs.declared.turn.WorkFault.TheVariants as fault
use Rattle.sk_worker.proofs.Events.{by_test, calls-asked}
use Rattle.sk_worker.proofs.Lost.{leave_lost}
use Rattle.sk_worker.proofs.worker.Worker.leave.Goals as goal

pub returns-then-self-clause-told : goal.returns-then-self-clause-told
returns-then-self-clause-told g c =
    let held = c.args.self.now.held.items in
    by_test (λ b. LeaveOf (λ cs. g.L.Link.carried c.args.link.now c.args.link.now cs) b c.args.self.now.ident held held (Err fault.Ended)) c.args.self.now.ended true c.if-self.true
    (g.met.L.Link.carried_none _, refl, refl)

pub returns-then-self-clause-link : goal.returns-then-self-clause-link
returns-then-self-clause-link g c = g.met.L.Link.carried_ends _ _ [] (g.met.L.Link.carried_none _)

pub returns-clause-told : goal.returns-clause-told
returns-clause-told g c =
    by_test (λ b. LeaveOf (λ cs. g.L.Link.carried c.args.link.now c.give_back_all-result.new.link cs) b c.args.self.now.ident c.args.self.now.held.items
    c.give_back_all-result.new.held.items c.give_back_all-result.result) c.args.self.now.ended false c.if-self.false c.give_back_all-result.ensures

pub returns-clause-link : goal.returns-clause-link
returns-clause-link g c =
    let t = c.give_back_all-result.ensures in
    g.met.L.Link.carried_ends _ _ t.0 t.1 ∙ ap (λ b. g.L.Link.has_ended c.args.link.now || b)
    (ap (λ cs. has_lost cs) (sym (calls-asked t.0)) ∙ leave_lost c.args.self.now.ident (leaving c.args.self.now.held.items 0) (map asked t.0) c.give_back_all-result.new.held.items c.give_back_all-result.result t.2)
