use Rattle.std.proofs.Common.{◌≤◌, ◌-◌, ap, subst, arith}
use Rattle.sk_model.specs.Acked.{Acknowledges}
use Rattle.sk_desk.specs.Calls.{MemDeskView}
use Rattle.sk_desk.proofs.Journals.{desk_acknowledged, grew}
use Rattle.sk_desk.proofs.mem_desk.MemDeskDesk.call.Goals as goal

pub invariant_of-self : goal.invariant_of-self
invariant_of-self c =
    let more : c.self.inside.core.tally.outside ≤ c.step-reply.new.self.tally.outside = grew _ _ _ _ _ _ c.step-reply.ensures in
    let kept : c.self.inside.before ≤ c.step-reply.new.self.tally.outside = omega (arith, more, c.self.invariant) in
    kept

pub invariant_of-self-else-is_err : goal.invariant_of-self-else-is_err
invariant_of-self-else-is_err c =
    let more : c.self.inside.core.tally.outside ≤ c.step-reply.new.self.tally.outside = grew _ _ _ _ _ _ c.step-reply.ensures in
    let kept : c.self.inside.before ≤ c.step-reply.new.self.tally.outside = omega (arith, more, c.self.invariant) in
    kept

pub returns-then-is_err-clause-acked : goal.returns-then-is_err-clause-acked
returns-then-is_err-clause-acked c =
    subst (λ n. Acknowledges c.args.command c.step-reply.result n (c.step-reply.new.self.tally.outside - c.self.inside.before)) (ap (λ (v : MemDeskView). v.acked) c.self.view_is)
    (desk_acknowledged _ _ _ _ _ _ c.self.inside.before c.self.invariant c.step-reply.ensures)

pub returns-else-is_err-clause-acked : goal.returns-else-is_err-clause-acked
returns-else-is_err-clause-acked c =
    subst (λ n. Acknowledges c.args.command c.step-reply.result n (c.step-reply.new.self.tally.outside - c.self.inside.before)) (ap (λ (v : MemDeskView). v.acked) c.self.view_is)
    (desk_acknowledged _ _ _ _ _ _ c.self.inside.before c.self.invariant c.step-reply.ensures)
