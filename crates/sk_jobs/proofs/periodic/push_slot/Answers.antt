use Rattle.std.proofs.Common.{◌∙◌, ap, cond, subst, sym}
use Rattle.sk_resp.specs.Spelling.{Bytes}
use Rattle.sk_resp.specs.declared.refusal.Refusal.TheVariants.{Full}
use Rattle.sk_model.specs.Outcome.{Outcome, refuses}
use Rattle.sk_model.specs.Periodic.{cron}
use Rattle.sk_store.proofs.Steps.{whole}
use Rattle.sk_store.specs.Stored.{Executes, world}
use Rattle.sk_jobs.specs.Slots.{slotted}
use Rattle.sk_jobs.proofs.periodic.push_slot.Goals as goal

pub returns : goal.returns
returns c =
    let old = c.args.store.now in
    let payload = c.in_ok-payload.payload in
    let done : Outcome = slotted c.args.name c.args.slot payload in
    let same =
    ap (λ (text : Bytes). cron (world old) c.args.ident.now c.args.name c.args.slot text) (sym c.in_ok-payload.ensures)
    ∙ c.in_default.ensures
    ∙ ap (λ full. cond full (refuses Full) done) (sym c.is_too_much.ensures.is ∙ c.if-is_too_much.false) in
    subst (λ (o : Outcome). Executes old o c.close.result c.close.new.self) (sym same)
    (whole old c.begin.new.self c.push_open-done.new.store c.close.new.self (λ v. done) c.push_open-done.result c.close.result
    c.requires c.begin.ensures c.push_open-done.ensures.step c.push_open-done.ensures.ok c.close.ensures.same c.close.ensures.ok c.close.ensures.err)
