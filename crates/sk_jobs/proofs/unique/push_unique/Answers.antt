use Rattle.std.proofs.Common.{◌∙◌, subst, sym}
use Rattle.sk_model.specs.Outcome.{Outcome}
use Rattle.sk_store.proofs.Steps.{whole}
use Rattle.sk_store.specs.Stored.{Executes, world}
use Rattle.sk_jobs.specs.Locking.{push_wanted}
use Rattle.sk_jobs.proofs.UniquePushes.{kept_push, push_full}
use Rattle.sk_jobs.proofs.unique.push_unique.Goals as goal

pub returns-then-is_too_much : goal.returns-then-is_too_much
returns-then-is_too_much c = (
  push_full (world c.args.store.now) c.args.text c.in_ok-payload.payload c.args.score c.in-Some.lock c.refused-then-is_too_much.result
      c.in_ok-payload.ensures (sym c.in_ok-lock.ensures ∙ c.in-Some.is) (sym c.is_too_much.ensures.is ∙ c.if-is_too_much.true) c.refused-then-is_too_much.ensures,
  c.requires,
)

pub returns : goal.returns
returns c =
    let old = c.args.store.now in
    let same = kept_push (world old) c.args.text c.in_ok-payload.payload c.args.score c.in-Some.lock c.in_ok-payload.ensures (sym c.in_ok-lock.ensures ∙ c.in-Some.is) (sym c.is_too_much.ensures.is ∙ c.if-is_too_much.false) in
    subst (λ (o : Outcome). Executes old o c.close.result c.close.new.self) (sym same)
    (whole old c.begin.new.self c.push_open-done.new.store c.close.new.self (λ v. push_wanted v c.in_ok-payload.payload c.args.score c.in-Some.lock) c.push_open-done.result c.close.result
    c.requires c.begin.ensures c.push_open-done.ensures.step c.push_open-done.ensures.ok c.close.ensures.same c.close.ensures.ok c.close.ensures.err)
