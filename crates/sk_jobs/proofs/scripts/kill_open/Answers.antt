use Rattle.std.proofs.Common.{subst, sym}
use Rattle.sk_cmd.specs.declared.argument.Scored.{Scored}
use Rattle.sk_model.specs.Jobs.{kill, nothing}
use Rattle.sk_model.specs.Outcome.{Realizes}
use Rattle.sk_model.proofs.Tools.Outcomes.{if_ok}
use Rattle.sk_store.specs.Stored.{world}
use Rattle.sk_jobs.proofs.Routing.{nothing_sent}
use Rattle.sk_jobs.proofs.scripts.kill_open.Goals as goal

pub returns-in-Dead-clause-ok : goal.returns-in-Dead-clause-ok
returns-in-Dead-clause-ok c = if_ok _ _ c.into_reply.result (λ reply tells.
    let v = world c.args.store.now in
    subst (λ (s : Scored). Realizes v (kill v s c.args.text.now) reply v) (sym c.in-Dead.is)
    (tells v v nothing (nothing_sent v c.nothing.result c.nothing.ensures.none.0 c.nothing.ensures.none.1 c.nothing.ensures.texts.0 c.nothing.ensures.texts.1))) c.into_reply.ensures
