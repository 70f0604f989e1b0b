use Rattle.std.proofs.Common.{◌∙◌, subst, sym}
use Rattle.sk_model.specs.Outcome.{Realizes}
use Rattle.sk_model.specs.World.{phase_of}
use Rattle.sk_model.proofs.Tools.Outcomes.{on_err}
use Rattle.sk_store.specs.Stored.{Executes, world}
use Rattle.sk_jobs.proofs.Working.{fetch_is, fetch_releases, put_is, release_is}
use Rattle.sk_jobs.proofs.workers.work.Goals as goal

pub returns-in-Some-clause-ran : goal.returns-in-Some-clause-ran
returns-in-Some-clause-ran c =
    let s = c.args.store.now in
    let w = world s in
    let joined = sym c.get.ensures.is ∙ c.in-Joined.is in
    let way = c.in-Some.ensures in
    subst (λ o. Executes s o c.fetch.result c.fetch.new.store) (sym (fetch_is w c.args.seat (phase_of w c.args.seat) c.in-Some.ident c.in-Joined.ident c.in-Some.queue c.in-Joined.field-1 c.args.action joined way.0 way.1)) c.fetch.ensures

pub returns-in-Some-clause-release : goal.returns-in-Some-clause-release
returns-in-Some-clause-release c =
    on_err c.fetch.result (fetch_releases (phase_of (world c.args.store.now) c.args.seat) c.in-Joined.ident c.in-Some.queue c.in-Joined.field-1 c.args.action (sym c.get.ensures.is ∙ c.in-Joined.is) c.in-Some.ensures.1)

pub returns-in-Some-released_by-clause-ran : goal.returns-in-Some-released_by-clause-ran
returns-in-Some-released_by-clause-ran c =
    let w = world c.args.store.now in
    let joined = sym c.get.ensures.is ∙ c.in-Joined.is in
    let row = c.in-Some-released_by.ensures in (
      subst (λ o. Realizes w o c.release.result (world c.release.new.store))
          (sym (release_is w c.args.seat (phase_of w c.args.seat) c.in-Some-released_by.ident c.in-Joined.ident c.in-WriteOp.key c.in-Some-released_by.text c.in-Joined.field-1 c.in-WriteOp.edit c.args.action joined c.in-WriteOp.is row.0 row.1)) c.release.ensures.done,
      c.release.ensures.ready,
    )

pub returns-in-Some-only-clause-ran : goal.returns-in-Some-only-clause-ran
returns-in-Some-only-clause-ran c =
    let s = c.args.store.now in
    let w = world s in
    let joined = sym c.get.ensures.is ∙ c.in-Joined.is in
    subst (λ o. Executes s o c.retry.result c.retry.new.store)
    (sym (put_is w c.args.seat (phase_of w c.args.seat) c.in-Joined.ident c.in-WriteOp.key c.in-Joined.field-1 c.in-Zadd.pairs c.in-Some-only.pair c.in-WriteOp.edit c.args.action joined c.in-WriteOp.is c.in-Zadd.is (sym c.only.ensures ∙ c.in-Some-only.is))) c.retry.ensures
