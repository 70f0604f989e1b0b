use Rattle.std.proofs.Common.{◌≡◌, sym, subst, true}
use Rattle.sk_base.specs.Name.{is_name}
use Rattle.sk_poller.proofs.Drafts.{jid_named}
use Rattle.sk_poller.proofs.turn.draw_job.Goals as goal

pub job_of-requires-clause-id : goal.job_of-requires-clause-id
job_of-requires-clause-id g c =
    let ids = c.in_ok-jid.ensures in
    subst (λ jid. is_name 64 jid ≡ true) (sym ids.3) (jid_named ids.0 ids.1)
