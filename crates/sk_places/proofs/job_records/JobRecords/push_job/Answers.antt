use Rattle.std.proofs.Common.{subst, sym, ap, ◌∙◌}
use Rattle.sk_undo.specs.Versions.{map_versions}
use Rattle.sk_places.specs.JobRecords.{live_in}
use Rattle.sk_places.specs.LiveJobs.{AreAccounted, is_among, jobs_in, was_live}
use Rattle.sk_places.specs.Totals.{IsCountable}
use Rattle.sk_places.proofs.Recording.{pushed_kept}
use Rattle.sk_places.proofs.job_records.JobRecords.push_job.Goals as goal

pub invariant_of-self-2 : goal.invariant_of-self-2
invariant_of-self-2 c =
    let held = subst (λ l. AreAccounted (jobs_in (map_versions live_in l) c.self.inside.totals c.self.inside.totals_then)) (sym c.prepare_row.ensures.list) c.self.invariant in
    let live = c.in_ok-known.ensures.is.live ∙ ap (λ job. was_live job (live_in c.self.inside.numbers.list.current)) c.requires.named ∙ sym (ap (λ l. is_among c.args.jid.now (live_in l.current)) c.prepare_row.ensures.list) in
    let countable = subst (λ v. IsCountable c.args.from v.current.lived.totals) (sym c.self.view_is) c.requires.countable in
    pushed_kept c.prepare_row.new.self.list c.put.new.self.list c.self.inside.totals c.count_push.new.totals c.self.inside.totals_then c.args.jid.now c.in_ok-known.known.live c.put.ensures.saved live held
    c.args.from c.is_new-fresh.result _ c.pushed.ensures.live c.put.ensures.live c.count_push.ensures countable
