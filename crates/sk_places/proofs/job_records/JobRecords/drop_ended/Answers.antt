use Rattle.std.proofs.Common.{subst, sym, ap, ◌∙◌}
use Rattle.sk_undo.specs.Versions.{map_versions}
use Rattle.sk_places.specs.JobRecords.{live_in}
use Rattle.sk_places.specs.LiveJobs.{AreAccounted, is_among, jobs_in, was_live}
use Rattle.sk_places.proofs.Recording.{ended_kept}
use Rattle.sk_places.proofs.job_records.JobRecords.drop_ended.Goals as goal

pub invariant_of-self-in-Some : goal.invariant_of-self-in-Some
invariant_of-self-in-Some c =
    let held = subst (λ l. AreAccounted (jobs_in (map_versions live_in l) c.self.inside.totals c.self.inside.totals_then)) (sym c.prepare.ensures.list) c.self.invariant in
    let live = c.in_ok-known.ensures.is.live ∙ sym (ap (λ job. was_live job (live_in c.self.inside.numbers.list.current)) c.in-Some.ensures) ∙ sym (ap (λ l. is_among c.in-Some.jid.now (live_in l.current)) c.prepare.ensures.list) in
    ended_kept c.prepare.new.self.list c.put.new.self.list c.self.inside.totals c.count_end.new.totals c.self.inside.totals_then c.in-Some.jid.now c.in_ok-known.known.live c.put.ensures.saved live held
    c.args.how _ c.ended.ensures.live c.put.ensures.live c.count_end.ensures
