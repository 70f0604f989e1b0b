use Rattle.sk_places.proofs.Recording.{ended_kept}
use Rattle.sk_places.proofs.job_records.JobRecords.end.Goals as goal

pub invariant_of-self : goal.invariant_of-self
invariant_of-self c =
    ended_kept c.self.inside.numbers.list c.replace.new.self.list c.self.inside.totals c.count_end.new.totals c.self.inside.totals_then c.in-Some.jid.now c.get-known.result.live c.replace.ensures.saved c.get-known.ensures.live c.self.invariant
    c.args.how _ c.ended.ensures.live c.replace.ensures.live c.count_end.ensures
