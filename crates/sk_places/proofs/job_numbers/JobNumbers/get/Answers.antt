use Rattle.std.proofs.Common.{sym, ap, ◌∙◌}
use Rattle.sk_places.specs.JobRecords.{counts_in, is_live, live_in, rows_noted}
use Rattle.sk_places.specs.LiveJobs.{is_among}
use Rattle.sk_table.specs.Counts.{count_in}
use Rattle.sk_places.proofs.JobParts.{live_is, rows_count}
use Rattle.sk_places.proofs.job_numbers.JobNumbers.get.Goals as goal

pub returns-clause-rows : goal.returns-clause-rows
returns-clause-rows c =
    c.of.ensures.rows
    ∙ ap rows_noted c.count.ensures
    ∙ sym (rows_count c.args.jid.now c.self.inside.numbers.list.current c.in_order.ensures)
    ∙ ap (λ v. count_in c.args.jid.now (counts_in v.list.current)) c.self.view_is

pub returns-clause-live : goal.returns-clause-live
returns-clause-live c =
    c.of.ensures.live
    ∙ ap is_live c.count.ensures
    ∙ sym (live_is c.args.jid.now c.self.inside.numbers.list.current c.in_order.ensures)
    ∙ ap (λ v. is_among c.args.jid.now (live_in v.list.current)) c.self.view_is
