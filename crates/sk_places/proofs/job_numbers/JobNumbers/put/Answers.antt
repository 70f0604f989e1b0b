use Rattle.std.proofs.Common.{sym, ap, arith, ◌∙◌}
use Rattle.sk_table.specs.Counts.{with_count}
use Rattle.sk_places.specs.JobRecords.{counts_in, live_in, live_with}
use Rattle.sk_places.specs.LiveJobs.{is_among}
use Rattle.sk_places.proofs.JobParts.{live_few, put_counted, put_live, put_rows, put_same}
use Rattle.sk_places.proofs.job_numbers.JobNumbers.put.Goals as goal

pub live_after-self-inside-requires-clause-few : goal.live_after-self-inside-requires-clause-few
live_after-self-inside-requires-clause-few c =
    let fewer = live_few c.self.inside.numbers.list.current in
    omega (arith, fewer, c.self.invariant.current, c.len-self-inside.ensures.is, c.len-self-inside.ensures.small)

pub invariant_of-self : goal.invariant_of-self
invariant_of-self c =
    let was = c.requires.before ∙ sym (ap (λ v. is_among c.args.jid.now (live_in v.list.current)) c.self.view_is) in
    put_counted c.self.inside.numbers.list c.put.new.self.list c.args.jid.now _ c.args.after.rows c.args.after.live c.in_order.ensures c.requires.few c.number.ensures c.put.ensures.list c.self.inside.live c.self.inside.live_then _ c.args.before.live was c.live_after-self-inside.ensures c.self.invariant

pub returns-clause-counts : goal.returns-clause-counts
returns-clause-counts c =
    put_rows c.self.inside.numbers.list c.put.new.self.list c.args.jid.now _ c.args.after.rows c.args.after.live c.in_order.ensures c.requires.few c.number.ensures c.put.ensures.list
    ∙ ap (λ v. with_count c.args.jid.now c.args.after.rows (counts_in v.list.current)) c.self.view_is

pub returns-clause-live : goal.returns-clause-live
returns-clause-live c =
    put_live c.self.inside.numbers.list c.put.new.self.list c.args.jid.now _ c.args.after.rows c.args.after.live c.in_order.ensures c.requires.few c.number.ensures c.put.ensures.list
    ∙ ap (λ v. live_with c.args.after.live c.args.jid.now (live_in v.list.current)) c.self.view_is

pub returns-clause-same_live : goal.returns-clause-same_live
returns-clause-same_live c = λ stays.
    let was = c.requires.before ∙ sym (ap (λ v. is_among c.args.jid.now (live_in v.list.current)) c.self.view_is) in
    put_same c.self.inside.numbers.list c.put.new.self.list c.args.jid.now _ c.args.after.rows c.args.after.live c.in_order.ensures c.requires.few c.number.ensures c.put.ensures.list (stays ∙ was)
    ∙ ap (λ v. live_in v.list.current) c.self.view_is
