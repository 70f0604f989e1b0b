use Rattle.std.proofs.Common.{◌≡◌, ◌<◌, Some, sym, ap, arith, subst, ◌∙◌}
use Rattle.sk_table.specs.Counts.{count_in, with_count}
use Rattle.sk_places.specs.JobRecords.{counts_in, live_in, live_mark, live_with, IsRecordOf}
use Rattle.sk_places.specs.LiveJobs.{is_among}
use Rattle.sk_places.proofs.JobParts.{live_few, none_counted, none_lives, put_counted, put_live, put_rows, put_same, put_same_rows, some_recorded}
use Rattle.sk_places.proofs.job_numbers.JobNumbers.replace.Goals as goal

pub returns-then-is_none-clause-counts : goal.returns-then-is_none-clause-counts
returns-then-is_none-clause-counts c =
    let is = subst (λ v. IsRecordOf c.args.before (Some c.args.jid.now) v.list.current) (sym c.self.view_is) (record { rows = c.requires.rows; live = c.requires.live }) in
    let none = sym c.is_none.ensures ∙ c.if-is_none.true in
    subst (λ v. counts_in v.list.current ≡ with_count c.args.jid.now c.args.after.rows (counts_in v.list.current)) c.self.view_is
    (none_counted c.args.before c.args.after c.args.jid.now c.self.inside.numbers.list.current c.in_order.ensures is none c.requires.no_more_rows)

pub returns-then-is_none-clause-live : goal.returns-then-is_none-clause-live
returns-then-is_none-clause-live c =
    let is = subst (λ v. IsRecordOf c.args.before (Some c.args.jid.now) v.list.current) (sym c.self.view_is) (record { rows = c.requires.rows; live = c.requires.live }) in
    let none = sym c.is_none.ensures ∙ c.if-is_none.true in
    subst (λ v. live_in v.list.current ≡ live_with c.args.after.live c.args.jid.now (live_in v.list.current)) c.self.view_is
    (none_lives c.args.before c.args.after c.args.jid.now c.self.inside.numbers.list.current c.in_order.ensures is none c.requires.no_more_live)

pub live_after-self-inside-requires-clause-few : goal.live_after-self-inside-requires-clause-few
live_after-self-inside-requires-clause-few c =
    let fewer = live_few c.self.inside.numbers.list.current in
    omega (arith, fewer, c.self.invariant.current, c.len-self-inside.ensures.is, c.len-self-inside.ensures.small)

pub replace-requires-clause-some : goal.replace-requires-clause-some
replace-requires-clause-some c =
    let is = subst (λ v. IsRecordOf c.args.before (Some c.args.jid.now) v.list.current) (sym c.self.view_is) (record { rows = c.requires.rows; live = c.requires.live }) in
    some_recorded c.args.before c.args.jid.now c.self.inside.numbers.list.current c.in_order.ensures is (sym c.is_none.ensures ∙ c.if-is_none.false)

pub invariant_of-self : goal.invariant_of-self
invariant_of-self c =
    let few : c.args.after.rows < live_mark = omega (arith, c.requires.no_more_rows, c.requires.few) in
    let was = c.requires.live ∙ sym (ap (λ v. is_among c.args.jid.now (live_in v.list.current)) c.self.view_is) in
    put_counted c.self.inside.numbers.list c.replace.new.self.list c.args.jid.now _ c.args.after.rows c.args.after.live c.in_order.ensures few c.number.ensures c.replace.ensures c.self.inside.live c.self.inside.live_then _ c.args.before.live was c.live_after-self-inside.ensures c.self.invariant

pub returns-clause-counts : goal.returns-clause-counts
returns-clause-counts c =
    let few : c.args.after.rows < live_mark = omega (arith, c.requires.no_more_rows, c.requires.few) in
    put_rows c.self.inside.numbers.list c.replace.new.self.list c.args.jid.now _ c.args.after.rows c.args.after.live c.in_order.ensures few c.number.ensures c.replace.ensures
    ∙ ap (λ v. with_count c.args.jid.now c.args.after.rows (counts_in v.list.current)) c.self.view_is

pub returns-clause-live : goal.returns-clause-live
returns-clause-live c =
    let few : c.args.after.rows < live_mark = omega (arith, c.requires.no_more_rows, c.requires.few) in
    put_live c.self.inside.numbers.list c.replace.new.self.list c.args.jid.now _ c.args.after.rows c.args.after.live c.in_order.ensures few c.number.ensures c.replace.ensures
    ∙ ap (λ v. live_with c.args.after.live c.args.jid.now (live_in v.list.current)) c.self.view_is

pub returns-clause-same_live : goal.returns-clause-same_live
returns-clause-same_live c = λ stays.
    let few : c.args.after.rows < live_mark = omega (arith, c.requires.no_more_rows, c.requires.few) in
    let was = c.requires.live ∙ sym (ap (λ v. is_among c.args.jid.now (live_in v.list.current)) c.self.view_is) in
    put_same c.self.inside.numbers.list c.replace.new.self.list c.args.jid.now _ c.args.after.rows c.args.after.live c.in_order.ensures few c.number.ensures c.replace.ensures (stays ∙ was)
    ∙ ap (λ v. live_in v.list.current) c.self.view_is

pub returns-clause-same_counts : goal.returns-clause-same_counts
returns-clause-same_counts c = λ stays.
    let few : c.args.after.rows < live_mark = omega (arith, c.requires.no_more_rows, c.requires.few) in
    let was = c.requires.rows ∙ sym (ap (λ v. count_in c.args.jid.now (counts_in v.list.current)) c.self.view_is) in
    put_same_rows c.self.inside.numbers.list c.replace.new.self.list c.args.jid.now _ c.args.after.rows c.args.after.live c.in_order.ensures few c.number.ensures c.replace.ensures (stays ∙ was)
    ∙ ap (λ v. counts_in v.list.current) c.self.view_is
