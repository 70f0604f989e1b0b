use Rattle.std.proofs.Common.{sym, ◌∙◌, ap}
use Rattle.std.specs.Option.{is_some}
use Rattle.sk_table.specs.Counts.{counted}
use Rattle.sk_table.proofs.Counts.{at_counted, counted_taken, is_some_kept, kept}
use Rattle.sk_table.proofs.count_table.take_out.Goals as goal

pub returns-clause-answer : goal.returns-clause-answer
returns-clause-answer g c = is_some_kept c.in-Some.count c.args.text.now c.args.table.now c.in_order.ensures c.in-Some.ensures.is

pub returns-in_default-clause-answer : goal.returns-in_default-clause-answer
returns-in_default-clause-answer g c = ap (λ o. is_some (kept o)) (c.in_default.ensures.is) ∙ ap is_some (sym (at_counted c.args.text.now c.args.table.now c.in_order.ensures))

pub returns-in_default-clause-counts : goal.returns-in_default-clause-counts
returns-in_default-clause-counts g c = ap counted c.remove_by.ensures.rest ∙ counted_taken c.args.text.now c.args.table.now c.in_order.ensures

pub returns-clause-counts : goal.returns-clause-counts
returns-clause-counts g c = ap counted c.remove_by.ensures.rest ∙ counted_taken c.args.text.now c.args.table.now c.in_order.ensures
