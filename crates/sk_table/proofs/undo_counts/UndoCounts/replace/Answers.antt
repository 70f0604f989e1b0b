use Rattle.std.proofs.Common.{◌≡◌, sym, ◌∙◌, ap}
use Rattle.sk_table.specs.Counts.{count_in, is_among, ready_in}
use Rattle.sk_table.proofs.Counts.{among_keys}
use Rattle.sk_table.proofs.CountSteps.{is_closed, some_there}
use Rattle.sk_table.proofs.undo_counts.UndoCounts.replace.Goals as goal

pub put-requires-clause-ready : goal.put-requires-clause-ready
put-requires-clause-ready g c =
    let idle = is_closed c.self.inside.in_step _ (ap (λ v. v.list.saved) c.self.view_is ∙ c.requires.closed) in
    let count = ap (λ v. count_in c.args.text.now v.list.current) c.self.view_is in
    let some = some_there c.args.text.now _ c.self.inside.table c.in_order.ensures (sym count) c.requires.some in
    sym (ap (λ v. is_among c.args.text.now v.ready) c.self.view_is) ∙ ap (λ b. is_among c.args.text.now (ready_in g.K.TextKey.text b c.self.inside.log.items c.self.inside.table)) idle ∙ among_keys c.args.text.now c.self.inside.table ∙ some
