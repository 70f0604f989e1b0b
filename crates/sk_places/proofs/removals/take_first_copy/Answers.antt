use Rattle.std.proofs.Common.{◌+◌, ap, arith, sym, ◌∙◌}
use Rattle.sk_undo.specs.Versions.{edited}
use Rattle.sk_places.specs.RowLists.{start_of}
use Rattle.sk_places.specs.RowFilter.{selects}
use Rattle.sk_places.specs.declared.row_filter.RowFilter.TheVariants.{Copies}
use Rattle.sk_places.proofs.Leaving.{whole_position, whole_segment}
use Rattle.sk_places.proofs.Sweeps.{back_none, front_none, none_taken, over, step}
use Rattle.sk_places.proofs.removals.take_first_copy.Goals as goal

pub returns-then-at-end-clause-rest : goal.returns-then-at-end-clause-rest
returns-then-at-end-clause-rest c =
    let here = whole_segment c.args.place.now c.args.rows.now.list.current c.len_at-end.result c.len_at-end.ensures.order c.len_at-end.ensures.is in
    let there = whole_position (selects c.args.place.now (Copies c.args.text)) c.args.place.now c.args.rows.now.list.current 0 c.len_at-end.result c.position_wanted-at.result c.len_at-end.ensures.order (omega (arith, c.len_at-end.ensures.is)) c.position_wanted-at.ensures.is in
    let s = step (selects c.args.place.now (Copies c.args.text)) c.args.rows.now.list.current (start_of c.args.place.now c.args.rows.now.list.current + 0) (start_of c.args.place.now c.args.rows.now.list.current + c.len_at-end.result) (start_of c.args.place.now c.args.rows.now.list.current + c.position_wanted-at.result) here.order here.within (front_none c.args.place.now (Copies c.args.text) c.args.rows.now.list.current _ _ here) (back_none c.args.place.now (Copies c.args.text) c.args.rows.now.list.current _ _ here) there (omega (arith, c.if-at-end.true)) in
    c.take.ensures.rest ∙ ap (λ own. edited own c.args.rows.now.list) (sym s.first)

pub returns-else-at-end-clause-rest : goal.returns-else-at-end-clause-rest
returns-else-at-end-clause-rest c =
    let here = whole_segment c.args.place.now c.args.rows.now.list.current c.len_at-end.result c.len_at-end.ensures.order c.len_at-end.ensures.is in
    let there = whole_position (selects c.args.place.now (Copies c.args.text)) c.args.place.now c.args.rows.now.list.current 0 c.len_at-end.result c.position_wanted-at.result c.len_at-end.ensures.order (omega (arith, c.len_at-end.ensures.is)) c.position_wanted-at.ensures.is in
    let none = over (selects c.args.place.now (Copies c.args.text)) c.args.rows.now.list.current (start_of c.args.place.now c.args.rows.now.list.current + 0) (start_of c.args.place.now c.args.rows.now.list.current + c.len_at-end.result) (start_of c.args.place.now c.args.rows.now.list.current + c.position_wanted-at.result) here.order here.within (front_none c.args.place.now (Copies c.args.text) c.args.rows.now.list.current _ _ here) (back_none c.args.place.now (Copies c.args.text) c.args.rows.now.list.current _ _ here) there (omega (arith, c.if-at-end.false)) in
    ap (λ own. edited own c.args.rows.now.list) (sym (none_taken (selects c.args.place.now (Copies c.args.text)) c.args.rows.now.list.current none))
