use Rattle.std.proofs.Common.{ap, ◌+◌, ◌∙◌}
use Rattle.sk_undo.specs.Versions.{edited}
use Rattle.sk_places.specs.Entries.{as_row}
use Rattle.sk_places.specs.Order.{is_ordered}
use Rattle.sk_places.specs.RowLists.{rows_in, start_of}
use Rattle.sk_places.specs.Rows.{put_row}
use Rattle.sk_places.proofs.Rising.{ordered_remove}
use Rattle.sk_places.proofs.Shifts.{copied_to}
use Rattle.sk_places.proofs.row_lists.RowLists.shift_copy.Goals as goal

pub put-requires-clause-ordered : goal.put-requires-clause-ordered
put-requires-clause-ordered c = ap (λ s. is_ordered s.current) c.drop_out.ensures.rows ∙ ordered_remove (rows_in c.args.self.now).current (start_of c.args.from.now (rows_in c.args.self.now).current + c.args.at) c.requires.ordered

pub returns-clause-rows : goal.returns-clause-rows
returns-clause-rows c =
    c.put.ensures.rows
    ∙ ap (λ s. edited (put_row c.args.end (as_row (c.args.row_key, c.args.copy)) s.current) s) c.drop_out.ensures.rows
    ∙ ap (λ l. edited l (rows_in c.args.self.now)) (copied_to c.args.end c.args.row_key c.args.from.now c.args.copy (rows_in c.args.self.now).current c.args.at c.requires.ordered c.requires.within c.requires.copy)
