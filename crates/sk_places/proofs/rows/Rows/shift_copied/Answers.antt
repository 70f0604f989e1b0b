use Rattle.std.proofs.Common.{Some, ap, ap₂, length, option_map, slice_get, subst, sym, ◌+◌, ◌<◌, ◌∙◌}
use Rattle.sk_undo.specs.Versions.{edited}
use Rattle.sk_places.specs.Entries.{shifted}
use Rattle.sk_places.specs.RowLists.{listed, start_of}
use Rattle.sk_places.specs.Rows.{rows_at}
use Rattle.sk_places.specs.TextIndex.{key_at, with_key, without_key}
use Rattle.sk_places.proofs.Sound.{copied_sound}
use Rattle.sk_places.specs.RowsView.{counts_of}
use Rattle.sk_places.proofs.rows.Rows.shift_copied.Goals as goal

pub shift_copy-requires-clause-copy : goal.shift_copy-requires-clause-copy
shift_copy-requires-clause-copy c = ap (option_map (λ row. row.text)) c.get-score.ensures ∙ ap Some (sym c.in_ok-copy.ensures)

pub invariant_of-self-2 : goal.invariant_of-self-2
invariant_of-self-2 c =
    let rows = c.shift_copy.ensures.rows ∙ ap (λ s. edited (shifted c.args.end (start_of c.args.from.now s.current + c.args.at) c.args.row_key s.current) s) c.prepare.ensures.rows in
    let there = ap (λ s. slice_get (rows_at c.args.from.now s.current) c.args.at) (sym c.prepare.ensures.rows) ∙ c.get-score.ensures ∙ ap (λ t. Some (listed c.args.from.now (c.get-score.result.0, t))) (sym c.in_ok-copy.ensures) in
    let gone = c.drop_key.ensures.list ∙ ap (λ s. edited (without_key (key_at c.args.from.now c.get-score.result.0 c.in_ok-copy.copy) s.current) s) c.reserve.ensures.list in
    let keys = c.add_key.ensures ∙ ap₂ (λ k s. edited (with_key k s.current) s) c.in_ok-key.ensures gone in
    copied_sound c.self.inside.lists c.shift_copy.new.self c.self.inside.size c.self.inside.size_then (counts_of c.self.inside.jobs) c.self.inside.text_index.list c.self.invariant c.shift_copy.ensures.lists c.args.end c.args.row_key c.args.from.now c.args.at (subst (λ v. c.args.at < length (rows_at c.args.from.now v.list.current)) (sym c.self.view_is) c.requires) rows (c.get-score.result.0, c.in_ok-copy.copy) c.add_key.new.index.list there keys
