use Rattle.std.proofs.Common.{ap, length, subst, sym, ◌+◌, ◌<◌, ◌∙◌}
use Rattle.sk_undo.specs.Versions.{edited}
use Rattle.sk_places.specs.Entries.{shifted}
use Rattle.sk_places.specs.RowLists.{start_of}
use Rattle.sk_places.specs.Rows.{rows_at}
use Rattle.sk_places.proofs.Sound.{shift_sound}
use Rattle.sk_places.specs.RowsView.{counts_of}
use Rattle.sk_places.proofs.rows.Rows.shift_listed.Goals as goal

pub invariant_of-self-2 : goal.invariant_of-self-2
invariant_of-self-2 c =
    let rows = c.shift.ensures.rows ∙ ap (λ s. edited (shifted c.args.end (start_of c.args.from.now s.current + c.args.at) c.args.row_key.now s.current) s) c.prepare.ensures.rows in
    shift_sound c.self.inside.lists c.shift.new.self c.self.inside.size c.self.inside.size_then (counts_of c.self.inside.jobs) c.self.inside.text_index.list c.self.invariant c.shift.ensures.lists c.args.end c.args.row_key.now c.args.from.now c.args.at (subst (λ v. c.args.at < length (rows_at c.args.from.now v.list.current)) (sym c.self.view_is) c.requires.within) rows c.requires.from c.requires.to
