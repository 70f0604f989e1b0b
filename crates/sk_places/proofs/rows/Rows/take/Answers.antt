use Rattle.sk_undo.specs.Versions.{edited}
use Rattle.sk_places.proofs.Leaving.{left_row, leaving_fewer, leaving_start, leaving_within}
use Rattle.std.proofs.Common.{ap, length, subst, sym, ◌+◌, ◌<◌, ◌≤◌, ◌∙◌}
use Rattle.sk_places.specs.RowLists.{listed, rows_in, start_of}
use Rattle.sk_places.specs.Rows.{rows_at}
use Rattle.sk_places.proofs.Sound.{removed_sound, row_there, text_enough}
use Rattle.sk_places.specs.RowsView.{counts_of, lived_of}
use Rattle.sk_places.proofs.rows.Rows.take.Goals as goal

pub lowered-self-inside-requires-clause-enough : goal.lowered-self-inside-requires-clause-enough
lowered-self-inside-requires-clause-enough c = subst (λ t. length t ≤ c.self.inside.size.bytes) (sym c.text.ensures) (text_enough c.self.inside.lists c.self.inside.size c.self.inside.size_then (counts_of c.self.inside.jobs) c.self.inside.text_index.list c.self.invariant (start_of c.args.place.now (rows_in c.self.inside.lists).current + c.args.at) (listed c.args.place.now c.take-row.result) (row_there c.self.inside.lists c.self.inside.size c.self.inside.size_then (counts_of c.self.inside.jobs) c.self.inside.text_index.list c.self.invariant c.args.place.now c.args.at c.take-row.result (subst (λ v. c.args.at < length (rows_at c.args.place.now v.list.current)) (sym c.self.view_is) c.requires.within) c.take-row.ensures.row))

pub invariant_of-self : goal.invariant_of-self
invariant_of-self c =
    let bytes = ap (λ t. c.lowered-self-inside.result.bytes + length t) (sym c.text.ensures) ∙ c.lowered-self-inside.ensures.bytes in
    removed_sound c.self.inside.lists c.take-row.new.self c.self.inside.size c.self.inside.size_then (counts_of c.self.inside.jobs) c.self.inside.text_index.list c.self.invariant c.take-row.ensures.lists (start_of c.args.place.now (rows_in c.self.inside.lists).current + c.args.at) (listed c.args.place.now c.take-row.result) c.lowered-self-inside.result (counts_of c.leave.new.self) c.take_key.new.index.list c.take-row.ensures.rows (row_there c.self.inside.lists c.self.inside.size c.self.inside.size_then (counts_of c.self.inside.jobs) c.self.inside.text_index.list c.self.invariant c.args.place.now c.args.at c.take-row.result (subst (λ v. c.args.at < length (rows_at c.args.place.now v.list.current)) (sym c.self.view_is) c.requires.within) c.take-row.ensures.row) c.lowered-self-inside.ensures.rows bytes (ap counts_of c.leave.ensures) c.take_key.ensures

pub returns-clause-index : goal.returns-clause-index
returns-clause-index c = subst (λ v. start_of c.args.place.now v.list.current + c.args.at < length v.list.current) c.self.view_is (leaving_within c.args.place.now (rows_in c.self.inside.lists).current c.args.at c.self.invariant.sound.kept.ordered (subst (λ v. c.args.at < length (rows_at c.args.place.now v.list.current)) (sym c.self.view_is) c.requires.within))

pub returns-clause-start : goal.returns-clause-start
returns-clause-start c = ap (λ s. start_of c.args.place.now s.current) c.take-row.ensures.rows ∙ leaving_start c.args.place.now (rows_in c.self.inside.lists).current c.args.at c.self.invariant.sound.kept.ordered (subst (λ v. c.args.at < length (rows_at c.args.place.now v.list.current)) (sym c.self.view_is) c.requires.within) ∙ ap (λ v. start_of c.args.place.now v.list.current) c.self.view_is

pub returns-clause-fewer : goal.returns-clause-fewer
returns-clause-fewer c = ap (λ s. length (rows_at c.args.place.now s.current) + 1) c.take-row.ensures.rows ∙ leaving_fewer c.args.place.now (rows_in c.self.inside.lists).current c.args.at c.self.invariant.sound.kept.ordered (subst (λ v. c.args.at < length (rows_at c.args.place.now v.list.current)) (sym c.self.view_is) c.requires.within) ∙ ap (λ v. length (rows_at c.args.place.now v.list.current)) c.self.view_is

pub returns-clause-jobs : goal.returns-clause-jobs
returns-clause-jobs c =
    let jobs = lived_of c.self.inside.jobs in
    let there = row_there c.self.inside.lists c.self.inside.size c.self.inside.size_then (counts_of c.self.inside.jobs) c.self.inside.text_index.list c.self.invariant c.args.place.now c.args.at c.take-row.result (subst (λ v. c.args.at < length (rows_at c.args.place.now v.list.current)) (sym c.self.view_is) c.requires.within) c.take-row.ensures.row in
    rw (← c.self.view_is) (ap lived_of c.leave.ensures ∙ ap (λ l. edited l jobs) (sym (left_row c.args.how _ _ jobs.current there)))
