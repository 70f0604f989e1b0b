use Rattle.std.proofs.Common.{Some, ap, length, slice_get, subst, sym, ◌≡◌, ◌+◌, ◌<◌, ◌≤◌, ◌∙◌}
use Rattle.std.specs.List.{remove}
use Rattle.sk_undo.specs.Versions.{edited}
use Rattle.sk_places.specs.RowLists.{listed, rows_in, start_of}
use Rattle.sk_places.specs.Rows.{rows_at}
use Rattle.sk_places.specs.TextIndex.{key_at, without_key}
use Rattle.sk_places.proofs.Leaving.{left_row}
use Rattle.sk_places.proofs.Sound.{removed_sound, row_there, text_enough}
use Rattle.sk_places.specs.RowsView.{counts_of, lived_of}
use Rattle.sk_places.proofs.rows.Rows.drop_out.Goals as goal

pub lowered-self-inside-requires-clause-enough : goal.lowered-self-inside-requires-clause-enough
lowered-self-inside-requires-clause-enough c = subst (λ t. length t ≤ c.self.inside.size.bytes) (sym c.text.ensures) (text_enough c.self.inside.lists c.self.inside.size c.self.inside.size_then (counts_of c.self.inside.jobs) c.self.inside.text_index.list c.self.invariant (start_of c.args.place.now (rows_in c.self.inside.lists).current + c.args.at) (listed c.args.place.now (c.get-score.result.0, c.get-score.result.1.now)) (row_there c.self.inside.lists c.self.inside.size c.self.inside.size_then (counts_of c.self.inside.jobs) c.self.inside.text_index.list c.self.invariant c.args.place.now c.args.at (c.get-score.result.0, c.get-score.result.1.now) (subst (λ v. c.args.at < length (rows_at c.args.place.now v.list.current)) (sym c.self.view_is) c.requires) (subst (λ s. slice_get (rows_at c.args.place.now s.current) c.args.at ≡ Some (listed c.args.place.now (c.get-score.result.0, c.get-score.result.1.now))) c.reserve.ensures.rows c.get-score.ensures)))

pub invariant_of-self-2 : goal.invariant_of-self-2
invariant_of-self-2 c =
    let rows = c.drop_out.ensures.rows ∙ ap (λ s. edited (remove s.current (start_of c.args.place.now s.current + c.args.at)) s) c.reserve.ensures.rows in
    let index = ap counts_of c.in_ok-leave_in_step.ensures.ok in
    let bytes = ap (λ t. c.lowered-self-inside.result.bytes + length t) (sym c.text.ensures) ∙ c.lowered-self-inside.ensures.bytes in
    let keys = c.drop_key.ensures.list ∙ ap (λ s. edited (without_key (key_at c.args.place.now c.get-score.result.0 c.get-score.result.1.now) s.current) s) c.reserve-2.ensures.list in
    removed_sound c.self.inside.lists c.drop_out.new.self c.self.inside.size c.self.inside.size_then (counts_of c.self.inside.jobs) c.self.inside.text_index.list c.self.invariant c.drop_out.ensures.lists (start_of c.args.place.now (rows_in c.self.inside.lists).current + c.args.at) (listed c.args.place.now (c.get-score.result.0, c.get-score.result.1.now)) c.lowered-self-inside.result (counts_of c.leave_in_step.new.self) c.drop_key.new.index.list rows (row_there c.self.inside.lists c.self.inside.size c.self.inside.size_then (counts_of c.self.inside.jobs) c.self.inside.text_index.list c.self.invariant c.args.place.now c.args.at (c.get-score.result.0, c.get-score.result.1.now) (subst (λ v. c.args.at < length (rows_at c.args.place.now v.list.current)) (sym c.self.view_is) c.requires) (subst (λ s. slice_get (rows_at c.args.place.now s.current) c.args.at ≡ Some (listed c.args.place.now (c.get-score.result.0, c.get-score.result.1.now))) c.reserve.ensures.rows c.get-score.ensures)) c.lowered-self-inside.ensures.rows bytes index keys

pub returns-clause-jobs : goal.returns-clause-jobs
returns-clause-jobs c =
    let jobs = lived_of c.self.inside.jobs in
    let here = subst (λ s. slice_get (rows_at c.args.place.now s.current) c.args.at ≡ Some (listed c.args.place.now (c.get-score.result.0, c.get-score.result.1.now))) c.reserve.ensures.rows c.get-score.ensures in
    let there = row_there c.self.inside.lists c.self.inside.size c.self.inside.size_then (counts_of c.self.inside.jobs) c.self.inside.text_index.list c.self.invariant c.args.place.now c.args.at (c.get-score.result.0, c.get-score.result.1.now) (subst (λ v. c.args.at < length (rows_at c.args.place.now v.list.current)) (sym c.self.view_is) c.requires) here in
    rw (← c.self.view_is) (ap lived_of c.in_ok-leave_in_step.ensures.ok ∙ ap (λ l. edited l jobs) (sym (left_row c.args.how _ _ jobs.current there)))
