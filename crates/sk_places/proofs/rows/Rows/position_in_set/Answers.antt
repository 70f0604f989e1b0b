use Rattle.std.proofs.Common.{ap, subst, ◌∙◌}
use Rattle.std.specs.List.{position_or_len}
use Rattle.sk_places.specs.declared.row.Place.TheVariants.{Set}
use Rattle.sk_places.specs.Entries.{as_rows}
use Rattle.sk_places.specs.RowLists.{rows_in, rows_in_lists}
use Rattle.sk_places.specs.Rows.{rows_at}
use Rattle.sk_places.specs.Segments.{is_text}
use Rattle.sk_places.specs.TextIndex.{IsLeastScore}
use Rattle.sk_places.proofs.SetRows.{ordered_behind}
use Rattle.sk_places.proofs.TextFound.{absent, present}
use Rattle.sk_places.proofs.rows.Rows.position_in_set.Goals as goal

pub position_from-requires-clause-ordered : goal.position_from-requires-clause-ordered
position_from-requires-clause-ordered c = ordered_behind (rows_in_lists c.self.inside.lists.names.list.current c.self.inside.lists.deques.lists.current) (as_rows c.self.inside.lists.sets.list.current) c.self.invariant.sound.kept.ordered

pub returns-in-None : goal.returns-in-None
returns-in-None c =
    let rows = (rows_in c.self.inside.lists).current in
    let keys = c.self.inside.text_index.list.current in
    let least = subst (λ o. IsLeastScore c.args.set c.args.text.now o keys) c.in-None.is c.least_score.ensures in
    c.len_set.ensures ∙ absent c.args.set c.args.text.now rows keys c.self.invariant.texts.current least ∙ ap (λ v. position_or_len (is_text c.args.text.now) (rows_at (Set c.args.set) v.list.current)) c.self.view_is

pub returns-in-Some : goal.returns-in-Some
returns-in-Some c =
    let rows = (rows_in c.self.inside.lists).current in
    let keys = c.self.inside.text_index.list.current in
    let least = subst (λ o. IsLeastScore c.args.set c.args.text.now o keys) c.in-Some.is c.least_score.ensures in
    c.position_from.ensures ∙ present c.args.set c.args.text.now rows keys c.self.invariant.texts.current c.in-Some.score c.self.invariant.sound.kept.ordered least ∙ ap (λ v. position_or_len (is_text c.args.text.now) (rows_at (Set c.args.set) v.list.current)) c.self.view_is
