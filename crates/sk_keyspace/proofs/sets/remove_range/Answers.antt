use Rattle.std.proofs.Common.{◌≡◌, ◌∙◌, List, ap, drop, length, min, of_z, rules, subst, sym, take, to_z, w64}
use Rattle.sk_resp.specs.declared.reply.Reply.{Reply}
use Rattle.sk_undo.specs.Versions.{edited}
use Rattle.sk_value.specs.Lists.{end_index, first_index, range_of}
use Rattle.sk_value.specs.declared.write_op.WriteOp.TheVariants as edit
use Rattle.sk_places.specs.declared.row.Place.TheVariants.{Set}
use Rattle.sk_places.specs.declared.row.Row.{Row}
use Rattle.sk_places.specs.declared.ending.Ending.TheVariants.{Deleted}
use Rattle.sk_places.specs.Placed.{ended_rows}
use Rattle.sk_places.specs.Rows.{rows_at}
use Rattle.sk_model.specs.Outcome.{Realizes}
use Rattle.sk_model.specs.Sets.{edit_jobs}
use Rattle.sk_store.specs.Stored.{world}
use Rattle.sk_keyspace.proofs.Editing.{gone_comes}
use Rattle.sk_keyspace.proofs.Scores.{range_is}
use Rattle.sk_keyspace.proofs.sets.remove_range.Goals as goal

pub returns-clause-done : goal.returns-clause-done
returns-clause-done c =
    let s = c.args.store.now in
    let new = c.remove_range.new.self in
    let rows : List Row = rows_at (Set c.args.set) s.places.current.rows in
    let a : to_z w64 (of_z w64 c.args.first) ≡ c.args.first = search rules in
    let b : to_z w64 (of_z w64 c.args.last) ≡ c.args.last = search rules in
    let part : drop c.first_index-start.result (take c.end_index-end.result rows) ≡ range_of c.args.first c.args.last rows =
    range_is c.args.first c.args.last _ _ _ rows (c.first_index-start.ensures ∙ ap (λ z. first_index z c.len-count.result) a) (c.end_index-end.ensures ∙ ap (λ z. min c.len-count.result (end_index z c.len-count.result)) b) c.len-count.ensures.is in
    subst (λ (r : Reply). Realizes (world s) (edit_jobs (world s) c.args.set (edit.Zremrangebyrank c.args.first c.args.last)) r (world (record s { places = new }))) (sym c.counted.ensures)
    (gone_comes s (range_of c.args.first c.args.last rows) c.remove_range.result new (c.remove_range.ensures.count ∙ ap length part) (c.remove_range.ensures.rest ∙ ap (λ gone. edited (ended_rows Deleted gone s.places.current) s.places) part))
