use Rattle.std.proofs.Common.{List, filter, subst, sym}
use Rattle.sk_resp.specs.declared.reply.Reply.{Reply}
use Rattle.sk_zset.specs.Bounds.{is_between}
use Rattle.sk_value.specs.declared.write_op.WriteOp.TheVariants as edit
use Rattle.sk_places.specs.declared.row.Place.TheVariants.{Set}
use Rattle.sk_places.specs.declared.row.Row.{Row}
use Rattle.sk_places.specs.Rows.{pair_of, rows_at}
use Rattle.sk_model.specs.Outcome.{Realizes}
use Rattle.sk_model.specs.Sets.{edit_jobs}
use Rattle.sk_store.specs.Stored.{world}
use Rattle.sk_keyspace.proofs.Editing.{gone_comes}
use Rattle.sk_keyspace.proofs.sets.remove_scores.Goals as goal

pub returns-clause-done : goal.returns-clause-done
returns-clause-done c =
    let s = c.args.store.now in
    let new = c.remove_scores.new.self in
    let rows : List Row = rows_at (Set c.args.set) s.places.current.rows in
    subst (λ (r : Reply). Realizes (world s) (edit_jobs (world s) c.args.set (edit.Zremrangebyscore c.args.least c.args.greatest)) r (world (record s { places = new }))) (sym c.counted.ensures)
    (gone_comes s (filter (λ row. is_between c.args.least c.args.greatest (pair_of row)) rows) c.remove_scores.result new c.remove_scores.ensures.count c.remove_scores.ensures.rest)
