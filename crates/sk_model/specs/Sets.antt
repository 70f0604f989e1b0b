-- The commands that write on a set of jobs: ZADD on `schedule`; ZREM, ZREMRANGEBYRANK and ZREMRANGEBYSCORE on each (Redis, "Sorted sets").
use Rattle.std.specs.Prelude.{◌-◌, List, [], ◌∷◌, Option, Some, None, length, map, filter}
use Rattle.sk_resp.specs.declared.refusal.Refusal.TheVariants.{ManagedKey}
use Rattle.sk_cmd.specs.declared.argument.Scored.{Scored}
use Rattle.sk_cmd.specs.declared.argument.Scored.TheVariants.{Schedule, Retry, Dead}
use Rattle.sk_cmd.specs.declared.argument.Side.TheVariants.{Left}
use Rattle.sk_zset.specs.Pair.{Pair}
use Rattle.sk_zset.specs.Bounds.{is_between}
use Rattle.sk_value.specs.Answer.{counted}
use Rattle.sk_value.specs.Lists.{range_of}
use Rattle.sk_resp.specs.WordOrder.{is_member}
use Rattle.sk_value.specs.declared.write_op.WriteOp.{WriteOp}
use Rattle.sk_value.specs.declared.write_op.WriteOp.TheVariants as edit
use Rattle.sk_places.specs.declared.row.Place.TheVariants.{Set}
use Rattle.sk_places.specs.declared.row.Row.{Row}
use Rattle.sk_places.specs.Rows.{rows_at, row_in, row_of, pair_of}
use Rattle.sk_places.specs.declared.origin.Origin.TheVariants.{Outside}
use Rattle.sk_model.specs.World.{World}
use Rattle.sk_model.specs.Change.{Change, Moves, Add, Carry, PutBack, changed, perform}
use Rattle.sk_model.specs.Outcome.{Outcome, refuses}
use Rattle.sk_model.specs.Deletes.{take_all}
use Rattle.sk_model.specs.Queues.{length_at}
use Rattle.sk_model.specs.Room.{where_room}

-- ## ZADD

-- A text that is there gets the score. That is no push.
abbrev pub add_as : Scored → Pair → Option Row → Change
add_as set pair None = Moves (Add (row_in set pair) Left Outside)
add_as set pair (Some row) = Moves (Carry row Left (Set set) pair.0 Left)

abbrev pub add_one : World → Scored → Pair → Change
add_one w set pair = add_as set pair (row_of pair.1 (rows_at (Set set) w.rows))

-- each pair at the world that the ones before it left
abbrev pub add_each : World → Scored → List Pair → List Change
add_each w set [] = []
add_each w set (pair ∷ pairs) = add_one w set pair ∷ add_each (changed w (add_one w set pair)) set pairs

-- the reply tells how many texts are new
abbrev pub add : World → Scored → List Pair → Outcome
add w set pairs =
    let changes : List Change = add_each w set pairs in
    where_room w (map (λ pair. pair.1) pairs) (record { reply = counted (length_at (Set set) (perform w changes) - length_at (Set set) w); changes = changes })

-- a client's jobs are added to the schedule alone
abbrev pub add_to : World → List Pair → Scored → Outcome
add_to w pairs Schedule = add w Schedule pairs
add_to w pairs Retry = refuses ManagedKey
add_to w pairs Dead = refuses ManagedKey

-- A worker's text is put back. One that is there gets the score.
abbrev pub put_as : Scored → Pair → Option Row → Change
put_as set pair None = Moves (PutBack (row_in set pair))
put_as set pair (Some row) = Moves (Carry row Left (Set set) pair.0 Left)

abbrev pub put_back : World → Scored → Pair → Change
put_back w set pair = put_as set pair (row_of pair.1 (rows_at (Set set) w.rows))

-- ## What takes rows away

-- the rows go, and the reply tells how many
abbrev pub remove_all : List Row → Outcome
remove_all rows = record { reply = counted (length rows); changes = take_all rows }

abbrev pub edit_jobs : World → Scored → WriteOp → Outcome
edit_jobs w set (edit.Zadd pairs) = add_to w pairs set
edit_jobs w set (edit.Zrem members) = remove_all (filter (λ row. is_member row.text members) (rows_at (Set set) w.rows))
edit_jobs w set (edit.Zremrangebyrank first last) = remove_all (range_of first last (rows_at (Set set) w.rows))
edit_jobs w set (edit.Zremrangebyscore least greatest) = remove_all (filter (λ row. is_between least greatest (pair_of row)) (rows_at (Set set) w.rows))
edit_jobs w set other = refuses ManagedKey
