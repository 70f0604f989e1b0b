-- The commands that take whole keys away: DEL and FLUSHALL.
use Rattle.std.specs.Prelude.{ℕ, ◌+◌, List, [], ◌∷◌, ◌++◌, length, map, cond, ◌==◌, Bool, true, false}
use Rattle.std.specs.List.{list_all}
use Rattle.std.specs.Option.{is_some}
use Rattle.sk_resp.specs.Spelling.{Bytes}
use Rattle.sk_resp.specs.declared.reply.Reply.TheVariants as reply
use Rattle.sk_resp.specs.declared.say.Say.TheVariants as say
use Rattle.sk_resp.specs.declared.refusal.Refusal.TheVariants.{ManagedKey}
use Rattle.sk_cmd.specs.declared.argument.Side.TheVariants.{Left}
use Rattle.sk_value.specs.Answer.{counted}
use Rattle.sk_value.specs.Keys.{at, without}
use Rattle.sk_key.specs.declared.key_class.KeyClass.{KeyClass}
use Rattle.sk_key.specs.declared.key_class.KeyClass.TheVariants as class
use Rattle.sk_places.specs.declared.row.Place.TheVariants.{Queue, Set}
use Rattle.sk_places.specs.declared.row.Row.{Row}
use Rattle.sk_places.specs.Rows.{rows_at}
use Rattle.sk_model.specs.World.{World}
use Rattle.sk_model.specs.Change.{Change, Moves, Take, Unnames, Keeps, perform}
use Rattle.sk_key.specs.Class.{class_of, queue_of}
use Rattle.sk_model.specs.Outcome.{Outcome, refuses}

-- the rows go one after another, from the left
abbrev pub take_all : List Row → List Change
take_all rows = map (λ row. Moves (Take row Left)) rows

-- ## DEL

-- how many keys were there, and what takes them away
pub record Deleted : Type 0 where
  pub count : ℕ
  pub changes : List Change

-- a plain key goes; of a queue the rows go, and its name; of a set of jobs the rows go
abbrev pub delete_as : World → Bytes → KeyClass → Deleted
delete_as w key class.Plain = record { count = cond (is_some (at key w.keys)) 1 0; changes = Keeps (without key w.keys) ∷ [] }
delete_as w key class.Queue =
    let rows : List Row = rows_at (Queue (queue_of key)) w.rows in
    record { count = cond (length rows == 0) 0 1; changes = take_all rows ++ Unnames (queue_of key) ∷ [] }
delete_as w key (class.Jobs set) =
    let rows : List Row = rows_at (Set set) w.rows in
    record { count = cond (length rows == 0) 0 1; changes = take_all rows }
delete_as w key other = record { count = 0; changes = [] }

-- each key at the world that the ones before it left
abbrev pub delete_each : World → List Bytes → Deleted
delete_each w [] = record { count = 0; changes = [] }
delete_each w (key ∷ keys) =
    let one : Deleted = delete_as w key (class_of key) in
    let more : Deleted = delete_each (perform w one.changes) keys in
    record { count = one.count + more.count; changes = one.changes ++ more.changes }

abbrev pub may_go : KeyClass → Bool
may_go class.Plain = true
may_go class.Queue = true
may_go class.NoQueue = false
may_go class.Queues = false
may_go class.Private = false
may_go class.NoPrivate = false
may_go class.Processes = false
may_go (class.Jobs set) = true
may_go class.Counter = false

-- With one key that may not be deleted none is.
abbrev pub delete : World → List Bytes → Outcome
delete w keys = cond (list_all (λ key. may_go (class_of key)) keys)
    (record { reply = counted (delete_each w keys).count; changes = (delete_each w keys).changes })
    (refuses ManagedKey)

-- ## FLUSHALL

-- all rows, all names and all plain keys go
abbrev pub flush : World → Outcome
flush w = record { reply = reply.Say say.Ok; changes = take_all w.rows ++ map Unnames w.names ++ Keeps [] ∷ [] }
