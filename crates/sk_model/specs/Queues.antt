-- The commands that write on queues and on their names: LPUSH, RPUSH, LREM, LMOVE, and SADD on `queues` (Redis, "Lists", "SADD").
use Rattle.std.specs.Prelude.{ℕ, ℤ, pos, zero, suc, ◌-◌, List, [], ◌∷◌, Option, Some, None, length, map, cond}
use Rattle.std.specs.List.{list_all}
use Rattle.sk_base.specs.declared.limits.TheConstants.{LONGEST_NAME}
use Rattle.sk_resp.specs.Spelling.{Bytes}
use Rattle.sk_resp.specs.declared.reply.Reply.TheVariants as reply
use Rattle.sk_resp.specs.declared.refusal.Refusal.TheVariants.{ManagedKey}
use Rattle.sk_cmd.specs.declared.argument.Side.{Side}
use Rattle.sk_payload.specs.Member.{is_name}
use Rattle.sk_value.specs.Answer.{counted}
use Rattle.sk_value.specs.Sets.{with_members}
use Rattle.sk_places.specs.declared.row.Place.{Place}
use Rattle.sk_places.specs.declared.row.Row.{Row}
use Rattle.sk_places.specs.Rows.{copies_of, end_taken, number_taken, rows_at, row_at, row_at_end}
use Rattle.sk_places.specs.declared.origin.Origin.TheVariants.{Outside}
use Rattle.sk_model.specs.World.{World}
use Rattle.sk_model.specs.Change.{Change, Moves, Add, Carry, Take, Names, perform}
use Rattle.sk_model.specs.Outcome.{Outcome, says, refuses}
use Rattle.sk_model.specs.Room.{where_room}

-- ## LPUSH, RPUSH

-- each text in turn at that end
abbrev pub pushes : Side → Place → List Bytes → List Change
pushes end place [] = []
pushes end place (text ∷ texts) = Moves (Add (row_at place text) end Outside) ∷ pushes end place texts

abbrev pub length_at : Place → World → ℕ
length_at place w = length (rows_at place w.rows)

-- the texts are pushed, and the reply is the new length
abbrev pub push : World → Side → Place → List Bytes → Outcome
push w end place texts =
    let changes : List Change = pushes end place texts in
    where_room w texts (record { reply = counted (length_at place (perform w changes)); changes = changes })

-- ## LREM

abbrev pub takes : ℕ → Row → Side → List Change
takes zero row end = []
takes (suc n) row end = Moves (Take row end) ∷ takes n row end

abbrev pub remove : World → Place → ℤ → Bytes → Outcome
remove w place count text =
    let number : ℕ = number_taken count (copies_of (row_at place text) w.rows) in
    record { reply = counted number; changes = takes number (row_at place text) (end_taken count) }

-- ## LMOVE

abbrev pub move_row : Option Row → Side → Place → Side → Outcome
move_row None from to end = says reply.Null
move_row (Some row) from to end = record { reply = reply.Bulk row.text; changes = Moves (Carry row from to (pos 0) end) ∷ [] }

-- the row at one end of a place goes to an end of another, which may be the same
abbrev pub move : World → Place → Place → Side → Side → Outcome
move w from to out end = move_row (row_at_end out from w.rows) out to end

-- ## SADD queues

-- the names are added, and the reply tells how many are new
abbrev pub add_names : World → List Bytes → Outcome
add_names w names = cond (list_all (is_name LONGEST_NAME) names)
    (record { reply = counted (length (with_members names w.names) - length w.names); changes = map Names names })
    (refuses ManagedKey)
