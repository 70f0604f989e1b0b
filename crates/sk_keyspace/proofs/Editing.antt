-- What edits of the places are in the abstract store: pushes, takes, carries and names.
use Rattle.std.proofs.Common.{◌≡◌, ℕ, ℤ, zero, suc, ◌-◌, List, [], ◌∷◌, refl, sym, ap, subst, ◌∙◌, true, false, map, length}
use Rattle.std.specs.Prelude.{cond}
use Rattle.std.specs.List.{list_all}
use Rattle.sk_resp.specs.Spelling.{Bytes}
use Rattle.sk_resp.specs.declared.reply.Reply.TheVariants as reply
use Rattle.sk_resp.specs.declared.say.Say.TheVariants as say
use Rattle.sk_resp.specs.declared.refusal.Refusal.TheVariants.{Full, ManagedKey}
use Rattle.sk_cmd.specs.declared.argument.Side.{Side}
use Rattle.sk_cmd.specs.declared.argument.Scored.{Scored}
use Rattle.sk_undo.specs.Versions.{Versions, edited}
use Rattle.sk_places.specs.declared.row.Place.TheVariants.{Set}
use Rattle.sk_model.specs.Sets.{add, add_each, remove_all}
use Rattle.sk_payload.specs.Member.{is_name}
use Rattle.sk_value.specs.Answer.{counted}
use Rattle.sk_value.specs.Sets.{with_members}
use Rattle.sk_places.specs.declared.row.Place.{Place}
use Rattle.sk_places.specs.declared.row.Row.{Row}
use Rattle.sk_places.specs.Rows.{copies_of, end_taken, number_taken, row_at, rows_at}
use Rattle.sk_zset.specs.Pair.{Pair}
use Rattle.sk_places.specs.declared.ending.Ending.TheVariants.{Deleted}
use Rattle.sk_places.specs.Placed.{Placed, ended_copies, ended_row, ended_rows}
use Rattle.sk_model.specs.World.{World}
use Rattle.sk_model.specs.Change.{Names, changed, perform}
use Rattle.sk_model.specs.Outcome.{Realizes, refuses}
use Rattle.sk_model.specs.Queues.{push, pushes, length_at, takes, remove, add_names}
use Rattle.sk_model.specs.Room.{is_full}
use Rattle.sk_store.specs.declared.store.Store.{Store}
use Rattle.sk_store.specs.Stored.{world}
use Rattle.sk_keyspace.proofs.Deleting.{taken_world}

-- the store with these rows, names and lives
placed : Store → Placed → Store
placed s p = record s { places = edited p s.places }

-- ## Pushes

pub push_comes : (w new : World) (k : ℕ) (end : Side) (place : Place) (texts : List Bytes) → is_full w texts ≡ false → new ≡ perform w (pushes end place texts) → k ≡ length (rows_at place new.rows)
    → Realizes w (push w end place texts) (counted k) new
push_comes w new k end place texts room is count =
    subst (λ b. Realizes w (cond b (refuses Full) (record { reply = counted (length_at place (perform w (pushes end place texts))); changes = pushes end place texts })) (counted k) new) (sym room)
    (record { reply_is = ap counted (count ∙ ap (length_at place) is); new_is = is })

pub full_comes : (w : World) (end : Side) (place : Place) (texts : List Bytes) → is_full w texts ≡ true → Realizes w (push w end place texts) (reply.Say (say.Refused Full)) w
full_comes w end place texts full =
    subst (λ b. Realizes w (cond b (refuses Full) (record { reply = counted (length_at place (perform w (pushes end place texts))); changes = pushes end place texts })) (reply.Say (say.Refused Full)) w) (sym full)
    (record { reply_is = refl; new_is = refl })

-- ## ZADD

pub add_comes : (w new : World) (k : ℕ) (set : Scored) (pairs : List Pair) → is_full w (map (λ pair. pair.1) pairs) ≡ false → new ≡ perform w (add_each w set pairs)
    → k ≡ length (rows_at (Set set) new.rows) - length (rows_at (Set set) w.rows) → Realizes w (add w set pairs) (counted k) new
add_comes w new k set pairs room is count =
    subst (λ b. Realizes w (cond b (refuses Full) (record { reply = counted (length_at (Set set) (perform w (add_each w set pairs)) - length_at (Set set) w); changes = add_each w set pairs })) (counted k) new) (sym room)
    (record { reply_is = ap counted (count ∙ ap (λ (u : World). length_at (Set set) u - length_at (Set set) w) is); new_is = is })

pub add_full : (w : World) (set : Scored) (pairs : List Pair) → is_full w (map (λ pair. pair.1) pairs) ≡ true → Realizes w (add w set pairs) (reply.Say (say.Refused Full)) w
add_full w set pairs full =
    subst (λ b. Realizes w (cond b (refuses Full) (record { reply = counted (length_at (Set set) (perform w (add_each w set pairs)) - length_at (Set set) w); changes = add_each w set pairs })) (reply.Say (say.Refused Full)) w) (sym full)
    (record { reply_is = refl; new_is = refl })

-- ## What takes jobs out of a set

pub gone_comes : (s : Store) (rows : List Row) (k : ℕ) (new : Versions Placed) → k ≡ length rows → new ≡ edited (ended_rows Deleted rows s.places.current) s.places → Realizes (world s) (remove_all rows) (counted k) (world (record s { places = new }))
gone_comes s rows k new e f = record { reply_is = ap counted e; new_is = ap (λ x. world (record s { places = x })) f ∙ sym (taken_world s rows) }

-- ## LREM

copies_gone : (s : Store) (n : ℕ) (row : Row) (end : Side) → perform (world s) (takes n row end) ≡ world (placed s (ended_copies Deleted n end row s.places.current))
unfolding placed
copies_gone s zero row end = refl
copies_gone s (suc n) row end = copies_gone (placed s (ended_row Deleted end row s.places.current)) n row end

pub remove_comes : (s : Store) (place : Place) (count : ℤ) (text : Bytes) (k : ℕ) (new : Versions Placed) → k ≡ number_taken count (copies_of (row_at place text) s.places.current.rows)
    → new ≡ edited (ended_copies Deleted k (end_taken count) (row_at place text) s.places.current) s.places → Realizes (world s) (remove (world s) place count text) (counted k) (world (record s { places = new }))
unfolding placed
remove_comes s place count text k new e f = record {
  reply_is = ap counted e;
  new_is = ap (λ x. world (record s { places = x })) f ∙ sym (copies_gone s k (row_at place text) (end_taken count)) ∙ ap (λ i. perform (world s) (takes i (row_at place text) (end_taken count))) e;
}

-- ## Names

names_are : (names : List Bytes) (w : World) → (perform w (map Names names)).names ≡ with_members names w.names
names_are [] w = refl
names_are (name ∷ names) w = names_are names (changed w (Names name))

pub names_come : (w new : World) (names : List Bytes) (k : ℕ) → list_all (is_name 255) names ≡ true → new ≡ perform w (map Names names) → k ≡ length new.names - length w.names → Realizes w (add_names w names) (counted k) new
names_come w new names k are is count =
    subst (λ b. Realizes w (cond b (record { reply = counted (length (with_members names w.names) - length w.names); changes = map Names names }) (refuses ManagedKey)) (counted k) new) (sym are)
    (record { reply_is = ap counted (count ∙ ap (λ (v : World). length v.names - length w.names) is ∙ ap (λ all. length all - length w.names) (names_are names w)); new_is = is })
