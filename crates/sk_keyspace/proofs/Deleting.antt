-- Keys that are deleted.
use Rattle.std.proofs.Common.{◌≡◌, ◌+◌, ◌==◌, ℕ, List, [], ◌∷◌, ◌++◌, refl, sym, ap, ◌∙◌, arith, Bool, map, length}
use Rattle.std.specs.Prelude.{cond, nat_lt}
use Rattle.std.proofs.lemmas.Cmp.{nat_list_cmp_total, tied_itself}
use Rattle.sk_resp.specs.Spelling.{Bytes}
use Rattle.sk_resp.specs.declared.reply.Reply.TheVariants as reply
use Rattle.sk_resp.specs.declared.say.Say.TheVariants as say
use Rattle.sk_cmd.specs.declared.argument.Side.TheVariants.{Left}
use Rattle.sk_cmd.specs.declared.argument.Scored.{Scored}
use Rattle.sk_undo.specs.Versions.{Versions, edited}
use Rattle.sk_value.specs.Keys.{Keys}
use Rattle.sk_places.specs.declared.row.Place.TheVariants.{Queue, Set}
use Rattle.sk_places.specs.declared.row.Row.{Row}
use Rattle.sk_places.specs.Rows.{rows_at}
use Rattle.sk_places.specs.declared.ending.Ending.TheVariants.{Deleted}
use Rattle.sk_places.specs.Placed.{Placed, ended_row, ended_rows, without_name}
use Rattle.sk_key.specs.declared.key_class.KeyClass.TheVariants as class
use Rattle.sk_model.specs.World.{World}
use Rattle.sk_model.specs.Change.{Keeps, Unnames, changed, perform}
use Rattle.sk_key.specs.Class.{class_of, queue_of}
use Rattle.sk_model.specs.Deletes.{delete_as, delete_each, flush, take_all}
use Rattle.sk_model.specs.Outcome.{Realizes}
use Rattle.sk_model.proofs.Changes.Lawful.{perform-append}
use Rattle.sk_store.specs.declared.store.Store.{Store}
use Rattle.sk_store.specs.Stored.{world}
use Rattle.sk_keyspace.specs.Deleted.{Deletes}

abbrev pub one_if : Bool → ℕ
one_if b = cond b 1 0

-- the store with these rows, names and lives
placed : Store → Placed → Store
placed s p = record s { places = edited p s.places }

-- ## Rows

pub taken_world : (s : Store) (rows : List Row) → perform (world s) (take_all rows) ≡ world (record s { places = edited (ended_rows Deleted rows s.places.current) s.places })
unfolding placed
taken_world s [] = refl
taken_world s (row ∷ rows) = taken_world (placed s (ended_row Deleted Left row s.places.current)) rows

-- the names have no part in it
apart : (rows : List Row) (names : List Bytes) (p : Placed) → ended_rows Deleted rows (record p { names = names }) ≡ record (ended_rows Deleted rows p) { names = names }
apart [] names p = refl
apart (row ∷ rows) names p = apart rows names (ended_row Deleted Left row p)

names_stay : (rows : List Row) (p : Placed) → (ended_rows Deleted rows p).names ≡ p.names
names_stay [] p = refl
names_stay (row ∷ rows) p = names_stay rows (ended_row Deleted Left row p)

-- ## One key

some_or_none : (n : ℕ) → one_if (nat_lt 0 n) ≡ cond (n == 0) 0 1
some_or_none n = grind arith

-- a queue went, and its name before it
pub queue_deleted : (s : Store) (key queue : Bytes) (unnamed new : Versions Placed) (was : Bool) → queue ≡ queue_of key → unnamed ≡ edited (record s.places.current { names = without_name queue s.places.current.names }) s.places
    → was ≡ nat_lt 0 (length (rows_at (Queue queue) unnamed.current.rows)) → new ≡ edited (ended_rows Deleted (rows_at (Queue queue) unnamed.current.rows) unnamed.current) unnamed
    → Deletes (world s) (delete_as (world s) key class.Queue) (one_if was) (world (record s { places = new }))
unfolding placed
queue_deleted s key queue unnamed new was same first e f =
    let p : Placed = s.places.current in
    let rows : List Row = rows_at (Queue queue) p.rows in
    let after : Placed = ended_rows Deleted rows p in
    record {
      count_is = ap one_if e ∙ some_or_none (length (rows_at (Queue queue) unnamed.current.rows)) ∙ ap (λ (u : Versions Placed). cond (length (rows_at (Queue queue) u.current.rows) == 0) 0 1) first
          ∙ ap (λ q. cond (length (rows_at (Queue q) p.rows) == 0) 0 1) same;
      new_is = ap (λ x. world (record s { places = x })) (f ∙ ap (λ (u : Versions Placed). edited (ended_rows Deleted (rows_at (Queue queue) u.current.rows) u.current) u) first)
          ∙ ap (λ q. world (placed s q)) (apart rows (without_name queue p.names) p)
          ∙ ap (λ names. world (placed s (record after { names = without_name queue names }))) (sym (names_stay rows p))
          ∙ ap (λ v. changed v (Unnames queue)) (sym (taken_world s rows))
          ∙ sym (perform-append (world s) (take_all rows) (Unnames queue ∷ []))
          ∙ ap (λ q. perform (world s) (take_all (rows_at (Queue q) p.rows) ++ Unnames q ∷ [])) same;
    }

pub jobs_deleted : (s : Store) (key : Bytes) (set : Scored) (new : Versions Placed) (was : Bool) → was ≡ nat_lt 0 (length (rows_at (Set set) s.places.current.rows))
    → new ≡ edited (ended_rows Deleted (rows_at (Set set) s.places.current.rows) s.places.current) s.places → Deletes (world s) (delete_as (world s) key (class.Jobs set)) (one_if was) (world (record s { places = new }))
jobs_deleted s key set new was e f = record {
  count_is = ap one_if e ∙ some_or_none (length (rows_at (Set set) s.places.current.rows));
  new_is = ap (λ x. world (record s { places = x })) f ∙ sym (taken_world s (rows_at (Set set) s.places.current.rows));
}

-- ## One key after another

pub each_count : (v after : World) (key : Bytes) (keys : List Bytes) (was : Bool) → Deletes v (delete_as v key (class_of key)) (one_if was) after → one_if was + (delete_each after keys).count ≡ (delete_each v (key ∷ keys)).count
each_count v after key keys was d = ap (λ n. n + (delete_each after keys).count) d.count_is ∙ ap (λ u. (delete_as v key (class_of key)).count + (delete_each u keys).count) d.new_is

pub each_world : (v after : World) (key : Bytes) (keys : List Bytes) (was : Bool) → Deletes v (delete_as v key (class_of key)) (one_if was) after → perform after (delete_each after keys).changes ≡ perform v (delete_each v (key ∷ keys)).changes
each_world v after key keys was d =
    let one = (delete_as v key (class_of key)).changes in
    ap (λ u. perform u (delete_each u keys).changes) d.new_is ∙ sym (perform-append v one (delete_each (perform v one) keys).changes)

-- ## All

no_names : World → World
no_names w = record w { names = [] }

all_unnamed : (w : World) (names : List Bytes) → w.names ≡ names → perform w (map Unnames names) ≡ no_names w
unfolding no_names
all_unnamed w [] e = ap (λ n. record w { names = n }) e
all_unnamed w (name ∷ names) e = all_unnamed (changed w (Unnames name)) names (ap (without_name name) e ∙ grind (arith, tied_itself nat_list_cmp_total name))

-- all rows, names and plain keys go
flushed : (s : Store) → let p : Placed = s.places.current in
    perform (world s) (take_all p.rows ++ map Unnames p.names ++ Keeps [] ∷ []) ≡ world (record s { places = edited (record (ended_rows Deleted p.rows p) { names = [] }) s.places; keys = [] })
unfolding placed no_names
flushed s =
    let p : Placed = s.places.current in
    let w : World = world s in
    perform-append w (take_all p.rows ++ map Unnames p.names) (Keeps [] ∷ [])
    ∙ ap (λ u. changed u (Keeps []))
    (perform-append w (take_all p.rows) (map Unnames p.names) ∙ ap (λ u. perform u (map Unnames p.names)) (taken_world s p.rows)
    ∙ all_unnamed (world (placed s (ended_rows Deleted p.rows p))) p.names (names_stay p.rows p))

pub flush_comes : (s : Store) (new : Versions Placed) (left : Keys) → new ≡ edited (record (ended_rows Deleted s.places.current.rows s.places.current) { names = [] }) s.places → left ≡ []
    → Realizes (world s) (flush (world s)) (reply.Say say.Ok) (world (record s { places = new; keys = left }))
flush_comes s new left e f = record {
  reply_is = refl;
  new_is = ap (λ x. world (record s { places = x; keys = left })) e
      ∙ ap (λ k. world (record s { places = edited (record (ended_rows Deleted s.places.current.rows s.places.current) { names = [] }) s.places; keys = k })) f ∙ sym (flushed s);
}
