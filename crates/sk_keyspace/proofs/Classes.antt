-- Commands on keys of each class.
use Rattle.std.proofs.Common.{◌≡◌, ◌==◌, ◌+◌, ℕ, List, [], ◌∷◌, refl, sym, ap, ◌∙◌, arith, Bool, true, false, not, length, map}
use Rattle.std.specs.Prelude.{Option, Some, None, option_map, Result, Ok, Err, IfOk, OnOk, OnErr, nat_lt}
use Rattle.std.specs.Option.{is_some}
use Rattle.sk_resp.specs.Spelling.{Bytes}
use Rattle.sk_resp.specs.declared.reply.Reply.{Reply}
use Rattle.sk_cmd.specs.declared.argument.Side.{Side}
use Rattle.sk_cmd.specs.declared.argument.Scored.{Scored}
use Rattle.sk_value.specs.declared.value.Value.{Value}
use Rattle.sk_value.specs.declared.value.Value.TheVariants as value
use Rattle.sk_value.specs.declared.action.Action.TheVariants as action
use Rattle.sk_value.specs.declared.read_op.ReadOp.{ReadOp}
use Rattle.sk_value.specs.declared.entry.Entry.{Entry}
use Rattle.sk_value.specs.Answer.{Answer, AnswersWith}
use Rattle.sk_value.specs.Keys.{Keys, how_many}
use Rattle.sk_value.specs.Values.{look_at}
use Rattle.sk_key.specs.declared.key_class.KeyClass.TheVariants as class
use Rattle.sk_places.specs.declared.row.Place.TheVariants.{Private, Queue, Set}
use Rattle.sk_places.specs.Rows.{pair_of, rows_at, texts_at}
use Rattle.sk_counters.specs.Counters.{count_in}
use Rattle.sk_leases.specs.Leased.{idents}
use Rattle.sk_model.specs.World.{World}
use Rattle.sk_key.specs.Class.{class_of, counter_of, ident_of, queue_of}
use Rattle.sk_model.specs.Held.{count_entry, if_any, held, held_as}
use Rattle.sk_model.specs.Outcome.{reply_of, says}
use Rattle.sk_model.specs.Queues.{move}
use Rattle.sk_model.specs.Step.{on_keys, moves}
use Rattle.sk_store.specs.declared.store.Store.{Store}
use Rattle.sk_store.specs.Stored.{IsReady, Executes, world}
use Rattle.sk_keyspace.proofs.Deleting.{one_if}

-- ## Reading

pub held_queue : (w : World) (key queue : Bytes) → class_of key ≡ class.Queue → queue ≡ queue_of key → held w key ≡ if_any value.List (texts_at (Queue queue) w.rows)
held_queue w key queue is e = ap (held_as w key) is ∙ ap (λ q. if_any value.List (texts_at (Queue q) w.rows)) (sym e)

pub held_jobs : (w : World) (key : Bytes) (set : Scored) → class_of key ≡ class.Jobs set → held w key ≡ if_any value.Sorted (map pair_of (rows_at (Set set) w.rows))
held_jobs w key set is = ap (held_as w key) is

pub held_private : (w : World) (key ident : Bytes) → class_of key ≡ class.Private → ident ≡ ident_of key → held w key ≡ if_any value.List (texts_at (Private ident) w.rows)
held_private w key ident is e = ap (held_as w key) is ∙ ap (λ i. if_any value.List (texts_at (Private i) w.rows)) (sym e)

pub held_processes : (w : World) (key : Bytes) → class_of key ≡ class.Processes → held w key ≡ if_any value.Set (idents w.moment w.leases)
held_processes w key is = ap (held_as w key) is

pub held_counter : (w : World) (key : Bytes) → class_of key ≡ class.Counter → held w key ≡ option_map count_entry (count_in w.counters (counter_of key))
held_counter w key is = ap (held_as w key) is

pub there_if_any : {A B : Type 0} (make : List B → Value) (f : A → B) (xs : List A) → is_some (if_any make (map f xs)) ≡ nat_lt 0 (length xs)
there_if_any make f [] = grind arith
there_if_any make f (x ∷ xs) = grind arith

pub some_if_any : {B : Type 0} (make : List B → Value) (xs : List B) → is_some (if_any make xs) ≡ not (length xs == 0)
some_if_any make [] = grind arith
some_if_any make (x ∷ xs) = grind arith

pub some_count : (o : Option ℕ) → is_some (option_map count_entry o) ≡ is_some o
some_count None = refl
some_count (Some n) = refl

-- what is read of a key that holds this
pub look_runs : {E : Type 0} (s : Store) (look : ReadOp) (key : Bytes) (holds : Option Entry) (answer : Answer) (r : Result Reply E) → IsReady s → held (world s) key ≡ holds
    → AnswersWith (look_at s.moment look holds) answer → IfOk r (λ reply. (due : Answer) → AnswersWith due answer → reply ≡ reply_of due) → Executes s (says (reply_of (look_at s.moment look (held (world s) key)))) r s
look_runs s look key holds answer (Ok reply) ready is gives replies = (record { reply_is = replies (look_at s.moment look holds) gives ∙ ap (λ o. reply_of (look_at s.moment look o)) (sym is); new_is = refl }, ready)
look_runs s look key holds answer (Err m) ready is gives replies = refl

-- the keys are as before, whether the look was answered or not
pub keys_stay : (keys new : Keys) (answer : Answer) → OnOk answer (new ≡ keys) → OnErr answer (new ≡ keys) → new ≡ keys
keys_stay keys new (Ok r) ok err = ok
keys_stay keys new (Err f) ok err = err

-- one word more to count
pub one_more : (holds : Bytes → Option Entry) (name : Bytes) (names : List Bytes) → how_many holds (name ∷ names) ≡ one_if (is_some (holds name)) + how_many holds names
one_more holds name names = by_test (is_some (holds name)) refl where
  by_test : (b : Bool) → is_some (holds name) ≡ b → how_many holds (name ∷ names) ≡ one_if b + how_many holds names
  by_test true e = grind (arith, e)
  by_test false e = grind (arith, e)

pub no_more : (holds : Bytes → Option Entry) (names : List Bytes) → length names ≡ 0 → how_many holds names ≡ 0
no_more holds [] e = refl
no_more holds (name ∷ names) e = absurd (omega (arith, e))

-- ## LMOVE

pub plain_move : (w : World) (source destination : Bytes) (from to : Side) → class_of source ≡ class.Plain → class_of destination ≡ class.Plain
    → moves w source destination from to (class_of source) (class_of destination) ≡ on_keys w (action.Move source destination from to)
plain_move w source destination from to is also = ap (λ c. moves w source destination from to c (class_of destination)) is ∙ ap (moves w source destination from to class.Plain) also

pub queue_move : (w : World) (source destination a b : Bytes) (from to : Side) → class_of source ≡ class.Queue → class_of destination ≡ class.Queue → a ≡ queue_of source → b ≡ queue_of destination
    → moves w source destination from to (class_of source) (class_of destination) ≡ move w (Queue a) (Queue b) from to
queue_move w source destination a b from to is also e f =
    ap (λ c. moves w source destination from to c (class_of destination)) is ∙ ap (moves w source destination from to class.Queue) also
    ∙ ap (λ q. move w (Queue q) (Queue (queue_of destination)) from to) (sym e) ∙ ap (λ q. move w (Queue a) (Queue q) from to) (sym f)
