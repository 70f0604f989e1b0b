-- An action on the plain keys that is answered with an error leaves them.
use Rattle.std.proofs.Common.{◌≡◌, ◌⊎◌, inl, inr, refl, sym, ap, ◌∙◌, List, [], ◌∷◌, ℕ, Bool, true, false, cond}
use Rattle.std.specs.Prelude.{ℤ, pos, negsuc, Option, Some, None, Result, Ok, Err, nat_lt, nat_le, ◌+◌, ◌&&◌}
use Rattle.std.specs.Option.{is_some}
use Rattle.std.specs.Str.{bytes_eq}
use Rattle.sk_resp.specs.Spelling.{Bytes}
use Rattle.sk_resp.specs.declared.reply.Reply.{Reply}
use Rattle.sk_resp.specs.declared.reply.Reply.TheVariants as reply
use Rattle.sk_cmd.specs.declared.argument.Side.{Side}
use Rattle.sk_cmd.specs.declared.argument.SetOptions.{SetOptions}
use Rattle.sk_zset.specs.Pair.{Pair}
use Rattle.sk_value.specs.declared.keys_fault.KeysFault.{KeysFault}
use Rattle.sk_value.specs.declared.value.Value.{Value}
use Rattle.sk_value.specs.declared.value.Value.TheVariants as value
use Rattle.sk_value.specs.declared.entry.Entry.{Entry}
use Rattle.sk_value.specs.declared.write_op.WriteOp.{WriteOp}
use Rattle.sk_value.specs.declared.write_op.WriteOp.TheVariants as edit
use Rattle.sk_value.specs.declared.action.Action.{Action}
use Rattle.sk_value.specs.declared.action.Action.TheVariants as action
use Rattle.sk_value.specs.Answer.{AndThen, counted}
use Rattle.sk_value.specs.Strings.{edit_string, sum}
use Rattle.sk_value.specs.Lists.{edit_list, take_one}
use Rattle.sk_value.specs.Sets.{edit_set}
use Rattle.sk_value.specs.Hashes.{Pairs, edit_hash}
use Rattle.sk_value.specs.Sorted.{edit_sorted}
use Rattle.sk_value.specs.Number.{int_of}
use Rattle.sk_value.specs.Values.{is_empty, edit_in, blank, as_value}
use Rattle.sk_value.specs.Keys.{Keys, at}
use Rattle.sk_value.specs.Apply.{Applied, Turn, Stays, after, latest, applied, answers, carry, deadline_at, deadline_of, edit_at, edited, expire_at, expires_at, give_at, holds_string, keeps, list_at, move_keys, move_list, refuses, set_at, set_until, turn_list, turns}
use Rattle.sk_model.specs.Outcome.{reply_of}
use Rattle.sk_resp.specs.Errors.{is_error}
use Rattle.sk_model.proofs.Replay.Calm.{Mild, MildTurn, mild_turn, mild_either, mild_either_turn}

-- ## Edits

-- what an edit answers, where it isn't refused, is no error
abbrev Fine : {A : Type 0} → AndThen A → Type 0
Fine (Ok p) = is_error p.0 ≡ false
Fine (Err f) = Unit {0}

fine_as : {A : Type 0} (make : A → Value) (r : AndThen A) → Fine r → Fine (as_value make r)
fine_as make (Ok p) fine = fine
fine_as make (Err f) fine = tt

fine_or : {A : Type 0} (b : Bool) (r : Reply) (a : A) (f : KeysFault) → is_error r ≡ false → Fine {A = A} (cond b (Ok (r, a)) (Err f))
fine_or true r a f ok = ok
fine_or false r a f ok = tt

fine_sum : (n : ℤ) (found : Option ℤ) → Fine (sum n found)
fine_sum n None = tt
fine_sum n (Some z) = fine_or _ _ _ _ refl

fine_string : (e : WriteOp) (text : Bytes) → Fine (edit_string e text)
unfolding edit_string
fine_string (edit.Incrby n) text = fine_sum n (int_of text)
fine_string (edit.Push side more) text = tt
fine_string (edit.Lrem count other) text = tt
fine_string (edit.Sadd more) text = tt
fine_string (edit.Srem others) text = tt
fine_string (edit.Hset more) text = tt
fine_string (edit.Hdel fields) text = tt
fine_string (edit.Zadd more) text = tt
fine_string (edit.Zrem members) text = tt
fine_string (edit.Zremrangebyrank first last) text = tt
fine_string (edit.Zremrangebyscore least greatest) text = tt

fine_list : (e : WriteOp) (list : List Bytes) → Fine (edit_list e list)
unfolding edit_list
fine_list (edit.Push side more) list = refl
fine_list (edit.Lrem count other) list = refl
fine_list (edit.Incrby n) list = tt
fine_list (edit.Sadd more) list = tt
fine_list (edit.Srem others) list = tt
fine_list (edit.Hset more) list = tt
fine_list (edit.Hdel fields) list = tt
fine_list (edit.Zadd more) list = tt
fine_list (edit.Zrem members) list = tt
fine_list (edit.Zremrangebyrank first last) list = tt
fine_list (edit.Zremrangebyscore least greatest) list = tt

fine_set : (e : WriteOp) (members : List Bytes) → Fine (edit_set e members)
unfolding edit_set
fine_set (edit.Sadd more) members = refl
fine_set (edit.Srem others) members = refl
fine_set (edit.Incrby n) members = tt
fine_set (edit.Push side more) members = tt
fine_set (edit.Lrem count other) members = tt
fine_set (edit.Hset more) members = tt
fine_set (edit.Hdel fields) members = tt
fine_set (edit.Zadd more) members = tt
fine_set (edit.Zrem others) members = tt
fine_set (edit.Zremrangebyrank first last) members = tt
fine_set (edit.Zremrangebyscore least greatest) members = tt

fine_hash : (e : WriteOp) (pairs : Pairs) → Fine (edit_hash e pairs)
unfolding edit_hash
fine_hash (edit.Hset more) pairs = refl
fine_hash (edit.Hdel fields) pairs = refl
fine_hash (edit.Incrby n) pairs = tt
fine_hash (edit.Push side more) pairs = tt
fine_hash (edit.Lrem count other) pairs = tt
fine_hash (edit.Sadd more) pairs = tt
fine_hash (edit.Srem others) pairs = tt
fine_hash (edit.Zadd more) pairs = tt
fine_hash (edit.Zrem others) pairs = tt
fine_hash (edit.Zremrangebyrank first last) pairs = tt
fine_hash (edit.Zremrangebyscore least greatest) pairs = tt

fine_sorted : (e : WriteOp) (pairs : List Pair) → Fine (edit_sorted e pairs)
unfolding edit_sorted
fine_sorted (edit.Zadd more) pairs = refl
fine_sorted (edit.Zrem others) pairs = refl
fine_sorted (edit.Zremrangebyrank first last) pairs = refl
fine_sorted (edit.Zremrangebyscore least greatest) pairs = refl
fine_sorted (edit.Incrby n) pairs = tt
fine_sorted (edit.Push side more) pairs = tt
fine_sorted (edit.Lrem count other) pairs = tt
fine_sorted (edit.Sadd more) pairs = tt
fine_sorted (edit.Srem others) pairs = tt
fine_sorted (edit.Hset more) pairs = tt
fine_sorted (edit.Hdel fields) pairs = tt

fine_in : (e : WriteOp) (v : Value) → Fine (edit_in e v)
fine_in e (value.String text) = fine_as value.String (edit_string e text) (fine_string e text)
fine_in e (value.List list) = fine_as value.List (edit_list e list) (fine_list e list)
fine_in e (value.Set members) = fine_as value.Set (edit_set e members) (fine_set e members)
fine_in e (value.Hash pairs) = fine_as value.Hash (edit_hash e pairs) (fine_hash e pairs)
fine_in e (value.Sorted pairs) = fine_as value.Sorted (edit_sorted e pairs) (fine_sorted e pairs)

mild_keeps : (r : Reply) (v : Value) (deadline : Option ℕ) → is_error r ≡ false → MildTurn (keeps r v deadline)
mild_keeps r v deadline ok = mild_either_turn (is_empty v) _ _ (inl ok) (inl ok)

mild_edited : (r : AndThen Value) (deadline : Option ℕ) → Fine r → MildTurn (edited r deadline)
mild_edited (Ok p) deadline fine = mild_keeps p.0 p.1 deadline fine
mild_edited (Err f) deadline fine = inr refl

mild_edit : (e : WriteOp) (before : Option Entry) → MildTurn (edit_at e before)
unfolding edit_at
mild_edit e None = mild_edited (edit_in e (blank e)) None (fine_in e (blank e))
mild_edit e (Some entry) = mild_edited (edit_in e entry.value) entry.deadline (fine_in e entry.value)

-- ## SET and PEXPIRE

mild_until : (text : Bytes) (only_new : Bool) (deadline : Result (Option ℕ) KeysFault) (before : Option Entry) → MildTurn (set_until text only_new deadline before)
mild_until text only_new (Err f) before = inr refl
mild_until text only_new (Ok deadline) before = mild_either_turn (only_new && is_some before) _ _ (inl refl) (inl refl)

mild_set : (now : ℕ) (text : Bytes) (options : SetOptions) (before : Option Entry) → MildTurn (set_at now text options before)
unfolding set_at
mild_set now text options before = mild_until text options.only_new (deadline_of now options.expire) before

mild_expire_at : (deadline : Option ℕ) (before : Option Entry) → MildTurn (expire_at deadline before)
mild_expire_at deadline None = inl refl
mild_expire_at None (Some entry) = inl refl
mild_expire_at (Some deadline) (Some entry) = inl refl

mild_in_time : (now n : ℕ) (before : Option Entry) (b : Bool) → nat_le (now + n) latest ≡ b → MildTurn (expires_at now (pos n) before)
unfolding expires_at
mild_in_time now n before true e = rw e (mild_either_turn (nat_lt 0 n) _ _ (mild_expire_at (Some (now + n)) before) (mild_expire_at None before))
mild_in_time now n before false e = rw e (mild_either_turn (nat_lt 0 n) _ _ (inr refl) (mild_expire_at None before))

mild_expires : (now : ℕ) (millis : ℤ) (before : Option Entry) → MildTurn (expires_at now millis before)
unfolding expires_at
mild_expires now (negsuc n) before = mild_expire_at None before
mild_expires now (pos n) before = mild_in_time now n before (nat_le (now + n) latest) refl

-- ## SK.GIVE

mild_give : (text : Bytes) (before : Option Entry) → MildTurn (give_at text before)
unfolding give_at
mild_give text before = mild_either_turn (holds_string text before) _ _ (inl refl) (inl refl)

-- ## LMOVE

mild_turn_list : (name : Bytes) (to : Side) (deadline : Option ℕ) (taken : Option (Bytes × List Bytes)) (keys : Keys) → Mild keys (turn_list name to deadline taken keys)
mild_turn_list name to deadline None keys = inr refl
mild_turn_list name to deadline (Some taken) keys = inl refl

mild_carry : (source : Bytes) (from : Option Entry) (destination : Bytes) (to : Side) (there : Option Entry) (taken : Option (Bytes × List Bytes)) (list : Option (List Bytes)) (keys : Keys) → Mild keys (carry source from destination to there taken list keys)
mild_carry source from destination to there taken None keys = inr refl
mild_carry source from destination to there None (Some list) keys = inr refl
mild_carry source from destination to there (Some taken) (Some list) keys = inl refl

mild_move_list : (source destination : Bytes) (from to : Side) (list : Option (List Bytes)) (keys : Keys) → Mild keys (move_list source destination from to list keys)
mild_move_list source destination from to None keys = inr refl
mild_move_list source destination from to (Some list) keys = mild_either keys (bytes_eq source destination) _ _
    (mild_turn_list source to (deadline_at (at source keys)) (take_one from list) keys)
    (mild_carry source (at source keys) destination to (at destination keys) (take_one from list) (list_at (at destination keys)) keys)

mild_move : (source destination : Bytes) (from to : Side) (keys : Keys) → Mild keys (move_keys source destination from to keys)
unfolding move_keys
mild_move source destination from to keys = mild_either keys (is_some (at source keys)) _ _ (mild_move_list source destination from to (list_at (at source keys)) keys) (inr refl)

-- ## Every action

pub mild_action : (now : ℕ) (a : Action) (keys : Keys) → Mild keys (applied now a keys)
mild_action now action.Ping keys = inr refl
mild_action now (action.Echo text) keys = inr refl
mild_action now action.Quit keys = inr refl
mild_action now (action.ReadOp name look) keys = inr refl
mild_action now (action.WriteOp name e) keys = mild_turn keys name (edit_at e (at name keys)) (mild_edit e (at name keys))
mild_action now (action.Set name text options) keys = mild_turn keys name (set_at now text options (at name keys)) (mild_set now text options (at name keys))
mild_action now (action.Expire name millis) keys = mild_turn keys name (expires_at now millis (at name keys)) (mild_expires now millis (at name keys))
mild_action now (action.Give name text) keys = mild_turn keys name (give_at text (at name keys)) (mild_give text (at name keys))
mild_action now (action.Exists names) keys = inr refl
mild_action now (action.Delete names) keys = inl refl
mild_action now (action.Move source destination from to) keys = mild_move source destination from to keys
mild_action now action.Flush keys = inl refl
