-- Whoever doesn't name a key in a write leaves it alone.
use Rattle.std.proofs.Common.{◌≡◌, ℕ, List, [], ◌∷◌, ◌++◌, refl, sym, ap, subst, ◌∙◌, arith, Bool, true, false, ◌&&◌, ◌||◌, cond, inl, inr}
use Rattle.std.proofs.lemmas.Map.Lookups.{exact_bytes}
use Rattle.std.proofs.lemmas.Slice.Eq.{bytes_eq-Decides}
use Rattle.std.specs.BTreeMap.{is_at}
use Rattle.std.specs.List.{list_all, list_any}
use Rattle.std.specs.Option.{is_some}
use Rattle.std.specs.Ordering.{is_eq}
use Rattle.std.specs.Prelude.{Option, Some, None, Ok, Err, length, ◌==◌}
use Rattle.std.specs.Str.{bytes_eq}
use Rattle.std.specs.declared.cmp.Ordering.{Ordering}
use Rattle.std.specs.declared.cmp.Ordering.TheVariants.{Less, Equal, Greater}
use Rattle.sk_resp.specs.Spelling.{Bytes}
use Rattle.sk_resp.specs.WordOrder.{text_cmp}
use Rattle.sk_cmd.proofs.AgreeTable.{one_command}
use Rattle.sk_cmd.specs.Reading.{Read}
use Rattle.sk_cmd.specs.Table.{IsRead}
use Rattle.sk_cmd.specs.declared.argument.Side.{Side}
use Rattle.sk_cmd.specs.declared.command.Command.{Command}
use Rattle.sk_cmd.specs.declared.command.Command.TheVariants as command
use Rattle.sk_cmd.specs.declared.command.PlainCommand.{PlainCommand}
use Rattle.sk_cmd.specs.declared.command.PlainCommand.TheVariants as plain
use Rattle.sk_key.specs.Class.{class_of, is_plain, is_queue, queue_of}
use Rattle.sk_key.specs.declared.key_class.KeyClass.{KeyClass}
use Rattle.sk_key.specs.declared.key_class.KeyClass.TheVariants as class
use Rattle.sk_places.specs.Rows.{row_at_end, rows_at}
use Rattle.sk_places.specs.declared.row.Place.TheVariants.{Queue, Set}
use Rattle.sk_seats.specs.Phases.{is_plain as is_plain_seat}
use Rattle.sk_value.specs.Action.{action_of}
use Rattle.sk_value.specs.Apply.{Applied, Change, Stays, Goes, Becomes, applied, carry, changed as key_changed, deadline_at, edit_at, expires_at, give_at, list_at, move_keys, move_list, put_list, set_at, turn_list}
use Rattle.sk_value.specs.Keys.{Keys, at, purged, put, without, without_all}
use Rattle.sk_value.specs.Lists.{take_one}
use Rattle.sk_value.specs.declared.action.Action.{Action}
use Rattle.sk_value.specs.declared.action.Action.TheVariants as action
use Rattle.sk_value.specs.declared.entry.Entry.{Entry}
use Rattle.sk_value.specs.declared.write_op.WriteOp.{WriteOp}
use Rattle.sk_model.specs.Change.{Unnames, passed, perform}
use Rattle.sk_model.specs.Change.{Change as WorldChange}
use Rattle.sk_model.specs.Deletes.{delete_as, delete_each, may_go, take_all}
use Rattle.sk_model.specs.Event.{Event, Ask, Cut, Happens, ResultsIn}
use Rattle.sk_model.specs.Outcome.{Outcome}
use Rattle.sk_model.proofs.Theorems.LockHolders.{same_command}
use Rattle.sk_model.specs.Queues.{move_row}
use Rattle.sk_model.specs.Reading.{Words}
use Rattle.sk_model.specs.Seats.{is_open_to_all, is_worker_action}
use Rattle.sk_model.specs.Step.{act, by_seat, edits, moves, on_plain, outcome, run}
use Rattle.sk_model.specs.Workers.{work}
use Rattle.sk_model.specs.World.{World, phase_of}
use Rattle.sk_limit.proofs.Moments.{tame_moment}
use Rattle.sk_limit.proofs.Readings.{left_read}
use Rattle.sk_limit.proofs.Tame.{Tame, edit_jobs_tame, edit_names_tame, edit_queue_tame, move_row_tame, run_tame, take_all_tame, tame_append, work_tame}
use Rattle.sk_limit.proofs.WorldOrder.{performed, tame_keys}
use Rattle.sk_limit.specs.Own.{Leaves, words_of}
use Rattle.sk_limit.specs.Others.{OthersLeave, may_write, writes}
use Rattle.sk_limit.specs.Requests.{left_words}

either_false : (a b : Bool) → a || b ≡ false → (a ≡ false) × (b ≡ false)
either_false true b e = absurd (cc e)
either_false false b e = (refl, e)

-- ## Other keys of a map

module _ (key : Bytes) where
  apart : (name : Bytes) → bytes_eq name key ≡ false → is_at (text_cmp key) name ≡ false
  apart name other = by (text_cmp key name) refl where
    by : (o : Ordering) → text_cmp key name ≡ o → is_at (text_cmp key) name ≡ false
    by Less is = ap is_eq is
    by Greater is = ap is_eq is
    by Equal is = let same = (bytes_eq-Decides name key).1 (sym (exact_bytes key name is)) in absurd (cc (same, other))

  at_put_other : (name : Bytes) (entry : Entry) (keys : Keys) → is_at (text_cmp key) name ≡ false → at key (put name entry keys) ≡ at key keys
  at_put_other name entry [] other = grind (arith, other)
  at_put_other name entry (next ∷ keys) other = by_order (text_cmp name next.0) (at_put_other name entry keys other) refl where
    by_order : (o : Ordering) → at key (put name entry keys) ≡ at key keys → text_cmp name next.0 ≡ o → at key (put name entry (next ∷ keys)) ≡ at key (next ∷ keys)
    by_order Less rest is = grind (arith, is, other)
    by_order Equal rest is = grind (arith, is, other, subst (λ n. is_at (text_cmp key) n ≡ false) (exact_bytes name next.0 is) other)
    by_order Greater rest is = grind (arith, is, rest)

  at_without_other : (name : Bytes) (keys : Keys) → is_at (text_cmp key) name ≡ false → at key (without name keys) ≡ at key keys
  at_without_other name [] other = refl
  at_without_other name (next ∷ keys) other = by_order (text_cmp name next.0) (at_without_other name keys other) refl where
    by_order : (o : Ordering) → at key (without name keys) ≡ at key keys → text_cmp name next.0 ≡ o → at key (without name (next ∷ keys)) ≡ at key (next ∷ keys)
    by_order Less rest is = grind (arith, is, rest)
    by_order Equal rest is = grind (arith, is, subst (λ n. is_at (text_cmp key) n ≡ false) (exact_bytes name next.0 is) other)
    by_order Greater rest is = grind (arith, is, rest)

  change_other : (name : Bytes) (change : Change) (keys : Keys) → bytes_eq name key ≡ false → at key (key_changed name change keys) ≡ at key keys
  change_other name Stays keys other = refl
  change_other name Goes keys other = at_without_other name keys (apart name other)
  change_other name (Becomes entry) keys other = at_put_other name entry keys (apart name other)

  all_without_other : (names : List Bytes) (keys : Keys) → list_any (λ name. bytes_eq name key) names ≡ false → at key (without_all names keys) ≡ at key keys
  all_without_other [] keys other = refl
  all_without_other (name ∷ names) keys other =
      let is = either_false (bytes_eq name key) (list_any (λ name. bytes_eq name key) names) other in
      all_without_other names (without name keys) is.1 ∙ at_without_other name keys (apart name is.0)

  keys_test : (b : Bool) (x y all : Keys) → at key x ≡ at key all → at key y ≡ at key all → at key (cond b x y) ≡ at key all
  keys_test true x y all p q = p
  keys_test false x y all p q = q

  applied_test : (b : Bool) (x y : Applied) (all : Keys) → at key x.keys ≡ at key all → at key y.keys ≡ at key all → at key (cond b x y).keys ≡ at key all
  applied_test true x y all p q = p
  applied_test false x y all p q = q

  put_list_other : (name : Bytes) (list : List Bytes) (deadline : Option ℕ) (keys : Keys) → bytes_eq name key ≡ false → at key (put_list name list deadline keys) ≡ at key keys
  put_list_other name list deadline keys other =
      keys_test (length list == 0) _ _ keys (at_without_other name keys (apart name other)) (at_put_other name _ keys (apart name other))

  turned_other : (name : Bytes) (to : Side) (deadline : Option ℕ) (taken : Option (Bytes × List Bytes)) (keys : Keys) → bytes_eq name key ≡ false → at key (turn_list name to deadline taken keys).keys ≡ at key keys
  turned_other name to deadline None keys other = refl
  turned_other name to deadline (Some taken) keys other = put_list_other name _ deadline keys other

  carried_other : (source : Bytes) (from : Option Entry) (destination : Bytes) (to : Side) (there : Option Entry) (taken : Option (Bytes × List Bytes)) (list : Option (List Bytes)) (keys : Keys)
      → bytes_eq source key ≡ false → bytes_eq destination key ≡ false → at key (carry source from destination to there taken list keys).keys ≡ at key keys
  carried_other source from destination to there taken None keys other apart_ = refl
  carried_other source from destination to there None (Some list) keys other apart_ = refl
  carried_other source from destination to there (Some taken) (Some list) keys other apart_ =
      put_list_other destination _ (deadline_at there) _ apart_ ∙ put_list_other source taken.1 (deadline_at from) keys other

  list_other : (source destination : Bytes) (from to : Side) (list : Option (List Bytes)) (keys : Keys) → bytes_eq source key ≡ false → bytes_eq destination key ≡ false
      → at key (move_list source destination from to list keys).keys ≡ at key keys
  list_other source destination from to None keys other apart_ = refl
  list_other source destination from to (Some list) keys other apart_ =
      applied_test (bytes_eq source destination)
      (turn_list source to (deadline_at (at source keys)) (take_one from list) keys)
      (carry source (at source keys) destination to (at destination keys) (take_one from list) (list_at (at destination keys)) keys) keys
      (turned_other source to (deadline_at (at source keys)) (take_one from list) keys other)
      (carried_other source (at source keys) destination to (at destination keys) (take_one from list) (list_at (at destination keys)) keys other apart_)

  moved_other : (source destination : Bytes) (from to : Side) (keys : Keys) → bytes_eq source key ≡ false → bytes_eq destination key ≡ false → at key (move_keys source destination from to keys).keys ≡ at key keys
  unfolding move_keys
  moved_other source destination from to keys other apart_ =
      applied_test (is_some (at source keys)) (move_list source destination from to (list_at (at source keys)) keys) _ keys
      (list_other source destination from to (list_at (at source keys)) keys other apart_) refl

  applied_other : (now : ℕ) (a : Action) (keys : Keys) → may_write key a ≡ false → at key (applied now a keys).keys ≡ at key keys
  applied_other now action.Ping keys none = refl
  applied_other now (action.Echo text) keys none = refl
  applied_other now action.Quit keys none = refl
  applied_other now (action.ReadOp name look) keys none = refl
  applied_other now (action.WriteOp name edit) keys none = change_other name (edit_at edit (at name keys)).change keys none
  applied_other now (action.Set name text options) keys none = change_other name (set_at now text options (at name keys)).change keys none
  applied_other now (action.Expire name millis) keys none = change_other name (expires_at now millis (at name keys)).change keys none
  applied_other now (action.Give name text) keys none = change_other name (give_at text (at name keys)).change keys none
  applied_other now (action.Exists names) keys none = refl
  applied_other now (action.Delete names) keys none = all_without_other names keys none
  applied_other now (action.Move source destination from to) keys none =
      let is = either_false (bytes_eq source key) (bytes_eq destination key) none in moved_other source destination from to keys is.0 is.1
  applied_other now action.Flush keys none = absurd (cc none)

  -- ## Changes of a world

  -- the key holds what it held, at the same moment
  pub record Keeps (w : World) (changes : List WorldChange) : Type 0 where
    pub same : at key (perform w changes).keys ≡ at key w.keys
    pub still : (perform w changes).moment ≡ w.moment

  none_kept : (w : World) → Keeps w []
  none_kept w = record { same = refl; still = refl }

  tame_kept : (w : World) (changes : List WorldChange) → Tame changes → Keeps w changes
  tame_kept w changes tame = record { same = ap (at key) (tame_keys w changes tame); still = tame_moment w changes tame }

  append_kept : (w : World) (a b : List WorldChange) → Keeps w a → Keeps (perform w a) b → Keeps w (a ++ b)
  append_kept w a b p q = record {
    same = ap (λ (v : World). at key v.keys) (performed w a b) ∙ q.same ∙ p.same;
    still = ap (λ (v : World). v.moment) (performed w a b) ∙ q.still ∙ p.still;
  }

  cond_kept : (w : World) (b : Bool) (x y : Outcome) → Keeps w x.changes → Keeps w y.changes → Keeps w (cond b x y).changes
  cond_kept w true x y p q = p
  cond_kept w false x y p q = q

  -- ## Every action

  edits_kept : (w : World) (name : Bytes) (e : WriteOp) (c : KeyClass) → bytes_eq name key ≡ false → Keeps w (edits w name e c).changes
  edits_kept w name e class.Plain none = record { same = applied_other w.moment (action.WriteOp name e) w.keys none; still = refl }
  edits_kept w name e class.Queue none = tame_kept w (edits w name e class.Queue).changes (edit_queue_tame w (queue_of name) e).tame
  edits_kept w name e class.Queues none = tame_kept w (edits w name e class.Queues).changes (edit_names_tame w e).tame
  edits_kept w name e (class.Jobs set) none = tame_kept w (edits w name e (class.Jobs set)).changes (edit_jobs_tame w set e).tame
  edits_kept w name e class.NoQueue none = none_kept w
  edits_kept w name e class.Private none = none_kept w
  edits_kept w name e class.NoPrivate none = none_kept w
  edits_kept w name e class.Processes none = none_kept w
  edits_kept w name e class.Counter none = none_kept w

  on_plain_kept : (w : World) (a : Action) (c : KeyClass) → may_write key a ≡ false → Keeps w (on_plain w a c).changes
  on_plain_kept w a c none = cond_kept w (is_plain c) _ _ (record { same = applied_other w.moment a w.keys none; still = refl }) (none_kept w)

  moves_kept : (w : World) (source destination : Bytes) (from to : Side) (c d : KeyClass) → may_write key (action.Move source destination from to) ≡ false → Keeps w (moves w source destination from to c d).changes
  moves_kept w source destination from to c d none =
      cond_kept w (is_plain c && is_plain d) _ _ (record { same = applied_other w.moment (action.Move source destination from to) w.keys none; still = refl })
      (cond_kept w (is_queue c && is_queue d) _ _
      (tame_kept w (move_row (row_at_end from (Queue (queue_of source)) w.rows) from (Queue (queue_of destination)) to).changes
      (move_row_tame (row_at_end from (Queue (queue_of source)) w.rows) from to (Queue (queue_of destination))).tame) (none_kept w))

  delete_as_kept : (w : World) (name : Bytes) (c : KeyClass) → bytes_eq name key ≡ false → Keeps w (delete_as w name c).changes
  delete_as_kept w name class.Plain other = record { same = at_without_other name w.keys (apart name other); still = refl }
  delete_as_kept w name class.Queue other =
      let rows = rows_at (Queue (queue_of name)) w.rows in
      tame_kept w (take_all rows ++ Unnames (queue_of name) ∷ []) (tame_append (take_all rows) (Unnames (queue_of name) ∷ []) (take_all_tame rows) refl)
  delete_as_kept w name (class.Jobs set) other = tame_kept w (take_all (rows_at (Set set) w.rows)) (take_all_tame (rows_at (Set set) w.rows))
  delete_as_kept w name class.NoQueue other = none_kept w
  delete_as_kept w name class.Private other = none_kept w
  delete_as_kept w name class.NoPrivate other = none_kept w
  delete_as_kept w name class.Processes other = none_kept w
  delete_as_kept w name class.Queues other = none_kept w
  delete_as_kept w name class.Counter other = none_kept w

  delete_each_kept : (w : World) (names : List Bytes) → list_any (λ name. bytes_eq name key) names ≡ false → Keeps w (delete_each w names).changes
  delete_each_kept w [] other = none_kept w
  delete_each_kept w (name ∷ names) other =
      let is = either_false (bytes_eq name key) (list_any (λ name. bytes_eq name key) names) other in
      append_kept w (delete_as w name (class_of name)).changes (delete_each (perform w (delete_as w name (class_of name)).changes) names).changes
      (delete_as_kept w name (class_of name) is.0) (delete_each_kept (perform w (delete_as w name (class_of name)).changes) names is.1)

  act_kept : (w : World) (a : Action) → may_write key a ≡ false → Keeps w (act w a).changes
  act_kept w action.Ping none = none_kept w
  act_kept w (action.Echo text) none = none_kept w
  act_kept w action.Quit none = none_kept w
  act_kept w (action.ReadOp name look) none = none_kept w
  act_kept w (action.WriteOp name e) none = edits_kept w name e (class_of name) none
  act_kept w (action.Set name text options) none = on_plain_kept w (action.Set name text options) (class_of name) none
  act_kept w (action.Expire name millis) none = on_plain_kept w (action.Expire name millis) (class_of name) none
  act_kept w (action.Give name text) none = on_plain_kept w (action.Give name text) (class_of name) none
  act_kept w (action.Exists names) none = none_kept w
  act_kept w (action.Delete names) none = cond_kept w (list_all (λ name. may_go (class_of name)) names) _ _ (delete_each_kept w names none) (none_kept w)
  act_kept w (action.Move source destination from to) none = moves_kept w source destination from to (class_of source) (class_of destination) none
  act_kept w action.Flush none = absurd (cc none)

  by_seat_kept : (w : World) (seat : ℕ) (v : World) (c : PlainCommand) → may_write key (action_of c) ≡ false → Keeps w (by_seat w seat (phase_of v seat) c).changes
  by_seat_kept w seat v c none =
      cond_kept w (is_worker_action (action_of c)) _ _ (tame_kept w (work w seat (phase_of v seat) (action_of c)).changes (work_tame w seat (phase_of v seat) (action_of c)).tame)
      (cond_kept w (is_plain_seat (phase_of v seat) || is_open_to_all c) _ _ (act_kept w (action_of c) none) (none_kept w))

  -- ## Every event

  -- time passes, and then nothing happens to the key
  passed_kept : (w : World) (now : ℕ) (changes : List WorldChange) → Keeps (passed now w) changes → Leaves key w (perform (passed now w) changes)
  passed_kept w now changes kept = inr (kept.same ∙ ap (λ moment. at key (purged moment w.keys)) (sym kept.still))

  outcome_leaves : (w : World) (seat now : ℕ) (c : Command) → writes key c ≡ false → Leaves key w (perform w (outcome w seat now c).changes)
  outcome_leaves w seat now (command.Plain c) none = passed_kept w now (by_seat (passed now w) seat (phase_of w seat) c).changes (by_seat_kept (passed now w) seat w c none)
  outcome_leaves w seat now (command.Script c) none =
      passed_kept w now (run (passed now w) seat (phase_of w seat) c).changes
      (tame_kept (passed now w) (run (passed now w) seat (phase_of w seat) c).changes (run_tame (passed now w) seat (phase_of w seat) c).tame)

  gives_leave : (w : World) (seat now : ℕ) (r : Read Command) (o : Outcome) → ((c : Command) → r ≡ Ok c → writes key c ≡ false) → ResultsIn w seat now r o → Leaves key w (perform w o.changes)
  gives_leave w seat now (Ok c) o none (inl e) = subst (λ (u : Outcome). Leaves key w (perform w u.changes)) (sym e) (outcome_leaves w seat now c (none c refl))
  gives_leave w seat now (Ok c) o none (inr (may, e)) = subst (λ (u : Outcome). Leaves key w (perform w u.changes)) (sym e) (inr refl)
  gives_leave w seat now (Err f) o none e = subst (λ (u : Outcome). Leaves key w (perform w u.changes)) (sym e) (inl (refl, refl))

  event_leaves : (w : World) (event : Event) (o : Outcome) → ((c : Command) → IsRead (words_of event) (Ok c) → writes key c ≡ false) → Happens w event o → Leaves key w (perform w o.changes)
  event_leaves w (Ask seat now words) o none (r, read, gives) =
      gives_leave w seat now r o (λ c is. none c (subst (IsRead words) is read)) gives
  event_leaves w (Cut seat) o none e = subst (λ (u : Outcome). Leaves key w (perform w u.changes)) (sym e) (inl (refl, refl))

pub others_leave : OthersLeave
others_leave w event o key none happens = event_leaves key w event o none happens

-- ## PTTL

looks_only : (key : Bytes) (words : Words) (c : Command) → words ≡ left_words key → IsRead words (Ok c) → writes key c ≡ false
looks_only key words c same read =
    let look : Command = command.Plain (plain.Pttl key) in
    let is = subst (λ (ws : Words). IsRead ws (Ok c)) same read in
    ap (writes key) (same_command c look (one_command (left_words key) (Ok c) (Ok look) is (left_read key) (λ e. cc e) (λ e. cc e)))

pub look_leaves : (key : Bytes) (w : World) (event : Event) (o : Outcome) → words_of event ≡ left_words key → Happens w event o → Leaves key w (perform w o.changes)
look_leaves key w event o same happens = event_leaves key w event o (λ c read. looks_only key (words_of event) c same read) happens
