-- An action sees nothing of the keys that are over and still stand, where it names none of them.
use Rattle.std.proofs.Common.{◌≡◌, ◌+◌, ◌*◌, ◌-◌, ◌≤◌, ◌==◌, ◌&&◌, ℕ, ℤ, pos, negsuc, Bool, true, false, cond, List, Option, Some, None, length, nat_lt, nat_le, refl, sym, ap, ◌∙◌, arith}
use Rattle.std.specs.Prelude.{Result, Ok, Err, OnErr, OnOk}
use Rattle.std.specs.Option.{is_some}
use Rattle.std.specs.Str.{bytes_eq}
use Rattle.sk_resp.specs.Spelling.{Bytes}
use Rattle.sk_resp.specs.declared.reply.Reply.{Reply}
use Rattle.sk_resp.specs.declared.reply.Reply.TheVariants as reply
use Rattle.sk_resp.specs.declared.say.Say.TheVariants as say
use Rattle.sk_cmd.specs.declared.argument.Side.{Side}
use Rattle.sk_cmd.specs.declared.argument.Expire.{Expire}
use Rattle.sk_cmd.specs.declared.argument.Expire.TheVariants as expire
use Rattle.sk_cmd.specs.declared.argument.SetOptions.{SetOptions}
use Rattle.sk_table.proofs.Ordered.{IsUp, up_with, up_without}
use Rattle.sk_value.specs.declared.action.Action.{Action}
use Rattle.sk_value.specs.declared.action.Action.TheVariants as action
use Rattle.sk_value.specs.declared.entry.Entry.{Entry}
use Rattle.sk_value.specs.declared.keys_fault.KeysFault.{KeysFault}
use Rattle.sk_value.specs.declared.value.Value.{Value}
use Rattle.sk_value.specs.declared.value.Value.TheVariants as value
use Rattle.sk_value.specs.declared.write_op.WriteOp.{WriteOp}
use Rattle.sk_value.specs.Answer.{AndThen, counted}
use Rattle.sk_value.specs.Apply.{Applied, Change, Turn, after, answers, applied, becomes, carry, changed, deadline_after, deadline_at, deadline_of, edit_at, edited, expire_at, expires_at, give_at, goes, holds_string, latest, list_at, move_keys, move_list, put_list, says, set_at, set_until, turn_list, turns, Stays, Goes, Becomes}
use Rattle.sk_value.specs.Keys.{Keys, at, is_over, purged, put, without, without_all}
use Rattle.sk_value.specs.Lists.{push_one, take_one}
use Rattle.sk_value.specs.Values.{blank, edit_in, is_empty, look_at}
use Rattle.sk_keys.specs.Past.{AreAhead, is_past, named}
use Rattle.sk_keys.proofs.Past.{at_ahead, purged_put, purged_without, purged_without_all, seen_count, seen_how_many}

-- what an action does, with none of the keys that are over
abbrev pub hidden : ℕ → Applied → Applied
hidden over done = answers done.answer (purged over done.keys)

-- ## One key

-- what becomes of the key is over at once
abbrev makes_past : ℕ → Change → Bool
makes_past over Stays = false
makes_past over Goes = false
makes_past over (Becomes entry) = is_over over entry.deadline

purged_changed : (over : ℕ) (name : Bytes) (change : Change) (keys : Keys) → IsUp keys → makes_past over change ≡ false → changed name change (purged over keys) ≡ purged over (changed name change keys)
purged_changed over name Stays keys up ahead = refl
purged_changed over name Goes keys up ahead = purged_without over name keys up
purged_changed over name (Becomes entry) keys up ahead = purged_put over name entry keys up ahead

hidden_turn : (over : ℕ) (name : Bytes) (turn : Option Entry → Turn) (keys : Keys) → IsUp keys → is_past over (at name keys) ≡ false → makes_past over (turn (at name keys)).change ≡ false → turns name (turn (at name (purged over keys))) (purged over keys) ≡ hidden over (turns name (turn (at name keys)) keys)
hidden_turn over name turn keys up ahead makes =
    ap (λ held. turns name (turn held) (purged over keys)) (at_ahead over name keys up ahead)
    ∙ ap (answers (turn (at name keys)).answer) (purged_changed over name (turn (at name keys)).change keys up makes)

edited_ahead : (over : ℕ) (done : AndThen Value) (deadline : Option ℕ) → is_over over deadline ≡ false → makes_past over (edited done deadline).change ≡ false
edited_ahead over (Err f) deadline ahead = refl
edited_ahead over (Ok p) deadline ahead = by_test (is_empty p.1) where
  by_test : (b : Bool) → makes_past over (cond b (goes p.0) (becomes p.0 (record { value = p.1; deadline = deadline }))).change ≡ false
  by_test true = refl
  by_test false = ahead

edit_ahead : (over : ℕ) (edit : WriteOp) (held : Option Entry) → is_past over held ≡ false → makes_past over (edit_at edit held).change ≡ false
unfolding edit_at
edit_ahead over edit None ahead = edited_ahead over (edit_in edit (blank edit)) None refl
edit_ahead over edit (Some entry) ahead = edited_ahead over (edit_in edit entry.value) entry.deadline ahead

give_ahead : (over : ℕ) (text : Bytes) (held : Option Entry) → makes_past over (give_at text held).change ≡ false
unfolding give_at
give_ahead over text held = by_test (holds_string text held) where
  by_test : (b : Bool) → makes_past over (cond b (goes (counted 1)) (says (counted 0))).change ≡ false
  by_test true = refl
  by_test false = refl

-- ## Deadlines that an action makes are ahead

is_ahead : (over now millis : ℕ) → over ≤ now → nat_lt 0 millis ≡ true → is_over over (Some (now + millis)) ≡ false
is_ahead over now millis reached some = grind (arith, reached, some)

abbrev past_result : ℕ → Result (Option ℕ) KeysFault → Bool
past_result over (Err f) = false
past_result over (Ok deadline) = is_over over deadline

deadline_after_ahead : (over now unit : ℕ) (n : ℤ) → ((m : ℕ) → nat_lt 0 m ≡ true → is_over over (Some (now + unit * m)) ≡ false) → past_result over (deadline_after now unit n) ≡ false
deadline_after_ahead over now unit (negsuc n) ahead = refl
deadline_after_ahead over now unit (pos n) ahead = by_test (nat_lt 0 n) (nat_le (now + unit * n) latest) refl refl where
  by_test : (b c : Bool) → nat_lt 0 n ≡ b → nat_le (now + unit * n) latest ≡ c → past_result over (deadline_after now unit (pos n)) ≡ false
  by_test false c is at = grind (arith, is)
  by_test true false is at = grind (arith, is, at)
  by_test true true is at = grind (arith, is, at, ahead n is)

deadline_of_ahead : (over now : ℕ) (until : Expire) → over ≤ now → past_result over (deadline_of now until) ≡ false
deadline_of_ahead over now expire.Never reached = refl
deadline_of_ahead over now (expire.Seconds n) reached = deadline_after_ahead over now 1000 n (λ m some. is_ahead over now (1000 * m) reached (grind (arith, some)))
deadline_of_ahead over now (expire.Millis n) reached = deadline_after_ahead over now 1 n (λ m some. is_ahead over now (1 * m) reached (grind (arith, some)))

set_until_ahead : (over : ℕ) (text : Bytes) (only_new : Bool) (deadline : Result (Option ℕ) KeysFault) (held : Option Entry) → past_result over deadline ≡ false → makes_past over (set_until text only_new deadline held).change ≡ false
set_until_ahead over text only_new (Err f) held ahead = refl
set_until_ahead over text only_new (Ok deadline) held ahead = by_test (only_new && is_some held) where
  by_test : (b : Bool) → makes_past over (cond b (says reply.Null) (becomes (reply.Say say.Ok) (record { value = value.String text; deadline = deadline }))).change ≡ false
  by_test true = refl
  by_test false = ahead

set_ahead : (over now : ℕ) (text : Bytes) (options : SetOptions) (held : Option Entry) → over ≤ now → makes_past over (set_at now text options held).change ≡ false
unfolding set_at
set_ahead over now text options held reached = set_until_ahead over text options.only_new (deadline_of now options.expire) held (deadline_of_ahead over now options.expire reached)

expire_none_ahead : (over : ℕ) (held : Option Entry) → makes_past over (expire_at None held).change ≡ false
expire_none_ahead over None = refl
expire_none_ahead over (Some entry) = refl

expire_some_ahead : (over deadline : ℕ) (held : Option Entry) → is_over over (Some deadline) ≡ false → makes_past over (expire_at (Some deadline) held).change ≡ false
expire_some_ahead over deadline None ahead = refl
expire_some_ahead over deadline (Some entry) ahead = ahead

expire_ahead : (over now : ℕ) (millis : ℤ) (held : Option Entry) → over ≤ now → makes_past over (expires_at now millis held).change ≡ false
unfolding expires_at
expire_ahead over now (negsuc n) held reached = expire_none_ahead over held
expire_ahead over now (pos n) held reached = by_test (nat_lt 0 n) (nat_le (now + n) latest) refl refl where
  by_test : (b c : Bool) → nat_lt 0 n ≡ b → nat_le (now + n) latest ≡ c → makes_past over (expires_at now (pos n) held).change ≡ false
  by_test false c is at = grind (arith, is, expire_none_ahead over held)
  by_test true false is at = grind (arith, is, at)
  by_test true true is at = grind (arith, is, at, expire_some_ahead over (now + n) held (is_ahead over now n reached is))

-- ## LMOVE

deadline_ahead : (over : ℕ) (held : Option Entry) → is_past over held ≡ false → is_over over (deadline_at held) ≡ false
deadline_ahead over None ahead = refl
deadline_ahead over (Some entry) ahead = ahead

up_put_list : (name : Bytes) (list : List Bytes) (deadline : Option ℕ) (keys : Keys) → IsUp keys → IsUp (put_list name list deadline keys)
up_put_list name list deadline keys up = by_test (length list == 0) where
  new : Entry
  new = record { value = value.List list; deadline = deadline }

  by_test : (b : Bool) → IsUp (cond b (without name keys) (put name new keys))
  by_test true = up_without name keys up
  by_test false = up_with name new keys up

purged_put_list : (over : ℕ) (name : Bytes) (list : List Bytes) (deadline : Option ℕ) (keys : Keys) → IsUp keys → is_over over deadline ≡ false → put_list name list deadline (purged over keys) ≡ purged over (put_list name list deadline keys)
purged_put_list over name list deadline keys up ahead = by_test (length list == 0) where
  new : Entry
  new = record { value = value.List list; deadline = deadline }

  by_test : (b : Bool) → cond b (without name (purged over keys)) (put name new (purged over keys)) ≡ purged over (cond b (without name keys) (put name new keys))
  by_test true = purged_without over name keys up
  by_test false = purged_put over name new keys up ahead

hidden_turn_list : (over : ℕ) (name : Bytes) (to : Side) (deadline : Option ℕ) (taken : Option (Bytes × List Bytes)) (keys : Keys) → IsUp keys → is_over over deadline ≡ false → turn_list name to deadline taken (purged over keys) ≡ hidden over (turn_list name to deadline taken keys)
hidden_turn_list over name to deadline None keys up ahead = refl
hidden_turn_list over name to deadline (Some taken) keys up ahead = ap (answers (Ok (reply.Bulk taken.0))) (purged_put_list over name (push_one to taken.0 taken.1) deadline keys up ahead)

hidden_carry : (over : ℕ) (source : Bytes) (held : Option Entry) (destination : Bytes) (to : Side) (there : Option Entry) (taken : Option (Bytes × List Bytes)) (list : Option (List Bytes)) (keys : Keys) → IsUp keys → is_past over held ≡ false → is_past over there ≡ false
    → carry source held destination to there taken list (purged over keys) ≡ hidden over (carry source held destination to there taken list keys)
hidden_carry over source held destination to there taken None keys up ahead other = refl
hidden_carry over source held destination to there None (Some list) keys up ahead other = refl
hidden_carry over source held destination to there (Some taken) (Some list) keys up ahead other =
    ap (λ k. answers (Ok (reply.Bulk taken.0)) (put_list destination (push_one to taken.0 list) (deadline_at there) k)) (purged_put_list over source taken.1 (deadline_at held) keys up (deadline_ahead over held ahead))
    ∙ ap (answers (Ok (reply.Bulk taken.0))) (purged_put_list over destination (push_one to taken.0 list) (deadline_at there) (put_list source taken.1 (deadline_at held) keys) (up_put_list source taken.1 (deadline_at held) keys up) (deadline_ahead over there other))

hidden_move_list : (over : ℕ) (source destination : Bytes) (from to : Side) (list : Option (List Bytes)) (keys : Keys) → IsUp keys → is_past over (at source keys) ≡ false → is_past over (at destination keys) ≡ false
    → move_list source destination from to list (purged over keys) ≡ hidden over (move_list source destination from to list keys)
hidden_move_list over source destination from to None keys up ahead other = refl
hidden_move_list over source destination from to (Some list) keys up ahead other =
    ap (λ held. cond (bytes_eq source destination) (turn_list source to (deadline_at held) taken (purged over keys)) (carry source held destination to (at destination (purged over keys)) taken (list_at (at destination (purged over keys))) (purged over keys))) (at_ahead over source keys up ahead)
    ∙ ap (λ there. cond (bytes_eq source destination) (turn_list source to (deadline_at (at source keys)) taken (purged over keys)) (carry source (at source keys) destination to there taken (list_at there) (purged over keys))) (at_ahead over destination keys up other)
    ∙ by_test (bytes_eq source destination) where
      taken : Option (Bytes × List Bytes)
      taken = take_one from list

      by_test : (b : Bool) → cond b (turn_list source to (deadline_at (at source keys)) taken (purged over keys)) (carry source (at source keys) destination to (at destination keys) taken (list_at (at destination keys)) (purged over keys))
          ≡ hidden over (cond b (turn_list source to (deadline_at (at source keys)) taken keys) (carry source (at source keys) destination to (at destination keys) taken (list_at (at destination keys)) keys))
      by_test true = hidden_turn_list over source to (deadline_at (at source keys)) taken keys up (deadline_ahead over (at source keys) ahead)
      by_test false = hidden_carry over source (at source keys) destination to (at destination keys) taken (list_at (at destination keys)) keys up ahead other

hidden_move : (over : ℕ) (source destination : Bytes) (from to : Side) (keys : Keys) → IsUp keys → is_past over (at source keys) ≡ false → is_past over (at destination keys) ≡ false → move_keys source destination from to (purged over keys) ≡ hidden over (move_keys source destination from to keys)
unfolding move_keys
hidden_move over source destination from to keys up ahead other =
    ap (λ held. cond (is_some held) (move_list source destination from to (list_at held) (purged over keys)) (answers (Ok reply.Null) (purged over keys))) (at_ahead over source keys up ahead)
    ∙ by_test (is_some (at source keys)) where
      by_test : (b : Bool) → cond b (move_list source destination from to (list_at (at source keys)) (purged over keys)) (answers (Ok reply.Null) (purged over keys))
          ≡ hidden over (cond b (move_list source destination from to (list_at (at source keys)) keys) (answers (Ok reply.Null) keys))
      by_test true = hidden_move_list over source destination from to (list_at (at source keys)) keys up ahead other
      by_test false = refl

-- ## Every action

pub hidden_applied : (over now : ℕ) (action : Action) (keys : Keys) → IsUp keys → over ≤ now → AreAhead over (named action) keys → applied now action (purged over keys) ≡ hidden over (applied now action keys)
hidden_applied over now action.Ping keys up reached ahead = refl
hidden_applied over now (action.Echo text) keys up reached ahead = refl
hidden_applied over now action.Quit keys up reached ahead = refl
hidden_applied over now (action.ReadOp name look) keys up reached ahead = ap (λ held. answers (look_at now look held) (purged over keys)) (at_ahead over name keys up ahead.0)
hidden_applied over now (action.WriteOp name edit) keys up reached ahead = hidden_turn over name (edit_at edit) keys up ahead.0 (edit_ahead over edit (at name keys) ahead.0)
hidden_applied over now (action.Set name text options) keys up reached ahead = hidden_turn over name (set_at now text options) keys up ahead.0 (set_ahead over now text options (at name keys) reached)
hidden_applied over now (action.Expire name millis) keys up reached ahead = hidden_turn over name (expires_at now millis) keys up ahead.0 (expire_ahead over now millis (at name keys) reached)
hidden_applied over now (action.Give name text) keys up reached ahead = hidden_turn over name (give_at text) keys up ahead.0 (give_ahead over text (at name keys))
hidden_applied over now (action.Exists names) keys up reached ahead = ap (λ n. answers (Ok (counted n)) (purged over keys)) (seen_how_many over names keys up ahead)
hidden_applied over now (action.Delete names) keys up reached ahead =
    ap (λ n. answers (Ok (counted n)) (without_all names (purged over keys))) (seen_count over names keys up ahead)
    ∙ ap (answers (Ok (counted (length keys - length (without_all names keys))))) (purged_without_all over names keys up)
hidden_applied over now (action.Move source destination from to) keys up reached ahead = hidden_move over source destination from to keys up ahead.0 ahead.1.0
hidden_applied over now action.Flush keys up reached ahead = refl

-- ## After an action

pub on_ok : {P Q : Type 0} (result : Result Reply KeysFault) → (P → Q) → OnOk result P → OnOk result Q
on_ok (Ok reply) follows holds = follows holds
on_ok (Err f) follows holds = tt

pub on_err : {P Q : Type 0} (result : Result Reply KeysFault) → (P → Q) → OnErr result P → OnErr result Q
on_err (Ok reply) follows holds = tt
on_err (Err f) follows holds = follows holds

-- where nothing was over, nothing is
pub clean_after : (over : ℕ) (before after done : Keys) (result : Result Reply KeysFault) → purged over done ≡ done → purged over before ≡ before → OnOk result (after ≡ done) → OnErr result (after ≡ before) → purged over after ≡ after
clean_after over before after done (Ok reply) clean was ok err = ap (purged over) ok ∙ clean ∙ sym ok
clean_after over before after done (Err f) clean was ok err = ap (purged over) err ∙ was ∙ sym err
