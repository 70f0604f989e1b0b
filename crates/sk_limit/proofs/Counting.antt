-- What the requests on a window come to.
use Rattle.std.proofs.Common.{◌≡◌, ◌⊎◌, ◌≤◌, ◌<◌, ◌+◌, ◌^◌, ℕ, refl, sym, ap, subst, arith, Bool, true, false, inl, inr, nat_lt, nat_le}
use Rattle.std.proofs.lemmas.Bool.Decides.{nat_tests}
use Rattle.std.proofs.lemmas.Fmt.{decimal_digit}
use Rattle.std.specs.Fmt.{decimal}
use Rattle.std.specs.Prelude.{ℤ, Option, Some, None, pos, codes}
use Rattle.sk_resp.specs.Spelling.{Bytes}
use Rattle.sk_resp.specs.declared.reply.Reply.TheVariants as reply
use Rattle.sk_cmd.specs.declared.argument.Scored.TheVariants.{Schedule, Retry, Dead}
use Rattle.sk_cmd.specs.declared.command.PlainCommand.TheVariants as plain
use Rattle.sk_key.specs.Class.{class_of, is_plain}
use Rattle.sk_key.specs.declared.key_class.KeyClass.{KeyClass}
use Rattle.sk_key.specs.declared.key_class.KeyClass.TheVariants as class
use Rattle.sk_value.proofs.IntOf.{int_of_at}
use Rattle.sk_value.specs.Action.{action_of}
use Rattle.sk_value.specs.Apply.{Stays, Becomes, Turn, becomes, edit_at, edited, expires_at, refuses, latest}
use Rattle.sk_value.specs.Number.{int_of}
use Rattle.sk_value.specs.Strings.{edit_string, sum}
use Rattle.sk_value.specs.Values.{as_value}
use Rattle.sk_value.specs.declared.entry.Entry.{Entry}
use Rattle.sk_value.specs.declared.keys_fault.KeysFault.TheVariants as fault
use Rattle.sk_value.specs.declared.value.Value.TheVariants as value
use Rattle.sk_value.specs.declared.write_op.WriteOp.TheVariants as edit
use Rattle.sk_model.specs.Event.{Happens, Step}
use Rattle.sk_model.specs.Seats.{is_worker_write}
use Rattle.sk_model.specs.Step.{act, edits}
use Rattle.sk_model.specs.World.{World}
use Rattle.sk_limit.proofs.Giving.{entry_with}
use Rattle.sk_limit.proofs.Readings.{bound_read, count_read}
use Rattle.sk_limit.proofs.Acting.{Acts, Rules, by_test, request_acts}
use Rattle.sk_limit.specs.Own.{words_of}
use Rattle.sk_limit.specs.Requests.{count_words, expire_words}

pub zero_text : codes "0" ≡ decimal 0
zero_text = sym (decimal_digit 0 (omega arith))

-- ## INCRBY key 1

pub count_rule : ℕ → Option Entry → Turn
count_rule now before = edit_at (edit.Incrby (pos 1)) before

zero_is : int_of (codes "0") ≡ Some (pos 0)
zero_is = int_of_at (pos 0) (codes "0") (omega arith) zero_text

-- where nothing stands, 1 does then
pub counts_first : (now : ℕ) → count_rule now None ≡ becomes (reply.Int (pos 1)) (entry_with (decimal 1) None)
unfolding count_rule edit_at edit_string
counts_first now = ap (λ (z : Option ℤ). edited (as_value value.String (sum (pos 1) z)) None) zero_is

-- a number is followed by the next one, or by none
abbrev pub CountTurn : ℕ → Option ℕ → Turn → Type 0
CountTurn count deadline turn =
    (turn ≡ refuses fault.Overflow) ⊎ ((count + 1 < 2 ^ 63) × (turn ≡ becomes (reply.Int (pos (count + 1))) (entry_with (decimal (count + 1)) deadline)))

pub counts_on : (now count : ℕ) (deadline : Option ℕ) → count < 2 ^ 63 → CountTurn count deadline (count_rule now (Some (entry_with (decimal count) deadline)))
unfolding count_rule edit_at edit_string
counts_on now count deadline fits =
    subst (λ (z : Option ℤ). CountTurn count deadline (edited (as_value value.String (sum (pos 1) z)) deadline)) (sym (int_of_at (pos count) (decimal count) fits refl))
    (by (nat_lt (count + 1) (2 ^ 63)) refl)
  where
    by : (b : Bool) → nat_lt (count + 1) (2 ^ 63) ≡ b → CountTurn count deadline (edited (as_value value.String (sum (pos 1) (Some (pos count)))) deadline)
    by true e = inr (grind (arith, nat_tests, e), rw e refl)
    by false e = inl (rw e refl)

not_worker : (c : KeyClass) → is_worker_write c (edit.Incrby (pos 1)) ≡ false
not_worker class.Plain = refl
not_worker class.Queue = refl
not_worker class.Queues = refl
not_worker class.NoQueue = refl
not_worker class.Private = refl
not_worker class.NoPrivate = refl
not_worker class.Processes = refl
not_worker (class.Jobs Schedule) = refl
not_worker (class.Jobs Retry) = refl
not_worker (class.Jobs Dead) = refl
not_worker class.Counter = refl

count_rules_at : (key : Bytes) (v : World) (c : KeyClass) → Rules key count_rule v (edits v key (edit.Incrby (pos 1)) c)
unfolding count_rule
count_rules_at key v class.Plain = inr (inr refl)
count_rules_at key v class.Queue = inl refl
count_rules_at key v class.Queues = inl refl
count_rules_at key v class.NoQueue = inl refl
count_rules_at key v class.Private = inl refl
count_rules_at key v class.NoPrivate = inl refl
count_rules_at key v class.Processes = inl refl
count_rules_at key v (class.Jobs set) = inl refl
count_rules_at key v class.Counter = inl refl

pub count_comes : (key : Bytes) (w : World) (step : Step) → words_of step.event ≡ count_words key → Happens w step.event step.outcome → Acts key count_rule w step.outcome
count_comes key w step words happens =
    request_acts key count_rule (plain.Incrby key (pos 1)) (not_worker (class_of key)) (λ v. count_rules_at key v (class_of key)) _ _ w step.event step.outcome words (count_read key) happens

-- ## PEXPIRE key millis

pub bound_rule : ℕ → ℕ → Option Entry → Turn
bound_rule millis now before = expires_at now (pos millis) before

-- what stands ends so long from now, or stays as it is
abbrev pub BoundTurn : ℕ → ℕ → Option Entry → Turn → Type 0
BoundTurn millis now before turn =
    (turn.change ≡ Stays) ⊎ ((entry : Entry) × (before ≡ Some entry) × (turn.change ≡ Becomes (record entry { deadline = Some (now + millis) })))

pub bounds_turn : (millis now : ℕ) (before : Option Entry) → 1 ≤ millis → BoundTurn millis now before (bound_rule millis now before)
unfolding bound_rule expires_at
bounds_turn millis now None least = by (nat_lt 0 millis) (nat_le (now + millis) latest) refl refl where
  by : (b c : Bool) → nat_lt 0 millis ≡ b → nat_le (now + millis) latest ≡ c → BoundTurn millis now None (expires_at now (pos millis) None)
  by true true e f = inl (rw (e, f) refl)
  by true false e f = inl (rw (e, f) refl)
  by false c e f = absurd (let none : ⊥ = grind (arith, nat_tests, e, least) in none)
bounds_turn millis now (Some entry) least = by (nat_lt 0 millis) (nat_le (now + millis) latest) refl refl where
  by : (b c : Bool) → nat_lt 0 millis ≡ b → nat_le (now + millis) latest ≡ c → BoundTurn millis now (Some entry) (expires_at now (pos millis) (Some entry))
  by true true e f = inr (entry, refl, rw (e, f) refl)
  by true false e f = inl (rw (e, f) refl)
  by false c e f = absurd (let none : ⊥ = grind (arith, nat_tests, e, least) in none)

bound_rules : (key : Bytes) (millis : ℕ) (v : World) → Rules key (bound_rule millis) v (act v (action_of (plain.Pexpire key (pos millis))))
unfolding bound_rule
bound_rules key millis v = by_test (Rules key (bound_rule millis) v) (is_plain (class_of key)) _ _ (inr (inr refl)) (inl refl)

pub bound_comes : (key : Bytes) (millis : ℕ) (w : World) (step : Step) → millis < 2 ^ 63 → words_of step.event ≡ expire_words key millis → Happens w step.event step.outcome
    → Acts key (bound_rule millis) w step.outcome
bound_comes key millis w step fits words happens =
    request_acts key (bound_rule millis) (plain.Pexpire key (pos millis)) refl (bound_rules key millis) _ _ w step.event step.outcome words (bound_read key millis fits) happens
