-- What the requests of a limiter come to.
use Rattle.std.proofs.Common.{◌≡◌, ◌⊎◌, ◌<◌, ◌+◌, ◌*◌, ◌^◌, ℕ, [], ◌∷◌, refl, sym, ap, subst, ◌∙◌, arith, Bool, true, false, cond, inl, inr, nat_lt, nat_le}
use Rattle.std.specs.Prelude.{Option, Some, None, Result, Ok, Err, pos}
use Rattle.sk_resp.specs.Spelling.{Bytes}
use Rattle.sk_resp.specs.declared.refusal.Refusal.TheVariants.{ManagedKey, OutOfTurn}
use Rattle.sk_resp.specs.declared.reply.Reply.{Reply}
use Rattle.sk_resp.specs.declared.reply.Reply.TheVariants as reply
use Rattle.sk_resp.specs.declared.say.Say.TheVariants as say
use Rattle.sk_cmd.proofs.AgreeTable.{one_command}
use Rattle.sk_cmd.specs.Fault.{fault_say}
use Rattle.sk_cmd.specs.Reading.{Read}
use Rattle.sk_cmd.specs.Table.{IsRead}
use Rattle.sk_cmd.specs.declared.cmd_fault.CmdFault.{CmdFault}
use Rattle.sk_cmd.specs.declared.cmd_fault.CmdFault.TheVariants as fault
use Rattle.sk_cmd.specs.declared.command.Command.{Command}
use Rattle.sk_cmd.specs.declared.command.Command.TheVariants as command
use Rattle.sk_cmd.specs.declared.command.PlainCommand.{PlainCommand}
use Rattle.sk_cmd.specs.declared.command.PlainCommand.TheVariants as plain
use Rattle.sk_key.specs.Class.{class_of, is_plain}
use Rattle.sk_link.specs.Asking.{is_okay}
use Rattle.sk_value.specs.Action.{action_of}
use Rattle.sk_value.specs.Apply.{Stays, Turn, changed as key_changed, becomes, deadline_after, latest, set_at, set_until}
use Rattle.sk_value.specs.Keys.{Keys, at, purged}
use Rattle.sk_value.specs.declared.entry.Entry.{Entry}
use Rattle.sk_value.specs.declared.keys_fault.KeysFault.{KeysFault}
use Rattle.sk_value.specs.declared.keys_fault.KeysFault.TheVariants as keys_fault
use Rattle.sk_value.specs.declared.value.Value.TheVariants as value
use Rattle.sk_model.proofs.Theorems.LockHolders.{same_command}
use Rattle.sk_model.specs.Change.{Passes, Keeps, moment_after, passed, perform}
use Rattle.sk_model.specs.Event.{Event, Ask, Cut, Happens, ResultsIn, Step, after}
use Rattle.sk_model.specs.Laws.{is_refusal}
use Rattle.sk_model.specs.Outcome.{Outcome, refuses, reply_of, tells}
use Rattle.sk_model.specs.Reading.{Words}
use Rattle.sk_model.specs.Seats.{is_worker_action}
use Rattle.sk_model.specs.Step.{MayComeTo, act, at_moment, by_seat}
use Rattle.sk_model.specs.World.{World, phase_of}
use Rattle.sk_limit.proofs.Keys.{at_put_itself}
use Rattle.sk_limit.proofs.Readings.{set_options, set_read}
use Rattle.sk_limit.specs.Own.{Leaves, is_one, words_of}
use Rattle.sk_limit.specs.Requests.{set_words}

-- ## A command on one key

-- the keys that stand when the event comes
abbrev pub standing_at : ℕ → World → Keys
standing_at now w = purged (moment_after now w) w.keys

-- what becomes of the key then, by a rule of the moment and of what it holds
abbrev pub turn_at : Bytes → (ℕ → Option Entry → Turn) → ℕ → World → Turn
turn_at key rule now w = rule (moment_after now w) (at key (standing_at now w))

-- what the rule comes to
abbrev pub ruled : Bytes → (ℕ → Option Entry → Turn) → World → Outcome
ruled key rule w =
    let turn : Turn = rule w.moment (at key w.keys) in
    record { reply = reply_of turn.answer; changes = Keeps (key_changed key turn.change w.keys) ∷ [] }

-- It changes nothing, or lets time pass alone, and is refused; or the rule is followed.
pub data Acts (key : Bytes) (rule : ℕ → Option Entry → Turn) (w : World) (o : Outcome) : Type 0 where
  kept : o.changes ≡ [] → is_refusal o.reply ≡ true → Acts key rule w o
  waited : (now : ℕ) → o.changes ≡ Passes now ∷ [] → is_refusal o.reply ≡ true → Acts key rule w o
  acted : (now : ℕ) → o ≡ at_moment now (ruled key rule (passed now w)) → Acts key rule w o

abbrev pub Rules : Bytes → (ℕ → Option Entry → Turn) → World → Outcome → Type 0
Rules key rule v q = (q ≡ refuses ManagedKey) ⊎ ((q ≡ refuses OutOfTurn) ⊎ (q ≡ ruled key rule v))

rules_act : (key : Bytes) (rule : ℕ → Option Entry → Turn) (w : World) (now : ℕ) (q o : Outcome) → o ≡ at_moment now q → Rules key rule (passed now w) q → Acts key rule w o
rules_act key rule w now q o e (inl is) = let f = e ∙ ap (at_moment now) is in waited now (ap (λ (u : Outcome). u.changes) f) (ap (λ (u : Outcome). is_refusal u.reply) f)
rules_act key rule w now q o e (inr (inl is)) = let f = e ∙ ap (at_moment now) is in waited now (ap (λ (u : Outcome). u.changes) f) (ap (λ (u : Outcome). is_refusal u.reply) f)
rules_act key rule w now q o e (inr (inr is)) = acted now (e ∙ ap (at_moment now) is)

pub by_test : {A : Type 0} (P : A → Type 0) (b : Bool) (x y : A) → P x → P y → P (cond b x y)
by_test P true x y p q = p
by_test P false x y p q = q

not_worker : (b : Bool) (x y : Outcome) (P : Outcome → Type 0) → b ≡ false → P y → P (cond b x y)
not_worker true x y P e p = absurd (cc e)
not_worker false x y P e p = p

module _ (key : Bytes) (rule : ℕ → Option Entry → Turn) (c : PlainCommand) (worker : is_worker_action (action_of c) ≡ false) (acts : (v : World) → Rules key rule v (act v (action_of c))) where
  seat_rules : (v : World) (seat : ℕ) (w : World) → Rules key rule v (by_seat v seat (phase_of w seat) c)
  seat_rules v seat w =
      not_worker (is_worker_action (action_of c)) _ _ (Rules key rule v) worker (by_test (Rules key rule v) _ _ _ (acts v) (inr (inl refl)))

  command_acts : (w : World) (seat now : ℕ) (o : Outcome) → MayComeTo w seat now (command.Plain c) o → Acts key rule w o
  command_acts w seat now o (inl e) = rules_act key rule w now _ o e (seat_rules (passed now w) seat w)
  command_acts w seat now o (inr (may, e)) = waited now (ap (λ (u : Outcome). u.changes) e) (ap (λ (u : Outcome). is_refusal u.reply) e)

  -- words that are read as a command are read as no fault but want of memory
  fault_acts : (words : Words) (f : CmdFault) (w : World) (o : Outcome) → IsRead words (Err f) → IsRead words (Ok (command.Plain c)) → o ≡ tells (fault_say f) → Acts key rule w o
  fault_acts words fault.Memory w o read is e = kept (ap (λ (u : Outcome). u.changes) e) (ap (λ (u : Outcome). is_refusal u.reply) e)
  fault_acts words fault.Unknown w o read is e = absurd (cc (one_command words (Err fault.Unknown) (Ok (command.Plain c)) read is (λ e. cc e) (λ e. cc e)))
  fault_acts words (fault.Arity name) w o read is e = absurd (cc (one_command words (Err (fault.Arity name)) (Ok (command.Plain c)) read is (λ e. cc e) (λ e. cc e)))
  fault_acts words fault.NotInt w o read is e = absurd (cc (one_command words (Err fault.NotInt) (Ok (command.Plain c)) read is (λ e. cc e) (λ e. cc e)))
  fault_acts words fault.NotScore w o read is e = absurd (cc (one_command words (Err fault.NotScore) (Ok (command.Plain c)) read is (λ e. cc e) (λ e. cc e)))
  fault_acts words fault.BadBound w o read is e = absurd (cc (one_command words (Err fault.BadBound) (Ok (command.Plain c)) read is (λ e. cc e) (λ e. cc e)))
  fault_acts words fault.Syntax w o read is e = absurd (cc (one_command words (Err fault.Syntax) (Ok (command.Plain c)) read is (λ e. cc e) (λ e. cc e)))

  result_acts : (words : Words) (r : Read Command) (w : World) (seat now : ℕ) (o : Outcome) → IsRead words r → IsRead words (Ok (command.Plain c)) → ResultsIn w seat now r o → Acts key rule w o
  result_acts words (Ok d) w seat now o read is gives =
      let same = same_command d (command.Plain c) (one_command words (Ok d) (Ok (command.Plain c)) read is (λ e. cc e) (λ e. cc e)) in
      command_acts w seat now o (subst (λ (d : Command). MayComeTo w seat now d o) same gives)
  result_acts words (Err f) w seat now o read is e = fault_acts words f w o read is e

  pub request_acts : (word : Bytes) (words : Words) (w : World) (event : Event) (o : Outcome) → words_of event ≡ word ∷ words → IsRead (word ∷ words) (Ok (command.Plain c)) → Happens w event o → Acts key rule w o
  request_acts word words w (Ask seat now asked) o same is (r, read, gives) =
      result_acts (word ∷ words) r w seat now o (subst (λ (ws : Words). IsRead ws r) same read) is gives
  request_acts word words w (Cut seat) o same is happens = let none : [] ≡ word ∷ words = same in absurd (cc none)

-- ## SET key text NX PX millis

pub not_okay : (r : Reply) → is_refusal r ≡ true → is_okay r ≡ false
not_okay (reply.Say say.Ok) is = absurd (cc is)
not_okay (reply.Simple text) is = absurd (cc is)
not_okay r is = refl

pub not_one : (r : Reply) → is_refusal r ≡ true → is_one r ≡ false
not_one (reply.Int n) is = absurd (cc is)
not_one r is = refl

-- the entry that SET makes
abbrev pub entry_until : Bytes → ℕ → Entry
entry_until text end = record { value = value.String text; deadline = Some end }

set_rule : Bytes → ℕ → ℕ → Option Entry → Turn
set_rule text millis now before = set_at now text (set_options millis) before

abbrev pub so_far : ℕ → ℕ → Result (Option ℕ) KeysFault
so_far now time = Ok (Some (now + time))

-- There is no such time, or it is so far from now.
pub span : (now millis : ℕ) → (deadline_after now 1 (pos millis) ≡ Err keys_fault.BadExpire) ⊎ (deadline_after now 1 (pos millis) ≡ Ok (Some (now + millis)))
span now millis = by (nat_lt 0 millis) (nat_le (now + 1 * millis) latest) refl refl where
  by : (b c : Bool) → nat_lt 0 millis ≡ b → nat_le (now + 1 * millis) latest ≡ c
      → (deadline_after now 1 (pos millis) ≡ Err keys_fault.BadExpire) ⊎ (deadline_after now 1 (pos millis) ≡ Ok (Some (now + millis)))
  by true true e f = let once : 1 * millis ≡ millis = omega arith in inr (rw (e, f) (ap (so_far now) once))
  by true false e f = inl (rw (e, f) refl)
  by false c e f = inl (rw e refl)

-- SET leaves what stands, and isn't accepted; or nothing stood, and the text stands.
abbrev SetTurn : ℕ → ℕ → Bytes → Option Entry → Turn → Type 0
SetTurn now millis text before turn =
    ((turn.change ≡ Stays) × (is_okay (reply_of turn.answer) ≡ false)) ⊎ ((before ≡ None) × (turn ≡ becomes (reply.Say say.Ok) (entry_until text (now + millis))))

set_turn : (now millis : ℕ) (text : Bytes) (before : Option Entry) → SetTurn now millis text before (set_rule text millis now before)
unfolding set_rule set_at
set_turn now millis text before = by_span (span now millis) before where
  by_span : (deadline_after now 1 (pos millis) ≡ Err keys_fault.BadExpire) ⊎ (deadline_after now 1 (pos millis) ≡ Ok (Some (now + millis))) → (before : Option Entry)
      → SetTurn now millis text before (set_until text true (deadline_after now 1 (pos millis)) before)
  by_span (inl e) before = subst (λ d. SetTurn now millis text before (set_until text true d before)) (sym e) (inl (refl, refl))
  by_span (inr e) None = subst (λ d. SetTurn now millis text None (set_until text true d None)) (sym e) (inr (refl, refl))
  by_span (inr e) (Some entry) = subst (λ d. SetTurn now millis text (Some entry) (set_until text true d (Some entry))) (sym e) (inl (refl, refl))

-- A SET is not accepted, and leaves the key; or nothing stood under it when it came, and the text stands for so long.
pub record Sets (key text : Bytes) (millis : ℕ) (before now : World) (reply : Reply) : Type 0 where
  pub okay : is_okay reply ≡ true
  pub free : at key (purged now.moment before.keys) ≡ None
  pub stands : at key now.keys ≡ Some (entry_until text (now.moment + millis))

abbrev pub SetResult : Bytes → Bytes → ℕ → World → World → Reply → Type 0
SetResult key text millis before now reply = ((is_okay reply ≡ false) × Leaves key before now) ⊎ Sets key text millis before now reply

module _ (key text : Bytes) (millis : ℕ) (w : World) where
  by_turn : (now : ℕ) (turn : Turn) → SetTurn (moment_after now w) millis text (at key (standing_at now w)) turn
      → SetResult key text millis w (perform w (Passes now ∷ Keeps (key_changed key turn.change (standing_at now w)) ∷ [])) (reply_of turn.answer)
  by_turn now turn (inl (stays, refused)) = inl (refused, inr (ap (λ change. at key (key_changed key change (standing_at now w))) stays))
  by_turn now turn (inr (none, is)) = inr (record {
    okay = ap (λ (t : Turn). is_okay (reply_of t.answer)) is;
    free = none;
    stands = ap (λ (t : Turn). at key (key_changed key t.change (standing_at now w))) is ∙ at_put_itself key (entry_until text (moment_after now w + millis)) (standing_at now w);
  })

  set_result : (o : Outcome) → Acts key (set_rule text millis) w o → SetResult key text millis w (perform w o.changes) o.reply
  set_result o (kept e refused) = inl (not_okay o.reply refused, subst (λ cs. Leaves key w (perform w cs)) (sym e) (inl (refl, refl)))
  set_result o (waited now e refused) = inl (not_okay o.reply refused, subst (λ cs. Leaves key w (perform w cs)) (sym e) (inr refl))
  set_result o (acted now e) =
      subst (λ (u : Outcome). SetResult key text millis w (perform w u.changes) u.reply) (sym e)
      (by_turn now (turn_at key (set_rule text millis) now w) (set_turn (moment_after now w) millis text (at key (standing_at now w))))

set_rules : (key text : Bytes) (millis : ℕ) (v : World) → Rules key (set_rule text millis) v (act v (action_of (plain.Set key text (set_options millis))))
unfolding set_rule
set_rules key text millis v = by_test (Rules key (set_rule text millis) v) (is_plain (class_of key)) _ _ (inr (inr refl)) (inl refl)

pub set_comes : (key text : Bytes) (millis : ℕ) (w : World) (step : Step) → millis < 2 ^ 63 → words_of step.event ≡ set_words key text millis → Happens w step.event step.outcome
    → SetResult key text millis w (after w step) step.outcome.reply
set_comes key text millis w step fits words happens =
    set_result key text millis w step.outcome
    (request_acts key (set_rule text millis) (plain.Set key text (set_options millis)) refl (set_rules key text millis) _ _ w step.event step.outcome words (set_read key text millis fits) happens)
