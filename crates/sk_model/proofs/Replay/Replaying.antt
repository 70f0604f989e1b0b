-- What a log keeps of a run runs again to the same world.
use Rattle.std.proofs.Common.{◌≡◌, ◌⊎◌, ◌≤◌, inl, inr, refl, sym, ap, ◌∙◌, subst, List, [], ◌∷◌, ℕ, Bool, true, false, arith}
use Rattle.std.specs.Prelude.{Option, Some, None, Ok, Err}
use Rattle.sk_base.specs.Score.{last_moment}
use Rattle.sk_resp.specs.Spelling.{Bytes}
use Rattle.sk_resp.specs.Errors.{is_error, says_error}
use Rattle.sk_resp.specs.declared.reply.Reply.{Reply}
use Rattle.sk_resp.specs.declared.reply.Reply.TheVariants as reply
use Rattle.sk_resp.specs.declared.say.Say.TheVariants as say
use Rattle.sk_cmd.specs.Fault.{fault_say}
use Rattle.sk_cmd.specs.ReadOnly.{is_quiet}
use Rattle.sk_cmd.specs.Reading.{Read}
use Rattle.sk_cmd.specs.Table.{IsRead}
use Rattle.sk_cmd.specs.declared.cmd_fault.CmdFault.{CmdFault}
use Rattle.sk_cmd.specs.declared.cmd_fault.CmdFault.TheVariants as fault
use Rattle.sk_cmd.specs.declared.command.Command.{Command}
use Rattle.sk_cmd.specs.declared.command.Command.TheVariants as command
use Rattle.sk_seats.specs.declared.phase.Phase.{Phase}
use Rattle.sk_seats.specs.declared.phase.Phase.TheVariants.{Plain, Joined}
use Rattle.sk_seats.specs.declared.work.Stage.{Stage}
use Rattle.sk_seats.specs.declared.work.Stage.TheVariants.{Held, Put, Settled}
use Rattle.sk_seats.specs.declared.work.Work.{Work}
use Rattle.sk_seats.specs.Works.{first as first_work, is_done_as}
use Rattle.sk_model.specs.World.{World, phase_of, first as first_world}
use Rattle.sk_model.specs.Change.{Add, Carry, Take, Trim, Merge, PutBack, Free, Fire, Change, Moves, Passes, Names, Unnames, Keeps, Turns, Beats, Counts, Recovers, Forgets, Locks, Unlocks, Elects, TakesSlot, Makes, Joins, Notifies, changed, freed, freed_at, freed_work, perform, moment_after, passed}
use Rattle.sk_model.specs.Outcome.{Outcome, tells}
use Rattle.sk_model.specs.Step.{by_seat, cut, outcome, run as run_script, starves}
use Rattle.sk_model.specs.Reading.{Words}
use Rattle.sk_model.specs.Event.{Event, Ask, Cut, ResultsIn, Happens, Run, Step, after, world_after}
use Rattle.sk_model.specs.Starving.{IsServed}
use Rattle.sk_model.specs.declared.limits.Limits.{Limits}
use Rattle.sk_model.specs.Replay.{Entry, Idles, IsKept, Logged, Replay, Rerun, Served, Written, acted, entry_of, told}
use Rattle.sk_model.proofs.Replay.Calm.{Calm}
use Rattle.sk_model.proofs.Replay.CalmCommands.{calm_by_seat, calm_run}
use Rattle.sk_model.proofs.Replay.Quiet.{quiet_by_seat}
use Rattle.sk_model.proofs.Replay.Standing.{Ahead, acts_alike, at_own_moment, stays_ahead}

-- ## The moment

at_moment : (ident text : Bytes) (w : World) (stage : Stage) → (freed_at stage ident text w).moment ≡ w.moment
at_moment ident text w Held = refl
at_moment ident text w Put = refl
at_moment ident text w (Settled end) = refl

work_moment : (ident : Bytes) (w : World) (found : Option Work) → (freed_work ident w found).moment ≡ w.moment
work_moment ident w None = refl
work_moment ident w (Some work) = at_moment ident work.payload w work.stage

freed_moment : (text : Bytes) (w : World) (phase : Phase) → (freed text w phase).moment ≡ w.moment
freed_moment text w Plain = refl
freed_moment text w (Joined ident works) = work_moment ident w (first_work (is_done_as text) works)

changed_in_time : (w : World) (change : Change) → w.moment ≤ last_moment → (changed w change).moment ≤ last_moment
changed_in_time w (Moves (Free seat text)) le = subst (λ (m : ℕ). m ≤ last_moment) (sym (freed_moment text w (phase_of w seat))) le
changed_in_time w (Passes now) le = omega (arith, le)
changed_in_time w (Moves (Add row end from)) le = le
changed_in_time w (Moves (Carry row from to score end)) le = le
changed_in_time w (Moves (Take row from)) le = le
changed_in_time w (Moves (Trim row)) le = le
changed_in_time w (Moves (Merge row)) le = le
changed_in_time w (Moves (PutBack row)) le = le
changed_in_time w (Moves (Fire bid kind)) le = le
changed_in_time w (Names queue) le = le
changed_in_time w (Unnames queue) le = le
changed_in_time w (Keeps keys) le = le
changed_in_time w (Turns seat phase) le = le
changed_in_time w (Beats ident) le = le
changed_in_time w (Counts name) le = le
changed_in_time w (Recovers jid) le = le
changed_in_time w (Forgets jid) le = le
changed_in_time w (Locks digest jid seconds) le = le
changed_in_time w (Unlocks digest jid) le = le
changed_in_time w (Elects ident) le = le
changed_in_time w (TakesSlot loop slot text) le = le
changed_in_time w (Makes batch jids) le = le
changed_in_time w (Joins bid jids) le = le
changed_in_time w (Notifies event bid jid) le = le

in_time : (w : World) (changes : List Change) → w.moment ≤ last_moment → (perform w changes).moment ≤ last_moment
in_time w [] le = le
in_time w (change ∷ changes) le = in_time (changed w change) changes (changed_in_time w change le)

-- ## One command

-- at one world in the end, with one reply
alike_reply : (v w : World) (seat now m : ℕ) (c : Command) → passed now w ≡ passed m v → (outcome v seat m c).reply ≡ (outcome w seat now c).reply
alike_reply v w seat now m (command.Plain c) e = ap (λ u. (by_seat u seat (phase_of u seat) c).reply) (sym e)
alike_reply v w seat now m (command.Script c) e = ap (λ u. (run_script u seat (phase_of u seat) c).reply) (sym e)

alike_world : (v w : World) (seat now m : ℕ) (c : Command) → passed now w ≡ passed m v → perform v (outcome v seat m c).changes ≡ perform w (outcome w seat now c).changes
alike_world v w seat now m (command.Plain c) e = ap (λ u. perform u (by_seat u seat (phase_of u seat) c).changes) (sym e)
alike_world v w seat now m (command.Script c) e = ap (λ u. perform u (run_script u seat (phase_of u seat) c).changes) (sym e)

calm_still : (w : World) (o : Outcome) → Calm w o → is_error o.reply ≡ true → perform w o.changes ≡ w
calm_still w o (inl ok) error = absurd (cc (ok, error))
calm_still w o (inr same) error = same

-- After an error time alone has gone on, and after a quiet command.
pub error_still : (w : World) (seat now : ℕ) (c : Command) → is_error (outcome w seat now c).reply ≡ true → perform w (outcome w seat now c).changes ≡ passed now w
error_still w seat now (command.Plain c) error = calm_still (passed now w) (by_seat (passed now w) seat (phase_of w seat) c) (calm_by_seat (passed now w) seat (phase_of w seat) c) error
error_still w seat now (command.Script c) error = calm_still (passed now w) (run_script (passed now w) seat (phase_of w seat) c) (calm_run (passed now w) seat (phase_of w seat) c) error

pub quiet_still : (w : World) (seat now : ℕ) (c : Command) → is_quiet c ≡ true → perform w (outcome w seat now c).changes ≡ passed now w
quiet_still w seat now (command.Plain c) quiet = quiet_by_seat (passed now w) seat (phase_of w seat) c quiet
quiet_still w seat now (command.Script c) quiet = absurd (cc quiet)

is_told_fault : (f : CmdFault) → says_error (fault_say f) ≡ true
is_told_fault fault.Unknown = refl
is_told_fault (fault.Arity name) = refl
is_told_fault fault.NotInt = refl
is_told_fault fault.NotScore = refl
is_told_fault fault.BadBound = refl
is_told_fault fault.Syntax = refl
is_told_fault fault.Memory = refl

-- ## One event

-- what is kept comes to the same in the other world
record Kept (v w : World) (event : Event) (o : Outcome) : Type 0 where
  outcome : Outcome
  served : IsServed v (acted w event) outcome
  happens : Happens v (acted w event) outcome
  reply_is : outcome.reply ≡ o.reply
  ahead : Ahead (perform v outcome.changes) (perform w o.changes)

cut_ahead : (v w : World) (seat : ℕ) → Ahead v w → Ahead (changed v (Turns seat Plain)) (changed w (Turns seat Plain))
cut_ahead v w seat (inl e) = inl (ap (λ u. changed u (Turns seat Plain)) e)
cut_ahead v w seat (inr (t, e)) = inr (t, ap (λ u. changed u (Turns seat Plain)) e)

kept_ask : (v w : World) (seat now : ℕ) (words : Words) (o : Outcome) → v.moment ≤ last_moment → Ahead v w → is_error o.reply ≡ false → (r : Read Command) → IsRead words r → ResultsIn w seat now r o → Kept v w (Ask seat now words) o
kept_ask v w seat now words o le ahead ok (Ok c) read (inl e) =
    let same : passed now w ≡ passed (moment_after now w) v = acts_alike v w now le ahead in
    record {
      outcome = outcome v seat (moment_after now w) c;
      served = (Ok c, read, (λ n. cc n), refl);
      happens = (Ok c, read, inl refl);
      reply_is = alike_reply v w seat now (moment_after now w) c same ∙ ap (λ (p : Outcome). p.reply) (sym e);
      ahead = inl (ap (λ (p : Outcome). perform w p.changes) e ∙ sym (alike_world v w seat now (moment_after now w) c same));
    }
kept_ask v w seat now words o le ahead ok (Ok c) read (inr (may, e)) = absurd (cc (sym ok ∙ ap (λ (p : Outcome). is_error p.reply) e))
kept_ask v w seat now words o le ahead ok (Err f) read e = absurd (cc (sym ok ∙ ap (λ (p : Outcome). is_error p.reply) e ∙ is_told_fault f))

kept_again : (v w : World) (event : Event) (o : Outcome) → v.moment ≤ last_moment → Ahead v w → Happens w event o → is_error o.reply ≡ false → Kept v w event o
kept_again v w (Ask seat now words) o le ahead (r, read, gives) kept = kept_ask v w seat now words o le ahead kept r read gives
kept_again v w (Cut seat) o le ahead happens kept = record {
  outcome = cut seat;
  served = refl;
  happens = refl;
  reply_is = ap (λ (p : Outcome). p.reply) (sym happens);
  ahead = subst (λ (p : Outcome). Ahead (changed v (Turns seat Plain)) (perform w p.changes)) (sym happens) (cut_ahead v w seat ahead);
}

-- what isn't kept leaves the world as it is, but for time
unkept_ask : (w : World) (seat now : ℕ) (words : Words) (o : Outcome) → (IsKept (Ask seat now words) o.reply → ⊥) → (r : Read Command) → IsRead words r → ResultsIn w seat now r o → Idles w o
unkept_ask w seat now words o unkept (Ok c) read (inl e) = by_reply (is_error o.reply) refl (is_quiet c) refl where
  still : perform w (outcome w seat now c).changes ≡ passed now w → Idles w o
  still same = inr (now, ap (λ (p : Outcome). perform w p.changes) e ∙ same)

  by_reply : (b : Bool) → is_error o.reply ≡ b → (q : Bool) → is_quiet c ≡ q → Idles w o
  by_reply true error q quiet = still (error_still w seat now c (ap (λ (p : Outcome). is_error p.reply) (sym e) ∙ error))
  by_reply false ok true quiet = still (quiet_still w seat now c quiet)
  by_reply false ok false loud = absurd (unkept (ok, (c, read, loud)))
unkept_ask w seat now words o unkept (Ok c) read (inr (may, e)) = inr (now, ap (λ (p : Outcome). perform w p.changes) e)
unkept_ask w seat now words o unkept (Err f) read e = inl (ap (λ (p : Outcome). perform w p.changes) e)

unkept_idles : (w : World) (event : Event) (o : Outcome) → Happens w event o → (IsKept event o.reply → ⊥) → Idles w o
unkept_idles w (Ask seat now words) o (r, read, gives) unkept = unkept_ask w seat now words o unkept r read gives
unkept_idles w (Cut seat) o happens unkept = absurd (unkept tt)

kept_is_fine : (w : World) (event : Event) (o : Outcome) → Happens w event o → IsKept event o.reply → is_error o.reply ≡ false
kept_is_fine w (Ask seat now words) o happens kept = kept.0
kept_is_fine w (Cut seat) o happens kept = ap (λ (p : Outcome). is_error p.reply) happens

-- what is logged was written
logged_written : (w : World) (steps : List Step) (entries : List Entry) → Run w steps → Logged w steps entries → Written w steps entries
logged_written w [] entries run log = log
logged_written w (step ∷ steps) entries (happens, run) (inl (kept, (more, is, log))) =
    inl (kept_is_fine w step.event step.outcome happens kept, (more, is, logged_written (after w step) steps more run log))
logged_written w (step ∷ steps) entries (happens, run) (inr (unkept, log)) =
    inr (unkept_idles w step.event step.outcome happens unkept, logged_written (after w step) steps entries run log)

-- time alone goes on, in the one world
idles_ahead : (v w : World) (o : Outcome) → v.moment ≤ last_moment → Ahead v w → Idles w o → Ahead v (perform w o.changes)
idles_ahead v w o le ahead (inl same) = subst (λ (u : World). Ahead v u) (sym same) ahead
idles_ahead v w o le ahead (inr (t, same)) = subst (λ (u : World). Ahead v u) (sym same) (stays_ahead v w t le ahead)

-- ## A run

record Again (v w : World) (steps : List Step) (entries : List Entry) : Type 0 where
  again : List Step
  run : Run v again
  served : Served v again
  told_is : told again ≡ entries
  ahead : Ahead (world_after v again) (world_after w steps)
  soon : (world_after v again).moment ≤ last_moment

replay_from : (v w : World) (steps : List Step) (entries : List Entry) → v.moment ≤ last_moment → Ahead v w → Run w steps → Written w steps entries → Again v w steps entries
replay_from v w [] entries le ahead run log = record { again = []; run = tt; served = tt; told_is = sym log; ahead = ahead; soon = le }
replay_from v w (step ∷ steps) entries le ahead (happens, run) (inr (idles, log)) =
    let rest = replay_from v (after w step) steps entries le (idles_ahead v w step.outcome le ahead idles) run log in
    record { again = rest.again; run = rest.run; served = rest.served; told_is = rest.told_is; ahead = rest.ahead; soon = rest.soon }
replay_from v w (step ∷ steps) entries le ahead (happens, run) (inl (kept, (more, is, log))) =
    let k = kept_again v w step.event step.outcome le ahead happens kept in
    let new : Step = record { event = acted w step.event; outcome = k.outcome } in
    let rest = replay_from (after v new) (after w step) steps more (in_time v k.outcome.changes le) k.ahead run log in
    record {
      again = new ∷ rest.again;
      run = (k.happens, rest.run);
      served = (k.served, rest.served);
      told_is = (λ i. record { event = acted w step.event; reply = k.reply_is i } ∷ rest.told_is i) ∙ sym is;
      ahead = rest.ahead;
      soon = rest.soon;
    }

pub rerun : Rerun
rerun limits steps entries run log =
    let r = replay_from (first_world limits) (first_world limits) steps entries (omega arith) (inl refl) run log in
    let v = world_after (first_world limits) r.again in
    let w = world_after (first_world limits) steps in
    record {
      steps = r.again;
      run = r.run;
      served = r.served;
      told_is = r.told_is;
      same = sym (acts_alike v w w.moment r.soon r.ahead ∙ ap (λ (m : ℕ). passed m v) (at_own_moment w));
    }

pub replay : Replay
replay limits steps entries run log = rerun limits steps entries run (logged_written (first_world limits) steps entries run log)
