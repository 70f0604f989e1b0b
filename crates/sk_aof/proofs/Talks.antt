-- Commands of a pipe whose events are logged, one after another.
use Rattle.std.proofs.Common.{◌≡◌, refl, sym, ap, ◌∙◌, subst, ℕ, List, [], ◌∷◌, ◌++◌, Bool, true, false, ◌||◌, inl, inr}
use Rattle.std.specs.Bool.{MatchBool}
use Rattle.std.specs.Prelude.{Option, Some, None, MatchOption}
use Rattle.std.proofs.lemmas.List.{append-nil}
use Rattle.sk_disk.specs.Images.{Images, Narrows}
use Rattle.sk_log.specs.File.{Body}
use Rattle.sk_log.specs.declared.fault.LogFault.{LogFault}
use Rattle.sk_resp.specs.declared.reply.Reply.{Reply}
use Rattle.sk_model.specs.World.{World}
use Rattle.sk_model.specs.Event.{Run, Step, world_after, after as after_step}
use Rattle.sk_model.specs.Reading.{Words}
use Rattle.sk_model.specs.Replay.{Entry, Logged}
use Rattle.sk_model.specs.Run.{Schedule, State, ended, state_after, steps_in}
use Rattle.sk_model.proofs.Theorems.Runs.{run-append}
use Rattle.sk_talk.specs.Talk.{DoesAll}
use Rattle.sk_talk.specs.declared.talk_end.TalkEnd.{TalkEnd}
use Rattle.sk_talk.specs.declared.talk_end.TalkEnd.TheVariants as end
use Rattle.sk_talk.specs.declared.talk_end.Stop.{Stop}
use Rattle.sk_talk.specs.declared.talk_end.Stop.TheVariants as stop
use Rattle.sk_pipe.specs.Pipe.{pipe_end}
use Rattle.sk_pipe.specs.declared.pipe_end.PipeEnd.{PipeEnd}
use Rattle.sk_aof.specs.Appends.{Appends}
use Rattle.sk_aof.specs.Causes.{Blames}
use Rattle.sk_aof.specs.Logging.{AnswersLine, LogsLine, LosesLine, Place}
use Rattle.sk_aof.specs.Stored.{AllMayStand, bodies_in}
use Rattle.sk_aof.specs.Talking.{IsEnd, LogAnswers, LogsAll, LosesLast}
use Rattle.sk_aof.specs.declared.log_end.LogEnd.{LogEnd}
use Rattle.sk_aof.specs.declared.log_end.LogEnd.TheVariants.{Pipe}
use Rattle.sk_aof.proofs.Appending.{more_appended, none_appended}
use Rattle.sk_aof.proofs.Hindering.{blames_none, blames_on}

-- ## Entries behind entries

logged_on : (w : World) (steps more : List Step) (entries others : List Entry) → Logged w steps entries → Logged (world_after w steps) more others → Logged w (steps ++ more) (entries ++ others)
logged_on w [] more entries others first then = subst (λ (l : List Entry). Logged w more (l ++ others)) (sym first) then
logged_on w (step ∷ steps) more entries others (inl (kept, (rest, is, logs))) then =
    inl (kept, (rest ++ others, ap (λ (l : List Entry). l ++ others) is, logged_on (after_step w step) steps more rest others logs then))
logged_on w (step ∷ steps) more entries others (inr (quiet, logs)) then = inr (quiet, logged_on (after_step w step) steps more entries others logs then)

may_on : (entries others : List Entry) → AllMayStand entries → AllMayStand others → AllMayStand (entries ++ others)
may_on [] others first then = then
may_on (entry ∷ entries) others first then = (first.0, may_on entries others first.1 then)

bodies_on : (entries others : List Entry) → bodies_in (entries ++ others) ≡ bodies_in entries ++ bodies_in others
bodies_on [] others = refl
bodies_on (entry ∷ entries) others = ap (λ (l : List Body). bodies_in (entry ∷ []) ++ l) (bodies_on entries others)

-- ## A turn before others

goes : (P Q : Type 0) (ends : Bool) → ends ≡ false → Q → MatchBool ends P Q
goes P Q true e q = absurd (cc e)
goes P Q false e q = q

either : (ends more : Bool) → ends ≡ false → (ends || more) ≡ more
either true more e = absurd (cc e)
either false more e = refl

module _ {D : Type 0} (may_leave : D → Images) (moment : D → ℕ) (left_since : D → ℕ → Images) (only : (disk : D) → Narrows (may_leave disk) (left_since disk (moment disk))) where
  none_logged : (old : Place D) → LogsAll may_leave moment left_since old [] [] old false
  none_logged old = record {
    answers = record { turns = []; schedule = tt; run = tt; replies_are = refl; new_is = refl; ends_is = refl };
    entries = [];
    logged = refl;
    may = tt;
    appends = none_appended may_leave moment left_since old.gate old.disk (only old.disk);
    goes_on = refl;
  }

  one_logged : (old mid new : Place D) (words : Words) (reply : Reply) (commands : List Words) (replies : List Reply) (ends : Bool)
      → LogsLine may_leave moment left_since old words (record { reply = reply; stop = None }) mid → LogsAll may_leave moment left_since mid commands replies new ends
      → LogsAll may_leave moment left_since old (words ∷ commands) (reply ∷ replies) new ends
  one_logged old mid new words reply commands replies ends first then =
      let line = first.keeps.line in
      let t = line.turn in
      let a = then.answers in
      let on : t.ends ≡ false = sym line.ends_is in
      let world_is : mid.state.world ≡ world_after old.state.world t.steps = ap (λ (s : State). s.world) line.new_is in
      record {
        answers = record {
          turns = t ∷ a.turns;
          schedule = (line.is_turn, goes _ _ t.ends on (subst (λ (s : State). Schedule s.seat s.now commands a.turns) line.new_is a.schedule));
          run = run-append old.state.world t.steps (steps_in a.turns) line.run (subst (λ (w : World). Run w (steps_in a.turns)) world_is a.run);
          replies_are = λ i. line.reply_is i ∷ a.replies_are i;
          new_is = a.new_is ∙ ap (λ (s : State). state_after s a.turns) line.new_is;
          ends_is = either t.ends (ended a.turns) on ∙ a.ends_is;
        };
        entries = first.entries ++ then.entries;
        logged = logged_on old.state.world t.steps (steps_in a.turns) first.entries then.entries first.keeps.logged (subst (λ (w : World). Logged w (steps_in a.turns) then.entries) world_is then.logged);
        may = may_on first.entries then.entries first.keeps.may then.may;
        appends = subst (λ (bodies : List Body). Appends may_leave moment left_since bodies old.gate old.disk new.gate new.disk) (sym (bodies_on first.entries then.entries))
            (more_appended may_leave moment left_since (bodies_in first.entries) (bodies_in then.entries) old.gate old.disk mid.gate mid.disk first.appends new.gate new.disk then.appends);
        goes_on = then.goes_on ∙ first.goes_on;
      }

  last_logged : (old new : Place D) (words : Words) (reply : Reply) (word : Stop) → LogsLine may_leave moment left_since old words (record { reply = reply; stop = Some word }) new
      → LogsAll may_leave moment left_since old (words ∷ []) (reply ∷ []) new true
  last_logged old new words reply word l =
      let line = l.keeps.line in
      let t = line.turn in
      let ends : t.ends ≡ true = sym line.ends_is in
      record {
        answers = record {
          turns = t ∷ [];
          schedule = (line.is_turn, stops _ _ t.ends ends (refl, refl));
          run = subst (Run old.state.world) (sym (append-nil t.steps)) line.run;
          replies_are = λ i. line.reply_is i ∷ [];
          new_is = line.new_is;
          ends_is = ap (λ (b : Bool). b || false) ends;
        };
        entries = l.entries;
        logged = subst (λ (steps : List Step). Logged old.state.world steps l.entries) (sym (append-nil t.steps)) l.keeps.logged;
        may = l.keeps.may;
        appends = l.appends;
        goes_on = l.goes_on;
      } where
        stops : (P Q : Type 0) (ends : Bool) → ends ≡ true → P → MatchBool ends P Q
        stops P Q true e p = p
        stops P Q false e p = absurd (cc e)

  last_lost : (old new : Place D) (words : Words) (reply : Reply) → LosesLine may_leave moment left_since old words new → LosesLast may_leave moment left_since old (words ∷ []) (reply ∷ []) new
  last_lost old new words reply l = record {
    before = [];
    last = words;
    commands_are = refl;
    answered = [];
    lost = reply;
    replies_are = refl;
    mid = old;
    logs = none_logged old;
    loses = l;
  }

  abbrev speaks : Place D → Words → Reply → Option Stop → Place D → Type 0
  speaks old words reply stop new = AnswersLine may_leave moment left_since old words reply stop new

  on_one : (old mid new : Place D) (words : Words) (reply : Reply) (commands : List Words) (replies : List Reply) (stop : Option Stop)
      → LogsLine may_leave moment left_since old words (record { reply = reply; stop = None }) mid → LogAnswers may_leave moment left_since mid commands replies new stop
      → LogAnswers may_leave moment left_since old (words ∷ commands) (reply ∷ replies) new stop
  on_one old mid new words reply commands replies None first then = one_logged old mid new words reply commands replies false first then
  on_one old mid new words reply commands replies (Some stop.Quit) first then = one_logged old mid new words reply commands replies true first then
  on_one old mid new words reply commands replies (Some stop.Shutdown) first then = one_logged old mid new words reply commands replies true first then
  on_one old mid new words reply commands replies (Some stop.Lost) first then = record {
    before = words ∷ then.before;
    last = then.last;
    commands_are = ap (λ (l : List Words). words ∷ l) then.commands_are;
    answered = reply ∷ then.answered;
    lost = then.lost;
    replies_are = ap (λ (l : List Reply). reply ∷ l) then.replies_are;
    mid = then.mid;
    logs = one_logged old mid then.mid words reply then.before then.answered false first then.logs;
    loses = then.loses;
  }

  last_one : (old new : Place D) (words : Words) (reply : Reply) (word : Stop) → speaks old words reply (Some word) new → LogAnswers may_leave moment left_since old (words ∷ []) (reply ∷ []) new (Some word)
  last_one old new words reply stop.Quit l = last_logged old new words reply stop.Quit l
  last_one old new words reply stop.Shutdown l = last_logged old new words reply stop.Shutdown l
  last_one old new words reply stop.Lost l = last_lost old new words reply l

  by_end : (old mid new : Place D) (words : Words) (reply : Reply) (commands : List Words) (replies : List Reply) (ends stop : Option Stop) (P : Type 0) → (P → LogAnswers may_leave moment left_since mid commands replies new stop)
      → speaks old words reply ends mid → MatchOption ends P (λ e. (commands ≡ []) × (replies ≡ []) × (new ≡ mid) × (stop ≡ Some e)) → LogAnswers may_leave moment left_since old (words ∷ commands) (reply ∷ replies) new stop
  by_end old mid new words reply commands replies None stop P f one m = on_one old mid new words reply commands replies stop one (f m)
  by_end old mid new words reply commands replies (Some e) stop P f one m = rw (m.0, m.1, m.2, m.3) (last_one old mid words reply e one)

  pub talk_of : (old new : Place D) (commands : List Words) (replies : List Reply) (stop : Option Stop) → DoesAll speaks old commands replies new stop → LogAnswers may_leave moment left_since old commands replies new stop
  talk_of old new [] [] stop d = subst (λ (s : Option Stop). LogAnswers may_leave moment left_since old [] [] new s) (sym d.1) (subst (λ (p : Place D). LogsAll may_leave moment left_since old [] [] p false) (sym d.0) (none_logged old))
  talk_of old new (words ∷ commands) (reply ∷ replies) stop d =
      by_end old d.1.0 new words reply commands replies d.0 stop _ (λ m. talk_of d.1.0 new commands replies stop m) d.1.1 d.1.2
  talk_of old new [] (reply ∷ replies) stop d = absurd d
  talk_of old new (words ∷ commands) [] stop d = absurd d

-- ## Over a session

module _ {S D N : Type 0} (may_leave : D → Images) (moment : D → ℕ) (left_since : D → ℕ → Images) (faults : D → ℕ) (view : S → Place D) (name : S → N) where
  -- over the same disk, whose count goes on
  abbrev pub keeps : S → S → Type 0
  keeps old new = (name new ≡ name old) × Blames (faults (view old).disk) (view old).fault (faults (view new).disk) (view new).fault

  abbrev pub does : S → Words → Reply → Option Stop → S → Type 0
  does old words reply stop new = (name new ≡ name old) × Blames (faults (view old).disk) (view old).fault (faults (view new).disk) (view new).fault × AnswersLine may_leave moment left_since (view old) words reply stop (view new)

  seen_on : (mid new : S) (commands : List Words) (replies : List Reply) (ends stop : Option Stop) (P Q : Type 0) → (P → Q)
      → MatchOption ends P (λ e. (commands ≡ []) × (replies ≡ []) × (new ≡ mid) × (stop ≡ Some e)) → MatchOption ends Q (λ e. (commands ≡ []) × (replies ≡ []) × (view new ≡ view mid) × (stop ≡ Some e))
  seen_on mid new commands replies None stop P Q f m = f m
  seen_on mid new commands replies (Some e) stop P Q f m = (m.0, m.1, ap view m.2, m.3)

  pub all_seen : (old new : S) (commands : List Words) (replies : List Reply) (stop : Option Stop) → DoesAll does old commands replies new stop
      → DoesAll (λ a words reply s b. AnswersLine may_leave moment left_since a words reply s b) (view old) commands replies (view new) stop
  all_seen old new [] [] stop d = (ap view d.0, d.1)
  all_seen old new (words ∷ commands) (reply ∷ replies) stop d =
      (d.0, (view d.1.0, d.1.1.2, seen_on d.1.0 new commands replies d.0 stop _ _ (λ m. all_seen d.1.0 new commands replies stop m) d.1.2))
  all_seen old new [] (reply ∷ replies) stop d = absurd d
  all_seen old new (words ∷ commands) [] stop d = absurd d

  none_kept : (old new : S) → new ≡ old → keeps old new
  none_kept old new is = subst (λ (s : S). keeps old s) (sym is) (refl, blames_none (faults (view old).disk) (view old).fault)

  kept_on : (old mid new : S) → keeps old mid → keeps mid new → keeps old new
  kept_on old mid new first then = (
    then.0 ∙ first.0,
    blames_on (faults (view old).disk) (faults (view mid).disk) (faults (view new).disk) (view old).fault (view mid).fault (view new).fault first.1 then.1,
  )

  kept_to : (mid new : S) (commands : List Words) (replies : List Reply) (ends stop : Option Stop) (P : Type 0) → (P → keeps mid new)
      → MatchOption ends P (λ e. (commands ≡ []) × (replies ≡ []) × (new ≡ mid) × (stop ≡ Some e)) → keeps mid new
  kept_to mid new commands replies None stop P f m = f m
  kept_to mid new commands replies (Some e) stop P f m = none_kept mid new m.2

  pub all_kept : (old new : S) (commands : List Words) (replies : List Reply) (stop : Option Stop) → DoesAll does old commands replies new stop → keeps old new
  all_kept old new [] [] stop d = none_kept old new d.0
  all_kept old new (words ∷ commands) (reply ∷ replies) stop d =
      kept_on old d.1.0 new (d.1.1.0, d.1.1.1) (kept_to d.1.0 new commands replies d.0 stop _ (λ m. all_kept d.1.0 new commands replies stop m) d.1.2)
  all_kept old new [] (reply ∷ replies) stop d = absurd d
  all_kept old new (words ∷ commands) [] stop d = absurd d

-- ## The end

-- A talk whose log ends as a pipe does ended as that pipe.
pub pipe_ended : (how : TalkEnd) (fault : Option LogFault) (result : LogEnd) (pipe : PipeEnd) → IsEnd how fault result → result ≡ Pipe pipe → pipe_end how ≡ pipe
pipe_ended end.Lost fault result pipe is e = absurd (cc (is, e))
pipe_ended end.Ended fault result pipe is e = cc (is, e)
pipe_ended end.Quit fault result pipe is e = cc (is, e)
pipe_ended end.Shutdown fault result pipe is e = cc (is, e)
pipe_ended end.Wire fault result pipe is e = cc (is, e)
pipe_ended end.Cut fault result pipe is e = cc (is, e)
pipe_ended end.ReadFault fault result pipe is e = cc (is, e)
pipe_ended end.WriteFault fault result pipe is e = cc (is, e)
pipe_ended end.Memory fault result pipe is e = cc (is, e)
pipe_ended end.Budget fault result pipe is e = cc (is, e)
