-- What a log keeps of a turn of a pipe.
use Rattle.std.proofs.Common.{◌≡◌, ◌≢◌, inl, inr, refl, sym, ap, ◌∙◌, subst, ℕ, List, [], ◌∷◌, Bool, true, false}
use Rattle.std.specs.Bool.{MatchBool}
use Rattle.std.specs.Prelude.{Ok, Err}
use Rattle.sk_cmd.proofs.AgreeTable.{one_command}
use Rattle.sk_cmd.specs.Reading.{Read}
use Rattle.sk_cmd.specs.Table.{IsRead}
use Rattle.sk_cmd.specs.declared.cmd_fault.CmdFault.{CmdFault}
use Rattle.sk_cmd.specs.declared.cmd_fault.CmdFault.TheVariants as fault
use Rattle.sk_cmd.specs.declared.command.Command.{Command}
use Rattle.sk_resp.specs.declared.reply.Reply.{Reply}
use Rattle.sk_resp.specs.declared.say.Say.{Say}
use Rattle.sk_model.specs.World.{World}
use Rattle.sk_model.specs.Outcome.{Outcome}
use Rattle.sk_model.specs.Event.{Ask, Cut, Happens, ResultsIn, Run, Step}
use Rattle.sk_model.specs.Reading.{Words, PipeCommand, Refused, SetTime, ActAs, CutSeat, RunCommand, IsAsked, IsSaid, is_own, told}
use Rattle.sk_resp.specs.Errors.{is_error}
use Rattle.sk_cmd.specs.ReadOnly.{is_quiet}
use Rattle.sk_model.specs.Replay.{IsKept, Logged, entry_of}
use Rattle.sk_model.specs.Run.{State, IsOwnTurn, Turn}
use Rattle.sk_model.proofs.Theorems.Readings.{one_reading}
use Rattle.sk_talk.specs.declared.talker.Answer.{Answer}
use Rattle.sk_pipe.specs.Session.{HandlesLine}
use Rattle.sk_pipe.proofs.Asking.{asks_apart, others, passes_by, pipes_own}
use Rattle.sk_aof.specs.Logging.{asked}
use Rattle.sk_aof.proofs.Judging.{fault_is_error}

passes_in : (P Q : Type 0) (test : Bool) → test ≡ true → MatchBool test P Q → P
passes_in P Q true e m = m
passes_in P Q false e m = absurd (cc e)

unkept : (w : World) (step : Step) → (IsKept step.event step.outcome.reply → ⊥) → Logged w (step ∷ []) []
unkept w step not = inr (not, refl)

kept : (w : World) (step : Step) → IsKept step.event step.outcome.reply → Logged w (step ∷ []) (entry_of w step ∷ [])
kept w step is = inl (is, ([], refl, refl))

module _ (old new : State) (words : Words) (answer : Answer) (h : HandlesLine old words answer new) where
  abbrev step_of : Outcome → Step
  step_of o = record { event = Ask old.seat old.now words; outcome = o }

  -- words that aren't the pipe's own are one event
  pub record IsAskedTurn (o : Outcome) : Type 0 where
    pub steps_are : h.turn.steps ≡ step_of o ∷ []
    pub reply_is : answer.reply ≡ o.reply
    pub happens : Happens old.world (Ask old.seat old.now words) o

  ask_turn : is_own words ≡ false → (o : Outcome) × IsAskedTurn o
  ask_turn none =
      let t = passes_by _ _ (is_own words) none h.is_turn in
      let steps_are : h.turn.steps ≡ step_of t.0 ∷ [] = ap (λ (turn : Turn). turn.steps) t.1.1 in (
        t.0,
        record {
          steps_are = steps_are;
          reply_is = h.reply_is ∙ ap (λ (turn : Turn). turn.reply) t.1.1;
          happens = (subst (λ (steps : List Step). Run old.world steps) steps_are h.run).0;
        },
      )

  none_kept : (o : Outcome) → IsAskedTurn o → (IsKept (Ask old.seat old.now words) o.reply → ⊥) → Logged old.world h.turn.steps []
  none_kept o t not = subst (λ (steps : List Step). Logged old.world steps []) (sym t.steps_are) (unkept old.world (step_of o) not)

  -- an error isn't kept
  pub error_line : is_own words ≡ false → is_error answer.reply ≡ true → Logged old.world h.turn.steps []
  error_line none e =
      let t = ask_turn none in
      none_kept t.0 t.1 (λ is. cc (is.0, ap is_error (sym t.1.reply_is), e))

  asked_read : (c : Command) → IsSaid words (RunCommand c) → IsRead words (Ok c)
  asked_read c is = let a = others words (RunCommand c) (asks_apart words c is) is in by_read a.0 a.1 a.3 where
    by_read : (r : Read Command) → IsRead words r → RunCommand c ≡ told r → IsRead words (Ok c)
    by_read (Ok d) read e = let same : d ≡ c = cc e in subst (λ (x : Command). IsRead words (Ok x)) same read
    by_read (Err f) read e = absurd (cc e)

  -- nor is a command that leaves the store as it is
  pub quiet_line : (c : Command) → IsSaid words (RunCommand c) → is_quiet c ≡ true → Logged old.world h.turn.steps []
  quiet_line c is quiet =
      let t = ask_turn (asks_apart words c is) in
      none_kept t.0 t.1 (λ k.
      let same : c ≡ k.1.0 = cc (one_command words (Ok c) (Ok k.1.0) (asked_read c is) k.1.1 (λ e. cc e) (λ e. cc e)) in
      cc (quiet, k.1.2, ap is_quiet same))

  -- any other is
  pub kept_line : (c : Command) → IsSaid words (RunCommand c) → is_quiet c ≡ false → is_error answer.reply ≡ false → Logged old.world h.turn.steps (record { event = asked old words; reply = answer.reply } ∷ [])
  kept_line c is loud fine =
      let t = ask_turn (asks_apart words c is) in
      let keeps : IsKept (Ask old.seat old.now words) t.0.reply = (ap is_error (sym t.1.reply_is) ∙ fine, (c, asked_read c is, loud)) in
      subst (λ (r : Reply). Logged old.world h.turn.steps (record { event = asked old words; reply = r } ∷ [])) (sym t.1.reply_is)
      (subst (λ (steps : List Step). Logged old.world steps (record { event = asked old words; reply = t.0.reply } ∷ [])) (sym t.1.steps_are) (kept old.world (step_of t.0) keeps))

  own_turn : (said : PipeCommand) → IsSaid words said → is_own words ≡ true → IsOwnTurn old.seat old.now said h.turn
  own_turn said is own =
      let found = passes_in _ _ (is_own words) own h.is_turn in
      subst (λ (p : PipeCommand). IsOwnTurn old.seat old.now p h.turn) (one_reading words found.0 said found.1 is) found.2

  -- so is a cut
  pub cut_line : (seat : ℕ) → IsSaid words (CutSeat seat) → Logged old.world h.turn.steps (record { event = Cut seat; reply = answer.reply } ∷ [])
  cut_line seat is =
      let t = own_turn (CutSeat seat) is (pipes_own words (CutSeat seat) is (λ e. e)) in
      let step : Step = record { event = Cut seat; outcome = t.0 } in
      let reply_is : answer.reply ≡ t.0.reply = h.reply_is ∙ ap (λ (turn : Turn). turn.reply) t.1 in
      let steps_are : h.turn.steps ≡ step ∷ [] = ap (λ (turn : Turn). turn.steps) t.1 in
      subst (λ (r : Reply). Logged old.world h.turn.steps (record { event = Cut seat; reply = r } ∷ [])) (sym reply_is)
      (subst (λ (steps : List Step). Logged old.world steps (record { event = Cut seat; reply = t.0.reply } ∷ [])) (sym steps_are) (kept old.world step tt))

  -- what sets a moment or a seat is no event, and what is refused isn't kept
  pub own_line : (said : PipeCommand) → IsSaid words said → is_own words ≡ true → ((seat : ℕ) → said ≡ CutSeat seat → ⊥) → Logged old.world h.turn.steps []
  own_line said is own apart = subst (λ (steps : List Step). Logged old.world steps []) (sym (no_steps said apart (own_turn said is own))) refl where
    no_steps : (said : PipeCommand) → ((seat : ℕ) → said ≡ CutSeat seat → ⊥) → IsOwnTurn old.seat old.now said h.turn → h.turn.steps ≡ []
    no_steps (Refused s) apart t = ap (λ (turn : Turn). turn.steps) t
    no_steps (SetTime now) apart t = ap (λ (turn : Turn). turn.steps) t
    no_steps (ActAs seat) apart t = ap (λ (turn : Turn). turn.steps) t
    no_steps (CutSeat seat) apart t = absurd (apart seat refl)
    no_steps (RunCommand c) apart t = absurd t

  refused_asked : (s : Say) → is_own words ≡ false → IsAsked words (Refused s) → Logged old.world h.turn.steps []
  refused_asked s none a = by_read a.0 a.1 a.2 a.3 where
    t : (o : Outcome) × IsAskedTurn o
    t = ask_turn none

    by_found : (f : CmdFault) → IsRead words (Err f) → f ≢ fault.Memory → (r : Read Command) → IsRead words r → ResultsIn old.world old.seat old.now r t.0 → is_error t.0.reply ≡ true
    by_found f read some (Ok d) other comes = absurd (cc (one_command words (Err f) (Ok d) read other (λ e. some (cc e)) (λ e. cc e)))
    by_found f read some (Err g) other comes = ap (λ (o : Outcome). is_error o.reply) comes ∙ fault_is_error g

    by_read : (r : Read Command) → IsRead words r → r ≢ Err fault.Memory → Refused s ≡ told r → Logged old.world h.turn.steps []
    by_read (Ok d) read some e = absurd (cc e)
    by_read (Err f) read some e =
        let error = by_found f read (λ e. some (ap Err e)) t.1.happens.0 t.1.happens.1 t.1.happens.2 in
        none_kept t.0 t.1 (λ k. cc (k.0, error))

  pub refused_line : (s : Say) → IsSaid words (Refused s) → Logged old.world h.turn.steps []
  refused_line s is = by_own (is_own words) refl where
    by_own : (b : Bool) → is_own words ≡ b → Logged old.world h.turn.steps []
    by_own true e = own_line (Refused s) is e (λ seat e. cc e)
    by_own false e = refused_asked s e (others words (Refused s) e is)
