-- What the words of a command come to, from what the session reads them as and from the store's answer.
use Rattle.std.proofs.Common.{◌≡◌, ◌≢◌, ◌∷◌, [], refl, sym, ap, ◌∙◌, subst, Bool, true, false, ◌&&◌, ℕ, arith, Ok, Err}
use Rattle.std.specs.Bool.{MatchBool}
use Rattle.std.specs.Prelude.{ℤ, Option, Some, None, is_some, pos, negsuc, nat_le, cond}
use Rattle.sk_resp.specs.declared.name.Name.{Name}
use Rattle.sk_resp.specs.declared.name.Name.TheVariants as name
use Rattle.sk_resp.specs.declared.reply.Reply.{Reply}
use Rattle.sk_resp.specs.declared.reply.Reply.TheVariants as reply
use Rattle.sk_resp.specs.declared.say.Say.{Say}
use Rattle.sk_resp.specs.declared.say.Say.TheVariants as say
use Rattle.sk_cmd.proofs.AgreeTable.{one_command}
use Rattle.sk_cmd.specs.Fault.{fault_say}
use Rattle.sk_cmd.specs.Reading.{Read}
use Rattle.sk_cmd.specs.Table.{IsRead}
use Rattle.sk_cmd.specs.declared.cmd_fault.CmdFault.{CmdFault}
use Rattle.sk_cmd.specs.declared.cmd_fault.CmdFault.TheVariants as fault
use Rattle.sk_cmd.specs.declared.command.Command.{Command}
use Rattle.sk_model.specs.World.{World}
use Rattle.sk_model.specs.Change.{perform}
use Rattle.sk_model.specs.Event.{Ask, Cut}
use Rattle.sk_model.specs.Outcome.{Outcome, Realizes, tells}
use Rattle.sk_model.specs.Step.{MayComeTo, cut}
use Rattle.sk_model.specs.Reading.{Words, PipeCommand, Refused, SetTime, ActAs, CutSeat, RunCommand, IsAsked, IsNumber, IsSaid, is_own, is_word, moment_said, seat_said, last_seat, told}
use Rattle.sk_model.specs.Run.{State, Answers, Quits, fixed, happened, quits, is_ok}
use Rattle.sk_model.proofs.Theorems.Runs.{answers_one}
use Rattle.sk_talk.specs.declared.talker.Answer.{Answer}
use Rattle.sk_talk.specs.declared.talk_end.Stop.{Stop}
use Rattle.sk_pipe.specs.Session.{HandlesCommand, HandlesLine, stop_of, where_ok, word_of}

-- what stops the pipe is an accepted word
pub stops_where : (c : Command) (r : Reply) → is_some (where_ok (stop_of c) r) ≡ (quits c && is_ok r)
stops_where c r = by_tests (quits c) (is_ok r) where
  by_tests : (a b : Bool) → is_some (cond b (cond a (Some (word_of c)) None) None) ≡ (a && b)
  by_tests true true = refl
  by_tests true false = refl
  by_tests false true = refl
  by_tests false false = refl

-- the store's step, as the session has it
pub asked : (old : State) (w : World) (c : Command) (o : Outcome) (r : Reply) (stop : Option Stop) → MayComeTo old.world old.seat old.now c o → Realizes old.world o r w → stop ≡ where_ok (stop_of c) r
    → HandlesCommand old c (record { reply = r; stop = stop }) (record { world = w; seat = old.seat; now = old.now })
asked old w c o r stop steps comes e = record {
  outcome = o;
  steps = steps;
  reply_is = comes.reply_is;
  stop_is = e ∙ ap (λ r. where_ok (stop_of c) r) comes.reply_is;
  new_is = ap (λ w. record { world = w; seat = old.seat; now = old.now }) comes.new_is;
}

-- ## Words of the pipe's own, and others

pub passes_by : (P Q : Type 0) (test : Bool) → test ≡ false → MatchBool test P Q → Q
passes_by P Q true e m = absurd (cc e)
passes_by P Q false e m = m

-- what isn't the pipe's own is read by the table
pub others : (words : Words) (said : PipeCommand) → is_own words ≡ false → IsSaid words said → IsAsked words said
others [] said none is = is
others (word ∷ words) said none is =
    passes_by _ _ (is_word name.Cut word) (grind (arith, none))
    (passes_by _ _ (is_word name.As word) (grind (arith, none))
    (passes_by _ _ (is_word name.Now word) (grind (arith, none)) is))

-- a word of the pipe's own is no command for the store
moment_own : (n : Option ℤ) (c : Command) → RunCommand c ≢ moment_said n
moment_own (Some (pos n)) c = λ e. cc e
moment_own (Some (negsuc n)) c = λ e. cc e
moment_own None c = λ e. cc e

seat_own : (says : ℕ → PipeCommand) (n : Option ℤ) (c : Command) → ((m : ℕ) → RunCommand c ≢ says m) → RunCommand c ≢ seat_said says n
seat_own says (Some (pos n)) c other = by_size (nat_le n last_seat) where
  by_size : (b : Bool) → RunCommand c ≢ cond b (says n) (Refused say.NotInt)
  by_size true = other n
  by_size false = λ e. cc e
seat_own says (Some (negsuc n)) c other = λ e. cc e
seat_own says None c other = λ e. cc e

number_own : (name : Name) (meant : Option ℤ → PipeCommand) (words : Words) (c : Command) → ((n : Option ℤ) → RunCommand c ≢ meant n) → IsNumber name meant words (RunCommand c) → ⊥
number_own name meant [] c other is = cc is
number_own name meant (text ∷ []) c other is = other is.0 is.2
number_own name meant (text ∷ more ∷ words) c other is = cc is

pub asks_apart : (words : Words) (c : Command) → IsSaid words (RunCommand c) → is_own words ≡ false
asks_apart [] c is = refl
asks_apart (word ∷ words) c is = by_now (is_word name.Now word) refl is where
  by_cut : (b : Bool) → is_word name.Cut word ≡ b → MatchBool b (IsNumber name.Cut (seat_said CutSeat) words (RunCommand c)) (IsAsked (word ∷ words) (RunCommand c)) → is_word name.Now word ≡ false → is_word name.As word ≡ false → is_own (word ∷ words) ≡ false
  by_cut true e is now acts = absurd (number_own name.Cut (seat_said CutSeat) words c (λ n. seat_own CutSeat n c (λ m e. cc e)) is)
  by_cut false e is now acts = grind (arith, e, now, acts)

  by_as : (b : Bool) → is_word name.As word ≡ b → MatchBool b (IsNumber name.As (seat_said ActAs) words (RunCommand c)) (MatchBool (is_word name.Cut word) (IsNumber name.Cut (seat_said CutSeat) words (RunCommand c)) (IsAsked (word ∷ words) (RunCommand c))) → is_word name.Now word ≡ false → is_own (word ∷ words) ≡ false
  by_as true e is now = absurd (number_own name.As (seat_said ActAs) words c (λ n. seat_own ActAs n c (λ m e. cc e)) is)
  by_as false e is now = by_cut (is_word name.Cut word) refl is now e

  by_now : (b : Bool) → is_word name.Now word ≡ b
      → MatchBool b (IsNumber name.Now moment_said words (RunCommand c)) (MatchBool (is_word name.As word) (IsNumber name.As (seat_said ActAs) words (RunCommand c)) (MatchBool (is_word name.Cut word) (IsNumber name.Cut (seat_said CutSeat) words (RunCommand c)) (IsAsked (word ∷ words) (RunCommand c)))) → is_own (word ∷ words) ≡ false
  by_now true e is = absurd (number_own name.Now moment_said words c (λ n. moment_own n c) is)
  by_now false e is = by_as (is_word name.As word) refl is e

-- what the table reads is a command or a refusal
told_cases : (words : Words) (said : PipeCommand) → IsAsked words said → (P : PipeCommand → Type 0) → ((c : Command) → P (RunCommand c)) → ((s : Say) → P (Refused s)) → P said
told_cases words said (Ok c, read, some, is) P asks refused = subst P (sym is) (asks c)
told_cases words said (Err f, read, some, is) P asks refused = subst P (sym is) (refused (fault_say f))

abbrev IsOfTable : PipeCommand → Type 0
IsOfTable (Refused say) = Unit {0}
IsOfTable (RunCommand c) = Unit {0}
IsOfTable (SetTime now) = ⊥
IsOfTable (ActAs seat) = ⊥
IsOfTable (CutSeat seat) = ⊥

-- what sets or cuts is the pipe's own
pub pipes_own : (words : Words) (said : PipeCommand) → IsSaid words said → (IsOfTable said → ⊥) → is_own words ≡ true
pipes_own words said is none = by_own (is_own words) refl where
  by_own : (b : Bool) → is_own words ≡ b → b ≡ true
  by_own true e = refl
  by_own false e = absurd (none (told_cases words said (others words said e is) IsOfTable (λ c. tt) (λ s. tt)))

-- ## Turns

in_own : (P Q : Type 0) (test : Bool) → test ≡ true → P → MatchBool test P Q
in_own P Q true e p = p
in_own P Q false e p = absurd (cc e)

in_others : (P Q : Type 0) (test : Bool) → test ≡ false → Q → MatchBool test P Q
in_others P Q true e q = absurd (cc e)
in_others P Q false e q = q

-- a fixed text, after which the pipe goes on
abbrev fixed_answer : Say → Answer
fixed_answer s = record { reply = reply.Say s; stop = None }

module _ (old : State) (words : Words) where
  -- the moment or the seat is set
  pub spoke_sets : (now : ℕ) (a : Answer) (new : State) → IsSaid words (SetTime now) → a ≡ fixed_answer say.Ok → new ≡ record old { now = now } → HandlesLine old words a new
  spoke_sets now a new is answered new_is = record {
    turn = fixed old.seat now say.Ok;
    is_turn = in_own _ _ (is_own words) (pipes_own words (SetTime now) is (λ e. e)) (SetTime now, is, refl);
    run = tt;
    reply_is = ap (λ (a : Answer). a.reply) answered;
    ends_is = ap (λ (a : Answer). is_some a.stop) answered;
    new_is = new_is;
  }

  pub spoke_sits : (seat : ℕ) (a : Answer) (new : State) → IsSaid words (ActAs seat) → a ≡ fixed_answer say.Ok → new ≡ record old { seat = seat } → HandlesLine old words a new
  spoke_sits seat a new is answered new_is = record {
    turn = fixed seat old.now say.Ok;
    is_turn = in_own _ _ (is_own words) (pipes_own words (ActAs seat) is (λ e. e)) (ActAs seat, is, refl);
    run = tt;
    reply_is = ap (λ (a : Answer). a.reply) answered;
    ends_is = ap (λ (a : Answer). is_some a.stop) answered;
    new_is = new_is;
  }

  -- a seat is cut off
  pub spoke_cuts : (seat : ℕ) (a : Answer) (new : State) → IsSaid words (CutSeat seat) → a ≡ fixed_answer say.Ok → new ≡ record old { world = perform old.world (cut seat).changes } → HandlesLine old words a new
  spoke_cuts seat a new is answered new_is = record {
    turn = happened old.seat old.now (Cut seat) (cut seat) false;
    is_turn = in_own _ _ (is_own words) (pipes_own words (CutSeat seat) is (λ e. e)) (CutSeat seat, is, (cut seat, refl));
    run = (refl, tt);
    reply_is = ap (λ (a : Answer). a.reply) answered;
    ends_is = ap (λ (a : Answer). is_some a.stop) answered;
    new_is = new_is;
  }

  -- nothing but an accepted QUIT or SHUTDOWN ends the pipe
  no_quit : (f : CmdFault) → IsRead words (Err f) → f ≢ fault.Memory → Quits words (reply.Say (fault_say f)) → ⊥
  no_quit f read some (c, is, accepted) = cc (one_command words (Err f) (Ok c) read is (λ e. some (cc e)) (λ e. cc e))

  -- a fault of the words
  fault_turn : (f : CmdFault) (a : Answer) → is_own words ≡ false → IsRead words (Err f) → (Quits words (reply.Say (fault_say f)) → ⊥) → a ≡ fixed_answer (fault_say f) → HandlesLine old words a old
  fault_turn f a none read never answered = record {
    turn = happened old.seat old.now (Ask old.seat old.now words) (tells (fault_say f)) false;
    is_turn = in_others _ _ (is_own words) none (tells (fault_say f), (false, refl, (λ e. absurd (cc e), λ q. absurd (never q))));
    run = ((Err f, read, refl), tt);
    reply_is = ap (λ (a : Answer). a.reply) answered;
    ends_is = ap (λ (a : Answer). is_some a.stop) answered;
    new_is = refl;
  }

  -- there was no memory to read them
  pub spoke_starved : (a : Answer) → is_own words ≡ false → IsRead words (Err fault.Memory) → a ≡ fixed_answer say.Oom → HandlesLine old words a old
  spoke_starved a none read answered = fault_turn fault.Memory a none read (λ q. not_ok q.0 q.2) answered where
    not_ok : (c : Command) → quits c && false ≡ true → ⊥
    not_ok c e = grind (arith, e)

  refused_turn : (r : Read Command) (s : Say) (a : Answer) → is_own words ≡ false → IsRead words r → r ≢ Err fault.Memory → Refused s ≡ told r → a ≡ fixed_answer s → HandlesLine old words a old
  refused_turn (Ok c) s a none read some is answered = absurd (cc is)
  refused_turn (Err f) s a none read some is answered =
      fault_turn f a none read (no_quit f read (λ e. some (ap Err e))) (answered ∙ ap fixed_answer (cc is))

  -- the words are refused
  pub spoke_refused : (s : Say) (a : Answer) → IsSaid words (Refused s) → a ≡ fixed_answer s → HandlesLine old words a old
  spoke_refused s a is answered = by_own (is_own words) refl where
    by_own : (b : Bool) → is_own words ≡ b → HandlesLine old words a old
    by_own true e = record {
      turn = fixed old.seat old.now s;
      is_turn = in_own _ _ (is_own words) e (Refused s, is, refl);
      run = tt;
      reply_is = ap (λ (a : Answer). a.reply) answered;
      ends_is = ap (λ (a : Answer). is_some a.stop) answered;
      new_is = refl;
    }
    by_own false e = let asked = others words (Refused s) e is in refused_turn asked.0 s a e asked.1 asked.2 asked.3 answered

  -- the store is asked
  asked_turn : (r : Read Command) (c : Command) (a : Answer) (new : State) → is_own words ≡ false → IsRead words r → RunCommand c ≡ told r → HandlesCommand old c a new → HandlesLine old words a new
  asked_turn (Err f) c a new none read is done = absurd (cc is)
  asked_turn (Ok d) c a new none read is done =
      let same : d ≡ c = cc is in
      let of_c : IsRead words (Ok c) = subst (λ c. IsRead words (Ok c)) same read in
      let told : is_some a.stop ≡ (quits c && is_ok done.outcome.reply) = ap is_some done.stop_is ∙ stops_where c done.outcome.reply in
      record {
        turn = happened old.seat old.now (Ask old.seat old.now words) done.outcome (is_some a.stop);
        is_turn = in_others _ _ (is_own words) none (
          done.outcome,
          (
            is_some a.stop,
            refl,
            (
              λ e. (c, of_c, sym told ∙ e),
              λ q. told ∙ ap (λ c. quits c && is_ok done.outcome.reply) (the_same c q.0 of_c q.1) ∙ q.2,
            ),
          ),
        );
        run = ((Ok c, of_c, done.steps), tt);
        reply_is = done.reply_is;
        ends_is = refl;
        new_is = done.new_is;
      }
    where
      the_same : (c d : Command) → IsRead words (Ok c) → IsRead words (Ok d) → c ≡ d
      the_same c d p q = cc (one_command words (Ok c) (Ok d) p q (λ e. cc e) (λ e. cc e))

  pub spoke_asks : (c : Command) (a : Answer) (new : State) → IsSaid words (RunCommand c) → HandlesCommand old c a new → HandlesLine old words a new
  spoke_asks c a new is done =
      let none = asks_apart words c is in
      let asked = others words (RunCommand c) none is in
      asked_turn asked.0 c a new none asked.1 asked.3 done

-- A turn as a run of one command.
pub answers_turn : (old new : State) (words : Words) (a : Answer) → HandlesLine old words a new → Answers old (words ∷ []) (a.reply ∷ []) new (is_some a.stop)
answers_turn old new words a s =
    let t = s.turn in
    subst (λ r. Answers old (words ∷ []) (r ∷ []) new (is_some a.stop)) (sym s.reply_is)
    (subst (λ e. Answers old (words ∷ []) (t.reply ∷ []) new e) (sym s.ends_is)
    (subst (λ n. Answers old (words ∷ []) (t.reply ∷ []) n t.ends) (sym s.new_is) (answers_one old words t s.is_turn s.run)))
