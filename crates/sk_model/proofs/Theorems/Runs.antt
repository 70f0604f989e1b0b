-- Runs, one after another.
use Rattle.std.proofs.Common.{◌≡◌, List, [], ◌∷◌, ◌++◌, refl, sym, ap, subst, ◌∙◌, arith, Bool, true, false, ◌||◌, append_assoc, append-nil}
use Rattle.std.specs.Bool.{MatchBool}
use Rattle.sk_resp.specs.declared.reply.Reply.{Reply}
use Rattle.sk_model.specs.World.{World}
use Rattle.sk_model.specs.Reading.{Words}
use Rattle.sk_model.specs.Event.{Step, Run, Reaches, world_after}
use Rattle.sk_model.specs.Event.{after as after_step}
use Rattle.sk_model.specs.Run.{State, Turn, IsTurn, Schedule, Answers, after, steps_in, state_after, replies_in, ended}

-- ## Events

pub run-append : (w : World) (steps more : List Step) → Run w steps → Run (world_after w steps) more → Run w (steps ++ more)
run-append w [] more run then_ = then_
run-append w (step ∷ steps) more run then_ = (run.0, run-append (after_step w step) steps more run.1 then_)

pub world_after-append : (w : World) (steps more : List Step) → world_after w (steps ++ more) ≡ world_after (world_after w steps) more
world_after-append w [] more = refl
world_after-append w (step ∷ steps) more = world_after-append (after_step w step) steps more

-- a run that leads on from where another ends
pub leads_on : (old mid new : World) (steps more : List Step) → Reaches old steps mid → Reaches mid more new → Reaches old (steps ++ more) new
leads_on old mid new steps more a b = record {
  run = run-append old steps more a.run (subst (λ w. Run w more) a.new_is b.run);
  new_is = b.new_is ∙ ap (λ w. world_after w more) a.new_is ∙ sym (world_after-append old steps more);
}

-- ## Turns

-- what follows a turn that doesn't end the pipe
goes_on : (ends more : Bool) → ends || more ≡ false → (ends ≡ false) × (more ≡ false)
goes_on true more e = absurd (cc e)
goes_on false more e = (refl, e)

on : (P Q : Type 0) (ends : Bool) → ends ≡ false → MatchBool ends P Q → Q
on P Q true e m = absurd (cc e)
on P Q false e m = m

back : (P Q : Type 0) (ends : Bool) → ends ≡ false → Q → MatchBool ends P Q
back P Q true e q = absurd (cc e)
back P Q false e q = q

schedule-append : (s : State) (commands others : List Words) (turns more : List Turn) → ended turns ≡ false → Schedule s.seat s.now commands turns → Schedule (state_after s turns).seat (state_after s turns).now others more
    → Schedule s.seat s.now (commands ++ others) (turns ++ more)
schedule-append s [] others [] more none made then_ = then_
schedule-append s (words ∷ commands) others (t ∷ turns) more none made then_ =
    let n = goes_on t.ends (ended turns) none in
    (made.0, back _ _ t.ends n.0 (schedule-append (after s t) commands others turns more n.1 (on _ _ t.ends n.0 made.1) then_))
schedule-append s [] others (t ∷ turns) more none made then_ = absurd made
schedule-append s (words ∷ commands) others [] more none made then_ = absurd made

-- the store of the state that turns lead to is that after their events
pub world_is : (s : State) (turns : List Turn) → (state_after s turns).world ≡ world_after s.world (steps_in turns)
world_is s [] = refl
world_is s (t ∷ turns) = world_is (after s t) turns ∙ sym (world_after-append s.world t.steps (steps_in turns))

steps_in-append : (turns more : List Turn) → steps_in (turns ++ more) ≡ steps_in turns ++ steps_in more
steps_in-append [] more = refl
steps_in-append (t ∷ turns) more = ap (λ steps. t.steps ++ steps) (steps_in-append turns more) ∙ sym (append_assoc t.steps (steps_in turns) (steps_in more))

state_after-append : (s : State) (turns more : List Turn) → state_after s (turns ++ more) ≡ state_after (state_after s turns) more
state_after-append s [] more = refl
state_after-append s (t ∷ turns) more = state_after-append (after s t) turns more

replies_in-append : (turns more : List Turn) → replies_in (turns ++ more) ≡ replies_in turns ++ replies_in more
replies_in-append [] more = refl
replies_in-append (t ∷ turns) more = ap (λ replies. t.reply ∷ replies) (replies_in-append turns more)

ended-append : (turns more : List Turn) → ended turns ≡ false → ended (turns ++ more) ≡ ended more
ended-append [] more none = refl
ended-append (t ∷ turns) more none = let n = goes_on t.ends (ended turns) none in grind (arith, n.0, ended-append turns more n.1)

pub answers_nothing : (s : State) → Answers s [] [] s false
answers_nothing s = record { turns = []; schedule = tt; run = tt; replies_are = refl; new_is = refl; ends_is = refl }

pub answers_on : (old mid new : State) (commands others : List Words) (replies more : List Reply) (ends : Bool) → Answers old commands replies mid false → Answers mid others more new ends → Answers old (commands ++ others) (replies ++ more) new ends
answers_on old mid new commands others replies more ends a b = record {
  turns = a.turns ++ b.turns;
  schedule = schedule-append old commands others a.turns b.turns a.ends_is a.schedule (subst (λ s. Schedule s.seat s.now others b.turns) a.new_is b.schedule);
  run = subst (Run old.world) (sym (steps_in-append a.turns b.turns))
      (run-append old.world (steps_in a.turns) (steps_in b.turns) a.run (subst (λ w. Run w (steps_in b.turns)) (ap (λ s. s.world) a.new_is ∙ world_is old a.turns) b.run));
  replies_are = ap (λ z. z ++ more) a.replies_are ∙ ap (λ z. replies_in a.turns ++ z) b.replies_are ∙ sym (replies_in-append a.turns b.turns);
  new_is = b.new_is ∙ ap (λ s. state_after s b.turns) a.new_is ∙ sym (state_after-append old a.turns b.turns);
  ends_is = ended-append a.turns b.turns a.ends_is ∙ b.ends_is;
}

no_words : List Words
no_words = []

no_turns : List Turn
no_turns = []

-- one command
pub answers_one : (old : State) (words : Words) (t : Turn) → IsTurn old.seat old.now words t → Run old.world t.steps → Answers old (words ∷ []) (t.reply ∷ []) (after old t) t.ends
unfolding no_words no_turns
answers_one old words t is run = record {
  turns = t ∷ [];
  schedule = (is, alone t.ends);
  run = subst (Run old.world) (sym (append-nil t.steps)) run;
  replies_are = refl;
  new_is = refl;
  ends_is = only t.ends;
} where
  alone : (ends : Bool) → MatchBool ends ((no_words ≡ []) × (no_turns ≡ [])) (Unit {0})
  alone true = (refl, refl)
  alone false = tt

  only : (ends : Bool) → ends || false ≡ ends
  only true = refl
  only false = refl
