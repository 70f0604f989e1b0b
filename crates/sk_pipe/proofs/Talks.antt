-- The talk of a pipe is one run of its store.
use Rattle.std.proofs.Common.{◌≡◌, List, [], ◌∷◌, Option, Some, None, refl, sym, ap, ◌∙◌, subst, true, false}
use Rattle.std.specs.Prelude.{MatchOption, is_some}
use Rattle.sk_resp.specs.Spelling.{Bytes}
use Rattle.sk_resp.specs.Request.{Command}
use Rattle.sk_resp.specs.declared.reply.Reply.{Reply}
use Rattle.sk_model.specs.Event.{Run}
use Rattle.sk_model.specs.Run.{State, Answers, steps_in}
use Rattle.sk_model.proofs.Theorems.Reliable.{reliable}
use Rattle.sk_model.proofs.Theorems.Runs.{answers_nothing, answers_on}
use Rattle.sk_talk.specs.declared.talk_end.Stop.{Stop}
use Rattle.sk_talk.specs.declared.talk_end.TalkEnd.{TalkEnd}
use Rattle.sk_talk.specs.declared.talk_end.TalkEnd.TheVariants as end
use Rattle.sk_talk.specs.Talk.{DoesAll, Ends as TalkEnds}
use Rattle.sk_talk.proofs.Mapping.{ends_map}
use Rattle.sk_pipe.specs.Reliable.{AreReliable}
use Rattle.sk_pipe.specs.Session.{HandlesLine}
use Rattle.sk_pipe.specs.Pipe.{PipeAnswers, pipe_end}
use Rattle.sk_pipe.specs.declared.pipe_end.PipeEnd.TheVariants.{ReadFault, WriteFault}
use Rattle.sk_pipe.proofs.Asking.{answers_turn}

abbrev speaks : State → Command → Reply → Option Stop → State → Type 0
speaks old words reply stop new = HandlesLine old words (record { reply = reply; stop = stop }) new

-- One command, and those that follow it, where it didn't stop the pipe.
run_on : (old mid new : State) (words : Command) (reply : Reply) (commands : List Command) (replies : List Reply) (stop e : Option Stop) (P : Type 0) → (P → Answers mid commands replies new (is_some stop))
    → Answers old (words ∷ []) (reply ∷ []) mid (is_some e) → MatchOption e P (λ x. (commands ≡ []) × (replies ≡ []) × (new ≡ mid) × (stop ≡ Some x)) → Answers old (words ∷ commands) (reply ∷ replies) new (is_some stop)
run_on old mid new words reply commands replies stop None P f one m = answers_on old mid new (words ∷ []) commands (reply ∷ []) replies (is_some stop) one (f m)
run_on old mid new words reply commands replies stop (Some x) P f one m = rw (m.0, m.1, m.2, m.3) one

-- Commands one after another are a run.
run_of : (old new : State) (commands : List Command) (replies : List Reply) (stop : Option Stop) → DoesAll speaks old commands replies new stop → Answers old commands replies new (is_some stop)
run_of old new [] [] stop d = subst (λ s. Answers old [] [] s (is_some stop)) (sym d.0) (subst (λ e. Answers old [] [] old (is_some e)) (sym d.1) (answers_nothing old))
run_of old new (words ∷ commands) (reply ∷ replies) stop d =
    run_on old d.1.0 new words reply commands replies stop d.0 _ (λ m. run_of d.1.0 new commands replies stop m) (answers_turn old d.1.0 words (record { reply = reply; stop = d.0 }) d.1.1) d.1.2
run_of old new [] (reply ∷ replies) stop d = absurd d
run_of old new (words ∷ commands) [] stop d = absurd d

served_reliable : (old new : State) (commands : List Command) (replies : List Reply) (ends : Option Stop) (answers : Answers old commands replies new (is_some ends)) → AreReliable old.world (steps_in answers.turns)
unfolding AreReliable
served_reliable old new commands replies ends answers = λ limits is. reliable limits (steps_in answers.turns) (subst (λ w. Run w (steps_in answers.turns)) is answers.run)

pub pipes : (old new : State) (how : TalkEnd) (bytes : Bytes) (left : Option Bytes) (written : Bytes) → TalkEnds (DoesAll speaks) old how bytes left new written → TalkEnds PipeAnswers old how bytes left new written
pipes old new how bytes left written ends = ends_map (DoesAll speaks) PipeAnswers old new old new
    (λ commands replies stop d. let run = run_of old new commands replies stop d in record { answers = run; reliable = served_reliable old new commands replies stop run })
    how bytes left written ends

-- a fault of the source is one of the talk
pub read_end : (how : TalkEnd) → pipe_end how ≡ ReadFault → how ≡ end.ReadFault
read_end end.ReadFault e = refl
read_end end.Ended e = absurd (cc e)
read_end end.Quit e = absurd (cc e)
read_end end.Shutdown e = absurd (cc e)
read_end end.Lost e = absurd (cc e)
read_end end.Wire e = absurd (cc e)
read_end end.Cut e = absurd (cc e)
read_end end.WriteFault e = absurd (cc e)
read_end end.Memory e = absurd (cc e)
read_end end.Budget e = absurd (cc e)

pub write_end : (how : TalkEnd) → pipe_end how ≡ WriteFault → how ≡ end.WriteFault
write_end end.WriteFault e = refl
write_end end.Ended e = absurd (cc e)
write_end end.Quit e = absurd (cc e)
write_end end.Shutdown e = absurd (cc e)
write_end end.Lost e = absurd (cc e)
write_end end.Wire e = absurd (cc e)
write_end end.Cut e = absurd (cc e)
write_end end.ReadFault e = absurd (cc e)
write_end end.Memory e = absurd (cc e)
write_end end.Budget e = absurd (cc e)
