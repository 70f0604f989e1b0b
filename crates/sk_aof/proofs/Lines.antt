-- What a line comes to in the log.
use Rattle.std.proofs.Common.{◌≡◌, inl, inr, refl, sym, ◌∙◌, subst, ℕ, [], ◌∷◌}
use Rattle.std.specs.Prelude.{Option, Some, None}
use Rattle.sk_disk.specs.Images.{Images, Narrows}
use Rattle.sk_log.specs.declared.fault.LogFault.{LogFault}
use Rattle.sk_log.specs.declared.fault.LogFault.TheVariants.{Memory}
use Rattle.sk_resp.specs.declared.reply.Reply.{Reply}
use Rattle.sk_model.specs.Reading.{Words}
use Rattle.sk_model.specs.Replay.{Entry}
use Rattle.sk_model.specs.Run.{State}
use Rattle.sk_talk.specs.declared.talk_end.Stop.{Stop}
use Rattle.sk_talk.specs.declared.talk_end.Stop.TheVariants.{Quit, Shutdown, Lost}
use Rattle.sk_talk.specs.declared.talker.Answer.{Answer}
use Rattle.sk_aof.specs.Bodies.{body_of}
use Rattle.sk_aof.specs.Causes.{Hinders, fault_of}
use Rattle.sk_aof.specs.Logging.{AnswersLine, KeepsLine, LogsLine, Place, Puts, place}
use Rattle.sk_aof.specs.Stored.{bodies_in}
use Rattle.sk_aof.proofs.Appending.{none_appended}

module _ {D : Type 0} (may_leave : D → Images) (moment : D → ℕ) (left_since : D → ℕ → Images) (words : Words) where
  pub answers_of : (old new : Place D) (reply : Reply) (stop : Option Stop) → LogsLine may_leave moment left_since old words (record { reply = reply; stop = stop }) new
      → AnswersLine may_leave moment left_since old words reply stop new
  answers_of old new reply None l = l
  answers_of old new reply (Some Quit) l = l
  answers_of old new reply (Some Shutdown) l = l
  answers_of old new reply (Some Lost) l = record {
    entries = l.entries;
    why = inr (record { reply = reply; stop = Some Lost }, l.keeps);
    left = l.appends.moments;
    cause = λ none. subst (λ (f : Option LogFault). Hinders old.gate (bodies_in l.entries) (fault_of f)) (sym (l.goes_on ∙ none)) tt;
  }

  module _ (state : State) (gate : ℕ) (disk : D) (fault : Option LogFault) where
    -- nothing was done, and the log has failed
    pub nothing_done : Narrows (may_leave disk) (left_since disk (moment disk)) → (reply : Reply) (stop : Option Stop) → stop ≡ Some Lost
        → AnswersLine may_leave moment left_since (place state gate disk fault) words reply stop (place state gate disk (Some Memory))
    nothing_done only reply stop lost = subst (λ (s : Option Stop). AnswersLine may_leave moment left_since (place state gate disk fault) words reply s (place state gate disk (Some Memory))) (sym lost)
        (record { entries = []; why = inl (refl, refl); left = (none_appended may_leave moment left_since gate disk only).moments; cause = λ none. tt })

    -- a log keeps nothing of it
    pub unlogged : Narrows (may_leave disk) (left_since disk (moment disk)) → (answer : Answer) (new : State) → KeepsLine state words answer new []
        → AnswersLine may_leave moment left_since (place state gate disk fault) words answer.reply answer.stop (place new gate disk fault)
    unlogged only answer new keeps = answers_of (place state gate disk fault) (place new gate disk fault) answer.reply answer.stop
        (record { entries = []; keeps = keeps; appends = none_appended may_leave moment left_since gate disk only; goes_on = refl })

    -- what it keeps was put into the log, or the log has failed
    pub put_line : (answer result : Answer) (new : State) (entry : Entry) (end : Place D) → KeepsLine state words answer new (entry ∷ []) → Puts may_leave moment left_since (body_of entry.event) (place new gate disk fault) answer result end
        → AnswersLine may_leave moment left_since (place state gate disk fault) words result.reply result.stop (place new end.gate end.disk end.fault)
    put_line answer result new entry end keeps (inl p) =
        subst (λ (a : Answer). AnswersLine may_leave moment left_since (place state gate disk fault) words a.reply a.stop (place new end.gate end.disk end.fault)) (sym p.0)
        (answers_of (place state gate disk fault) (place new end.gate end.disk end.fault) answer.reply answer.stop (record { entries = entry ∷ []; keeps = keeps; appends = p.2; goes_on = p.1 }))
    put_line answer result new entry end keeps (inr p) =
        subst (λ (s : Option Stop). AnswersLine may_leave moment left_since (place state gate disk fault) words result.reply s (place new end.gate end.disk end.fault)) (sym p.lost)
        (record { entries = entry ∷ []; why = inr (answer, keeps); left = p.left; cause = λ none. p.cause })
