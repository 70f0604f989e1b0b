-- Runs of `push`.
use Rattle.std.proofs.Common.{◌≡◌, ◌⊎◌, ℕ, List, Option, Some, None, Result, Ok, Err, inl, inr, ap, subst, sym, ◌∙◌}
use Rattle.std.specs.Option.{option_or}
use Rattle.std.specs.Prelude.{IfErr, OnOk, ℤ}
use Rattle.std.specs.Result.{IsErrAnd}
use Rattle.clap.specs.Words.{Text}
use Rattle.sk_resp.specs.Spelling.{Bytes}
use Rattle.sk_client.specs.Drafts.{IsFirstFault, first_fault}
use Rattle.sk_client.specs.Push.{Accepted, Fails, Push}
use Rattle.sk_client.specs.declared.client_fault.ClientFault.{ClientFault}
use Rattle.sk_client.specs.declared.client_fault.ClientFault.TheVariants as fault
use Rattle.sk_line.specs.Lines.{Reads}
use Rattle.sk_line.specs.Push.{IsPush}
use Rattle.sk_line.specs.declared.fault.LineFault.{LineFault}
use Rattle.sk_line.specs.declared.fault.LineFault.TheVariants as line
use Rattle.sk_link.specs.Call.{Call}
use Rattle.sk_middle.specs.declared.chain.Through.{Through}
use Rattle.sk_payload.specs.Draft.{draft_fault}
use Rattle.sk_payload.specs.declared.draft.JobDraft.{JobDraft}
use Rattle.sk_payload.specs.declared.draft_fault.DraftFault.{DraftFault}
use Rattle.sk_payload.specs.declared.draft_fault.DraftFault.TheVariants as draft_
use Rattle.sk_payload.specs.declared.head.Lock.{Lock}
use Rattle.sk_app.specs.Failures.{by_line}
use Rattle.sk_app.specs.Pushing.{PushRun, Sends, Wanted, halted, outcome_of, refused, request, request_by, starved, stopped, unwritten}
use Rattle.sk_app.specs.declared.failure.Failure.{Failure}
use Rattle.sk_app.specs.declared.failure.Failure.TheVariants as failure
use Rattle.sk_app.specs.declared.job.PushJob.{PushJob}

-- ## Over a link

pub sends : (Carried : List Call → Type 0) (push : Push) (pushed : Result (Unit {0}) ClientFault) → OnOk pushed (Accepted Carried push) → IfErr pushed (Fails Carried push) → Sends Carried push pushed
sends Carried push (Ok done) ok err = ok
sends Carried push (Err f) ok err = err

-- ## The whole

module _ (words : List Text) (Untouched : Type 0) (Drawn : ℕ → ℕ → ℕ → Type 0) (Applied : JobDraft → Through → Type 0) (Speaks : PushJob → Result Bytes Failure → Type 0) where
  pub no_line : (f : LineFault) (r : Result Bytes Failure) → IsErrAnd r (λ e. e ≡ by_line f) → Reads (IsPush words) (Err f) → Untouched → PushRun words Untouched Drawn Applied Speaks r
  no_line f (Ok output) h none untouched = absurd h
  no_line line.Refused (Err e) h none untouched = subst (λ x. PushRun words Untouched Drawn Applied Speaks (Err x)) (sym h) (refused none untouched)
  no_line line.Memory (Err e) h none untouched = subst (λ x. PushRun words Untouched Drawn Applied Speaks (Err x)) (sym h) starved

  pub no_memory : (r : Result Bytes Failure) → IsErrAnd r (λ e. e ≡ failure.Memory) → PushRun words Untouched Drawn Applied Speaks r
  no_memory (Ok output) h = absurd h
  no_memory (Err e) h = subst (λ x. PushRun words Untouched Drawn Applied Speaks (Err x)) (sym h) starved

  pub no_draft : (job : PushJob) (f : Failure) (r : Result Bytes Failure) → Wanted words Drawn Applied (Some job) → IsErrAnd r (λ e. e ≡ f)
      → (f ≡ failure.Memory) ⊎ ((f ≡ failure.Line) × (draft_fault job.draft ≡ None → ⊥)) → Untouched → PushRun words Untouched Drawn Applied Speaks r
  no_draft job f (Ok output) wanted h why untouched = absurd h
  no_draft job f (Err e) wanted h (inl why) untouched = subst (λ x. PushRun words Untouched Drawn Applied Speaks (Err x)) (sym (h ∙ why)) starved
  no_draft job f (Err e) wanted h (inr why) untouched =
      subst (λ x. PushRun words Untouched Drawn Applied Speaks (Err x)) (sym (h ∙ why.0)) (unwritten job wanted why.1 untouched)

  pub halts : (text : Bytes) → text ≡ stopped → Wanted words Drawn Applied None → Untouched → PushRun words Untouched Drawn Applied Speaks (Ok text)
  halts text e wanted untouched = subst (λ t. PushRun words Untouched Drawn Applied Speaks (Ok t)) (sym e) (halted wanted untouched)

-- ## A draft that was written before has no fault

none_first : (lock : Option Lock) (draft : JobDraft) (due : Option ℤ) → draft_fault draft ≡ None → first_fault (request_by lock draft due).drafts ≡ None
none_first (Some lock) draft due e = ap (λ f. option_or f None) e
none_first None draft (Some due) e = ap (λ f. option_or f None) e
none_first None draft None e = ap (λ f. option_or f None) e

no_fault : (job : PushJob) (f : DraftFault) → draft_fault job.draft ≡ None → (f ≡ draft_.Memory → ⊥) → IsFirstFault (request job).drafts f → ⊥
no_fault job f e other h = let none : None ≡ Some f = sym (none_first job.draft.lock job.draft job.at e) ∙ h other in cc

pub no_line_over : (Carried : List Call → Type 0) (job : PushJob) (pushed : Result (Unit {0}) ClientFault) → draft_fault job.draft ≡ None → Sends Carried (request job) pushed
    → outcome_of job.draft.jid pushed ≡ Err failure.Line → ⊥
no_line_over Carried job (Ok done) e sent same = cc
no_line_over Carried job (Err (fault.Held holder)) e sent same = cc
no_line_over Carried job (Err (fault.Refused r)) e sent same = cc
no_line_over Carried job (Err (fault.Link f)) e sent same = cc
no_line_over Carried job (Err fault.Memory) e sent same = cc
no_line_over Carried job (Err (fault.Draft draft_.Name)) e sent same = no_fault job draft_.Name e (λ z. cc) sent.0
no_line_over Carried job (Err (fault.Draft draft_.Fraction)) e sent same = no_fault job draft_.Fraction e (λ z. cc) sent.0
no_line_over Carried job (Err (fault.Draft draft_.Deep)) e sent same = no_fault job draft_.Deep e (λ z. cc) sent.0
no_line_over Carried job (Err (fault.Draft draft_.Long)) e sent same = no_fault job draft_.Long e (λ z. cc) sent.0
no_line_over Carried job (Err (fault.Draft draft_.Memory)) e sent same = cc
