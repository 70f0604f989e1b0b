-- Questions that came to a failure which is no want of memory.
use Rattle.std.proofs.Common.{◌≡◌, ◌≢◌, true, List, Result, Ok, Err, subst, sym, ◌∙◌}
use Rattle.std.proofs.lemmas.Bool.{true≢false}
use Rattle.sk_client.specs.declared.client_fault.ClientFault.{ClientFault}
use Rattle.sk_client.specs.declared.client_fault.ClientFault.TheVariants as client
use Rattle.sk_link.specs.Asking.{answers}
use Rattle.sk_link.specs.Call.{Call}
use Rattle.sk_link.specs.declared.link.LinkFault.TheVariants as link
use Rattle.sk_payload.specs.declared.draft_fault.DraftFault.TheVariants as draft_
use Rattle.sk_resp.specs.Spelling.{Bytes}
use Rattle.sk_resp.specs.declared.reply.Reply.{Reply}
use Rattle.sk_app.specs.Hindering.{Hinders, IsHindered, IsSpoilt, refused as got_another, unanswered}
use Rattle.sk_app.specs.Paging.{Asks, page_of, status_words}
use Rattle.sk_app.specs.Pushing as pushing
use Rattle.sk_app.specs.Pushing.{Sends, request}
use Rattle.sk_app.specs.declared.failure.Failure.{Failure}
use Rattle.sk_app.specs.declared.failure.Failure.TheVariants as failure
use Rattle.sk_app.specs.declared.job.PushJob.{PushJob}

-- ## status

no_page : (r : Reply) (f : Failure) → Err f ≡ page_of r → ((page : Bytes) × (page_of r ≡ Ok page)) → ⊥
no_page r f is page = absurd (cc (is ∙ page.1))

pub asks_spoilt : (Carried : List Call → Type 0) (f : Failure) → Asks Carried (Err f) → Hinders f → IsSpoilt Carried status_words (λ r. (page : Bytes) × (page_of r ≡ Ok page))
asks_spoilt Carried (failure.Link link.Memory) asks hindered = absurd hindered
asks_spoilt Carried (failure.Link link.Failed) asks hindered = unanswered link.Failed (λ e. absurd (cc e)) asks
asks_spoilt Carried (failure.Link link.Ended) asks hindered = unanswered link.Ended (λ e. absurd (cc e)) asks
asks_spoilt Carried (failure.Link (link.Unreadable bytes)) asks hindered = unanswered (link.Unreadable bytes) (λ e. absurd (cc e)) asks
asks_spoilt Carried failure.Line asks hindered = got_another asks.0 (no_page asks.0 failure.Line asks.2) asks.1
asks_spoilt Carried failure.Memory asks hindered = absurd hindered
asks_spoilt Carried failure.Door asks hindered = got_another asks.0 (no_page asks.0 failure.Door asks.2) asks.1
asks_spoilt Carried failure.Seats asks hindered = got_another asks.0 (no_page asks.0 failure.Seats asks.2) asks.1
asks_spoilt Carried (failure.Refused r) asks hindered = got_another asks.0 (no_page asks.0 (failure.Refused r) asks.2) asks.1
asks_spoilt Carried (failure.Cursor bytes) asks hindered = got_another asks.0 (no_page asks.0 (failure.Cursor bytes) asks.2) asks.1
asks_spoilt Carried failure.GenLimit asks hindered = got_another asks.0 (no_page asks.0 failure.GenLimit asks.2) asks.1
asks_spoilt Carried (failure.Differs d) asks hindered = got_another asks.0 (no_page asks.0 (failure.Differs d) asks.2) asks.1

-- ## push

pub pushes_spoilt : (Carried : List Call → Type 0) (job : PushJob) (pushed : Result (Unit {0}) ClientFault) (outcome : Result Bytes Failure) → Sends Carried (request job) pushed →
    outcome ≡ pushing.outcome_of job.draft.jid pushed → IsHindered outcome → outcome ≢ Err failure.Line →
    IsSpoilt Carried (request job).words (λ r. answers (request job).wanted r ≡ true)
pushes_spoilt Carried job (Ok all) outcome sent is hindered line = absurd (subst IsHindered is hindered)
pushes_spoilt Carried job (Err (client.Held holder)) outcome sent is hindered line = absurd (subst IsHindered is hindered)
pushes_spoilt Carried job (Err (client.Refused r)) outcome sent is hindered line = got_another r (λ e. true≢false (sym e ∙ sent.2)) sent.1
pushes_spoilt Carried job (Err (client.Link link.Memory)) outcome sent is hindered line = absurd (subst IsHindered is hindered)
pushes_spoilt Carried job (Err (client.Link link.Failed)) outcome sent is hindered line = unanswered link.Failed (λ e. absurd (cc e)) sent.1
pushes_spoilt Carried job (Err (client.Link link.Ended)) outcome sent is hindered line = unanswered link.Ended (λ e. absurd (cc e)) sent.1
pushes_spoilt Carried job (Err (client.Link (link.Unreadable bytes))) outcome sent is hindered line = unanswered (link.Unreadable bytes) (λ e. absurd (cc e)) sent.1
pushes_spoilt Carried job (Err client.Memory) outcome sent is hindered line = absurd (subst IsHindered is hindered)
pushes_spoilt Carried job (Err (client.Draft draft_.Memory)) outcome sent is hindered line = absurd (subst IsHindered is hindered)
pushes_spoilt Carried job (Err (client.Draft f)) outcome sent is hindered line = absurd (line is)
