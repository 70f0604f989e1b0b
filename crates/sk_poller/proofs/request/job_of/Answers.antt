use Rattle.std.proofs.Common.{◌≡◌, ◌∙◌, Some, None, sym, ap, is_some}
use Rattle.std.proofs.lemmas.Bool.{true≢false}
use Rattle.std.specs.Prelude.{◌≢◌}
use Rattle.sk_payload.specs.Draft.{draft_fault}
use Rattle.sk_payload.specs.declared.draft_fault.DraftFault.TheVariants as fault
use Rattle.sk_poller.specs.Loop.{draft_of}
use Rattle.sk_poller.proofs.Drafts.{never_refused}
use Rattle.sk_poller.proofs.request.job_of.Goals as goal

pub unreachable-requires : goal.unreachable-requires
unreachable-requires c =
    let is_not : c.in-Err.fault ≢ fault.Memory = λ e. true≢false (simp (e) at c.if-ne.ensures) in
    let never : draft_fault (draft_of c.args.job.now c.args.jid c.args.now) ≡ None = never_refused c.args.job.now c.args.jid c.args.now c.requires.id c.requires.names in
    let broken : draft_fault (draft_of c.args.job.now c.args.jid c.args.now) ≡ Some c.in-Err.fault =
    simp (c.in_ok-copy.ensures, c.in_ok-copy-2.ensures, c.new-2.ensures, c.new.ensures.items) at (c.in-Err.ensures.fault is_not) in
    true≢false (sym (ap is_some (sym never ∙ broken)))
