use Rattle.std.proofs.Common.{[], ◌∷◌, refl, subst, sym, add-zero}
use Rattle.sk_link.specs.Call.{Call, answered}
use Rattle.sk_link.specs.declared.asking.Answer.TheVariants as answer
use Rattle.sk_worker.specs.Event.{asked}
use Rattle.sk_worker.specs.Leaving.{LeaveStep, buried, leaving, release}
use Rattle.sk_worker.specs.Request.{release_words}
use Rattle.sk_link.specs.Walk.{Walk}
use Rattle.sk_worker.proofs.Leaves.{back_unsaid, leave_said}
use Rattle.sk_worker.proofs.leave.release.Goals as goal

pub returns-in-Ok-clause-told : goal.returns-in-Ok-clause-told
returns-in-Ok-clause-told g c = λ others count.
    let ident = c.args.ident.now in
    let job = c.args.job.now in
    let request = release_words ident job in
    let call : Call = answered request c.in-Ok.field-0 in
    let s = c.in-Ok.ensures request c.release_request-words.ensures in (
      call ∷ [],
      s.0,
      subst (λ n. Walk (LeaveStep ident) (buried job others count) (asked call ∷ []) (leaving others n)) (sym (add-zero count))
          (leave_said ident (buried job others count) request answer.Number _ c.in-Ok.field-0 (release job others count) s.1),
    )

pub returns-clause-told : goal.returns-clause-told
returns-clause-told g c = λ others count.
    let job = c.args.job.now in
    back_unsaid (λ cs. g.L.Link.carried c.args.link.now c.say.new.link cs) c.args.ident.now (buried job others count) job others count
    (release_words c.args.ident.now job) answer.Number (λ _. leaving others count) c.in-Err.fault refl (release job others count)
    (c.in-Err.ensures (release_words c.args.ident.now job) c.release_request-words.ensures)
