use Rattle.std.proofs.Common.{◌+◌, [], ◌∷◌, codes, refl, subst, sym}
use Rattle.sk_link.specs.Call.{Call, answered}
use Rattle.sk_link.specs.declared.asking.Answer.TheVariants as answer
use Rattle.sk_worker.specs.Event.{asked}
use Rattle.sk_worker.specs.Leaving.{LeaveStep, leaving, back, given_back}
use Rattle.sk_worker.specs.Request.{script_words}
use Rattle.sk_link.specs.Walk.{Walk}
use Rattle.sk_worker.proofs.Leaves.{back_unsaid, leave_said}
use Rattle.sk_worker.proofs.leave.give_back.Goals as goal

pub returns-in-Ok-clause-told : goal.returns-in-Ok-clause-told
returns-in-Ok-clause-told g c = λ others count.
    let ident = c.args.ident.now in
    let job = c.args.job.now in
    let request = script_words (codes "SK.BACK") job in
    let call : Call = answered request c.in-Ok.reply in
    let s = c.in-Ok.ensures request c.script-words.ensures in (
      call ∷ [],
      s.0,
      subst (λ n. Walk (LeaveStep ident) (leaving (job ∷ others) count) (asked call ∷ []) (leaving others (count + n))) (sym c.count_of.ensures.count)
          (leave_said ident (leaving (job ∷ others) count) request answer.Number _ c.in-Ok.reply (back job others count c.in-Some.field-0.now (sym c.in-Some.ensures.value)) s.1),
    )

pub returns-in-Err-clause-told : goal.returns-in-Err-clause-told
returns-in-Err-clause-told g c = λ others count.
    let job = c.args.job.now in
    back_unsaid (λ cs. g.L.Link.carried c.args.link.now c.say.new.link cs) c.args.ident.now (leaving (job ∷ others) count) job others count
    (script_words (codes "SK.BACK") job) answer.Number (λ r. leaving others (count + given_back r)) c.in-Err.fault refl
    (back job others count c.in-Some.field-0.now (sym c.in-Some.ensures.value)) (c.in-Err.ensures (script_words (codes "SK.BACK") job) c.script-words.ensures)
