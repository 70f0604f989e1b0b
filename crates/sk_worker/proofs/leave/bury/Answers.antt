use Rattle.std.proofs.Common.{[], ◌∷◌, map, refl, codes}
use Rattle.sk_link.specs.Call.{Call, answered}
use Rattle.sk_link.specs.declared.asking.Answer.TheVariants as answer
use Rattle.sk_worker.specs.Event.{asked}
use Rattle.sk_worker.specs.Leaving.{buried, leaving, bury}
use Rattle.sk_worker.specs.Request.{script_words}
use Rattle.sk_worker.proofs.Leaves.{back_unsaid, leave_said, one_after}
use Rattle.sk_worker.proofs.leave.bury.Goals as goal

pub returns-in-Ok-clause-told : goal.returns-in-Ok-clause-told
returns-in-Ok-clause-told g c = λ others count.
    let ident = c.args.ident.now in
    let job = c.args.job.now in
    let request = script_words (codes "SK.BURY") job in
    let call : Call = answered request c.in-Ok.field-0 in
    let s = c.in-Ok.ensures request c.script-words.ensures in
    let t = c.release.ensures.told others count in (
      call ∷ t.0,
      g.met.L.Link.carried_more _ _ _ (call ∷ []) t.0 s.0 t.1,
      one_after ident (leaving (job ∷ others) count) (buried job others count) job others count (asked call ∷ []) (map asked t.0) c.release.result
          (leave_said ident (leaving (job ∷ others) count) request answer.Report _ c.in-Ok.field-0 (bury job others count c.requires) s.1) t.2,
    )

pub returns-clause-told : goal.returns-clause-told
returns-clause-told g c = λ others count.
    let job = c.args.job.now in
    back_unsaid (λ cs. g.L.Link.carried c.args.link.now c.say.new.link cs) c.args.ident.now (leaving (job ∷ others) count) job others count
    (script_words (codes "SK.BURY") job) answer.Report (λ _. buried job others count) c.in-Err.fault refl (bury job others count c.requires)
    (c.in-Err.ensures (script_words (codes "SK.BURY") job) c.script-words.ensures)
