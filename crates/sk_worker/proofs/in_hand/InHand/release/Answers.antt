use Rattle.std.proofs.Common.{[], ◌∷◌}
use Rattle.sk_link.specs.Call.{answered}
use Rattle.sk_link.specs.declared.asking.Answer.TheVariants as answer
use Rattle.sk_worker.specs.Request.{release_words}
use Rattle.sk_worker.specs.Stage.{releasing, over}
use Rattle.sk_worker.proofs.Walks.{said, job_unsaid, released}
use Rattle.sk_worker.proofs.in_hand.InHand.release.Goals as goal

pub returns-in-Ok : goal.returns-in-Ok
returns-in-Ok g c = λ w e.
    let payload = c.args.self.now.payload.now in
    let request = release_words c.args.self.now.ident.now payload in
    let s = c.in-Ok.ensures request c.release_request-words.ensures in (
      answered request c.in-Ok.field-0 ∷ [],
      s.0,
      said w (releasing payload c.args.turn) request answer.Number _ c.in-Ok.field-0 (released w _ _ _ e) s.1,
    )

pub returns : goal.returns
returns g c = λ w e.
    let payload = c.args.self.now.payload.now in
    let request = release_words c.args.self.now.ident.now payload in
    job_unsaid (λ cs. g.L.Link.carried c.args.link.now c.say.new.link cs) w
    (releasing payload c.args.turn) request answer.Number (λ _. over c.args.turn) c.in-Err.fault (released w _ _ _ e)
    (c.in-Err.ensures request c.release_request-words.ensures)
