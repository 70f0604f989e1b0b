use Rattle.std.proofs.Common.{[], ◌∷◌, map}
use Rattle.sk_link.specs.Call.{Call, answered}
use Rattle.sk_worker.specs.Event.{asked}
use Rattle.sk_worker.specs.Stage.{releasing}
use Rattle.sk_worker.proofs.Walks.{said, job_unsaid, job_later}
use Rattle.sk_worker.proofs.in_hand.InHand.place.Goals as goal

pub returns-in-Ok : goal.returns-in-Ok
returns-in-Ok g c = λ from p w e.
    let request = p.0 in
    let line = p.2 w in
    let s = c.in-Ok.ensures request p.1 in
    let t = c.release.ensures w e in
    let call : Call = answered request c.in-Ok.field-0 in (
      call ∷ t.0,
      g.met.L.Link.carried_more _ _ _ (call ∷ []) t.0 s.0 t.1,
      job_later w from (releasing c.args.self.now.payload.now c.args.turn) (asked call ∷ []) (map asked t.0) c.release.result
          (said w from request c.args.wanted _ c.in-Ok.field-0 line s.1) t.2,
    )

pub returns : goal.returns
returns g c = λ from p w e.
    job_unsaid (λ cs. g.L.Link.carried c.args.link.now c.say.new.link cs) w
    from p.0 c.args.wanted (λ _. releasing c.args.self.now.payload.now c.args.turn) c.in-Err.fault (p.2 w) (c.in-Err.ensures p.0 p.1)
