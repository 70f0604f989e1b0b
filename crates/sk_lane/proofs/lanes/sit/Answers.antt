use Rattle.std.proofs.Common.{◌≡◌, ◌∙◌, [], IfSome, ap, subst, sym}
use Rattle.sk_lane.proofs.Carried.{fresh_calls}
use Rattle.sk_lane.proofs.StoryOn.{seated}
use Rattle.sk_lane.proofs.TurnsOn.{story_by}
use Rattle.sk_lane.proofs.lanes.sit.Goals as goal

pub returns-clause-story : goal.returns-clause-story
returns-clause-story g c =
    let worker = c.new-worker.ensures in
    story_by c.new-worker.result c.args.registry.now c.args.thread.rule c.args.thread.number _ _ c.args.thread.crashes _ c.args.todo c.in_ok-left.left _ _
    (ap (λ d. d.crashes) c.new.ensures.drawing) (worker.ident ∙ c.in_ok-ident.ensures) (worker.order ∙ c.requires.order) worker.prefetch worker.plain c.in_ok-left.ensures.told

pub returns-clause-seated : goal.returns-clause-seated
returns-clause-seated g c =
    let given = c.in-Ok.ensures in
    let ended = c.end.ensures in
    seated _ _ _ _ _ _ _ _ _ c.in-Ok.seat _ _ given.number.0 given.number.1 given.left c.next.ensures.past ended.past ended.left ended.last
    (c.in_ok-left.ensures.calls (fresh_calls _ _ (subst (λ d. IfSome (g.S.Desk.Desk.calls d) (λ cs. cs ≡ [])) (sym c.new.ensures.desk) given.fresh) c.new.ensures.asks))
