use Rattle.std.proofs.Common.{◌≡◌, ◌∙◌, ◌+◌, [], ◌∷◌, ◌++◌, Err, drop, map, refl, sym, subst, ap, arith}
use Rattle.std.proofs.lemmas.Bool.{true≢false}
use Rattle.std.proofs.lemmas.List.{map-append}
use Rattle.sk_worker.specs.Event.{asked}
use Rattle.sk_worker.specs.Leaving.{LeaveTranscript, leaving}
use Rattle.sk_worker.proofs.Leaves.{leave_after}
use Rattle.sk_worker.proofs.Walks.{first_of, none_held}
use Rattle.sk_worker.proofs.leave.+give_back_all.Goals as goal

pub returns-in-None : goal.returns-in-None
returns-in-None g t c =
    let held = c.args.held.now.items in
    let none : held ≡ [] = none_held held _ c.args.held.now.ok.0 (λ some. true≢false (sym (c.in-None.ensures.variant.1 some))) in
    ([], g.met.L.Link.carried_none _, (ap (λ payloads. leaving payloads c.args.count) (sym none), none))

pub returns-in-Ok : goal.returns-in-Ok
returns-in-Ok g t c =
    let ident = c.args.ident.now in
    let held = c.args.held.now.items in
    let job = c.in-Some.job.now in
    let others = drop 1 held in
    let items : held ≡ job ∷ others = first_of held job (omega (arith, c.args.held.now.ok.0, c.in-Some.ensures.variant.0 refl)) c.in-Some.ensures.lookup in
    let one = c.in-Ok.ensures.told others c.args.count in
    let rest = c.give_back_all.ensures in
    let left = c.give_back_all.new.held.items in (
      one.0 ++ rest.0,
      g.met.L.Link.carried_more _ _ _ one.0 rest.0 one.1 rest.1,
      subst (λ payloads. LeaveTranscript ident (leaving payloads c.args.count) (map asked (one.0 ++ rest.0)) left c.give_back_all.result) (sym items)
          (subst (λ events. LeaveTranscript ident (leaving (job ∷ others) c.args.count) events left c.give_back_all.result) (sym (map-append (λ call. asked call) one.0 rest.0))
          (leave_after ident (leaving (job ∷ others) c.args.count) (leaving others (c.args.count + c.in-Ok.n)) (map asked one.0) (map asked rest.0) left c.give_back_all.result
          one.2 (subst (λ payloads. LeaveTranscript ident (leaving payloads (c.args.count + c.in-Ok.n)) (map asked rest.0) left c.give_back_all.result) c.pop_front.ensures.rest rest.2))),
    )

pub returns-in-Err : goal.returns-in-Err
returns-in-Err g t c =
    let ident = c.args.ident.now in
    let held = c.args.held.now.items in
    let job = c.in-Some.job.now in
    let others = drop 1 held in
    let items : held ≡ job ∷ others = first_of held job (omega (arith, c.args.held.now.ok.0, c.in-Some.ensures.variant.0 refl)) c.in-Some.ensures.lookup in
    let one = c.in-Err.ensures.told others c.args.count in
    (one.0, one.1, subst (λ payloads. LeaveTranscript ident (leaving payloads c.args.count) (map asked one.0) held (Err c.in-Err.fault)) (sym items) (one.2.0, one.2.1, items ∙ sym one.2.2))
