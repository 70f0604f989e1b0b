use Rattle.std.proofs.Common.{◌≡◌, ◌<◌, [], ◌∷◌, true, sym, subst}
use Rattle.sk_link.specs.Asking.{answers}
use Rattle.sk_link.specs.Call.{answered}
use Rattle.sk_limit.specs.Asking.{Stops}
use Rattle.sk_limit.specs.Grant.{Window, Leads, after, wanted_at}
use Rattle.sk_limit.proofs.Granting.{broken, fewer_left, leads_on, left}
use Rattle.sk_limit.proofs.grants.count.Goals as goal

pub returns-in-Err : goal.returns-in-Err
returns-in-Err g c =
    let window : Window = record { key = c.args.key.now; millis = c.args.millis } in
    let stage = c.in-Ask.stage in
    let before = g.L.Link.carried c.args.link.now c.calls.link in
    let now = g.L.Link.carried c.calls.link c.request.new.link in
    let so_far = subst (λ next. Leads before window next) c.in-Ask.is c.calls.invariant in
    let stops = subst (λ words. Stops now [] words (wanted_at stage) c.in-Err.fault) c.in_ok-words.ensures
    (subst (λ wanted. Stops now [] c.in_ok-words.words wanted c.in-Err.fault) c.wanted.ensures c.in-Err.ensures) in
    broken before now (g.L.Link.carried c.args.link.now c.request.new.link) window stage (g.met.L.Link.carried_more c.args.link.now c.calls.link c.request.new.link)
    so_far c.in-Err.fault stops

pub calls-smaller : goal.calls-smaller
calls-smaller g c =
    let stage = c.in-Ask.stage in
    let fewer = fewer_left stage c.in-Ok.reply in
    let from = subst (λ next. left (after stage c.in-Ok.reply) < left next) (sym c.in-Ask.is) fewer in
    subst (λ next. left next < left c.calls.next) (sym c.after-next.ensures) from

pub calls-preserved : goal.calls-preserved
calls-preserved g c =
    let window : Window = record { key = c.args.key.now; millis = c.args.millis } in
    let stage = c.in-Ask.stage in
    let before = g.L.Link.carried c.args.link.now c.calls.link in
    let now = g.L.Link.carried c.calls.link c.request.new.link in
    let all = g.L.Link.carried c.args.link.now c.request.new.link in
    let so_far = subst (λ next. Leads before window next) c.in-Ask.is c.calls.invariant in
    let carried = subst (λ words. now (answered words c.in-Ok.reply ∷ [])) c.in_ok-words.ensures c.in-Ok.ensures.0 in
    let is = subst (λ wanted. answers wanted c.in-Ok.reply ≡ true) c.wanted.ensures c.in-Ok.ensures.1 in
    let on = leads_on before now all window stage (g.met.L.Link.carried_more c.args.link.now c.calls.link c.request.new.link) so_far c.in-Ok.reply carried is in
    subst (λ next. Leads all window next) (sym c.after-next.ensures) on
