use Rattle.std.proofs.Common.{◌≡◌, ◌∷◌, [], false, subst, sym}
use Rattle.std.specs.Prelude.{OnOk}
use Rattle.sk_model.specs.Event.{Ask}
use Rattle.sk_drill.specs.Events.{event_of}
use Rattle.sk_drill.specs.Soaked.{PlaysSome, is_oom}
use Rattle.sk_drill.proofs.Playing.{on_ok, plays_cut, plays_one}
use Rattle.sk_drill.proofs.play.happen.Goals as goal

pub returns-in-Ask : goal.returns-in-Ask
returns-in-Ask c =
    let did = c.answer-reply.ensures in
    let event = Ask c.in-Ask.seat c.in-Ask.now c.in-Ask.words in
    let old = c.args.core.now in
    let new = c.answer-reply.new.core in
    subst (λ e. OnOk c.served.result (PlaysSome old (event_of e ∷ []) new)) (sym c.in-Ask.is)
    (on_ok c.served.result (is_oom c.answer-reply.result ≡ false) (PlaysSome old (event ∷ []) new) (plays_one old new event did.0 c.answer-reply.result did.1 did.2) c.served.ensures.ok)

pub returns-in-Cut : goal.returns-in-Cut
returns-in-Cut c =
    subst (λ e. PlaysSome c.args.core.now (event_of e ∷ []) c.cut.new.self) (sym c.in-Cut.is) (plays_cut c.args.core.now c.cut.new.self c.in-Cut.seat c.cut.ensures)
