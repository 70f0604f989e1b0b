use Rattle.std.proofs.Common.{false, Ok, Err, refl, sym, ◌++◌}
use Rattle.sk_worker.specs.Event.{choices}
use Rattle.sk_worker.specs.Promises.{settings}
use Rattle.sk_worker.specs.Stage.{Settings}
use Rattle.sk_worker.specs.Turn.{TurnOf, unfetched}
use Rattle.sk_worker.proofs.Events.{by_test, parts_only, parts_same, parts_then, yields-append}
use Rattle.sk_worker.proofs.Runs.{RunsTold-none}
use Rattle.sk_worker.proofs.Works.{RulesAnswered-plain, turn_of}
use Rattle.sk_worker.proofs.worker.Worker.take.Goals as goal

pub returns-in-Err-clause-told : goal.returns-in-Err-clause-told
returns-in-Err-clause-told g c =
    let w : Settings = settings c.args.self.now c.args.jobs.now in
    let held = c.args.self.now.held.items in
    let t = c.in-Err.ensures.told w refl refl refl in (
      t.0,
      parts_only t.0 (RunsTold-none c.args.jobs.now.classes _) refl (record { each = tt }) t.1,
      by_test (λ b. TurnOf b w held t.0 c.fill.new.self.held.items (Err c.in-Err.fault)) c.args.self.now.ended false c.requires (unfetched t.0 _ c.in-Err.fault t.2),
    )

pub returns-in-Ok-work-clause-told : goal.returns-in-Ok-work-clause-told
returns-in-Ok-work-clause-told g c =
    let w : Settings = settings c.args.self.now c.args.jobs.now in
    let before = c.args.self.now.held.items in
    let after = c.pop_front.new.self.items in
    let t = c.in-Ok.ensures.told w refl refl refl in
    let u = c.in-Ok-work.ensures.told w (sym c.in-Ok.ensures.ident) refl in (
      t.0 ++ u.0,
      parts_then t.0 u.0 (λ xs ys p q. g.met.L.Link.carried_more _ _ _ xs ys p q) (λ ws vs p q. yields-append _ ws _ vs _ p q) t.1
          (parts_same u.0 (λ told. told) (λ answered. RulesAnswered-plain _ _ _ _ _ (choices u.0) c.in-Ok.ensures.plain answered) u.1),
      by_test (λ b. TurnOf b w before (t.0 ++ u.0) after (Ok c.in-Ok-work.turn)) c.args.self.now.ended false c.requires
          (turn_of w before c.fill.new.self.held.items after t.0 u.0 (Ok c.in-Ok-work.turn) c.args.self.now.some t.2 u.2 c.pop_front.ensures.rest),
    )

pub returns-in-Err-work-clause-told : goal.returns-in-Err-work-clause-told
returns-in-Err-work-clause-told g c =
    let w : Settings = settings c.args.self.now c.args.jobs.now in
    let before = c.args.self.now.held.items in
    let held = c.fill.new.self.held.items in
    let t = c.in-Ok.ensures.told w refl refl refl in
    let u = c.in-Err-work.ensures.told w (sym c.in-Ok.ensures.ident) refl in (
      t.0 ++ u.0,
      parts_then t.0 u.0 (λ xs ys p q. g.met.L.Link.carried_more _ _ _ xs ys p q) (λ ws vs p q. yields-append _ ws _ vs _ p q) t.1
          (parts_same u.0 (λ told. told) (λ answered. RulesAnswered-plain _ _ _ _ _ (choices u.0) c.in-Ok.ensures.plain answered) u.1),
      by_test (λ b. TurnOf b w before (t.0 ++ u.0) held (Err c.in-Err-work.fault)) c.args.self.now.ended false c.requires
          (turn_of w before held held t.0 u.0 (Err c.in-Err-work.fault) c.args.self.now.some t.2 u.2 refl),
    )
