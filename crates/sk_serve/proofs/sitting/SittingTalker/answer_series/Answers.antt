use Rattle.std.proofs.Common.{None, refl, subst, sym}
use Rattle.std.specs.Vec.Iter.{drain_items}
use Rattle.sk_talk.proofs.Series.{does_more, does_none}
use Rattle.sk_talk.specs.Series.{DoesSome}
use Rattle.sk_serve.specs.Session.{seen}
use Rattle.sk_serve.proofs.Seated.{Sits}
use Rattle.sk_serve.proofs.sitting.SittingTalker.answer_series.Goals as goal

pub returns-then-not-takes_series : goal.returns-then-not-takes_series
returns-then-not-takes_series g c =
    let self = c.args.self.now in
    does_none (Sits g.D.Desk.wants_words self self (λ s. seen g.D.Desk.calls g.D.Desk.acked g.K.Clock.moments s.desk.now s.clock.now) (λ s. s.desk.ghost_name) (λ s. s.clock.ghost_name))
    self (drain_items c.args.commands.now) c.args.replies.now.items

pub series-init : goal.series-init
series-init g c =
    let self = c.args.self.now in
    does_none (Sits g.D.Desk.wants_words self self (λ s. seen g.D.Desk.calls g.D.Desk.acked g.K.Clock.moments s.desk.now s.clock.now) (λ s. s.desk.ghost_name) (λ s. s.clock.ghost_name))
    self (drain_items c.args.commands.now) c.args.replies.now.items

pub returns-in_default : goal.returns-in_default
returns-in_default g c =
    let self = c.args.self.now in
    subst (λ d. DoesSome (Sits g.D.Desk.wants_words self self (λ s. seen g.D.Desk.calls g.D.Desk.acked g.K.Clock.moments s.desk.now s.clock.now) (λ s. s.desk.ghost_name) (λ s. s.clock.ghost_name))
    self (drain_items c.args.commands.now) c.args.replies.now.items None c.series.self (drain_items d) c.series.replies.items)
    (sym c.in_default.ensures.steps.1) c.series.invariant

pub series-preserved : goal.series-preserved
series-preserved g c =
    let self = c.args.self.now in
    does_more (Sits g.D.Desk.wants_words self self (λ s. seen g.D.Desk.calls g.D.Desk.acked g.K.Clock.moments s.desk.now s.clock.now) (λ s. s.desk.ghost_name) (λ s. s.clock.ghost_name))
    self c.series.self _ (drain_items c.args.commands.now) (drain_items c.series.commands) (drain_items c.next.new.self) c.args.replies.now.items c.series.replies.items c.push_reserved.new.self.items
    c.in-Some.words c.answer_at-reply.result.reply c.answer_at-reply.result.stop None c.series.invariant c.in-Some.ensures.steps.0 c.push_reserved.ensures.items (c.answer_at-reply.ensures.does, refl, refl) c.answer_at-reply.ensures.heard
    (c.is_last-is_last.ensures c.if-is_last.false)

pub returns-then-is_last : goal.returns-then-is_last
returns-then-is_last g c =
    let self = c.args.self.now in
    does_more (Sits g.D.Desk.wants_words self self (λ s. seen g.D.Desk.calls g.D.Desk.acked g.K.Clock.moments s.desk.now s.clock.now) (λ s. s.desk.ghost_name) (λ s. s.clock.ghost_name))
    self c.series.self _ (drain_items c.args.commands.now) (drain_items c.series.commands) (drain_items c.next.new.self) c.args.replies.now.items c.series.replies.items c.push_reserved.new.self.items
    c.in-Some.words c.answer_at-reply.result.reply c.answer_at-reply.result.stop c.answer_at-reply.result.stop c.series.invariant c.in-Some.ensures.steps.0 c.push_reserved.ensures.items (c.answer_at-reply.ensures.does, refl, refl) c.answer_at-reply.ensures.heard refl
