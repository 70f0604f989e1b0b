use Rattle.std.proofs.Common.{◌≡◌, ◌∙◌, ◌<◌, [], ◌∷◌, inl, map, refl, sym, subst, ap, arith}
use Rattle.sk_policy.specs.Order.{draws, queues_in}
use Rattle.sk_worker.specs.Event.{asked, ordered}
use Rattle.sk_worker.specs.Fetching.{FetchStep, FetchTranscript, begins, next_queue, if_room, fetch_start, orders}
use Rattle.sk_worker.proofs.Events.{parts_calls, parts_order}
use Rattle.sk_worker.proofs.Fetches.{hand_start, named, fetch_after, room}
use Rattle.sk_worker.proofs.worker.Worker.fill.Goals as goal

pub returns-in-Err-clause-told : goal.returns-in-Err-clause-told
returns-in-Err-clause-told g c = λ w e p o.
    let held = c.args.self.now.held.items in
    ([], parts_calls [] (g.met.L.Link.carried_none _) refl refl c.in-Err.ensures.err refl, (fetch_start w held, refl, inl (sym (hand_start w held))))

pub returns-clause-told : goal.returns-clause-told
returns-clause-told g c = λ w e p o.
    let order = c.args.self.now.order in
    let prefetch = c.args.self.now.prefetch in
    let held = c.args.self.now.held.items in
    let turn = c.in-Ok.ensures.ok in
    let u = c.fetch.ensures w e p in
    let has_room : c.len.result < prefetch = c.if-self-len.false in
    let names = c.names.result.now in
    let places_ = c.deref.result.now in
    let from = if_room prefetch held (next_queue (map (named names) places_) held) in
    let starts : begins held ≡ fetch_start w held = sym (room w.prefetch c.len.result held (begins held) (omega (arith, c.args.self.now.held.ok.0, c.len.ensures)) (omega (arith, p, has_room))) in
    let asks : from ≡ next_queue (queues_in order turn.0) held =
    room prefetch c.len.result held (next_queue (map (named names) places_) held) (omega (arith, c.args.self.now.held.ok.0, c.len.ensures)) has_room
    ∙ (ap (λ ns. next_queue (map (named ns) places_) held) c.names.ensures ∙ ap (λ ps. next_queue (map (named order.names) ps) held) (c.deref.ensures.value ∙ turn.3)) in
    let step : FetchStep w (begins held) (ordered turn.0) from =
    subst (λ stage. FetchStep w (begins held) (ordered turn.0) stage) (ap (λ d. next_queue (queues_in d turn.0) held) o ∙ sym asks) (orders turn.0 held (turn.2 ∙ ap draws (sym o))) in (
      ordered turn.0 ∷ map asked u.0,
      parts_order turn.0 u.0 u.1 turn.1,
      subst (λ stage. FetchTranscript w stage (ordered turn.0 ∷ map asked u.0) c.fetch.new.held.items c.fetch.result) starts
          (fetch_after w (begins held) from (ordered turn.0 ∷ []) (map asked u.0) c.fetch.new.held.items c.fetch.result (from, step, refl) u.2),
    )
