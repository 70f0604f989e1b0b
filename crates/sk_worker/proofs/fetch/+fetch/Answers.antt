use Rattle.std.proofs.Common.{IfOk, ◌≡◌, ◌∙◌, ◌-◌, ◌<◌, [], ◌∷◌, ◌++◌, Err, length, map, take, drop, sym, subst, ap, arith, rules}
use Rattle.std.proofs.lemmas.List.Elements.{All-take, All-drop}
use Rattle.sk_link.specs.Call.{Call, answered}
use Rattle.sk_link.specs.declared.asking.Answer.TheVariants as answer
use Rattle.sk_worker.specs.Event.{asked}
use Rattle.sk_worker.specs.Fetching.{FetchStep, FetchTranscript, asking, next_queue, if_room, after_reply}
use Rattle.sk_worker.specs.Request.{fetch_words}
use Rattle.sk_link.specs.Walk.{Walk}
use Rattle.sk_worker.specs.declared.turn.WorkFault.TheVariants as fault
use Rattle.sk_worker.proofs.Fetches.{named, first_asked, first_named, fetch_line, fetch_said, fetch_unsaid, fetch_after, after_other, room, rest_is, without_newest}
use Rattle.sk_worker.proofs.fetch.+fetch.Goals as goal

pub returns-in-Err : goal.returns-in-Err
returns-in-Err g t c = λ w e p.
    let names = c.args.fetcher.now.names.now in
    let places = c.args.places.now in
    let held = c.args.held.now.items in
    let queue = c.index-fetcher-place.result in
    let queues = map (named names) (drop 1 places) in
    let from = if_room c.args.fetcher.now.prefetch held (next_queue (map (named names) places) held) in
    let first : from ≡ asking queue queues held =
    first_asked names places held c.args.fetcher.now.prefetch c.len.result queue (omega (arith, c.args.held.now.ok.0, c.len.ensures)) c.if-len-fetcher.false c.in-len1-up.len_at_least c.requires c.index-fetcher-place.is in
    let request = fetch_words c.args.fetcher.now.ident.now queue in
    let u = fetch_unsaid (λ cs. g.L.Link.carried c.args.link.now c.say.new.link cs) w queue queues held request answer.Popped (after_reply c.args.fetcher.now.prefetch queue queues held)
    c.in-Err.fault (fetch_line w _ _ queue queues held e p) (c.in-Err.ensures request (subst (λ q. IfOk c.fetch_request-words.result (λ words. words ≡ fetch_words c.args.fetcher.now.ident.now q)) (sym c.index-fetcher-place.is) c.fetch_request-words.ensures)) in
    (u.0, u.1, subst (λ stage. FetchTranscript w stage (map asked u.0) held (Err c.in-Err.fault)) (sym first) u.2)

pub returns-in-Ok-keep : goal.returns-in-Ok-keep
returns-in-Ok-keep g t c = λ w e p.
    let names = c.args.fetcher.now.names.now in
    let places = c.args.places.now in
    let held = c.args.held.now.items in
    let queue = c.index-fetcher-place.result in
    let queues = map (named names) (drop 1 places) in
    let from = if_room c.args.fetcher.now.prefetch held (next_queue (map (named names) places) held) in
    let first : from ≡ asking queue queues held =
    first_asked names places held c.args.fetcher.now.prefetch c.len.result queue (omega (arith, c.args.held.now.ok.0, c.len.ensures)) c.if-len-fetcher.false c.in-len1-up.len_at_least c.requires c.index-fetcher-place.is in
    let request = fetch_words c.args.fetcher.now.ident.now queue in
    let call : Call = answered request c.in-Ok.reply in
    let s = c.in-Ok.ensures request (subst (λ q. IfOk c.fetch_request-words.result (λ words. words ≡ fetch_words c.args.fetcher.now.ident.now q)) (sym c.index-fetcher-place.is) c.fetch_request-words.ensures) in
    let said : Walk (FetchStep w) (asking queue queues held) (asked call ∷ []) (after_reply c.args.fetcher.now.prefetch queue queues held c.in-Ok.reply) =
    fetch_said w (asking queue queues held) request answer.Popped (after_reply c.args.fetcher.now.prefetch queue queues held) c.in-Ok.reply (fetch_line w _ _ queue queues held e p) s.1 in
    let kept : c.keep.new.held.items ≡ held ++ c.in-Bulk.text ∷ [] = c.in-Ok-keep.ensures.ok in
    let more = c.keep.new.held.items in
    let leads : after_reply c.args.fetcher.now.prefetch queue queues held c.in-Ok.reply ≡ if_room c.args.fetcher.now.prefetch more (next_queue (map (named names) places) more) =
    ap (after_reply c.args.fetcher.now.prefetch queue queues held) c.in-Bulk.is ∙ (ap (λ h. if_room c.args.fetcher.now.prefetch h (asking queue queues h)) (sym kept)
    ∙ ap (λ stage. if_room c.args.fetcher.now.prefetch more stage) (sym (first_named names places more queue c.in-len1-up.len_at_least c.requires c.index-fetcher-place.is))) in
    let u = c.fetch.ensures w e p in (
      call ∷ u.0,
      g.met.L.Link.carried_more _ _ _ (call ∷ []) u.0 s.0 u.1,
      subst (λ stage. FetchTranscript w stage (asked call ∷ map asked u.0) c.fetch.new.held.items c.fetch.result) (sym first)
          (fetch_after w (asking queue queues held) (if_room c.args.fetcher.now.prefetch more (next_queue (map (named names) places) more)) (asked call ∷ []) (map asked u.0) c.fetch.new.held.items c.fetch.result
          (subst (λ stage. Walk (FetchStep w) (asking queue queues held) (asked call ∷ []) stage) leads said) u.2),
    )

pub fetch-requires-in_default-reply : goal.fetch-requires-in_default-reply
fetch-requires-in_default-reply g t c = λ κs b. (search rules, (search rules, All-take (λ place. place < length c.args.fetcher.now.names.now) _ _ (All-drop (λ place. place < length c.args.fetcher.now.names.now) 1 c.args.places.now c.requires)))

pub returns : goal.returns
returns g t c = λ w e p.
    let names = c.args.fetcher.now.names.now in
    let places = c.args.places.now in
    let held = c.args.held.now.items in
    let queue = c.index-fetcher-place.result in
    let queues = map (named names) (drop 1 places) in
    let from = if_room c.args.fetcher.now.prefetch held (next_queue (map (named names) places) held) in
    let first : from ≡ asking queue queues held =
    first_asked names places held c.args.fetcher.now.prefetch c.len.result queue (omega (arith, c.args.held.now.ok.0, c.len.ensures)) c.if-len-fetcher.false c.in-len1-up.len_at_least c.requires c.index-fetcher-place.is in
    let request = fetch_words c.args.fetcher.now.ident.now queue in
    let call : Call = answered request c.in-Ok.reply in
    let s = c.in-Ok.ensures request (subst (λ q. IfOk c.fetch_request-words.result (λ words. words ≡ fetch_words c.args.fetcher.now.ident.now q)) (sym c.index-fetcher-place.is) c.fetch_request-words.ensures) in
    let said : Walk (FetchStep w) (asking queue queues held) (asked call ∷ []) (after_reply c.args.fetcher.now.prefetch queue queues held c.in-Ok.reply) =
    fetch_said w (asking queue queues held) request answer.Popped (after_reply c.args.fetcher.now.prefetch queue queues held) c.in-Ok.reply (fetch_line w _ _ queue queues held e p) s.1 in
    let rest = take (length places - 1) (drop 1 places) in
    let u = c.fetch-in_default-reply.ensures w e p in
    let leads : after_reply c.args.fetcher.now.prefetch queue queues held c.in-Ok.reply ≡ if_room c.args.fetcher.now.prefetch held (next_queue (map (named names) rest) held) =
    after_other c.args.fetcher.now.prefetch queue queues held c.in-Ok.reply c.in_default-reply.not-Bulk ∙ (ap (λ ps. next_queue (map (named names) ps) held) (sym (rest_is places))
    ∙ sym (room c.args.fetcher.now.prefetch c.len.result held (next_queue (map (named names) rest) held) (omega (arith, c.args.held.now.ok.0, c.len.ensures)) c.if-len-fetcher.false)) in
    let payloads = c.fetch-in_default-reply.new.held.items in (
      call ∷ u.0,
      g.met.L.Link.carried_more _ _ _ (call ∷ []) u.0 s.0 u.1,
      subst (λ stage. FetchTranscript w stage (asked call ∷ map asked u.0) payloads c.fetch-in_default-reply.result) (sym first)
          (fetch_after w (asking queue queues held) (if_room c.args.fetcher.now.prefetch held (next_queue (map (named names) rest) held)) (asked call ∷ []) (map asked u.0) payloads c.fetch-in_default-reply.result
          (subst (λ stage. Walk (FetchStep w) (asking queue queues held) (asked call ∷ []) stage) leads said) u.2),
    )

pub returns-in-Bulk : goal.returns-in-Bulk
returns-in-Bulk g t c = λ w e p.
    let names = c.args.fetcher.now.names.now in
    let places = c.args.places.now in
    let held = c.args.held.now.items in
    let queue = c.index-fetcher-place.result in
    let queues = map (named names) (drop 1 places) in
    let from = if_room c.args.fetcher.now.prefetch held (next_queue (map (named names) places) held) in
    let first : from ≡ asking queue queues held =
    first_asked names places held c.args.fetcher.now.prefetch c.len.result queue (omega (arith, c.args.held.now.ok.0, c.len.ensures)) c.if-len-fetcher.false c.in-len1-up.len_at_least c.requires c.index-fetcher-place.is in
    let request = fetch_words c.args.fetcher.now.ident.now queue in
    let call : Call = answered request c.in-Ok.reply in
    let s = c.in-Ok.ensures request (subst (λ q. IfOk c.fetch_request-words.result (λ words. words ≡ fetch_words c.args.fetcher.now.ident.now q)) (sym c.index-fetcher-place.is) c.fetch_request-words.ensures) in
    let kept = c.keep.new.held.items in
    let said : Walk (FetchStep w) (asking queue queues held) (asked call ∷ []) (after_reply c.args.fetcher.now.prefetch queue queues held c.in-Ok.reply) =
    fetch_said w (asking queue queues held) request answer.Popped (after_reply c.args.fetcher.now.prefetch queue queues held) c.in-Ok.reply (fetch_line w _ _ queue queues held e p) s.1 in (
      call ∷ [],
      s.0,
      subst (λ stage. FetchTranscript w stage (asked call ∷ []) kept (Err fault.Memory)) (sym first)
          (after_reply c.args.fetcher.now.prefetch queue queues held c.in-Ok.reply, said, without_newest c.args.fetcher.now.prefetch queue queues held kept c.in-Ok.reply c.in-Bulk.text c.in-Bulk.is c.in-Err-keep.ensures.err),
    )
