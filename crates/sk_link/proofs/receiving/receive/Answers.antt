use Rattle.std.proofs.Common.{◌≡◌, ◌++◌, ℕ, Ok, refl, subst, sym, ap, ◌∙◌, arith}
use Rattle.sk_base.specs.Outside.{Gives}
use Rattle.sk_resp.specs.Reply.{wire}
use Rattle.sk_resp.specs.ReplyStream.{IsReplyPart, IsReplyText, RepliesHeard}
use Rattle.sk_link.specs.Fault.{IsNoReply, IsReplyCause, IsStuck}
use Rattle.sk_link.specs.Wire.{unread_of}
use Rattle.sk_link.proofs.Lines.{part_alone}
use Rattle.sk_link.proofs.Unread.{nothing_part, reply_leaves, nothing_read, some_gives, none_gives}
use Rattle.sk_link.proofs.receiving.receive.Goals as goal

pub loop-found-init : goal.loop-found-init
loop-found-init g c =
    let rest = ap (λ (h : RepliesHeard). h.rest) c.new-feeder.ensures in
    record {
      within = omega arith;
      given = rest;
      goes_on = ap (λ (h : RepliesHeard). h.fault) c.new-feeder.ensures;
      part = subst (λ t. IsReplyPart t) (sym rest) nothing_part;
      same = refl {a = unread_of c.args.buffer.now.items (g.S.Source.left c.args.source.now)};
      beside = refl;
      count = refl;
    }

pub stopped-requires : goal.stopped-requires
stopped-requires g c = λ real. subst (λ t. IsStuck t) (sym (c.deref.ensures.value ∙ c.in-Err.ensures.err)) (c.in-Err.ensures.fault real)

pub returns-in-Some-clause-ok : goal.returns-in-Some-clause-ok
returns-in-Some-clause-ok g c =
    let left = g.S.Source.left c.loop-found.source in
    let whole = some_gives _ c.in-Some.reply (λ reply. c.loop-found.buffer.items ≡ wire reply ++ c.take_reply.new.buffer.items) c.in-Ok.ensures.whole c.in-Some.is in
    subst (λ o. Gives o (wire c.in-Some.reply) (unread_of c.take_reply.new.buffer.items left)) c.loop-found.invariant.same
    (reply_leaves c.loop-found.buffer.items (wire c.in-Some.reply) c.take_reply.new.buffer.items left whole)

pub returns-in-Some-clause-text : goal.returns-in-Some-clause-text
returns-in-Some-clause-text g c = some_gives _ c.in-Some.reply (λ reply. IsReplyText (wire reply)) c.in-Ok.ensures.text c.in-Some.is

pub returns-in-Err-clause-cause : goal.returns-in-Err-clause-cause
returns-in-Err-clause-cause g c =
    let before = g.S.Source.read_faults c.args.source.now in
    let now = g.S.Source.read_faults c.loop-found.source in
    let left = g.S.Source.left c.loop-found.source in
    subst (λ n. IsReplyCause n now (unread_of c.take_reply.new.buffer.items left) c.stopped.result) c.loop-found.invariant.count
    (subst (λ t. IsReplyCause now now (unread_of t left) c.stopped.result) c.deref.ensures.value (c.stopped.ensures now left))

pub returns-then-more-eq0-clause-cause : goal.returns-then-more-eq0-clause-cause
returns-then-more-eq0-clause-cause g c =
    let read = c.in-Ok-read_more.ensures in
    let buffer = c.read_more.new.buffer.items in
    let before = g.S.Source.read_faults c.args.source.now in
    let now = g.S.Source.read_faults c.read_more.new.source in
    let left = g.S.Source.left c.read_more.new.source in
    let none = none_gives c.in-Ok.found ((c.take_reply.new.feeder.rest ≡ c.loop-found.buffer.items) × (c.take_reply.new.buffer.items ≡ c.loop-found.buffer.items)) c.in-Ok.ensures.more c.in-None.is in
    let same : buffer ≡ c.take_reply.new.buffer.items = nothing_read c.take_reply.new.buffer.items buffer c.in-Ok-read_more.more c.if-more-eq0.true read.more read.kept in
    let part = subst (λ t. IsReplyPart t) (none.0 ∙ sym none.1 ∙ sym same) c.in-Ok.ensures.part in
    let value = c.deref-then-more-eq0.ensures.value in
    let no_reply = subst (λ t. IsNoReply t) (sym value) (part_alone c.no_reply_begins_another.ensures buffer part) in
    let end = c.read_more.ensures.end (c.in-Ok-read_more.is ∙ ap (λ (n : ℕ). Ok n) c.if-more-eq0.true) in
    let count : now ≡ before = read.whole ∙ c.loop-found.invariant.count in
    subst (λ n. IsReplyCause n now (unread_of buffer left) c.unreadable.result) count
    (subst (λ t. IsReplyCause now now (unread_of t left) c.unreadable.result) value (c.unreadable.ensures.ended no_reply now left end))
