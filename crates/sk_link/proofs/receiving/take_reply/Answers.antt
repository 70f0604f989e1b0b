use Rattle.std.proofs.Common.{◌≡◌, ◌≤◌, ◌-◌, ◌++◌, ℕ, length, take, drop, subst, ap, ◌∙◌, sym}
use Rattle.sk_resp.specs.Reply.{wire}
use Rattle.sk_resp.specs.ReplyStream.{IsReplyText}
use Rattle.sk_resp.specs.declared.reply.Reply.{Reply}
use Rattle.sk_link.specs.Fault.{IsStuck}
use Rattle.sk_link.proofs.Unread.{whole_buffer, reply_off, some_gives}
use Rattle.sk_link.proofs.receiving.take_reply.Goals as goal

pub returns-in-Err-clause-fault : goal.returns-in-Err-clause-fault
returns-in-Err-clause-fault c = λ real.
    subst (λ t. IsStuck t) (whole_buffer c.args.feeder.now.rest c.args.buffer.now.items c.deref.result.now c.args.at c.requires.given c.deref.ensures.value) (c.in-Err.ensures.fault real)

pub returns-in-Some-clause-whole : goal.returns-in-Some-clause-whole
returns-in-Some-clause-whole c =
    let bytes = take (length c.deref.result.now - c.args.at) (drop c.args.at c.deref.result.now) in
    let w = some_gives c.in-Ok.found (c.in-Some.reply, c.in-Some.used) (λ (f : Reply × ℕ). (f.1 ≤ length bytes) × (wire f.0 ≡ c.args.feeder.now.rest ++ take f.1 bytes)) c.in-Ok.ensures.whole c.in-Some.is in
    reply_off c.args.feeder.now.rest c.args.buffer.now.items c.deref.result.now (wire c.in-Some.reply) c.args.at c.in-Some.used c.requires.given c.deref.ensures.value w.1
    ∙ ap (λ t. wire c.in-Some.reply ++ t) (sym c.drop_front.ensures)

pub returns-in-Some-clause-text : goal.returns-in-Some-clause-text
returns-in-Some-clause-text c =
    some_gives c.in-Ok.found (c.in-Some.reply, c.in-Some.used) (λ (f : Reply × ℕ). IsReplyText (wire f.0)) c.in-Ok.ensures.text c.in-Some.is
