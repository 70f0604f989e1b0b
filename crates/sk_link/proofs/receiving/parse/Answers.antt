use Rattle.std.proofs.Common.{◌≡◌, ◌-◌, ◌+◌, ◌++◌, length, take, drop, ◌∙◌, arith, length-drop}
use Rattle.std.proofs.lemmas.List.{length-take}
use Rattle.sk_resp.specs.Reply.{wire}
use Rattle.sk_resp.specs.ReplyStream.{IsReplyText}
use Rattle.sk_link.proofs.Unread.{lines_add, stuck_in, none_gives, some_gives}
use Rattle.sk_link.proofs.receiving.parse.Goals as goal

pub returns-in-Err-clause-fault : goal.returns-in-Err-clause-fault
returns-in-Err-clause-fault c = λ real.
    stuck_in c.args.feeder.now.rest c.args.bytes.now c.loop-at.feeder.rest c.loop-at.at c.line_end.result c.loop-at.invariant.kept (c.in-Err.ensures.fault real)

pub returns-in-Some-clause-whole : goal.returns-in-Some-clause-whole
returns-in-Some-clause-whole c =
    let text = some_gives _ c.in-Some.reply (λ reply. wire reply ≡ c.loop-at.feeder.rest ++ take ((c.loop-at.at + c.line_end.result) - c.loop-at.at) (drop c.loop-at.at c.args.bytes.now)) c.in-Ok.ensures.whole c.in-Some.is in
    let part = c.line_end.ensures.part in
    let t = length-take (length c.args.bytes.now - c.loop-at.at) (drop c.loop-at.at c.args.bytes.now) in
    let d = length-drop c.loop-at.at c.args.bytes.now in
    let w = c.loop-at.invariant.within in
    (omega (arith, part.1, t, d, w), text ∙ lines_add c.args.feeder.now.rest c.args.bytes.now c.loop-at.feeder.rest c.loop-at.at c.line_end.result c.loop-at.invariant.kept)

pub returns-in-Some-clause-text : goal.returns-in-Some-clause-text
returns-in-Some-clause-text c = some_gives _ c.in-Some.reply (λ reply. IsReplyText (wire reply)) c.in-Ok.ensures.text c.in-Some.is

pub loop-at-preserved : goal.loop-at-preserved
loop-at-preserved c =
    let rest = none_gives _ (c.feed_line.new.feeder.rest ≡ c.loop-at.feeder.rest ++ take ((c.loop-at.at + c.line_end.result) - c.loop-at.at) (drop c.loop-at.at c.args.bytes.now)) c.in-Ok.ensures.more c.in-None.is in
    let part = c.line_end.ensures.part in
    let t = length-take (length c.args.bytes.now - c.loop-at.at) (drop c.loop-at.at c.args.bytes.now) in
    let d = length-drop c.loop-at.at c.args.bytes.now in
    let w = c.loop-at.invariant.within in
    record {
      within = omega (arith, part.1, t, d, w);
      kept = rest ∙ lines_add c.args.feeder.now.rest c.args.bytes.now c.loop-at.feeder.rest c.loop-at.at c.line_end.result c.loop-at.invariant.kept;
      goes_on = c.in-Ok.ensures.open;
      part = c.in-Ok.ensures.part;
    }
