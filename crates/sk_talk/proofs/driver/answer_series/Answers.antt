use Rattle.std.proofs.Common.{◌≡◌, ◌++◌, ap, sym, ◌∙◌, subst}
use Rattle.std.specs.Prelude.{map}
use Rattle.std.specs.Vec.Iter.{drain_items}
use Rattle.sk_base.specs.Outside.{Takes, TakesFront}
use Rattle.sk_resp.specs.Reply.{wire}
use Rattle.sk_resp.specs.Spelling.{joined}
use Rattle.sk_talk.specs.Talk.{DoesAll}
use Rattle.sk_talk.proofs.Talking.{failed_reply, kept, none_done, stopped_reply}
use Rattle.sk_talk.proofs.driver.answer_series.Goals as goal

pub returns-then-count-lt2-clause-told : goal.returns-then-count-lt2-clause-told
returns-then-count-lt2-clause-told g c = none_done g.T.Talker.does c.args.talker.now (drain_items c.args.left.now) (g.K.Sink.taken c.args.sink.now)

pub returns-in_default-clause-told : goal.returns-in_default-clause-told
returns-in_default-clause-told g c = none_done g.T.Talker.does c.args.talker.now (drain_items c.args.left.now) (g.K.Sink.taken c.args.sink.now)

pub returns-in-Err-clause-told : goal.returns-in-Err-clause-told
returns-in-Err-clause-told g c =
    let some = c.answer_series-stop.ensures in
    let stop = c.answer_series-stop.result in
    let all = c.answer_series-stop.new.replies.items in
    let err = c.in-Err.ensures.err in
    let first = g.K.Sink.taken c.args.sink.now in
    let last = g.K.Sink.taken c.send_all.new.sink in
    let is : all ≡ some.replies = some.behind ∙ ap (λ z. z ++ some.replies) c.in-Ok.ensures.items in
    record {
      done = some.done;
      replies = some.replies;
      ends = stop;
      front = some.front;
      did = subst (λ s. DoesAll g.T.Talker.does c.args.talker.now some.done some.replies s stop) (sym c.end_series.ensures) some.did;
      heard = some.heard;
      sent = tt;
      stopped = failed_reply c.in-Err.end stop (joined (map wire some.replies)) first last (kept stop some.heard) err.0 (subst (λ z. TakesFront first (joined (map wire z)) last) is err.1);
    }

pub returns-in-Some-clause-told : goal.returns-in-Some-clause-told
returns-in-Some-clause-told g c =
    let some = c.answer_series-stop.ensures in
    let stop = c.answer_series-stop.result in
    let all = c.answer_series-stop.new.replies.items in
    let text = joined (map wire some.replies) in
    let is : all ≡ some.replies = some.behind ∙ ap (λ z. z ++ some.replies) c.in-Ok.ensures.items in
    record {
      done = some.done;
      replies = some.replies;
      ends = stop;
      front = some.front;
      did = subst (λ s. DoesAll g.T.Talker.does c.args.talker.now some.done some.replies s stop) (sym c.end_series.ensures) some.did;
      heard = some.heard;
      sent = tt;
      stopped = (
        text,
        stopped_reply c.end_at.result stop c.in-Some.stop text (kept stop some.heard) c.end_at.ensures c.in-Some.is,
        subst (λ z. Takes (g.K.Sink.taken c.args.sink.now) (joined (map wire z)) (g.K.Sink.taken c.send_all.new.sink)) is c.in-Ok-send_all.ensures.told,
      );
    }
