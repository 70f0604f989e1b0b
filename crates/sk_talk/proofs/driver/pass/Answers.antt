use Rattle.std.proofs.Common.{◌≡◌, ◌++◌, subst, take, None}
use Rattle.sk_talk.specs.Talk.{DoesAll, AnswersAll}
use Rattle.sk_talk.specs.Driving.{StopsAt}
use Rattle.sk_talk.proofs.Talking.{all_added, ends_among, ends_fault, fed_opens}
use Rattle.sk_talk.proofs.driver.pass.Goals as goal

pub returns-in-Err-clause-stopped : goal.returns-in-Err-clause-stopped
returns-in-Err-clause-stopped g c =
    let bytes = c.args.feeder.now.rest ++ c.args.piece.now in
    let fed = fed_opens c.feed-fed.result c.args.feeder.now.fault c.feed-fed.new.self.fault bytes c.feed-fed.new.self.rest c.clear.new.self.items c.feed-fed.new.out.items
    c.requires c.feed-fed.ensures.ok c.feed-fed.ensures.fault in
    let err = c.in-Err.ensures.err in
    let items : c.feed-fed.new.out.items ≡ fed.0 = all_added c.clear.new.self.items c.feed-fed.new.out.items fed.0 fed.1 c.clear.ensures.items in
    let ends = ends_among g.T.Talker.does c.args.talker.now c.answer_all.new.talker c.in-Err.end bytes fed.2.0 fed.0 err.0 err.1.0 fed.2.1 (subst (λ z. StopsAt g.T.Talker.does c.in-Err.end c.args.talker.now (take err.0 z) c.answer_all.new.talker err.1.0) items err.1.1) in
    (ends.0, (err.1.0, err.1.2, ends.1))

pub returns-in-Err-fed-clause-stopped : goal.returns-in-Err-fed-clause-stopped
returns-in-Err-fed-clause-stopped g c =
    let bytes = c.args.feeder.now.rest ++ c.args.piece.now in
    let fed = c.in-Err-fed.ensures.fault c.requires in
    let served = c.in-Ok.ensures.ok in
    let items : c.feed-fed.new.out.items ≡ fed.0 = all_added c.clear.new.self.items c.feed-fed.new.out.items fed.0 fed.1 c.clear.ensures.items in
    ends_fault g.T.Talker.does c.args.talker.now c.answer_all.new.talker c.in-Err-fed.fault c.stop.result bytes fed.0 (g.K.Sink.taken c.args.sink.now) (g.K.Sink.taken c.answer_all.new.sink) (g.K.Sink.taken c.stop.new.sink) served.0
    fed.2 (subst (λ z. AnswersAll (DoesAll g.T.Talker.does) None c.args.talker.now z c.answer_all.new.talker served.0) items served.1) served.2 c.stop.ensures.told
