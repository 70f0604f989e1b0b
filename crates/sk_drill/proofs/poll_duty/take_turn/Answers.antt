use Rattle.std.proofs.Common.{subst}
use Rattle.sk_poller.specs.Event.{calls, moments}
use Rattle.sk_poller.specs.Stage.{PollTranscript, resting}
use Rattle.sk_drill.proofs.Answered.{all_served, goes_on, kept, read_now, when_ok}
use Rattle.sk_drill.proofs.Asked.{poll_answered, poll_told}
use Rattle.sk_drill.proofs.OnTime.{stays_on_time}
use Rattle.sk_drill.proofs.poll_duty.take_turn.Goals as goal

pub returns-clause-polled : goal.returns-clause-polled
returns-clause-polled g c =
    let turn = c.turn.ensures.told in
    let told = subst (λ w. PollTranscript w resting turn.events c.turn.result) c.requires turn.told in
    let served = all_served _ _ (calls turn.events) turn.parts.link in
    when_ok c.goes_on.result c.goes_on.ensures (λ ended.
    let on = goes_on turn.events c.turn.result told served ended in
    let clock = read_now _ _ (moments turn.events) _ turn.parts.clock (poll_told turn.events c.turn.result on told).read_once in
    record {
      events = turn.events;
      polls = record { result_is = c.turn.result; goes_on = on; served = served; told = told };
      clock_read = clock.0;
      clock_later = clock.1;
      are = kept _ _ (calls turn.events) turn.parts.link;
    })

pub returns-clause-time : goal.returns-clause-time
returns-clause-time g c =
    let turn = c.turn.ensures.told in
    let told = subst (λ w. PollTranscript w resting turn.events c.turn.result) c.requires turn.told in
    let served = all_served _ _ (calls turn.events) turn.parts.link in
    when_ok c.goes_on.result c.goes_on.ensures (λ ended moment s.
    let on = goes_on turn.events c.turn.result told served ended in
    let now = stays_on_time moment _ _ (calls turn.events) turn.parts.link (poll_answered turn.events (poll_told turn.events c.turn.result on told))
    (record { asked = s.asked; next = s.next }) in
    record { asked = now.asked; next = now.next })
