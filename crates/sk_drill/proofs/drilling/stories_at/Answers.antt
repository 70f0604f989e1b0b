use denote.Param.Send.{sendable}
use Rattle.sk_drill.proofs.Assigning.{then_ok}
use Rattle.sk_drill.proofs.Crossing.{book_send, desk_send, place_send, seats_send}
use Rattle.sk_drill.proofs.Lanes.{stories_of}
use Rattle.sk_drill.proofs.drilling.stories_at.Goals as goal

pub run_drill-requires-send-S : goal.run_drill-requires-send-S
run_drill-requires-send-S g c κs within = search (sendable, seats_send, book_send) depth 80 fits 10000

pub run_drill-requires-send-S-Desk : goal.run_drill-requires-send-S-Desk
run_drill-requires-send-S-Desk g c κs within = search (sendable, desk_send, book_send, place_send) depth 80 fits 10000

pub returns-clause-stories : goal.returns-clause-stories
returns-clause-stories g c = then_ok c.run_drill.result c.run_drill.ensures.stories
    (λ stories s. stories_of _ c.args.plan _ _ _ _ _ stories.items c.in_ok-posts.ensures.len s)
