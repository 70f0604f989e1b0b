use Rattle.std.proofs.Common.{ap}
use Rattle.sk_lane.proofs.StoryOn.{past_added}
use Rattle.sk_lane.proofs.core_seats.CoreSeatsSeats.end.Goals as goal

pub returns-clause-past : goal.returns-clause-past
returns-clause-past c = past_added _ _ _ _ _ _ _ (ap (λ s. s.past) c.self.view_is) (ap (λ s. s.last) c.self.view_is) c.into_parts-core.ensures.calls c.keep-self-inside.ensures
