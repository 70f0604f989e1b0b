use Rattle.sk_lane.proofs.TurnsOn.{clock_stands, seat_turn}
use Rattle.sk_lane.proofs.shift.Shift.turn.Goals as goal

pub returns-clause-told : goal.returns-clause-told
returns-clause-told g c = seat_turn _ _ _ _ _ _ _ _ _ _ _ _ c.turn.ensures.told.0 c.requires.whole (clock_stands c.still-clock.result c.still-clock.ensures)
    c.turn.ensures.told.1 c.turn.ensures.told.2
