use Rattle.sk_lane.proofs.Carried.{joined_okay, joined_refused}
use Rattle.sk_lane.proofs.shift.Shift.join.Goals as goal

pub returns-in-Err-Refused-clause-said : goal.returns-in-Err-Refused-clause-said
returns-in-Err-Refused-clause-said g c = joined_refused _ _ _ _ _ c.in-Err-Refused.field-0-0 c.requires.whole c.in-Err-Refused.field-0-is
    c.in-Err-Refused.ensures.told c.requires.stands c.requires.rest

pub returns-in-Ok-clause-said : goal.returns-in-Ok-clause-said
returns-in-Ok-clause-said g c = joined_okay _ _ _ _ c.in-Ok.field-0 c.requires.whole c.in-Ok.ensures.told c.requires.stands c.requires.rest
