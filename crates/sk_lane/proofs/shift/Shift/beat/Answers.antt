use Rattle.std.proofs.Common.{true}
use Rattle.sk_lane.proofs.Carried.{said_asked, said_refused}
use Rattle.sk_lane.proofs.shift.Shift.beat.Goals as goal

pub returns-in-Ok-clause-said : goal.returns-in-Ok-clause-said
returns-in-Ok-clause-said g c = said_asked _ _ _ _ c.in-Ok.field-0 true c.in_ok-words.ensures c.in-Ok.ensures.asked c.requires.stands c.requires.rest

pub returns-in-Err-Refused-clause-said : goal.returns-in-Err-Refused-clause-said
returns-in-Err-Refused-clause-said g c = said_refused _ _ _ _ _ c.in-Err-Refused.field-0-0 c.in_ok-words.ensures c.in-Err-Refused.field-0-is
    c.in-Err-Refused.ensures.asked c.requires.stands c.requires.rest
