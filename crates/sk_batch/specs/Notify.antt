-- The three things that may come of a job, as one.
use Rattle.std.specs.Prelude.{List, []}
use Rattle.sk_resp.specs.Spelling.{Bytes}
use Rattle.sk_batch.specs.Batched.{Batched}
use Rattle.sk_batch.specs.Events.{died_fires, marked, reported_fires, returned_fires}
use Rattle.sk_batch.specs.Fires.{death_fires, success_fires}
use Rattle.sk_batch.specs.declared.event.Event.{Event}
use Rattle.sk_batch.specs.declared.event.Event.TheVariants as event
use Rattle.sk_batch.specs.declared.firing.Firing.{Firing}
use Rattle.sk_batch.specs.declared.member.Mark.{Mark}
use Rattle.sk_batch.specs.declared.member.Mark.TheVariants.{Reported, Returned}

abbrev pub fires_of : Event → Bytes → Bytes → Batched → List Firing
fires_of event.Reported bid jid s = reported_fires bid jid s
fires_of event.Returned bid jid s = returned_fires bid jid s
fires_of event.Died bid jid s = died_fires bid jid s

-- the mark that the member gets
abbrev pub mark_of : Event → Mark
mark_of event.Reported = Reported
mark_of event.Returned = Returned
mark_of event.Died = Reported

-- what is fired behind the completes
abbrev pub later_fires : Event → Bytes → Bytes → Batched → List Firing
later_fires event.Reported bid jid s = []
later_fires event.Returned bid jid s = success_fires s (marked Returned bid jid s) bid
later_fires event.Died bid jid s = death_fires s bid
