-- What happens to batches, and what is fired then. Completes come first, then successes, then deaths, each from the inner batch outwards.
use Rattle.std.specs.Prelude.{cond, List, [], ◌∷◌, ◌++◌, map, false}
use Rattle.sk_resp.specs.Spelling.{Bytes}
use Rattle.sk_batch.specs.Batched.{Batched, MemberEntry, is_job, is_member}
use Rattle.sk_batch.specs.Open.{with_mark}
use Rattle.sk_batch.specs.Order.{put_all}
use Rattle.sk_batch.specs.Fires.{after_fires, complete_fires, death_fires, firing, retagged, success_fires}
use Rattle.sk_batch.specs.declared.batch.Batch.{Batch}
use Rattle.sk_batch.specs.declared.batch.Fired.{Fired}
use Rattle.sk_batch.specs.declared.firing.Firing.{Firing}
use Rattle.sk_batch.specs.declared.firing.Kind.TheVariants.{Complete, Success}
use Rattle.sk_batch.specs.declared.member.Mark.{Mark}
use Rattle.sk_batch.specs.declared.member.Mark.TheVariants.{Reported, Returned}

-- ## Jobs come

-- these jobs as new members of the batch
abbrev pub members_of : Bytes → List Bytes → List MemberEntry
members_of bid jids = map (λ jid. (record { reported = false; returned = false }, record { bid = bid; jid = jid })) jids

-- jobs are added to a batch; nothing is fired
abbrev pub joined : Bytes → List Bytes → Batched → Batched
joined bid jids s = record s { members = put_all (members_of bid jids) s.members }

-- a batch that is made without jobs is complete and settled at once; no other is touched
abbrev pub made_fires : Batch → List Bytes → List Firing
made_fires batch [] = firing Complete batch ∷ firing Success batch ∷ []
made_fires batch (jid ∷ jids) = []

abbrev pub unfired : Fired
unfired = record { complete = false; success = false; death = false }

-- a batch is made, with its first jobs
abbrev pub made : Batch → List Bytes → Batched → Batched
made batch jids s = joined batch.bid jids (record s { batches = after_fires (made_fires batch jids) ((unfired, batch) ∷ s.batches) })

-- ## Something comes of a job

-- the member has the mark, where the job is a member
abbrev pub marked : Mark → Bytes → Bytes → Batched → Batched
marked mark bid jid s = record s { members = retagged (is_job bid jid) (with_mark mark) s.members }

-- only what comes of members is told
abbrev pub of_member : Bytes → Bytes → Batched → List Firing → List Firing
of_member bid jid s firings = cond (is_member bid jid s.members) firings []

abbrev pub fired : List Firing → Batched → Batched
fired firings s = record s { batches = after_fires firings s.batches }

-- a run of the job has ended badly
abbrev pub reported_fires : Bytes → Bytes → Batched → List Firing
reported_fires bid jid s = of_member bid jid s (complete_fires (marked Reported bid jid s) bid)

abbrev pub reported : Bytes → Bytes → Batched → Batched
reported bid jid s = fired (reported_fires bid jid s) (marked Reported bid jid s)

-- a run of the job has ended well
abbrev pub returned_fires : Bytes → Bytes → Batched → List Firing
returned_fires bid jid s = let after = marked Returned bid jid s in of_member bid jid s (complete_fires after bid ++ success_fires s after bid)

abbrev pub returned : Bytes → Bytes → Batched → Batched
returned bid jid s = fired (returned_fires bid jid s) (marked Returned bid jid s)

-- the job was buried: the batch and those that it is in die; the member is reported too
abbrev pub died_fires : Bytes → Bytes → Batched → List Firing
died_fires bid jid s = of_member bid jid s (complete_fires (marked Reported bid jid s) bid ++ death_fires s bid)

abbrev pub died : Bytes → Bytes → Batched → Batched
died bid jid s = fired (died_fires bid jid s) (marked Reported bid jid s)
