-- The jobs that are live, and those that stand.
use Rattle.std.specs.Prelude.{List, Option, Bool, not, ◌&&◌}
use Rattle.sk_resp.specs.Spelling.{Bytes}
use Rattle.sk_places.specs.LiveJobs.{Lived, is_among, born as born_among, count_job as count_among, ended}
use Rattle.sk_places.specs.declared.ending.Ending.{Ending}
use Rattle.sk_places.specs.declared.totals.Totals.{Totals}
use Rattle.sk_places.specs.Rows.{stands_in}
use Rattle.sk_seats.specs.Phases.{some_has}
use Rattle.sk_model.specs.World.{World}

-- some row names the job
abbrev pub stands : World → Bytes → Bool
stands w jid = stands_in w.rows jid

-- no row does, and no seat has a payload of it
abbrev pub fresh : World → Bytes → Bool
fresh w jid = not (stands w jid) && not (some_has jid w.phases)

abbrev pub is_live : World → Bytes → Bool
is_live w jid = is_among jid w.live

-- which jobs are live after a push
abbrev pub born : World → Option Bytes → List Bytes
born w o = born_among (fresh w) o w.live

-- and how the push counts
abbrev pub count_job : World → Option Bytes → Totals → Totals
count_job w o t = count_among (fresh w) o w.live t

abbrev pub lived : World → Lived
lived w = record { live = w.live; totals = w.tally }

-- the job of the text ends, if it is live
abbrev pub with_end : Ending → Bytes → World → World
with_end how text w = let l : Lived = ended how text (lived w) in record w { live = l.live; tally = l.totals }
