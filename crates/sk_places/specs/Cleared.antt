-- What is left when all rows go.
use Rattle.std.specs.Prelude.{◌≡◌, true, List, [], length}
use Rattle.sk_resp.specs.Spelling.{Bytes}
use Rattle.sk_places.specs.declared.ending.Ending.TheVariants.{Deleted}
use Rattle.sk_places.specs.declared.row.Row.{Row}
use Rattle.sk_places.specs.LiveJobs.{Lived, is_among}
use Rattle.sk_places.specs.Rows.{stands_in}
use Rattle.sk_places.specs.Totals.{count_end}

-- Some row names each job that is live.
abbrev pub AllStand : List Row → List Bytes → Type 0
AllStand rows live = (jid : Bytes) → is_among jid live ≡ true → stands_in rows jid ≡ true

-- none lives any more, and each that lived is counted as deleted
abbrev pub every_deleted : Lived → Lived
every_deleted l = record { live = []; totals = count_end Deleted (length l.live) l.totals }
