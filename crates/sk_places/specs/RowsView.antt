-- What contracts see of the rows.
use Rattle.std.specs.Prelude.{List}
use Rattle.sk_table.specs.Counts.{Counts}
use Rattle.sk_undo.specs.Versions.{Versions, map_versions}
use Rattle.sk_places.specs.JobRecords.{Recorded}
use Rattle.sk_places.specs.LiveJobs.{Lived}
use Rattle.sk_places.specs.declared.row.Row.{Row}

-- the rows and the jobs that are live, each with their step
pub record RowsView : Type 0 where
  pub list : Versions (List Row)
  pub jobs : Versions Lived

abbrev pub counts_of : Versions Recorded → Versions Counts
counts_of jobs = map_versions (λ r. r.counts) jobs

abbrev pub lived_of : Versions Recorded → Versions Lived
lived_of jobs = map_versions (λ r. r.lived) jobs

abbrev pub rows_view : Versions (List Row) → Versions Recorded → RowsView
rows_view rows jobs = record { list = rows; jobs = lived_of jobs }
