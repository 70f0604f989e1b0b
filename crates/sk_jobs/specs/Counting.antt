-- The numbers that the store tells of itself.
use Rattle.std.specs.Prelude.{ℕ, List, length}
use Rattle.sk_resp.specs.Spelling.{Bytes}
use Rattle.sk_status.specs.declared.tally.Tally.{Tally}
use Rattle.sk_places.specs.Rows.{rows_at}
use Rattle.sk_places.specs.declared.row.Place.TheVariants.{Queue}
use Rattle.sk_places.specs.declared.row.Row.{Row}
use Rattle.sk_model.specs.World.{World}

-- a queue, and how many jobs wait there
abbrev pub waiting : List Row → Bytes → Bytes × ℕ
waiting rows queue = (queue, length (rows_at (Queue queue) rows))

-- the totals of a world, and how many jobs are live
abbrev pub tally_of : World → Tally
tally_of w = record {
  outside = w.tally.outside;
  inner = w.tally.inner;
  bare = w.tally.bare;
  again = w.tally.again;
  live = length w.live;
  returned = w.tally.returned;
  discarded = w.tally.discarded;
  deleted = w.tally.deleted;
  trimmed = w.tally.trimmed;
  muddled = w.tally.muddled;
}
