-- SK.STATUS: the numbers that the store tells of itself, as a page.
use Rattle.std.specs.Prelude.{ℕ, length, map, unwrap_or}
use Rattle.std.specs.List.{count_by}
use Rattle.sk_resp.specs.declared.reply.Reply.TheVariants as reply
use Rattle.sk_cmd.specs.declared.argument.Scored.TheVariants.{Schedule, Retry, Dead}
use Rattle.sk_status.specs.Page.{page_text}
use Rattle.sk_status.specs.declared.numbers.Numbers.{Numbers}
use Rattle.sk_leases.specs.Leased.{idents}
use Rattle.sk_places.specs.declared.row.Place.{Place}
use Rattle.sk_places.specs.declared.row.Place.TheVariants.{Queue, Set}
use Rattle.sk_places.specs.Rows.{is_private, rows_at}
use Rattle.sk_counters.specs.Counters.{count_in, processed, failed}
use Rattle.sk_resp.specs.Spelling.{Bytes}
use Rattle.sk_model.specs.World.{World}
use Rattle.sk_model.specs.Outcome.{Outcome, says}

-- a counter that was never raised counts nothing
abbrev pub count_of : World → Bytes → ℕ
count_of w name = unwrap_or (count_in w.counters name) 0

abbrev pub length_of : World → Place → ℕ
length_of w place = length (rows_at place w.rows)

abbrev pub numbers : World → Numbers
numbers w = record {
  processed = count_of w processed;
  failed = count_of w failed;
  processes = length (idents w.moment w.leases);
  queues = map (λ queue. (queue, length_of w (Queue queue))) w.names;
  busy = count_by is_private w.rows;
  scheduled = length_of w (Set Schedule);
  retries = length_of w (Set Retry);
  dead = length_of w (Set Dead);
  batches = length w.batches.batches;
  live = length w.live;
}

abbrev pub status : World → Outcome
status w = says (reply.Bulk (page_text (numbers w)))
