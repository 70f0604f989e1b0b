-- All rows of a place that were taken out at once.
use Rattle.std.specs.Prelude.{◌≡◌, ℕ, List, [], ◌∷◌, Bool, not, Option, MatchOption, filter, length, map}
use Rattle.std.specs.List.{sum_by}
use Rattle.std.specs.Ordering.{is_eq}
use Rattle.sk_resp.specs.Spelling.{Bytes}
use Rattle.sk_cmd.specs.declared.argument.Scored.{Scored}
use Rattle.sk_payload.specs.Head.{jid_of}
use Rattle.sk_table.specs.Counts.{Counts}
use Rattle.sk_places.specs.declared.gone_rows.GoneRows.{GoneRows}
use Rattle.sk_places.specs.declared.gone_rows.GoneRows.TheVariants.{Listed, Scored as OfSet}
use Rattle.sk_places.specs.declared.row.Place.{Place}
use Rattle.sk_places.specs.declared.row.Place.TheVariants.{Queue, Private, Set}
use Rattle.sk_places.specs.declared.row.Row.{Row}
use Rattle.sk_places.specs.Ends.{texts_of}
use Rattle.sk_places.specs.Index.{without_job}
use Rattle.sk_places.specs.JobRecords.{Recorded, recorded}
use Rattle.sk_places.specs.LiveJobs.{all_ended}
use Rattle.sk_places.specs.declared.ending.Ending.TheVariants.{Deleted}
use Rattle.sk_places.specs.Rows.{rows_at}
use Rattle.sk_places.specs.TextKey.{Key, set_order}

-- their texts, from left to right
abbrev pub texts_in : GoneRows → List Bytes
texts_in (Listed deque) = map (λ item. item.1) deque.items
texts_in (OfSet rows keys) = map (λ entry. entry.1) rows.list.current

-- What was taken out are all rows of the place; or nothing was, and it has none.
abbrev pub AreOwn : Place → List Row → Option GoneRows → Type 0
AreOwn place rows gone = MatchOption gone (texts_of (rows_at place rows) ≡ []) (λ own. texts_of (rows_at place rows) ≡ texts_in own)

-- how many bytes texts have
abbrev pub bytes_in : List Bytes → ℕ
bytes_in texts = sum_by length texts

-- the index without the jobs of rows with these texts
abbrev pub without_jobs : List Bytes → Counts → Counts
without_jobs [] index = index
without_jobs (text ∷ texts) index = without_jobs texts (without_job (jid_of text) index)

-- what is recorded of jobs when they go, and each job ends as deleted, if it is live
abbrev pub all_left : List Bytes → Recorded → Recorded
all_left texts r = recorded (without_jobs texts r.counts) (all_ended Deleted texts r.lived)

abbrev pub is_in : Scored → Key → Bool
is_in set key = is_eq (set_order set key)

-- the keys of other places
abbrev pub other_keys : Place → List Key → List Key
other_keys (Queue queue) keys = keys
other_keys (Private ident) keys = keys
other_keys (Set set) keys = filter (λ key. not (is_in set key)) keys
