-- The store may go to another thread, part by part: one search over the whole of it would be too long.
use denote.RattleType.{RattleType}
use denote.Param.Send.{IsSend, sendable}
use Rattle.std.proofs.Crossing.{crosses}
use Rattle.std.proofs.MapsCrossing.{crosses as crosses_maps}
use Rattle.sk_undo.proofs.sequence.Sequence.TheLaws.TheKnot.{crosses as crosses_sequence}
use Rattle.sk_undo.specs.contracts.undo_list.UndoList as UndoList
use Rattle.sk_payload.specs.contracts.job_text.JobText as JobText
use Rattle.sk_payload.proofs.job_text.JobText.TheSendSync.{the_send as text_send}
use Rattle.sk_deques.specs.contracts.undo_deques.UndoDeques as UndoDeques
use Rattle.sk_leases.specs.contracts.leases.Leases as Leases
use Rattle.sk_batch.specs.contracts.batches.Batches as Batches
use Rattle.sk_batch.proofs.batch.Batch.TheSendSync.{the_send as batch_send}
use Rattle.sk_counters.specs.contracts.counters.Counters as Counters
use Rattle.sk_places.specs.contracts.places.Places as Places
use Rattle.sk_places.specs.contracts.job_records.JobRecords as JobRecords
use Rattle.sk_places.specs.contracts.names.Names as Names
use Rattle.sk_places.specs.contracts.removed.AllRows as AllRows
use Rattle.sk_places.specs.contracts.rows.Rows as Rows
use Rattle.sk_seats.specs.contracts.seats.Seats as Seats
use Rattle.sk_keys.specs.contracts.keys.Keys as Keys
use Rattle.sk_keys.specs.contracts.removed.AllKeys as AllKeys
use Rattle.sk_keys.specs.contracts.removed.RemovedKeys as RemovedKeys
use Rattle.sk_value.specs.contracts.entry.Entry as Entry
use Rattle.sk_value.specs.contracts.value.Value as Value
use Rattle.sk_value.specs.contracts.sorted.Sorted as Sorted
use Rattle.sk_zset.specs.contracts.zset.ZSet as ZSet
use Rattle.sk_store.specs.contracts.store.Store as Store
use Rattle.sk_core.specs.contracts.store.Core as Core

-- ## Lists and texts

list_send_field : (K T : RattleType) → IsSend K → IsSend T → IsSend (UndoList.the_field K T).row
list_send_field K T k t = search (sendable, crosses, crosses_sequence) depth 30 fits 3000

deques_send_field : (K T : RattleType) → IsSend K → IsSend T → IsSend (UndoDeques.the_field K T).row
deques_send_field K T k t = search (sendable, crosses) depth 40 fits 3000

text_send_field : IsSend JobText.the_field.row
text_send_field = search (sendable, crosses, text_send) depth 30 fits 3000

-- ## The parts of the store

leases_send : IsSend Leases.the_field.row
leases_send = search (sendable, crosses, crosses_maps, list_send_field) depth 40 fits 5000

batches_send : IsSend Batches.the_field.row
batches_send = search (sendable, crosses, crosses_maps, list_send_field, batch_send) depth 150 fits 20000

counters_send : IsSend Counters.the_field.row
counters_send = search (sendable, crosses, crosses_maps, list_send_field) depth 40 fits 5000

jobs_send : IsSend JobRecords.the_field.row
jobs_send = search (sendable, crosses, text_send_field) depth 100 fits 8000

rows_send : IsSend Rows.the_field.row
rows_send = search (sendable, crosses, list_send_field, deques_send_field, text_send_field, jobs_send) depth 100 fits 8000

names_send : IsSend Names.the_field.row
names_send = search (sendable, crosses, list_send_field) depth 40 fits 5000

all_rows_send : IsSend AllRows.the_row
all_rows_send = search (sendable, crosses, rows_send, names_send) depth 60 fits 5000

places_send : IsSend Places.the_field.row
places_send = search (sendable, crosses, rows_send, names_send, all_rows_send, list_send_field, text_send_field) depth 100 fits 8000

seats_send : IsSend Seats.the_field.row
seats_send = search (sendable, crosses, crosses_maps, text_send_field) depth 100 fits 8000

set_send : IsSend ZSet.the_field.row
set_send = search (sendable, crosses, crosses_maps, list_send_field) depth 60 fits 5000

sorted_send : IsSend Sorted.the_field.row
sorted_send = search (sendable, crosses, set_send) depth 60 fits 5000

value_send : IsSend Value.the_row
value_send = search (sendable, crosses, crosses_maps, sorted_send) depth 60 fits 5000

entry_send : IsSend Entry.the_row
entry_send = search (sendable, crosses, crosses_maps, sorted_send) depth 60 fits 5000

all_keys_send : IsSend AllKeys.the_row
all_keys_send = search (sendable, crosses, crosses_maps, entry_send) depth 60 fits 5000

removed_keys_send : IsSend RemovedKeys.the_row
removed_keys_send = search (sendable, crosses, value_send, all_keys_send) depth 60 fits 5000

keys_send : IsSend Keys.the_field.row
keys_send = search (sendable, crosses, crosses_maps, value_send, entry_send, all_keys_send) depth 60 fits 5000

store_send : IsSend Store.the_field.row
store_send = search (sendable, crosses, leases_send, batches_send, counters_send, places_send, seats_send, keys_send) depth 60 fits 5000

pub core_send : IsSend Core.the_field.row
core_send = search (sendable, crosses, store_send) depth 30 fits 3000
