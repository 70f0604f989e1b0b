use denote.Param.Send.{sendable}
use Rattle.sk_durable.proofs.Crossing.{book_send_row, committer_sync_row, hub_sync_row, timer_sync_row}
use Rattle.sk_durable.proofs.server.run_all.Goals as goal

pub join_mut-ended-requires-send-F : goal.join_mut-ended-requires-send-F
join_mut-ended-requires-send-F g c κs within = search (sendable, hub_sync_row, book_send_row, committer_sync_row, timer_sync_row) depth 80 fits 10000
