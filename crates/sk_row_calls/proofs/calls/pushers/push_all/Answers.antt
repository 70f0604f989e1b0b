use denote.Param.Send.{sendable}
use Rattle.sk_row_calls.proofs.Crossing.{shared_sync_row}
use Rattle.sk_row_calls.proofs.calls.pushers.push_all.Goals as goal

pub for_each_mut-requires-sync-F : goal.for_each_mut-requires-sync-F
for_each_mut-requires-sync-F g c κs within = search (sendable, shared_sync_row) depth 80 fits 10000
